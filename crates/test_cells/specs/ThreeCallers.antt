-- Three callers on two registers, from zeros: two stores one after the other, and two that overlap
-- in time.
use Rattle.std.specs.Prelude.{ℕ, List, [], ◌∷◌, ◌++◌, length, ◌≡◌, true, false}
use Rattle.std.proofs.Common.{take, replicate}
use Rattle.of_core.specs.declared.place.Outcome.{Outcome}
use Rattle.of_core.specs.declared.place.Outcome.TheVariants.{Answered}
use Rattle.of_core.specs.Table.{Setup, words_before_members}
use Rattle.of_core.specs.TableMoment.{Moment}
use Rattle.of_core.specs.Events.{Event, Begins, Turns, IsSchedule, opening_moment, zero_start}
use Rattle.of_core.specs.Calls.{operations_begun, outcomes}
use Rattle.of_core.specs.Linear.{CallEndsBefore}
use Rattle.of_core.specs.Worked.{register_meaning, table_with, reply_with}

abbrev pub three : Setup
three = table_with 3 register_meaning

abbrev pub at_zeros : Moment
at_zeros = opening_moment three (zero_start three) (words_before_members three)

-- the events of a whole call of caller i that stores v in the second register
abbrev pub whole_store : (i v : ℕ) → List Event
whole_store i v = Begins i (v ∷ []) ∷ replicate 52 (Turns i)

-- how such a call is answered, if it is in the batch with this sequence: one outcome
abbrev pub stored_in : (batch : ℕ) → List Outcome
stored_in s = Answered s true (reply_with (0 ∷ [])) 52 ∷ []

-- a schedule: caller 2 begins to read both registers and loads the first; then caller 0 stores 7 in
-- a whole call, and after it caller 1 stores 8; then caller 2 goes on with its read
abbrev pub in_turn : List Event
in_turn =
    (Begins 2 (0 ∷ 0 ∷ []) ∷ replicate 3 (Turns 2))
    ++ (whole_store 0 7 ++ (whole_store 1 8 ++ replicate 5 (Turns 2)))

-- a schedule: caller 0 begins a call that stores 7; then caller 1 stores 8 in a whole call; then
-- caller 0 goes on with its call
abbrev pub overlapping : List Event
overlapping = (Begins 0 (7 ∷ []) ∷ []) ++ (whole_store 1 8 ++ replicate 52 (Turns 0))

-- In the schedule `in_turn` the store of caller 0 has ended before that of caller 1 begins, so it
-- is in an earlier batch. The read of caller 2 began before both, and reads what caller 1 has
-- stored.
pub record IsOrderedByTime : Type 0 where
  pub schedule : IsSchedule three at_zeros in_turn
  pub ends_first : CallEndsBefore three at_zeros in_turn 0 0 1 0
  pub first_store : outcomes three at_zeros in_turn 0 ≡ stored_in 1
  pub second_store : outcomes three at_zeros in_turn 1 ≡ stored_in 2
  pub read : outcomes three at_zeros in_turn 2 ≡ Answered 2 false (reply_with (0 ∷ 8 ∷ [])) 8 ∷ []

-- In the schedule `overlapping` the store of caller 0 begins first, but has not ended when caller 1
-- makes its store, and so it is in the later batch.
pub record IsOrderedOtherwise : Type 0 where
  pub schedule : IsSchedule three at_zeros overlapping
  pub begins_first : (length (operations_begun (take 1 overlapping) 0) ≡ 1)
      × (length (operations_begun (take 1 overlapping) 1) ≡ 0)
  pub first_store : outcomes three at_zeros overlapping 0 ≡ stored_in 2
  pub second_store : outcomes three at_zeros overlapping 1 ≡ stored_in 1
