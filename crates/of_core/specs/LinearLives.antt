-- Strict linearizability over lives: schedules one after the other, each on a table of n words that
-- starts from what recovery finds after the schedule before. A call that was open at a crash is in
-- the order of its own life, or in none.
use Rattle.std.specs.Prelude.{ℕ, List, [], ◌∷◌, length, ◌≡◌, ◌<◌, false, map}
use Rattle.std.specs.List.{All, flat_map}
use Rattle.std.proofs.Common.{get_or}
use Rattle.of_cell.specs.Words.{payload_of}
use Rattle.of_mem.specs.Meaning.{SameFrom}
use Rattle.of_core.specs.Table.{Setup, first_operation_cell}
use Rattle.of_core.specs.Machine.{Call, no_call}
use Rattle.of_core.specs.TableMoment.{TableStart}
use Rattle.of_core.specs.History.{numbers_after_calls, CallsHaveReplies}
use Rattle.of_core.specs.Starts.{recovered_start}
use Rattle.of_core.specs.Events.{Event, after_events, IsSchedule, opening_moment, start_ticket}
use Rattle.of_core.specs.Claim.{IsNewerCall}
use Rattle.of_core.specs.Linear.{Linearizes, IsBySequence, IsRecovered}

-- the start that recovery finds after the life of these events
abbrev pub start_after : Setup → (n : ℕ) → TableStart → List Event → TableStart
start_after S n B es = recovered_start S B (after_events S (opening_moment S B n) es)

-- the start that recovery finds after the last of these lives
abbrev pub start_after_all : Setup → (n : ℕ) → TableStart → List (List Event) → TableStart
start_after_all S n B [] = B
start_after_all S n B (es ∷ lives) = start_after_all S n (start_after S n B es) lives

-- each life is a schedule that starts from what recovery finds after the life before
abbrev pub AreScheduleLives : Setup → (n : ℕ) → TableStart → List (List Event) → Type 0
AreScheduleLives S n B [] = Unit {0}
AreScheduleLives S n B (es ∷ lives) =
    IsSchedule S (opening_moment S B n) es × AreScheduleLives S n (start_after S n B es) lives

-- each order linearizes its life, is by sequence, and leads to what recovery finds after it
abbrev pub AreLinearized : Setup → (n : ℕ) → TableStart → List (List Event)
    → (orders : List (List Call)) → Type 0
AreLinearized S n B [] [] = Unit {0}
AreLinearized S n B [] (order ∷ orders) = ⊥
AreLinearized S n B (es ∷ lives) [] = ⊥
AreLinearized S n B (es ∷ lives) (order ∷ orders) =
    Linearizes S B (opening_moment S B n) es order
    × IsBySequence S B (opening_moment S B n) es order
    × IsRecovered S B (after_events S (opening_moment S B n) es) order
    × AreLinearized S n (start_after S n B es) lives orders

-- the whole order: the orders of the lives, one after the other
abbrev pub whole_order : List (List Call) → List Call
whole_order orders = flat_map (λ order. order) orders

-- each life has an order, as `AreLinearized` says, and these orders one after the other are one
-- serial run from the first start: so each call comes after all calls of earlier lives
pub record AreDurablyLinearizable (S : Setup) (n : ℕ) (B : TableStart) (lives : List (List Event))
    : Type 0 where
  pub orders : List (List Call)
  pub each : AreLinearized S n B lives orders
  -- run in the whole order, the calls give the replies that they have, and lead to the start after
  -- the last life
  pub legal : CallsHaveReplies S.meaning (map payload_of B.cells) (whole_order orders)
  pub leads : SameFrom (first_operation_cell S) (map payload_of (start_after_all S n B lives).cells)
      (numbers_after_calls S.meaning (map payload_of B.cells) (whole_order orders))
  -- no call that may write is in the whole order twice: only newer calls of its caller come after
  -- it
  pub once : (p q : ℕ) → p < q → q < length (whole_order orders)
      → S.meaning.reads_only (get_or (whole_order orders) p no_call).op ≡ false
      → IsNewerCall (get_or (whole_order orders) p no_call) (get_or (whole_order orders) q no_call)
  -- no call of the whole order was done before the first start
  pub newer : All (λ (c : Call). start_ticket S B c.caller < c.ticket) (whole_order orders)
