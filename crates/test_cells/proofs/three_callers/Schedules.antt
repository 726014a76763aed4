-- The worked schedules of three callers, computed by the definitions.
use Rattle.std.proofs.Common.{◌≡◌, ℕ, zero, suc, ◌<◌, List, [], ◌∷◌, ◌++◌, length, take, replicate, refl, arith}
use Rattle.of_cell.specs.Words.{pack, seq_of, payload_of}
use Rattle.of_cell.specs.Cells.{log_room}
use Rattle.of_mem.specs.Meaning.{is_marked}
use Rattle.of_core.specs.Table.{Setup}
use Rattle.of_core.specs.Steps.{want, take_word}
use Rattle.of_core.specs.TableMoment.{Moment, step_batches, step_reads}
use Rattle.of_core.specs.Events.{Event, Begins, Turns, after_event, after_events, IsSchedule}
use Rattle.of_core.specs.Calls.{operations_begun, outcomes}
use Rattle.of_core.specs.Starts.{first_cells, first_words}
use Rattle.of_core.specs.Linear.{CallEndsBefore}
use Rattle.test_cells.specs.ThreeCallers.{three, at_zeros, whole_store, in_turn, overlapping, IsOrderedByTime, IsOrderedOtherwise}

-- turns of a caller may come at any time
turns_may : (S : Setup) (i : ℕ) → i < S.callers → (n : ℕ) (w : Moment) → IsSchedule S w (replicate n (Turns i))
turns_may S i l zero w = tt
turns_may S i l (suc n) w = (l, turns_may S i l n (after_event S w (Turns i)))

one_after : (S : Setup) (w : Moment) (es ds : List Event) → IsSchedule S w es → IsSchedule S (after_events S w es) ds → IsSchedule S w (es ++ ds)
one_after S w [] ds s t = t
one_after S w (e ∷ es) ds s t = (s.0, one_after S (after_event S w e) es ds s.1 t)

-- a whole store may come where its begin may
begins_may : (w : Moment) (i v : ℕ) → i < 3 → IsSchedule three w (Begins i (v ∷ []) ∷ []) → IsSchedule three w (whole_store i v)
begins_may w i v l s = (s.0, turns_may three i l 52 (after_event three w (Begins i (v ∷ []))))

-- after the read has begun, and then after the first store
abbrev read_begun : Moment
read_begun = after_events three at_zeros (Begins 2 (0 ∷ 0 ∷ []) ∷ replicate 3 (Turns 2))

abbrev first_stored : Moment
first_stored = after_events three read_begun (whole_store 0 7)

abbrev store_begun : Moment
store_begun = after_events three at_zeros (Begins 0 (7 ∷ []) ∷ [])

in_turn_may : IsSchedule three at_zeros in_turn
unfolding want take_word step_batches step_reads pack seq_of payload_of is_marked first_cells first_words log_room
in_turn_may =
    one_after three at_zeros (Begins 2 (0 ∷ 0 ∷ []) ∷ replicate 3 (Turns 2)) (whole_store 0 7 ++ (whole_store 1 8 ++ replicate 5 (Turns 2)))
    ((omega arith, refl, omega arith, omega arith, omega arith), turns_may three 2 (omega arith) 3 (after_event three at_zeros (Begins 2 (0 ∷ 0 ∷ []))))
    (one_after three read_begun (whole_store 0 7) (whole_store 1 8 ++ replicate 5 (Turns 2))
    (begins_may read_begun 0 7 (omega arith) ((omega arith, refl, omega arith, omega arith, omega arith), tt))
    (one_after three first_stored (whole_store 1 8) (replicate 5 (Turns 2))
    (begins_may first_stored 1 8 (omega arith) ((omega arith, refl, omega arith, omega arith, omega arith), tt))
    (turns_may three 2 (omega arith) 5 (after_events three first_stored (whole_store 1 8)))))

overlapping_may : IsSchedule three at_zeros overlapping
unfolding want take_word step_batches step_reads pack seq_of payload_of is_marked first_cells first_words log_room
overlapping_may =
    one_after three at_zeros (Begins 0 (7 ∷ []) ∷ []) (whole_store 1 8 ++ replicate 52 (Turns 0))
    ((omega arith, refl, omega arith, omega arith, omega arith), tt)
    (one_after three store_begun (whole_store 1 8) (replicate 52 (Turns 0))
    (begins_may store_begun 1 8 (omega arith) ((omega arith, refl, omega arith, omega arith, omega arith), tt))
    (turns_may three 0 (omega arith) 52 (after_events three store_begun (whole_store 1 8))))

ends_first : CallEndsBefore three at_zeros in_turn 0 0 1 0
unfolding want take_word step_batches step_reads pack seq_of payload_of is_marked first_cells first_words log_room
ends_first =
    let one : length (outcomes three at_zeros (take 57 in_turn) 0) ≡ 1 = refl in
    let none : length (operations_begun (take 57 in_turn) 1) ≡ 0 = refl in
    (57, omega (arith, one), omega (arith, none))

pub by_time : IsOrderedByTime
unfolding want take_word step_batches step_reads pack seq_of payload_of is_marked first_cells first_words log_room
by_time = record {
  schedule = in_turn_may;
  ends_first = ends_first;
  first_store = refl;
  second_store = refl;
  read = refl;
}

pub otherwise : IsOrderedOtherwise
unfolding want take_word step_batches step_reads pack seq_of payload_of is_marked first_cells first_words log_room
otherwise = record {
  schedule = overlapping_may;
  begins_first = (refl, refl);
  first_store = refl;
  second_store = refl;
}
