-- Worked schedules, computed by the definitions.
use Rattle.std.proofs.Common.{◌≡◌, ℕ, zero, suc, ◌<◌, List, [], ◌∷◌, length, get_or, Some, Bool, true, false, refl, arith}
use Rattle.of_cell.specs.Cells.{log_room}
use Rattle.of_cell.specs.Words.{pack, seq_of, payload_of}
use Rattle.of_mem.specs.Meaning.{is_marked}
use Rattle.of_core.specs.declared.place.Place.TheVariants.{LoadCurrent, RaiseClosed, StoreAnnouncement}
use Rattle.of_core.specs.declared.place.Outcome.TheVariants.{Answered, Spent}
use Rattle.of_core.specs.Table.{current_word, data_word}
use Rattle.of_core.specs.Machine.{Call, no_call}
use Rattle.of_core.specs.Steps.{want, take_word}
use Rattle.of_core.specs.TableMoment.{TableStart, step_batches, step_reads}
use Rattle.of_core.specs.History.{state_after, no_batch}
use Rattle.of_core.specs.Events.{machine_in, turn_count, zero_start}
use Rattle.of_core.specs.Starts.{first_cells, first_words, recovered_start}
use Rattle.of_core.specs.Calls.{operations_begun, total_steps, IsNotBefore}
use Rattle.of_core.specs.Least.{least_read, least_call}
use Rattle.of_core.specs.Linear.{Sequences, StandsBySequence}
use Rattle.of_core.specs.Worked.{register_meaning, first_key_meaning, table_with, moment_alone, moment_overtaken, read_and_store, two_calls, behind_one, reply_with}

-- one caller that stores to one register exchanges the current-transaction word at step 29, and is answered at step 48
store_exchanges : (current_word (moment_alone 1 register_meaning (7 ∷ []) 28).words ≡ 0) × (current_word (moment_alone 1 register_meaning (7 ∷ []) 29).words ≡ pack 1 0)
unfolding log_room want take_word step_batches step_reads pack seq_of payload_of is_marked first_cells first_words
store_exchanges = (refl, refl)

store_ends : ((machine_in (moment_alone 1 register_meaning (7 ∷ []) 47) 0).place ≡ RaiseClosed) × ((machine_in (moment_alone 1 register_meaning (7 ∷ []) 48) 0).answer ≡ Some (Answered 1 true (reply_with (0 ∷ [])) 48))
unfolding log_room want take_word step_batches step_reads pack seq_of payload_of is_marked first_cells first_words
store_ends = (refl, refl)

-- what it commits is the register and its own cells: the reply, the shape and the ticket
store_logs : (get_or (moment_alone 1 register_meaning (7 ∷ []) 29).batches 0 no_batch).log ≡ (19, 7) ∷ (2, 0) ∷ (1, 1) ∷ (0, 1) ∷ []
unfolding log_room want take_word step_batches step_reads pack seq_of payload_of is_marked first_cells first_words
store_logs = refl

-- with two callers it is 31 and 50, where the other has announced nothing
other_scanned : (current_word (moment_alone 2 register_meaning (7 ∷ []) 30).words ≡ 0) × (current_word (moment_alone 2 register_meaning (7 ∷ []) 31).words ≡ pack 1 0)
unfolding log_room want take_word step_batches step_reads pack seq_of payload_of is_marked first_cells first_words
other_scanned = (refl, refl)

other_ends : ((machine_in (moment_alone 2 register_meaning (7 ∷ []) 49) 0).place ≡ RaiseClosed) × ((machine_in (moment_alone 2 register_meaning (7 ∷ []) 50) 0).answer ≡ Some (Answered 1 true (reply_with (0 ∷ [])) 50))
unfolding log_room want take_word step_batches step_reads pack seq_of payload_of is_marked first_cells first_words
other_ends = (refl, refl)

-- four cells to be loaded and six to be written make it 53 and 92
key_exchanges : (current_word (moment_alone 1 first_key_meaning (7 ∷ []) 52).words ≡ 0) × (current_word (moment_alone 1 first_key_meaning (7 ∷ []) 53).words ≡ pack 1 0)
unfolding log_room want take_word step_batches step_reads pack seq_of payload_of is_marked first_cells first_words
key_exchanges = (refl, refl)

key_ends : ((machine_in (moment_alone 1 first_key_meaning (7 ∷ []) 91) 0).place ≡ RaiseClosed) × ((machine_in (moment_alone 1 first_key_meaning (7 ∷ []) 92) 0).answer ≡ Some (Answered 1 true (reply_with (0 ∷ [])) 92))
unfolding log_room want take_word step_batches step_reads pack seq_of payload_of is_marked first_cells first_words
key_ends = (refl, refl)

-- a read of one register alone is answered in 3 steps, and stands among the reads
read_ends : ((machine_in (moment_alone 1 register_meaning (0 ∷ []) 3) 0).answer ≡ Some (Answered 0 false (reply_with (0 ∷ [])) 3)) × (length (moment_alone 1 register_meaning (0 ∷ []) 3).reads ≡ 1)
unfolding log_room want take_word step_batches step_reads pack seq_of payload_of is_marked first_cells first_words
read_ends = (refl, refl)

-- a read whose four tries all met a newer cell is announced at its 19th step, and is answered by the fifth batch
fourth_try : ((machine_in (moment_overtaken 3) 0).place ≡ StoreAnnouncement) × ((machine_in (moment_overtaken 3) 0).steps ≡ 18) × ((machine_in (moment_overtaken 4) 0).place ≡ LoadCurrent)
unfolding log_room want take_word step_batches step_reads pack seq_of payload_of is_marked first_cells first_words
fourth_try = (refl, refl, refl)

overtaken_ends : (machine_in (moment_overtaken 55) 0).answer ≡ Some (Answered 5 true (reply_with (0 ∷ 4 ∷ [])) 70)
unfolding log_room want take_word step_batches step_reads pack seq_of payload_of is_marked first_cells first_words
overtaken_ends = refl

-- two calls after each other tell 3 and 48 steps, which are all their turns
calls_end : (operations_begun read_and_store 0 ≡ (0 ∷ []) ∷ (7 ∷ []) ∷ []) × (two_calls ≡ Answered 0 false (reply_with (0 ∷ [])) 3 ∷ Answered 1 true (reply_with (0 ∷ [])) 48 ∷ []) × (total_steps two_calls ≡ turn_count 0 read_and_store)
unfolding log_room want take_word step_batches step_reads pack seq_of payload_of is_marked first_cells first_words
calls_end = (refl, refl, refl)

-- the read needs a cell, and made as few steps as it may; the store made more than the fewest
least_steps : (least_read (table_with 1 register_meaning) (0 ∷ []) ≡ 3) × (least_read (table_with 1 register_meaning) (7 ∷ []) ≡ 2) × (least_call (7 ∷ []) ≡ 6)
least_steps = (refl, refl, refl)

-- behind a start the next call has the next ticket and the next sequence, and as many steps; at the limit it is spent
starts_behind : ((machine_in (behind_one 1 10 48) 0).made ≡ 2) × ((machine_in (behind_one 1 10 48) 0).answer ≡ Some (Answered 2 true (reply_with (0 ∷ [])) 48)) × ((machine_in (behind_one 1 1 5) 0).answer ≡ Some (Spent 1))
unfolding log_room want take_word step_batches step_reads pack seq_of payload_of is_marked first_cells first_words
starts_behind = (refl, refl, refl)

-- a start of sequence 0 with a ticket is one too
starts_renumbered : ((machine_in (behind_one 0 10 48) 0).made ≡ 2) × ((machine_in (behind_one 0 10 48) 0).answer ≡ Some (Answered 1 true (reply_with (0 ∷ [])) 48))
unfolding log_room want take_word step_batches step_reads pack seq_of payload_of is_marked first_cells first_words
starts_renumbered = (refl, refl)

-- a crash behind the exchange alone leaves the start from before, and one behind the raise of the
-- current-transaction word leaves a start at which the store was made, though its cell isn't yet
abbrev crashed : (turn_count : ℕ) → TableStart
crashed k = recovered_start (table_with 1 register_meaning) (zero_start (table_with 1 register_meaning)) (moment_alone 1 register_meaning (7 ∷ []) k)

restarts_before : ((crashed 29).seq ≡ 0) × (get_or (crashed 29).cells 19 0 ≡ 0)
unfolding log_room want take_word step_batches step_reads pack seq_of payload_of is_marked first_cells first_words state_after
restarts_before = (refl, refl)

restarts_behind : ((crashed 30).seq ≡ 1) × (get_or (crashed 30).cells 0 0 ≡ pack 1 1) × (get_or (crashed 30).cells 19 0 ≡ pack 1 7) × (data_word (table_with 1 register_meaning) (moment_alone 1 register_meaning (7 ∷ []) 30).words 19 ≡ 0)
unfolding log_room want take_word step_batches step_reads pack seq_of payload_of is_marked first_cells first_words state_after
restarts_behind = (refl, refl, refl, refl)

-- a read may be of the state that was read before, and a batch that runs a call is a newer one
read_again : IsNotBefore 1 (Answered 1 false (reply_with []) 3)
read_again = omega arith

never_run_again : IsNotBefore 1 (Answered 1 true (reply_with []) 48) → ⊥
never_run_again newer = omega (arith, newer)

-- two calls of one sequence, of these callers and announced so
abbrev two_of : (first second : ℕ) → List Call
two_of i j = record no_call { caller = i } ∷ record no_call { caller = j } ∷ []

abbrev of_one_seq : (first second : Bool) → Sequences
of_one_seq a b = record { seq = λ p. 1; announced = λ p. get_or (a ∷ b ∷ []) p false }

-- a batch comes before the reads of its state, and not after them
batch_first : StandsBySequence (two_of 1 0) (of_one_seq true false)
batch_first = record {
  rising = λ p q l u. omega arith;
  announced_first = λ p q l u e t. absurd (none q (omega (arith, l)) t);
  by_caller = λ p q l u e t. absurd (none q (omega (arith, l)) t);
}
  where
    none : (q : ℕ) → 0 < q → get_or (true ∷ false ∷ []) q false ≡ true → ⊥
    none zero l e = absurd (omega (arith, l))
    none (suc zero) l e = cc
    none (suc (suc q)) l e = cc

reads_behind : StandsBySequence (two_of 0 1) (of_one_seq false true) → ⊥
reads_behind h = let e : false ≡ true = h.announced_first 0 1 (omega arith) (omega arith) refl refl in cc

-- and its calls stand by caller
callers_in_turn : StandsBySequence (two_of 1 0) (of_one_seq true true) → ⊥
callers_in_turn h = absurd (omega (arith, h.by_caller 0 1 (omega arith) (omega arith) refl refl))
