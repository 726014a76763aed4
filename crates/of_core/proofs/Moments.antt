-- The invariant holds at every moment of every schedule, from every start.
use Rattle.std.proofs.Common.{◌≡◌, ℕ, ◌+◌, ◌*◌, ◌<◌, ◌≤◌, List, [], ◌∷◌, length, get_or, arith}
use Rattle.std.specs.List.{All}
use Rattle.std.proofs.lemmas.List.{get_or_default}
use Rattle.of_mem.specs.declared.work.TheConstants.{MOST_INSTRS}
use Rattle.of_cell.specs.declared.word.TheConstants.{PAYLOADS}
use Rattle.of_mem.specs.Meaning.{IsSoundMeaning}
use Rattle.of_core.specs.Table.{Setup, first_operation_cell, cell_count}
use Rattle.of_core.specs.Machine.{no_machine}
use Rattle.of_core.specs.Steps.{word_found}
use Rattle.of_core.specs.TableMoment.{Moment, TableStart}
use Rattle.of_core.specs.History.{batch_at}
use Rattle.of_core.specs.Laws.{IsOpenCall}
use Rattle.of_core.specs.WordsMatch.{MayStart}
use Rattle.of_core.specs.Invariant.{MeetsInvariant}
use Rattle.of_core.specs.Events.{Event, Begins, Turns, Loads, Evicts, Raises, Revives, MayHappen, after_event, after_events, machine_in, IsSchedule, opening_moment}
use Rattle.of_core.specs.Claim.{IsSound}
use Rattle.of_core.proofs.Claims.{is_sound}
use Rattle.of_core.proofs.Found.{found_now}
use Rattle.of_core.proofs.Happenings.{event_good}
use Rattle.of_core.proofs.NewCalls.{new_calls}
use Rattle.of_core.proofs.Openings.{start_good}

module _ (S : Setup) (Lawful : List ℕ → Type 0) (sound : IsSoundMeaning S.meaning Lawful (first_operation_cell S) S.cells) (B : TableStart) where
  pub run_good : (es : List Event) (w : Moment) → MeetsInvariant S Lawful B w → IsSchedule S w es → MeetsInvariant S Lawful B (after_events S w es)
  run_good [] w g s = g
  run_good (e ∷ es) w g s = run_good es (after_event S w e) (event_good S Lawful B w g sound e s.0) s.1

  -- a batch that an event commits has calls of the present machines
  pub run_now : (w : Moment) → MeetsInvariant S Lawful B w → (e : Event) → MayHappen S w e → (k : ℕ) → B.seq + length w.batches < k → k ≤ B.seq + length (after_event S w e).batches → All (IsOpenCall w) (batch_at B (after_event S w e).batches k).calls
  run_now w g (Turns i) h k l u =
      let own : get_or w.machines i (machine_in w i) ≡ machine_in w i = get_or_default w.machines i (machine_in w i) no_machine (omega (arith, g.core.members)) in
      new_calls S Lawful sound B w g i (machine_in w i) h own (word_found S w.words (machine_in w i)) (found_now S w.words (machine_in w i)) k l u
  run_now w g (Begins i op) h k l u = absurd (omega (arith, l, u))
  run_now w g (Loads c) h k l u = absurd (omega (arith, l, u))
  run_now w g (Evicts j) h k l u = absurd (omega (arith, l, u))
  run_now w g (Raises c) h k l u = absurd (omega (arith, l, u))
  run_now w g (Revives i made) h k l u = absurd (omega (arith, l, u))

  pub every_moment : MayStart S Lawful B → 0 < S.callers → S.callers < PAYLOADS → first_operation_cell S ≤ S.cells → (total : ℕ) → cell_count S + cell_count S + S.callers * (S.instrs + 1) ≤ total → S.instrs ≤ MOST_INSTRS → S.cells < PAYLOADS
      → (es : List Event) → IsSchedule S (opening_moment S B total) es → IsSound S B (after_events S (opening_moment S B total) es)
  every_moment may_start some few own_in total room narrow little es s =
      let g = run_good es (opening_moment S B total) (start_good S Lawful sound B may_start some few own_in total room narrow little) s in
      is_sound S Lawful sound B (after_events S (opening_moment S B total) es) g.core g.within g.late g.order
