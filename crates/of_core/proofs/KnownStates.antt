-- What is known in a try or a scan agrees with a lawful list.
use Rattle.std.proofs.Common.{◌≡◌, ℕ, ◌+◌, ◌<◌, ◌≤◌, List, length, Option, ◌∙◌, arith}
use Rattle.std.proofs.lemmas.List.{length-map}
use Rattle.of_cell.specs.Words.{payload_of}
use Rattle.of_mem.specs.Meaning.{IsSoundMeaning, Agrees, with_writes_in}
use Rattle.of_mem.specs.Part.{overlaid}
use Rattle.of_core.specs.Table.{Setup, first_operation_cell}
use Rattle.of_core.specs.Machine.{CallState}
use Rattle.of_core.specs.TableMoment.{Moment, TableStart}
use Rattle.of_core.specs.History.{state_after, numbers_after}
use Rattle.of_core.specs.Rounds.{IsPastOwnTicket, KnowsClosedState, WasCurrent}
use Rattle.of_core.specs.Scan.{IsInScan}
use Rattle.of_core.specs.Invariant.{MeetsCore}
use Rattle.of_core.proofs.States.{state_length}
use Rattle.of_core.proofs.Assembling.{logs_of}
use Rattle.of_core.proofs.Overlays.{left_lawful, left_agrees, left_length}
use Rattle.of_core.proofs.Rounds.{at_risen}

module _ {S : Setup} {Lawful : List ℕ → Type 0} {B : TableStart} {w : Moment} (g : MeetsCore S Lawful B w) {i : ℕ} (h : i < S.callers) where
  -- the state of a sequence that stands
  numbers_length : (s : ℕ) → B.seq ≤ s → s ≤ B.seq + length w.batches → length (numbers_after B w.batches s) ≡ S.cells
  numbers_length s l u = length-map (state_after B w.batches s) payload_of ∙ state_length S B w.batches g.shared.start (logs_of g) s l u

  -- in a try, with that state
  pub try_state : (s o : ℕ) (known : List (Option ℕ)) → WasCurrent S B w.words w.batches s o → KnowsClosedState S B w.words w.batches s known → (xs : List ℕ) × (length xs ≡ S.cells) × Lawful xs × Agrees known xs
  try_state s o known c k =
      let upto : s ≤ B.seq + length w.batches = omega (arith, c.upto, g.shared.counted.count) in
      (numbers_after B w.batches s, numbers_length s c.from upto, g.shared.stands.lawful s c.from upto, k.agrees)

  -- in a scan, under the log, with what its calls lead to
  pub scan_state : IsSoundMeaning S.meaning Lawful (first_operation_cell S) S.cells → (n : CallState) → IsPastOwnTicket S B w.words w.batches i n → IsInScan S B w.words w.batches i n
      → (xs : List ℕ) × (length xs ≡ S.cells) × Lawful xs × Agrees (overlaid n.known n.log) xs
  scan_state sound n p o =
      let xs : List ℕ = numbers_after B w.batches n.seq in
      let upto : n.seq ≤ B.seq + length w.batches = at_risen g h n p.looks in
      let size : length xs ≡ S.cells = numbers_length n.seq p.looks.round.current_word.from upto in
      let lawful : Lawful xs = g.shared.stands.lawful n.seq p.looks.round.current_word.from upto in (
        with_writes_in xs n.log,
        left_length S Lawful sound xs n.calls n.log size lawful o.over,
        left_lawful S Lawful sound xs n.calls n.log size lawful o.over,
        left_agrees S Lawful sound xs n.calls n.log size lawful o.over n.known p.looks.state.agrees,
      )
