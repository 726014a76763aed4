-- A try or a round makes no step that it has no use for: it loads a data cell only if a run needs
-- it, and copies a log only if its transaction is open.
use Rattle.std.specs.Prelude.{ℕ, List, ◌≡◌, ◌<◌}
use Rattle.of_cell.specs.Words.{pack}
use Rattle.of_mem.specs.Meaning.{Needs}
use Rattle.of_mem.specs.Part.{overlaid}
use Rattle.of_core.specs.declared.place.Place.{Place}
use Rattle.of_core.specs.declared.place.Place.TheVariants.{TryCell, CopyLog, LoadCell}
use Rattle.of_core.specs.Table.{Setup, request_of}
use Rattle.of_core.specs.Machine.{CallState, IsOpen}
use Rattle.of_core.specs.Steps.{take_word}
use Rattle.of_core.specs.TableMoment.{Moment}
use Rattle.of_core.specs.Events.{machine_in, opening_moment, after_events}
use Rattle.of_core.specs.Laws.{EachStep, EachSchedule}

-- if the machine is about to load a cell for a run, that run needs this cell. In a try it is the
-- run of the machine's own call, over the known cells. In a round it is the run of the call that
-- the scan has come to, over the known cells and the writes of the calls before
abbrev pub NeedsCell : Setup → CallState → Place → Type 0
NeedsCell S m (TryCell a) = S.meaning.walk m.known m.op ≡ Needs a
NeedsCell S m (LoadCell a) = S.meaning.walk (overlaid m.known m.log) m.script ≡ Needs a
NeedsCell S m p = Unit {0}

-- at every moment of every schedule, if a machine is about to load a cell for a run, the run needs
-- that cell (`NeedsCell`)
abbrev pub LoadsNeeded : Setup → (List ℕ → Type 0) → Type 0
LoadsNeeded S Lawful = EachSchedule S Lawful (λ B n es.
    let w : Moment = after_events S (opening_moment S B n) es in
    (i : ℕ) → i < S.callers → NeedsCell S (machine_in w i) (machine_in w i).place)

-- a machine begins to copy a log only if it has found the request of the log's owner open
abbrev pub CopiesOpenLogs : Setup → (List ℕ → Type 0) → Type 0
CopiesOpenLogs S Lawful = EachStep S Lawful (λ B w i m n.
    IsOpen m.place → (take_word S m n).place ≡ CopyLog 0
    → (0 < m.seq) × (request_of w.words m.owner ≡ pack m.seq 0))
