-- Which steps commit, as the code finds it out, and the line that the code writes for a commit.
use Rattle.std.specs.Prelude.{ℕ, ◌==◌, ◌+◌, Bool, true, false, List, [], map}
use Rattle.of_cell.specs.Words.{seq_of}
use Rattle.of_core.specs.Machine.{Call}
use Rattle.of_core.specs.Inside.{call_value}
use Rattle.of_play.specs.Trace.{batch_line}
use Rattle.of_core.specs.declared.call.Call.{Call as RustCall}
use Rattle.of_core.specs.declared.place.Place.{Place}
use Rattle.of_core.specs.declared.place.Place.TheVariants.{ExchangeCurrent}
use Rattle.of_core.specs.declared.place.Op.{Op}
use Rattle.of_core.specs.declared.place.Op.TheVariants.{Load, Store, Exchange, Raise}

-- whether the operation is an exchange that finds the word that it expects
abbrev pub expects : Op → (found : ℕ) → Bool
expects (Load c) found = false
expects (Store c v) found = false
expects (Exchange c old new) found = found == old
expects (Raise c v) found = false

-- whether a step from this place commits a batch: it is an exchange of the current-transaction word
-- that finds what it expects
abbrev pub commits_by_step : Place → Op → (found : ℕ) → Bool
commits_by_step ExchangeCurrent op found = expects op found
commits_by_step place op found = false

-- the line of event `k`, a turn of caller `i`, if it commits these calls at the sequence `s`;
-- otherwise nothing
abbrev pub commit_line : (commits : Bool) → (k i s : ℕ) → List Call → List ℕ
commit_line true k i s calls = batch_line k i s calls
commit_line false k i s calls = []

-- the line of event `k`, a turn of caller `i` that has committed these calls: `found` is the
-- current-transaction word that the turn found, and the batch has the sequence after it
abbrev pub batch_line_after : (k i found : ℕ) → List RustCall → List ℕ
batch_line_after k i found calls = batch_line k i (seq_of found + 1) (map call_value calls)

-- The line of event `k`, a turn of caller `i`, if the turn commits these calls; otherwise nothing.
-- The turn found the word `found`; the batch has the sequence after that of `found`.
abbrev pub commit_line_after : (commits : Bool) → (k i found : ℕ) → List RustCall → List ℕ
commit_line_after b k i found calls = commit_line b k i (seq_of found + 1) (map call_value calls)
