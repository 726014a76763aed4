-- Cells that stand for a store are answered by it.
use Rattle.std.proofs.Common.{◌≡◌, ℕ, List, refl, Ok, Err}
use Rattle.std.specs.Prelude.{Result, IfOk, IfErr, MatchResult}
use Rattle.of_mem.specs.declared.plot.Plot.{Plot}
use Rattle.of_mem.specs.Places.{base_of}
use Rattle.of_mem.specs.ProgramWork.{memory_of}
use Rattle.of_store.specs.Store.{Store}
use Rattle.of_eval.specs.declared.lawful_cells.LawErr.{LawErr}
use Rattle.of_eval.specs.declared.lawful_cells.LawErr.TheVariants.{Memory, Unlawful}
use Rattle.of_eval.specs.Lawful.{DataCellsStandFor}
use Rattle.of_eval.specs.Walking.{NamesFault}
use Rattle.of_eval.proofs.OneStore.{one_store}
use Rattle.of_eval.proofs.FaultLaws.{first_excludes}

pub only_store : (p : Plot) (cells : List ℕ) (r : Result Store LawErr) → IfOk r (λ s. DataCellsStandFor p.callers p.instrs p.blocks (memory_of cells) s) → IfErr r (NamesFault p cells) → (s : Store) → DataCellsStandFor p.callers p.instrs p.blocks (memory_of cells) s → MatchResult r (λ t. t ≡ s) (λ e. e ≡ Memory)
only_store p cells (Ok t) ok bad s h = one_store (base_of p.callers p.instrs) p.blocks (memory_of cells) t s ok.stored h.stored
only_store p cells (Err Memory) ok bad s h = refl
only_store p cells (Err (Unlawful cell)) ok bad s h = absurd (first_excludes p.callers p.instrs p.blocks (memory_of cells) s cell h bad)
