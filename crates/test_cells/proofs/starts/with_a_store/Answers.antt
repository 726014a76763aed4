use Rattle.std.proofs.Common.{ℕ, List, subst, sym}
use Rattle.test_cells.specs.Starts.{alone, MayStartFrom}
use Rattle.test_cells.proofs.starts.Starting.{starts_at_zero}
use Rattle.test_cells.proofs.starts.with_a_store.Goals as goal

pub returns : goal.returns
returns c = subst (λ (row : List ℕ). MayStartFrom alone c.args.limit row) (sym c.stored.ensures) (starts_at_zero c.args.limit)
