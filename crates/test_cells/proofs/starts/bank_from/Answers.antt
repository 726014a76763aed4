use Rattle.std.proofs.Common.{ℕ, List, subst, sym, refl}
use Rattle.of_mem.specs.Places.{buckets_behind}
use Rattle.test_cells.specs.Starts.{alone, MayStartFrom}
use Rattle.test_cells.proofs.starts.bank_from.Goals as goal

pub start-requires-clause-cells : goal.start-requires-clause-cells
unfolding buckets_behind
start-requires-clause-cells c = refl

pub start-requires-clause-row : goal.start-requires-clause-row
unfolding buckets_behind
start-requires-clause-row c =
    subst (λ (row : List ℕ). MayStartFrom alone c.args.limit row) (sym c.as_slice.ensures) c.requires.row
