-- The data cells of any plot fit a table.
use Rattle.std.proofs.Common.{ℕ, ◌+◌, ◌*◌, ◌≤◌, arith}
use Rattle.of_mem.specs.declared.plot.Plot.{Plot}
use Rattle.of_mem.specs.Plots.{data_cell_count}
use Rattle.of_mem.proofs.BucketPlaces.{bucket_places, most_buckets}

few_rows : (n k : ℕ) → n ≤ 64 → n * k ≤ 64 * k
few_rows n k l = grind arith

pub cells_fit : (p : Plot) → data_cell_count p ≤ 134217728
cells_fit p = omega (arith, few_rows p.callers (p.instrs + 2) p.few_callers, p.few_instrs, p.few_blocks, bucket_places p.blocks, most_buckets p.blocks)
