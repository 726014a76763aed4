-- The limits of a grammar are no wider than those of a table, and the cells of a row within them have numbers of 32 bits.
use Rattle.std.proofs.Common.{ℕ, ◌≤◌, arith}
use Rattle.of_cell.specs.Cells.{durable_cells}
use Rattle.of_cell.proofs.Rooms.{cells_small}
use Rattle.of_mem.proofs.BucketPlaces.{bucket_places, most_buckets}
use Rattle.of_report.specs.ImageRow.{DurableRow, IsTableRow, data_cell_count_for}
use Rattle.of_image.specs.declared.grammar.Grammar.{Grammar}
use Rattle.of_image.specs.declared.grammar.Limits.{Limits}
use Rattle.of_image.specs.declared.grammar.Limits.TheVariants.{Plan, Table}
use Rattle.of_image.specs.declared.version.Version.{Version}
use Rattle.of_image.specs.declared.version.Version.TheVariants.{One, Two}
use Rattle.of_image.specs.Grammar.{most_callers, most_blocks, IsRowIn}
use Rattle.of_image.specs.Version.{instrs_of}

pub few_callers : (k : Limits) → most_callers k ≤ 64
few_callers Plan = omega arith
few_callers Table = omega arith

pub some_callers : (k : Limits) → 1 ≤ most_callers k
some_callers Plan = omega arith
some_callers Table = omega arith

pub few_blocks : (k : Limits) → most_blocks k ≤ 16777216
few_blocks Plan = omega arith
few_blocks Table = omega arith

-- the data cells of a table
data_cells_few : (v : Version) (n b : ℕ) → n ≤ 64 → b ≤ 16777216 → data_cell_count_for (instrs_of v) n b ≤ 134217728
data_cells_few One n b few low = omega (arith, few, low, bucket_places b, most_buckets b)
data_cells_few Two n b few low = omega (arith, few, low, bucket_places b, most_buckets b)

pub few_cells : (v : Version) (n b : ℕ) → n ≤ 64 → b ≤ 16777216 → durable_cells n (data_cell_count_for (instrs_of v) n b) ≤ 136839297
few_cells v n b few low = cells_small n (data_cell_count_for (instrs_of v) n b) few (data_cells_few v n b few low)
