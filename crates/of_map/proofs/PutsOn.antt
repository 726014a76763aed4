-- A put where more cells come to be known.
use Rattle.std.proofs.Common.{◌≡◌, ℕ, Option, Some, Ok}
use Rattle.std.specs.Prelude.{◌≢◌, Result, IfOk}
use Rattle.std.proofs.lemmas.Result.{MatchResult-weaker}
use Rattle.of_mem.specs.declared.part.Need.{Need}
use Rattle.of_mem.specs.declared.plot.Plot.{Plot}
use Rattle.of_mem.specs.Plots.{base}
use Rattle.of_mem.specs.Part.{with_known}
use Rattle.of_mem.specs.Programs.{Done}
use Rattle.of_mem.specs.Stores.{second_at}
use Rattle.of_mem.specs.Calls.{HasStore, ActsOnStore}
use Rattle.of_mem.specs.OnDemand.{Running, MayRun, RunsOn, HasOnlyRead, read_cell, write_cell}
use Rattle.of_mem.proofs.OnDemand.{may_first, may_second, runs_over, runs_read, runs_write, runs_done, only_read_on}
use Rattle.of_alloc.specs.Blocks.{HasFreeList}
use Rattle.of_alloc.specs.BlockPrograms.{take}
use Rattle.of_alloc.proofs.Stored.{store_free}
use Rattle.of_map.specs.declared.answers.Put.{Put}
use Rattle.of_map.specs.declared.answers.Put.TheVariants.{Full, Over}
use Rattle.of_map.specs.Found.{CanFill}
use Rattle.of_map.specs.Means.{IsPair, answer_of_put, after_put}
use Rattle.of_map.specs.MapPrograms.{put_in_map, put_new, put_value, change, insert, fill}
use Rattle.of_map.proofs.Takings.{after_take}
use Rattle.of_map.proofs.Wholes.{put_acts}

-- the reads and writes of changing a value
pub changed : (plot : Plot) (b v : ℕ) (c d e : Running) (w cell : ℕ) → cell ≡ second_at (base plot) b → RunsOn (read_cell cell) c d (Ok w) → RunsOn (write_cell cell v) d e (Ok tt) → RunsOn (change plot b v) c e (Ok (Over w))
changed plot b v c d e w cell is read wrote =
    let at = second_at (base plot) b in
    let first : RunsOn (read_cell at) c d (Ok w) = rw is at read in
    let second : RunsOn (write_cell at v) d e (Ok tt) = rw is at wrote in
    runs_read at w (put_value (base plot) b v) c d e (Ok (Over w)) first (runs_write at v (Done (Over w)) d e e (Ok (Over w)) second (runs_done e (Over w) second.goes.knows))

module _ (plot : Plot) (key v : ℕ) (c : Running) (h : MayRun (insert plot key v) (HasStore plot) c) where
  pub may_take : MayRun (take plot) (HasFreeList plot) c
  may_take = may_first (take plot) (put_new (base plot) plot.blocks key v) (HasStore plot) (HasFreeList plot) c (λ p. store_free plot p) h

  pub may_fill : (d : Running) (x : Option ℕ) (b : ℕ) → RunsOn (take plot) c d (Ok x) → x ≡ Some b → MayRun (fill plot key v b) (λ p. CanFill plot p b) d
  may_fill d x b r is = may_second (take plot) (put_new (base plot) plot.blocks key v) (HasStore plot) (λ p. CanFill plot p b) c d x (Some b) (λ p q has k. after_take plot p q x b has k is) h r is

-- what a put that ran does
pub puts_on : (plot : Plot) (key v : ℕ) → IsPair key v → (c d : Running) (result : Result Put Need) → RunsOn (put_in_map plot key v) c d result → ActsOnStore plot (with_known d.part.known c.part) d.part result (answer_of_put plot.blocks key) (after_put plot.blocks key v)
puts_on plot key v pair c d result r = put_acts plot key v pair (with_known d.part.known c.part) d.part result (runs_over (put_in_map plot key v) c d result r)

-- a put that changed a value was not full
pub only_over : (P : Put → Type 0) (result : Result Put Need) → IfOk result (λ r. r ≢ Full) → IfOk result (λ r. r ≡ Full → P r)
only_over P result h = MatchResult-weaker result h (λ r n e. absurd (n e)) (λ _ _. tt)

-- where it was full behind the walk, nothing was written from the start
pub full_behind : (c d e : Running) (result : Result Put Need) → HasOnlyRead c.part d.part → IfOk result (λ r. r ≡ Full → HasOnlyRead d.part e.part) → IfOk result (λ r. r ≡ Full → HasOnlyRead c.part e.part)
full_behind c d e result same h = MatchResult-weaker result h (λ r k is. only_read_on c.part d.part e.part same (k is)) (λ _ _. tt)
