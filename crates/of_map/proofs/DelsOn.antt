-- A del where more cells come to be known.
use Rattle.std.proofs.Common.{◌≡◌, ℕ, ◌-◌, ◌<◌, Option, Some, Ok, Err, refl, ◌∙◌, ap, arith, length}
use Rattle.std.specs.Prelude.{Result}
use Rattle.std.specs.FinMap as fin
use Rattle.of_mem.specs.declared.part.Need.{Need}
use Rattle.of_mem.specs.declared.plot.Plot.{Plot}
use Rattle.of_mem.specs.Plots.{base, data_cell_count}
use Rattle.of_mem.specs.Places.{keys_at}
use Rattle.of_mem.specs.Part.{Part, newest_at, with_known}
use Rattle.of_mem.specs.Programs.{Done}
use Rattle.of_mem.specs.Stores.{second_at, link_at}
use Rattle.of_mem.specs.Calls.{RunsProgram, ActsOnStore}
use Rattle.of_mem.specs.OnDemand.{Running, MayRun, RunsOn, RunGoesOn, read_cell, write_cell}
use Rattle.of_mem.proofs.OnDemand.{may_second, may_after_read, may_after_read_gave, may_past_write, runs_over, runs_read, runs_write, runs_done, lacks_read, fits_on, now}
use Rattle.of_alloc.specs.BlockPrograms.{give}
use Rattle.of_alloc.proofs.Givings.{gives_to}
use Rattle.of_map.specs.declared.answers.Position.{Position}
use Rattle.of_map.specs.Found.{IsPositionKept, IsUnlinked, CanCountDown}
use Rattle.of_map.specs.Means.{after_del}
use Rattle.of_map.specs.MapPrograms.{del, del_value, past_block, unlink, give_key_back, count_key_down, value_after_give, one_key_less}
use Rattle.of_map.proofs.Knows.{kept_below}
use Rattle.of_map.proofs.Dels.{kept_cell, unlinks, del_acts}

-- the read and the write of counting one key less
pub counted : (plot : Plot) (v : ℕ) (c d e : Running) (n k1 k2 : ℕ) → k1 ≡ keys_at (base plot) → k2 ≡ keys_at (base plot) → RunsOn (read_cell k1) c d (Ok n) → RunsOn (write_cell k2 (n - 1)) d e (Ok tt) → RunsOn (count_key_down plot v) c e (Ok (Some v))
counted plot v c d e n k1 k2 is1 is2 read wrote =
    let at = keys_at (base plot) in
    let first : RunsOn (read_cell at) c d (Ok n) = rw is1 at read in
    let second : RunsOn (write_cell at (n - 1)) d e (Ok tt) = rw is2 at wrote in
    runs_read at n (one_key_less (base plot) v) c d e (Ok (Some v)) first (runs_write at (n - 1) (Done (Some v)) d e e (Ok (Some v)) second (runs_done e (Some v) second.goes.knows))

-- the count of keys is as it was where a block was given back
after_give : (plot : Plot) (p q : Part) (b : ℕ) → IsUnlinked plot p b → RunsProgram (give plot b) p q (Ok tt) → CanCountDown plot q
after_give plot p q b h r =
    let o = base plot in
    let g = gives_to plot b p q (Ok tt) r h.block.memory h.block.free h.block.part h.block.list h.block.out in
    record {
      fits = ap length r.known ∙ h.block.fits;
      keys = λ k e. let same = g.given.cells (keys_at o) (λ e. omega arith) (λ e. omega arith) in let is = g.part (keys_at o) k e in omega (arith, same, is, h.keys);
    }

module _ (plot : Plot) (b v : ℕ) (c : Running) (h : MayRun (give_key_back plot b v) (λ p. IsUnlinked plot p b) c) where
  pub may_count_down : (d : Running) → RunsOn (give plot b) c d (Ok tt) → MayRun (count_key_down plot v) (CanCountDown plot) d
  may_count_down d r = may_second (give plot b) (value_after_give (base plot) v) (λ p. IsUnlinked plot p b) (CanCountDown plot) c d tt tt (λ p q k e. after_give plot p q b k e) h r refl

module _ (plot : Plot) (key : ℕ) (place : Position) (c : Running) (h : MayRun (unlink plot place) (λ p. IsPositionKept plot p key place) c) where
  abbrev o : ℕ
  o = base plot

  abbrev b : ℕ
  b = place.block

  pub block_below : b < plot.blocks
  block_below = kept_below plot c.part key place (now (λ p. IsPositionKept plot p key place) c h.knows h.always)

  pub fits : (d : Running) → RunGoesOn c d → length d.part.known ≡ data_cell_count plot
  fits d g = fits_on (data_cell_count plot) (unlink plot place) (λ p. IsPositionKept plot p key place) c d (λ p k. k.fits) h g

  pub cell_below : place.cell < data_cell_count plot
  cell_below = kept_cell plot c.part key place (now (λ p. IsPositionKept plot p key place) c h.knows h.always)

  module _ (d1 : Running) (value link_cell value_cell : ℕ) (is1 : value_cell ≡ second_at o b) (is2 : link_cell ≡ link_at o b) (read1 : RunsOn (read_cell value_cell) c d1 (Ok value)) where
    r1 : RunsOn (read_cell (second_at o b)) c d1 (Ok value)
    r1 = rw is1 at read1

    pub link_lacks : (e : Running) (need : Need) → RunsOn (read_cell link_cell) d1 e (Err need) → RunsOn (unlink plot place) c e (Err need)
    link_lacks e need k =
        let r2 : RunsOn (read_cell (link_at o b)) d1 e (Err need) = rw is2 at k in
        runs_read (second_at o b) value (del_value o place.cell b) c d1 e (Err need) r1 (lacks_read (link_at o b) (past_block o place.cell b value) d1 e need r2)

    module _ (d2 d3 : Running) (link : ℕ) (read2 : RunsOn (read_cell link_cell) d1 d2 (Ok link)) (w : RunsOn (write_cell place.cell link) d2 d3 (Ok tt)) where
      r2 : RunsOn (read_cell (link_at o b)) d1 d2 (Ok link)
      r2 = rw is2 at read2

      pub may_give_back : MayRun (give_key_back plot b value) (λ p. IsUnlinked plot p b) d3
      may_give_back =
          let m1 = may_after_read (second_at o b) value (del_value o place.cell b) (λ p. IsPositionKept plot p key place) c d1 h r1 in
          let m2 = may_after_read_gave (link_at o b) link (past_block o place.cell b value) (λ p. IsPositionKept plot p key place) d1 d2 m1 r2 in
          may_past_write place.cell link (give_key_back plot b value) (λ p. IsPositionKept plot p key place × (newest_at p (link_at o b) ≡ Some link)) (λ p. IsUnlinked plot p b) d2 d3 (λ p q k e same. unlinks plot p q key place link k.0 k.1 e same) m2 w

      pub unlinked_on : (e : Running) (result : Result (Option ℕ) Need) → RunsOn (give_key_back plot b value) d3 e result → RunsOn (unlink plot place) c e result
      unlinked_on e result k = runs_read (second_at o b) value (del_value o place.cell b) c d1 e result r1 (runs_read (link_at o b) link (past_block o place.cell b value) d1 d2 e result r2 (runs_write place.cell link (give_key_back plot b value) d2 d3 e result w k))

-- what a del that ran does
pub dels_on : (plot : Plot) (key : ℕ) (c d : Running) (result : Result (Option ℕ) Need) → RunsOn (del plot key) c d result → ActsOnStore plot (with_known d.part.known c.part) d.part result (λ s. fin.get s.map key) (after_del key)
dels_on plot key c d result r = del_acts plot key (with_known d.part.known c.part) d.part result (runs_over (del plot key) c d result r)
