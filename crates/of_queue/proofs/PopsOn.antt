-- A pop where more cells come to be known.
use Rattle.std.proofs.Common.{◌≡◌, ◌≢◌, ℕ, suc, ◌-◌, ◌<◌, Option, Some, Ok, Err, refl, sym, ◌∙◌, ap, subst, arith, length}
use Rattle.std.specs.Prelude.{Result}
use Rattle.of_mem.specs.declared.part.Need.{Need}
use Rattle.of_mem.specs.declared.plot.Plot.{Plot}
use Rattle.of_mem.specs.Plots.{base}
use Rattle.of_mem.specs.Places.{head_at, tail_at, length_at}
use Rattle.of_mem.specs.Part.{Part, newest_at, with_known}
use Rattle.of_mem.specs.Programs.{Done}
use Rattle.of_mem.specs.Stores.{first_at, link_at}
use Rattle.of_mem.specs.Calls.{RunsProgram, HasStore, ActsOnStore}
use Rattle.of_mem.specs.OnDemand.{Running, MayRun, RunsOn, read_cell, write_cell}
use Rattle.of_mem.proofs.OnDemand.{may_second, may_weaker, may_after_read, may_after_read_gave, may_past_write, runs_over, runs_read, runs_write, runs_done, lacks_read}
use Rattle.of_alloc.specs.BlockPrograms.{give}
use Rattle.of_alloc.proofs.Givings.{gives_to}
use Rattle.of_queue.specs.QueuePrograms.{pop, with_head, pop_front, with_first, with_head_link, close, new_end, give_item_back, item_after_give, count_item_down, count_down_program}
use Rattle.of_queue.specs.Fronts.{CanCount, IsFront, IsPopped}
use Rattle.of_queue.specs.Means.{front_item, after_pop}
use Rattle.of_queue.proofs.Knows.{front_is, pops_out, popped_tail}
use Rattle.of_queue.proofs.Wholes.{pop_acts_whole}

-- the read and the write of counting one item less
pub counted : (plot : Plot) (q v : ℕ) (c d e : Running) (n k1 k2 : ℕ) → k1 ≡ length_at (base plot) q → k2 ≡ length_at (base plot) q → RunsOn (read_cell k1) c d (Ok n) → RunsOn (write_cell k2 (n - 1)) d e (Ok tt) → RunsOn (count_item_down plot q v) c e (Ok (Some v))
counted plot q v c d e n k1 k2 is1 is2 read wrote =
    let at = length_at (base plot) q in
    let first : RunsOn (read_cell at) c d (Ok n) = rw is1 at read in
    let second : RunsOn (write_cell at (n - 1)) d e (Ok tt) = rw is2 at wrote in
    runs_read at n (count_down_program (base plot) q v) c d e (Ok (Some v)) first (runs_write at (n - 1) (Done (Some v)) d e e (Ok (Some v)) second (runs_done e (Some v) second.goes.knows))

-- the count of items is as it was where a block was given back
after_give : (plot : Plot) (p n : Part) (q b : ℕ) → IsPopped plot p q b → RunsProgram (give plot b) p n (Ok tt) → CanCount plot n q
after_give plot p n q b h r =
    let o = base plot in
    let g = gives_to plot b p n (Ok tt) r h.block.memory h.block.free h.block.part h.block.list h.block.out in
    record {
      fits = ap length r.known ∙ h.block.fits;
      queue = h.queue;
      items = λ k e. let same = g.given.cells (length_at o q) (λ e. omega (arith, h.queue)) (λ e. omega arith) in let is = g.part (length_at o q) k e in omega (arith, same, is, h.items);
    }

pub may_count_down : (plot : Plot) (q b v : ℕ) (c d : Running) → MayRun (give_item_back plot q b v) (λ p. IsPopped plot p q b) c → RunsOn (give plot b) c d (Ok tt) → MayRun (count_item_down plot q v) (λ p. CanCount plot p q) d
may_count_down plot q b v c d h r = may_second (give plot b) (item_after_give (base plot) q v) (λ p. IsPopped plot p q b) (λ p. CanCount plot p q) c d tt tt (λ p n k e. after_give plot p n q b k e) h r refl

-- No block is left behind the one that goes out.
module _ (plot : Plot) (q b v link : ℕ) (c d : Running) (h : MayRun (close plot q b v link) (λ p. IsPopped plot p q b) c) (tail : ℕ) (z : link ≡ 0) (at : tail ≡ tail_at (base plot) q) (w : RunsOn (write_cell tail 0) c d (Ok tt)) where
  wrote : RunsOn (write_cell (tail_at (base plot) q) 0) c d (Ok tt)
  wrote = rw at at w

  pub may_clear : MayRun (give_item_back plot q b v) (λ p. IsPopped plot p q b) d
  may_clear = may_past_write (tail_at (base plot) q) 0 (give_item_back plot q b v) (λ p. IsPopped plot p q b) (λ p. IsPopped plot p q b) c d (λ p n k e same. popped_tail plot p n q b (tail_at (base plot) q) k refl e same)
      (subst (λ (x : ℕ). MayRun (new_end (base plot) q b v x) (λ p. IsPopped plot p q b) c) z h) wrote

  pub clears : (e : Running) (result : Result (Option ℕ) Need) → RunsOn (give_item_back plot q b v) d e result → RunsOn (close plot q b v link) c e result
  clears e result k = subst (λ (x : ℕ). RunsOn (new_end (base plot) q b v x) c e result) (sym z) (runs_write (tail_at (base plot) q) 0 (give_item_back plot q b v) c d e result wrote k)

-- The front block goes out.
module _ (plot : Plot) (q b : ℕ) (c : Running) (h : MayRun (pop_front plot q b) (λ p. IsFront plot p q b) c) where
  abbrev o : ℕ
  o = base plot

  module _ (d1 : Running) (item first_cell link_cell : ℕ) (is1 : first_cell ≡ first_at o b) (is2 : link_cell ≡ link_at o b) (read1 : RunsOn (read_cell first_cell) c d1 (Ok item)) where
    r1 : RunsOn (read_cell (first_at o b)) c d1 (Ok item)
    r1 = rw is1 at read1

    pub link_lacks : (e : Running) (need : Need) → RunsOn (read_cell link_cell) d1 e (Err need) → RunsOn (pop_front plot q b) c e (Err need)
    link_lacks e need k =
        let r2 : RunsOn (read_cell (link_at o b)) d1 e (Err need) = rw is2 at k in
        runs_read (first_at o b) item (with_first o q b) c d1 e (Err need) r1 (lacks_read (link_at o b) (with_head_link o q b item) d1 e need r2)

    module _ (d2 d3 : Running) (link head : ℕ) (is3 : head ≡ head_at o q) (read2 : RunsOn (read_cell link_cell) d1 d2 (Ok link)) (wrote : RunsOn (write_cell head link) d2 d3 (Ok tt)) where
      r2 : RunsOn (read_cell (link_at o b)) d1 d2 (Ok link)
      r2 = rw is2 at read2

      w3 : RunsOn (write_cell (head_at o q) link) d2 d3 (Ok tt)
      w3 = rw is3 at wrote

      pub may_close : MayRun (close plot q b item link) (λ p. IsPopped plot p q b) d3
      may_close =
          let m1 = may_after_read (first_at o b) item (with_first o q b) (λ p. IsFront plot p q b) c d1 h r1 in
          let m2 = may_after_read_gave (link_at o b) link (with_head_link o q b item) (λ p. IsFront plot p q b) d1 d2 m1 r2 in
          may_past_write (head_at o q) link (close plot q b item link) (λ p. IsFront plot p q b × (newest_at p (link_at o b) ≡ Some link)) (λ p. IsPopped plot p q b) d2 d3 (λ p n k e same. pops_out plot p n q b link (head_at o q) k.0 k.1 refl e same) m2 w3

      pub closes : (e : Running) (result : Result (Option ℕ) Need) → RunsOn (close plot q b item link) d3 e result → RunsOn (pop_front plot q b) c e result
      closes e result k = runs_read (first_at o b) item (with_first o q b) c d1 e result r1 (runs_read (link_at o b) link (with_head_link o q b item) d1 d2 e result r2 (runs_write (head_at o q) link (close plot q b item link) d2 d3 e result w3 k))

module _ (plot : Plot) (q : ℕ) (few : q < 4) (c d : Running) (h : MayRun (pop plot q) (HasStore plot) c) (head at : ℕ) (is : at ≡ head_at (base plot) q) (read : RunsOn (read_cell at) c d (Ok head)) where
  r : RunsOn (read_cell (head_at (base plot) q)) c d (Ok head)
  r = rw is at read

  filled : head ≢ 0 → head ≡ suc (head - 1)
  filled n = omega (arith, n)

  pub may_pop : head ≢ 0 → MayRun (pop_front plot q (head - 1)) (λ p. IsFront plot p q (head - 1)) d
  may_pop n =
      let m = may_after_read_gave (head_at (base plot) q) head (with_head (base plot) q) (HasStore plot) c d h r in
      let k : MayRun (pop_front plot q (head - 1)) (λ p. HasStore plot p × (newest_at p (head_at (base plot) q) ≡ Some head)) d = subst (λ (x : ℕ). MayRun (with_head (base plot) q x) (λ p. HasStore plot p × (newest_at p (head_at (base plot) q) ≡ Some head)) d) (filled n) m in
      may_weaker (pop_front plot q (head - 1)) (λ p. HasStore plot p × (newest_at p (head_at (base plot) q) ≡ Some head)) (λ p. IsFront plot p q (head - 1)) d (λ p k. front_is plot p q head (head_at (base plot) q) few k.0 refl k.1 n) k

  pub pops_some : (e : Running) (result : Result (Option ℕ) Need) → head ≢ 0 → RunsOn (pop_front plot q (head - 1)) d e result → RunsOn (pop plot q) c e result
  pops_some e result n k = runs_read (head_at (base plot) q) head (with_head (base plot) q) c d e result r (subst (λ (x : ℕ). RunsOn (with_head (base plot) q x) d e result) (sym (filled n)) k)

-- what a pop that ran did
pub pops_on : (plot : Plot) (q : ℕ) → q < 4 → (c d : Running) (result : Result (Option ℕ) Need) → RunsOn (pop plot q) c d result → ActsOnStore plot (with_known d.part.known c.part) d.part result (front_item q) (after_pop q)
pops_on plot q few c d result r = pop_acts_whole plot q few (with_known d.part.known c.part) d.part result (runs_over (pop plot q) c d result r)
