-- Taking a block, and giving one back, where more cells come to be known.
use Rattle.std.proofs.Common.{◌≡◌, ◌≢◌, ℕ, suc, ◌+◌, ◌-◌, ◌<◌, ◌≤◌, Bool, true, false, ltb, Option, Some, None, Ok, Err, refl, sym, subst, arith}
use Rattle.std.specs.Prelude.{Result}
use Rattle.std.proofs.lemmas.Bool.{lt-ltb, le-ltb}
use Rattle.of_mem.specs.declared.part.Need.{Need}
use Rattle.of_mem.specs.declared.plot.Plot.{Plot}
use Rattle.of_mem.specs.Plots.{base}
use Rattle.of_mem.specs.Places.{fresh_at, free_at}
use Rattle.of_mem.specs.Part.{with_known}
use Rattle.of_mem.specs.Programs.{Read}
use Rattle.of_mem.specs.Stores.{link_at}
use Rattle.of_mem.specs.OnDemand.{Running, MayRun, RunsOn, read_cell, write_cell}
use Rattle.of_mem.proofs.OnDemand.{may_after_read, read_gave, now, runs_read, runs_write, runs_done, lacks_read, runs_over}
use Rattle.of_alloc.specs.Blocks.{HasFreeList, TakesFromMemory, GivesToMemory}
use Rattle.of_alloc.specs.BlockPrograms.{take, give, with_free, with_free_link, take_fresh, with_fresh}
use Rattle.of_alloc.proofs.Takings.{front_read, takes_from}
use Rattle.of_alloc.proofs.Givings.{gives_to}

-- what a taking that ran does to each free list
pub takes_on : (plot : Plot) (c d : Running) (result : Result (Option ℕ) Need) → MayRun (take plot) (HasFreeList plot) c → RunsOn (take plot) c d result → TakesFromMemory plot (with_known d.part.known c.part) d.part result
takes_on plot c d result h r = takes_from plot (with_known d.part.known c.part) d.part result (h.always d.part.known r.goes.more (r.goes.may_know d.part.known r.goes.knows)) (runs_over (take plot) c d result r)

module _ (plot : Plot) (c d : Running) (h : MayRun (take plot) (HasFreeList plot) c) (front a : ℕ) (at : a ≡ free_at (base plot)) (r : RunsOn (read_cell a) c d (Ok front)) where
  was_read : RunsOn (read_cell (free_at (base plot))) c d (Ok front)
  was_read = subst (λ (x : ℕ). RunsOn (read_cell x) c d (Ok front)) at r

  may : MayRun (with_free (base plot) plot.blocks front) (HasFreeList plot) d
  may = may_after_read (free_at (base plot)) front (with_free (base plot) plot.blocks) (HasFreeList plot) c d h was_read

  pub has_list : HasFreeList plot d.part
  has_list = now (HasFreeList plot) d may.knows may.always

  pub front_inside : front ≢ 0 → front - 1 < plot.blocks
  front_inside n = front_read plot d.part front (free_at (base plot)) has_list refl (read_gave (free_at (base plot)) front c d was_read).1 n

  module _ (n : front ≢ 0) (b : ℕ) (is : b ≡ link_at (base plot) (front - 1)) where
    some : front ≡ suc (front - 1)
    some = omega (arith, n)

    may_link : MayRun (Read (link_at (base plot) (front - 1)) (with_free_link (base plot) (front - 1))) (HasFreeList plot) d
    may_link = subst (λ (f : ℕ). MayRun (with_free (base plot) plot.blocks f) (HasFreeList plot) d) some may

    by_link : (e : Running) (result : Result (Option ℕ) Need) → RunsOn (Read b (with_free_link (base plot) (front - 1))) d e result → RunsOn (take plot) c e result
    by_link e result k = runs_read (free_at (base plot)) front (with_free (base plot) plot.blocks) c d e result was_read
        (subst (λ (f : ℕ). RunsOn (with_free (base plot) plot.blocks f) d e result) (sym some) (subst (λ (x : ℕ). RunsOn (Read x (with_free_link (base plot) (front - 1))) d e result) is k))

    pub link_lacks : (e : Running) (need : Need) → RunsOn (read_cell b) d e (Err need) → RunsOn (take plot) c e (Err need)
    link_lacks e need k = by_link e (Err need) (lacks_read b (with_free_link (base plot) (front - 1)) d e need k)

    pub takes_front : (e f : Running) (link w : ℕ) → w ≡ free_at (base plot) → RunsOn (read_cell b) d e (Ok link) → RunsOn (write_cell w link) e f (Ok tt) → RunsOn (take plot) c f (Ok (Some (front - 1)))
    takes_front e f link w to k wrote = by_link f (Ok (Some (front - 1))) (runs_read b link (with_free_link (base plot) (front - 1)) d e f (Ok (Some (front - 1))) k
        (runs_write (free_at (base plot)) link _ e f f (Ok (Some (front - 1))) (subst (λ (x : ℕ). RunsOn (write_cell x link) e f (Ok tt)) to wrote) (runs_done f (Some (front - 1)) wrote.goes.knows)))

  module _ (z : front ≡ 0) (b : ℕ) (is : b ≡ fresh_at (base plot)) where
    by_fresh : (e : Running) (result : Result (Option ℕ) Need) → RunsOn (Read b (with_fresh (base plot) plot.blocks)) d e result → RunsOn (take plot) c e result
    by_fresh e result k = runs_read (free_at (base plot)) front (with_free (base plot) plot.blocks) c d e result was_read
        (subst (λ (f : ℕ). RunsOn (with_free (base plot) plot.blocks f) d e result) (sym z) (subst (λ (x : ℕ). RunsOn (Read x (with_fresh (base plot) plot.blocks)) d e result) is k))

    pub fresh_lacks : (e : Running) (need : Need) → RunsOn (read_cell b) d e (Err need) → RunsOn (take plot) c e (Err need)
    fresh_lacks e need k = by_fresh e (Err need) (lacks_read b (with_fresh (base plot) plot.blocks) d e need k)

    read_fresh : (e f : Running) (fresh : ℕ) (t : Bool) (result : Result (Option ℕ) Need) → ltb fresh plot.blocks ≡ t → RunsOn (read_cell b) d e (Ok fresh) → RunsOn (take_fresh (base plot) fresh t) e f result → RunsOn (take plot) c f result
    read_fresh e f fresh t result less k l = by_fresh f result (runs_read b fresh (with_fresh (base plot) plot.blocks) d e f result k (subst (λ (x : Bool). RunsOn (take_fresh (base plot) fresh x) e f result) (sym less) l))

    pub takes_none : (e : Running) (fresh : ℕ) → plot.blocks ≤ fresh → RunsOn (read_cell b) d e (Ok fresh) → RunsOn (take plot) c e (Ok None)
    takes_none e fresh less k = read_fresh e e fresh false (Ok None) (le-ltb fresh plot.blocks less) k (runs_done e None k.goes.knows)

    pub takes_next : (e f : Running) (fresh w : ℕ) → fresh < plot.blocks → w ≡ fresh_at (base plot) → RunsOn (read_cell b) d e (Ok fresh) → RunsOn (write_cell w (fresh + 1)) e f (Ok tt) → RunsOn (take plot) c f (Ok (Some fresh))
    takes_next e f fresh w less to k wrote = read_fresh e f fresh true (Ok (Some fresh)) (lt-ltb fresh plot.blocks less) k
        (runs_write (fresh_at (base plot)) (fresh + 1) _ e f f (Ok (Some fresh)) (subst (λ (x : ℕ). RunsOn (write_cell x (fresh + 1)) e f (Ok tt)) to wrote) (runs_done f (Some fresh) wrote.goes.knows))

-- what a giving that ran does to each free list
pub gives_on : (plot : Plot) (b : ℕ) (c d : Running) (result : Result (Unit {0}) Need) → RunsOn (give plot b) c d result → GivesToMemory plot (with_known d.part.known c.part) d.part b result
gives_on plot b c d result r = gives_to plot b (with_known d.part.known c.part) d.part result (runs_over (give plot b) c d result r)

-- the reads and writes of giving a block back
pub gives : (plot : Plot) (b : ℕ) (c d e f : Running) (front free link free2 : ℕ) → free ≡ free_at (base plot) → link ≡ link_at (base plot) b → free2 ≡ free_at (base plot) → RunsOn (read_cell free) c d (Ok front) → RunsOn (write_cell link front) d e (Ok tt) → RunsOn (write_cell free2 (b + 1)) e f (Ok tt) → RunsOn (give plot b) c f (Ok tt)
gives plot b c d e f front free link free2 is to to2 read wrote wrote2 =
    runs_read (free_at (base plot)) front _ c d f (Ok tt) (subst (λ (x : ℕ). RunsOn (read_cell x) c d (Ok front)) is read)
    (runs_write (link_at (base plot) b) front _ d e f (Ok tt) (subst (λ (x : ℕ). RunsOn (write_cell x front) d e (Ok tt)) to wrote)
    (subst (λ (x : ℕ). RunsOn (write_cell x (b + 1)) e f (Ok tt)) to2 wrote2))
