-- The walk of a key where more cells come to be known.
use Rattle.std.proofs.Common.{◌≡◌, ◌≢◌, ℕ, zero, suc, ◌+◌, ◌-◌, ◌<◌, ◌≤◌, ◌%◌, Bool, true, false, eqb, Option, Some, None, Ok, Err, sym, ◌∙◌, ap, subst, arith, List}
use Rattle.std.specs.Prelude.{Result, MatchResult}
use Rattle.of_mem.specs.declared.part.Need.{Need}
use Rattle.of_mem.specs.declared.plot.Plot.{Plot}
use Rattle.of_mem.specs.Plots.{base}
use Rattle.of_mem.specs.Places.{bucket_count, bucket_at}
use Rattle.of_mem.specs.Part.{Part, Extends, newest_at, with_known}
use Rattle.of_mem.specs.Programs.{Lacks, run_program, with_number, RunsAs, NeedsAt}
use Rattle.of_mem.specs.Stores.{first_at}
use Rattle.of_mem.specs.Walks.{Passes}
use Rattle.of_mem.specs.OnDemand.{Running, MayRun, RunsOn, RunGoesOn, HasOnlyRead, read_cell}
use Rattle.of_mem.proofs.Extended.{newest_more}
use Rattle.of_mem.proofs.Walks.{passes_more, passes_on}
use Rattle.of_mem.proofs.OnDemand.{extends_on, goes_further, only_read_on, only_read_runs, may_after_read, read_gave, read_lacked, still_known, now}
use Rattle.of_map.specs.declared.answers.Look.{Look}
use Rattle.of_map.specs.declared.answers.Look.TheVariants.{End, Here, Past}
use Rattle.of_map.specs.declared.answers.Position.{Position}
use Rattle.of_map.specs.Found.{HasChainFrom, HasBucketChain, Sees, Looks}
use Rattle.of_map.specs.MapPrograms.{seek, seek_from, look_from, with_pointer, compare_key, at_key}
use Rattle.of_map.proofs.Walking.{passes_lead, walk_ends, walk_finds, walk_lacks, passed_all, pointer_below, sees_none}

-- what one turn lacks, the whole walk lacks
module _ (o key n cell a : ℕ) (p : Part) where
  turn_ends : (b : ℕ) (t : Bool) → run_program (at_key o (seek_from o key 0) cell b t) p ≡ Lacks a → ⊥
  turn_ends b true e = cc
  turn_ends b false e = cc

  turn_key : (b : ℕ) (k : Option ℕ) → with_number k (first_at o b) (λ v. run_program (compare_key o key (seek_from o key 0) cell b v) p) ≡ Lacks a → with_number k (first_at o b) (λ v. run_program (compare_key o key (seek_from o key n) cell b v) p) ≡ Lacks a
  turn_key b None e = e
  turn_key b (Some k) e = absurd (turn_ends b (eqb k key) e)

  turn_pointer : (f : ℕ) → run_program (with_pointer o key (seek_from o key 0) cell f) p ≡ Lacks a → run_program (with_pointer o key (seek_from o key n) cell f) p ≡ Lacks a
  turn_pointer zero e = cc
  turn_pointer (suc b) e = turn_key b (newest_at p (first_at o b)) e

  turn_cell : (k : Option ℕ) → with_number k cell (λ v. run_program (with_pointer o key (seek_from o key 0) cell v) p) ≡ Lacks a → with_number k cell (λ v. run_program (with_pointer o key (seek_from o key n) cell v) p) ≡ Lacks a
  turn_cell None e = e
  turn_cell (Some f) e = turn_pointer f e

  pub turn_lacks : NeedsAt (seek_from o key 1 cell) p a → NeedsAt (seek_from o key (suc n) cell) p a
  turn_lacks e = turn_cell (newest_at p cell) e

-- the pointer cell at which the walk of a key begins
abbrev pub front_of : Plot → ℕ → ℕ
front_of plot key = bucket_at (base plot) plot.blocks (key % bucket_count plot.blocks)

-- the walk of the key has only read, and known pointers lead past so many blocks to this cell
pub record HasWalked (plot : Plot) (key : ℕ) (c d : Running) (passed cell : ℕ) : Type 0 where
  pub same : HasOnlyRead c.part d.part
  pub goes : RunGoesOn c d
  pub few : passed ≤ plot.blocks + 1
  pub passes : Passes (base plot) key d.part passed (front_of plot key) cell

-- a look may be made where the walk came to
pub may_look : (plot : Plot) (key : ℕ) (c d : Running) (passed cell : ℕ) → MayRun (seek plot key) (λ p. HasBucketChain plot p key) c → HasWalked plot key c d passed cell → passed < plot.blocks + 1 → MayRun (look_from plot key cell) (λ p. HasChainFrom plot p cell) d
may_look plot key c d passed cell h w few = record {
  knows = w.goes.knows;
  always = λ more e k. passes_lead plot key (with_known more d.part) passed (front_of plot key) cell (further more e)
      (subst (λ (p : Part). HasBucketChain plot p key) (sym (at_more more)) (h.always more (wider more e) (w.goes.may_know more k)));
  serves = λ more e k a lacks. w.goes.lacks more a (h.serves more (wider more e) (w.goes.may_know more k) a (subst (λ (p : Part). NeedsAt (seek plot key) p a) (at_more more)
      (walk_lacks plot key (with_known more d.part) (front_of plot key) passed cell few (further more e) a (λ n. turn_lacks (base plot) key n cell a (with_known more d.part) lacks))));
}
  where
    at_more : (more : List (Option ℕ)) → with_known more d.part ≡ with_known more c.part
    at_more more = ap (with_known more) w.same

    wider : (more : List (Option ℕ)) → Extends more d.part.known → Extends more c.part.known
    wider more e = extends_on c.part.known d.part.known more w.goes.more e

    further : (more : List (Option ℕ)) → Extends more d.part.known → Passes (base plot) key (with_known more d.part) passed (front_of plot key) cell
    further more e = passes_more (base plot) key d.part (with_known more d.part) passed (front_of plot key) cell (λ a v is. newest_more more d.part a v e is) w.passes

-- behind a look at the cell to which the walk came
module _ (plot : Plot) (key : ℕ) (c d : Running) (passed cell : ℕ) (w : HasWalked plot key c d passed cell) (few : passed < plot.blocks + 1) (e : Running) (same : HasOnlyRead d.part e.part) (goes : RunGoesOn d e) where
  still : Passes (base plot) key e.part passed (front_of plot key) cell
  still = passes_more (base plot) key d.part e.part passed (front_of plot key) cell (λ a v is. still_known d e a v same goes is) w.passes

  pub may_keep : (passed ≤ plot.blocks) × Passes (base plot) key e.part passed (front_of plot key) cell
  may_keep = (omega (arith, few), still)

  only_read : HasOnlyRead c.part e.part
  only_read = only_read_on c.part d.part e.part w.same same

  stops : (result : Result (Option Position) Need) → MatchResult result (λ r. RunsAs (seek plot key) e.part r e.part) (λ need. NeedsAt (seek plot key) e.part need.addr) → RunsOn (seek plot key) c e result
  stops result k = only_read_runs (seek plot key) c e result only_read (goes_further c d e w.goes goes) k

  pub lacks_there : (need : Need) → Looks plot e.part key cell (Err need) → RunsOn (seek plot key) c e (Err need)
  lacks_there need k = stops (Err need) (walk_lacks plot key e.part (front_of plot key) passed cell few still need.addr k)

  pub ends_there : (l : Look) → l ≡ End → Sees plot e.part key cell l → RunsOn (seek plot key) c e (Ok None)
  ends_there l is k = stops (Ok None) (walk_ends plot key e.part (front_of plot key) passed cell few still (subst (Sees plot e.part key cell) is k))

  pub finds_there : (l : Look) (b : ℕ) → l ≡ Here b → Sees plot e.part key cell l → RunsOn (seek plot key) c e (Ok (Some (record { cell = cell; block = b })))
  finds_there l b is k =
      let sees = subst (Sees plot e.part key cell) is k in
      stops (Ok (Some (record { cell = cell; block = b }))) (walk_finds plot key e.part (front_of plot key) passed cell few still b sees.0 sees.1)

  pub walks_past : (l : Look) (link : ℕ) → l ≡ Past link → Sees plot e.part key cell l → HasWalked plot key c e (passed + 1) link
  walks_past l link is k =
      let sees = subst (Sees plot e.part key cell) is k in
      record {
        same = only_read;
        goes = goes_further c d e w.goes goes;
        few = omega (arith, few);
        passes = rw sees.5 (passes_on (base plot) key e.part passed (front_of plot key) cell sees.0 sees.1 sees.2 sees.3 sees.4 still);
      }

-- a walk that passed more blocks than there are
pub walked_all : (plot : Plot) (key : ℕ) (c d : Running) (passed cell : ℕ) → HasWalked plot key c d passed cell → plot.blocks + 1 ≤ passed → RunsOn (seek plot key) c d (Ok None)
walked_all plot key c d passed cell w all = only_read_runs (seek plot key) c d (Ok None) w.same w.goes (passed_all plot key d.part (front_of plot key) passed cell (omega (arith, w.few, all)) w.passes)

-- behind the read of the pointer
module _ (plot : Plot) (key cell : ℕ) (c d : Running) (h : MayRun (look_from plot key cell) (λ p. HasChainFrom plot p cell) c) (f : ℕ) (r : RunsOn (read_cell cell) c d (Ok f)) where
  may : MayRun (with_pointer (base plot) key (seek_from (base plot) key 0) cell f) (λ p. HasChainFrom plot p cell) d
  may = may_after_read cell f (with_pointer (base plot) key (seek_from (base plot) key 0) cell) (λ p. HasChainFrom plot p cell) c d h r

  pub leads_there : HasChainFrom plot d.part cell
  leads_there = now (λ p. HasChainFrom plot p cell) d may.knows may.always

  pub pointer_inside : f ≢ 0 → f - 1 < plot.blocks
  pointer_inside n = pointer_below plot d.part cell f leads_there (read_gave cell f c d r).1 n

  -- and behind the read of the block's key
  module _ (n : f ≢ 0) (a : ℕ) (is : a ≡ first_at (base plot) (f - 1)) (e : Running) (same : HasOnlyRead d.part e.part) where
    points : RunGoesOn d e → newest_at e.part cell ≡ Some (suc (f - 1))
    points g =
        let some : f ≡ suc (f - 1) = omega (arith, n) in
        still_known d e cell f same g (read_gave cell f c d r).1 ∙ ap Some some

    pub needs_key : (need : Need) → RunsOn (read_cell a) d e (Err need) → (m : ℕ) → NeedsAt (seek_from (base plot) key (suc m) cell) e.part need.addr
    needs_key need s m =
        let k = read_lacked a d e need same s in
        sees_none (base plot) key m cell (f - 1) e.part (points s.goes) (subst (λ (x : ℕ). newest_at e.part x ≡ None) is k.0) ∙ ap Lacks (sym is ∙ sym k.1)

    -- the block and its key
    pub has_key : (k : ℕ) → RunsOn (read_cell a) d e (Ok k) → (newest_at e.part cell ≡ Some (suc (f - 1))) × (newest_at e.part (first_at (base plot) (f - 1)) ≡ Some k)
    has_key k s = (points s.goes, subst (λ (x : ℕ). newest_at e.part x ≡ Some k) is (read_gave a k d e s).1)
