-- Taking a block from a free list.
use Rattle.std.proofs.Common.{◌≡◌, ℕ, zero, suc, ◌+◌, ◌-◌, ◌<◌, ◌≤◌, ◌≢◌, refl, sym, ◌∙◌, subst, arith, ltb, Bool, true, false, Option, Some, None, List, [], ◌∷◌}
use Rattle.std.proofs.lemmas.Bool.{ltb-true, ltb-false}
use Rattle.std.specs.List.{AllByRecursion as Each}
use Rattle.of_mem.specs.Numbers.{FitsCell}
use Rattle.of_mem.specs.declared.plot.TheConstants.{MOST_BLOCKS}
use Rattle.std.specs.Prelude.{Result}
use Rattle.of_mem.specs.declared.part.Need.{Need}
use Rattle.of_mem.specs.declared.plot.Plot.{Plot}
use Rattle.of_mem.specs.Plots.{base, data_cell_count}
use Rattle.of_mem.specs.Calls.{RunsProgram}
use Rattle.of_mem.specs.Places.{fresh_at, free_at, cells_at}
use Rattle.of_mem.specs.Part.{Part, newest_at}
use Rattle.of_mem.specs.Programs.{Program, program_answer, memory_after, program_writes, with_value, with_writes, StaysBetween, IsPartOf, RunsAs}
use Rattle.of_mem.specs.Stores.{link_at}
use Rattle.of_mem.proofs.Changes.{changed_same, changed_other}
use Rattle.of_mem.proofs.Heaps.{chain_copy, chain_once}
use Rattle.of_mem.proofs.Runs.{run_ended, after_ended, unchanged}
use Rattle.of_mem.proofs.Calls.{so_ok}
use Rattle.of_alloc.specs.Blocks.{IsFreeList, IsBlockTaken, TakesBlock, HasFreeList, TakesFromList, TakesFromMemory}
use Rattle.of_alloc.specs.BlockPrograms.{take, take_program, with_free, take_fresh}

-- the front of the free list is a block
pub front_below : (o blocks : ℕ) (m : ℕ → ℕ) (free : List ℕ) (f : ℕ) → IsFreeList o blocks m free → m (free_at o) ≡ f → f ≢ 0 → f - 1 < blocks
front_below o blocks m [] f h e n = absurd (n (sym e ∙ h.linked))
front_below o blocks m (x ∷ l) f h e n = omega (arith, h.linked.0, h.below.0, h.few)

-- so is what its link leads to
next_small : (o blocks : ℕ) (m : ℕ → ℕ) (b : ℕ) (l : List ℕ) → IsFreeList o blocks m (b ∷ l) → blocks ≤ MOST_BLOCKS → FitsCell (m (link_at o b))
next_small o blocks m b [] h few = omega (arith, h.linked.1)
next_small o blocks m b (x ∷ l) h few = omega (arith, h.linked.1.0, h.below.1.0, h.few)

pub free_small : (o blocks : ℕ) (m : ℕ → ℕ) (free : List ℕ) → IsFreeList o blocks m free → blocks ≤ MOST_BLOCKS → FitsCell (m (free_at o))
free_small o blocks m [] h few = omega (arith, h.linked)
free_small o blocks m (x ∷ l) h few = omega (arith, h.linked.0, h.below.0, h.few)

module _ (o blocks : ℕ) (m : ℕ → ℕ) where
  abbrev from_front : ℕ → ℕ → ℕ
  from_front b = with_value m (free_at o) (m (link_at o b))

  front_taken : (b : ℕ) (l : List ℕ) → IsFreeList o blocks m (b ∷ l) → IsBlockTaken o blocks m (b ∷ l) b (from_front b)
  front_taken b l h = record {
    left = l;
    list = record {
      linked = chain_copy o m (from_front b) (link_at o b) (free_at o) l (changed_same m (free_at o) (m (link_at o b))) (links l) h.linked.1;
      below = rw fresh h.below.1;
      few = rw fresh h.few;
    };
    was_in = λ out. out.1.0 refl;
    goes_out = (rw fresh h.below.0, chain_once o m (free_at o) b l h.linked);
    others = λ x n. (λ out. (rw fresh out.0, out.1.1), λ out. (rw fresh at out.0, ((λ (e : b ≡ x). n (sym e)), out.1)));
    cells = λ a n k. changed_other m (free_at o) (m (link_at o b)) a n;
  }
    where
      fresh : with_value m (free_at o) (m (link_at o b)) (fresh_at o) ≡ m (fresh_at o)
      fresh = changed_other m (free_at o) (m (link_at o b)) (fresh_at o) (λ e. omega arith)

      links : (l : List ℕ) → Each (λ x. with_value m (free_at o) (m (link_at o b)) (link_at o x) ≡ m (link_at o x)) l
      links [] = tt
      links (x ∷ l) = (changed_other m (free_at o) (m (link_at o b)) (link_at o x) (λ e. omega arith), links l)

  abbrev from_fresh : ℕ → ℕ
  from_fresh = with_value m (fresh_at o) (m (fresh_at o) + 1)

  fresh_taken : IsFreeList o blocks m [] → m (fresh_at o) < blocks → IsBlockTaken o blocks m [] (m (fresh_at o)) from_fresh
  fresh_taken h less = record {
    left = [];
    list = record {
      linked = changed_other m (fresh_at o) (m (fresh_at o) + 1) (free_at o) (λ e. omega arith) ∙ h.linked;
      below = tt;
      few = rw fresh (omega arith);
    };
    was_in = λ out. omega (arith, out.0);
    goes_out = (rw fresh (omega arith), tt);
    others = λ x n. (λ out. (rw fresh (omega (arith, out.0)), tt), λ out. ((let l : x < m (fresh_at o) + 1 = rw fresh at out.0 in omega arith), tt));
    cells = λ a n k. changed_other m (fresh_at o) (m (fresh_at o) + 1) a k;
  }
    where
      fresh : with_value m (fresh_at o) (m (fresh_at o) + 1) (fresh_at o) ≡ m (fresh_at o) + 1
      fresh = changed_same m (fresh_at o) (m (fresh_at o) + 1)

  module _ (few : blocks ≤ MOST_BLOCKS) where
    -- what a taking reads, writes and does, by the pointer that free holds
    pub record Run (free : List ℕ) (f : Program (Option ℕ)) : Type 0 where
      pub inside : StaysBetween o (cells_at o blocks) f m
      pub takes : TakesBlock o blocks m free (program_answer f m) (memory_after f m)
      pub quiet : program_answer f m ≡ None → program_writes f m ≡ []

    by_fresh : IsFreeList o blocks m [] → (t : Bool) → ltb (m (fresh_at o)) blocks ≡ t → Run [] (take_fresh o (m (fresh_at o)) t)
    by_fresh h true e = let less : m (fresh_at o) < blocks = ltb-true (m (fresh_at o)) blocks e in
        record { inside = (omega arith, omega arith, omega arith, tt); takes = fresh_taken h less; quiet = λ (q : Some (m (fresh_at o)) ≡ None). cc }
    by_fresh h false e = let more : blocks ≤ m (fresh_at o) = ltb-false (m (fresh_at o)) blocks e in
        record { inside = tt; takes = (refl, omega (arith, h.few), refl); quiet = λ _. refl }

    by_front : (free : List ℕ) → IsFreeList o blocks m free → (f : ℕ) → m (free_at o) ≡ f → Run free (with_free o blocks f)
    by_front [] h zero e = let k = by_fresh h (ltb (m (fresh_at o)) blocks) refl in record { inside = (omega arith, omega arith, k.inside); takes = k.takes; quiet = k.quiet }
    by_front [] h (suc b) e = absurd (omega (arith, h.linked))
    by_front (x ∷ l) h zero e = absurd (omega (arith, h.linked.0))
    by_front (x ∷ l) h (suc b) e = let q : x ≡ b = omega (arith, h.linked.0) in
        subst (λ (y : ℕ). Run (y ∷ l) (with_free o blocks (suc b))) (sym q) (here (subst (λ (y : ℕ). IsFreeList o blocks m (y ∷ l)) q h))
      where
        here : IsFreeList o blocks m (b ∷ l) → Run (b ∷ l) (with_free o blocks (suc b))
        here h = record { inside = (omega arith, omega (arith, h.below.0, h.few), (omega arith, omega arith, next_small o blocks m b l h few, tt)); takes = front_taken b l h; quiet = λ (q : Some b ≡ None). cc }

    pub taking : (free : List ℕ) → IsFreeList o blocks m free → Run free (take_program o blocks)
    taking free h = let k = by_front free h (m (free_at o)) refl in record { inside = (omega arith, omega arith, k.inside); takes = k.takes; quiet = k.quiet }

    taken_on : (free : List ℕ) (p q : Part) (r : Option ℕ) → IsPartOf p m → IsFreeList o blocks m free → RunsAs (take_program o blocks) p r q → IsPartOf q (with_writes m q.script) × TakesBlock o blocks m free r (with_writes m q.script)
    taken_on free p q r is h e =
        let k = taking free h in
        let d = run_ended o (cells_at o blocks) (take_program o blocks) p q m r is k.inside e in
        let same = after_ended (take_program o blocks) p q m r is d in
        (subst (IsPartOf q) same d.part, subst (TakesBlock o blocks m free r) same (subst (λ (x : Option ℕ). TakesBlock o blocks m free x (memory_after (take_program o blocks) m)) (sym d.answers) k.takes))

-- what a taking that ran does to each free list
pub takes_from : (plot : Plot) (p q : Part) (result : Result (Option ℕ) Need) → HasFreeList plot p → RunsProgram (take plot) p q result → TakesFromMemory plot p q result
takes_from plot p q result has h = record {
  takes = so_ok (take plot) p q (λ r. (m : ℕ → ℕ) (free : List ℕ) → IsPartOf p m → IsFreeList (base plot) plot.blocks m free → TakesFromList plot m free r q) result h (λ r e m free is list.
      let k = taken_on (base plot) plot.blocks m plot.few_blocks free p q r is list e in record { part = k.0; takes = k.1 });
  none = so_ok (take plot) p q (λ r. r ≡ None → q ≡ p) result h (λ r e none.
      let k = taking (base plot) plot.blocks has.memory plot.few_blocks has.free has.list in
      let d = run_ended (base plot) (data_cell_count plot) (take plot) p q has.memory r has.part k.inside e in
      unchanged (take plot) p q has.memory r d (k.quiet (sym d.answers ∙ none)));
}

pub front_read : (plot : Plot) (p : Part) (f a : ℕ) → HasFreeList plot p → a ≡ free_at (base plot) → newest_at p a ≡ Some f → f ≢ 0 → f - 1 < plot.blocks
front_read plot p f a h at e n = front_below (base plot) plot.blocks h.memory h.free f h.list (h.part (free_at (base plot)) f (rw at at e)) n
