-- Giving a block back to a free list.
use Rattle.std.proofs.Common.{◌≡◌, ℕ, ◌+◌, ◌<◌, ◌≤◌, ◌≢◌, sym, ◌∙◌, subst, arith, List, [], ◌∷◌}
use Rattle.std.specs.List.{AllByRecursion as Each}
use Rattle.of_mem.specs.declared.plot.TheConstants.{MOST_BLOCKS}
use Rattle.std.specs.Prelude.{Result}
use Rattle.of_mem.specs.declared.part.Need.{Need}
use Rattle.of_mem.specs.declared.plot.Plot.{Plot}
use Rattle.of_mem.specs.Plots.{base}
use Rattle.of_mem.specs.Calls.{RunsProgram}
use Rattle.of_mem.specs.Places.{fresh_at, free_at, cells_at}
use Rattle.of_mem.specs.Part.{Part}
use Rattle.of_mem.specs.Programs.{with_value, with_writes, StaysBetween, IsPartOf, RunsAs}
use Rattle.of_mem.specs.Stores.{link_at}
use Rattle.of_mem.proofs.Changes.{changed_same, changed_other}
use Rattle.of_mem.proofs.Heaps.{chain_copy}
use Rattle.of_mem.proofs.Runs.{run_ended, after_ended}
use Rattle.of_mem.proofs.Calls.{so_ok}
use Rattle.of_alloc.specs.Blocks.{IsFreeList, IsOut, IsGiven, GivesToList, GivesToMemory}
use Rattle.of_alloc.specs.BlockPrograms.{give, give_program}
use Rattle.of_alloc.proofs.Takings.{free_small}

module _ (o blocks : ℕ) (m : ℕ → ℕ) (free : List ℕ) (b : ℕ) (h : IsFreeList o blocks m free) (out : IsOut o m free b) where
  abbrev linked : ℕ → ℕ
  linked = with_value m (link_at o b) (m (free_at o))

  abbrev given : ℕ → ℕ
  given = with_value linked (free_at o) (b + 1)

  other : (a : ℕ) → a ≢ link_at o b → a ≢ free_at o → given a ≡ m a
  other a n k = changed_other linked (free_at o) (b + 1) a k ∙ changed_other m (link_at o b) (m (free_at o)) a n

  fresh : given (fresh_at o) ≡ m (fresh_at o)
  fresh = other (fresh_at o) (λ e. omega arith) (λ e. omega arith)

  links : (l : List ℕ) → Each (λ x. x ≢ b) l → Each (λ x. given (link_at o x) ≡ m (link_at o x)) l
  links [] n = tt
  links (x ∷ l) n = (other (link_at o x) (λ e. n.0 (omega arith)) (λ e. omega arith), links l n.1)

  link : given (link_at o b) ≡ m (free_at o)
  link = changed_other linked (free_at o) (b + 1) (link_at o b) (λ e. omega arith) ∙ changed_same m (link_at o b) (m (free_at o))

  is_given : IsGiven o blocks m free b given
  is_given = record {
    list = record {
      linked = (changed_same linked (free_at o) (b + 1), chain_copy o m given (free_at o) (link_at o b) free link (links free out.1) h.linked);
      below = (rw fresh out.0, subst (λ (f : ℕ). Each (λ x. x < f) free) (sym fresh) h.below);
      few = rw fresh h.few;
    };
    others = λ x n. (λ was. (rw fresh was.0, ((λ (e : b ≡ x). n (sym e)), was.1)), λ is. (rw fresh at is.0, is.1.1));
    cells = other;
  }

  inside : blocks ≤ MOST_BLOCKS → StaysBetween o (cells_at o blocks) (give_program o b) m
  inside few = (omega arith, omega arith, (omega arith, omega (arith, out.0, h.few), free_small o blocks m free h few, (omega arith, omega arith, omega (arith, out.0, h.few), tt)))

  given_on : blocks ≤ MOST_BLOCKS → (p q : Part) (r : Unit {0}) → IsPartOf p m → RunsAs (give_program o b) p r q → IsPartOf q (with_writes m q.script) × IsGiven o blocks m free b (with_writes m q.script)
  given_on few p q r is e =
      let d = run_ended o (cells_at o blocks) (give_program o b) p q m r is (inside few) e in
      let same = after_ended (give_program o b) p q m r is d in
      (subst (IsPartOf q) same d.part, subst (IsGiven o blocks m free b) same is_given)

-- what a giving that ran does to each free list
pub gives_to : (plot : Plot) (b : ℕ) (p q : Part) (result : Result (Unit {0}) Need) → RunsProgram (give plot b) p q result → GivesToMemory plot p q b result
gives_to plot b p q result h = so_ok (give plot b) p q (λ r. (m : ℕ → ℕ) (free : List ℕ) → IsPartOf p m → IsFreeList (base plot) plot.blocks m free → IsOut (base plot) m free b → GivesToList plot m free b q) result h (λ r e m free is list out.
    let k = given_on (base plot) plot.blocks m free b list out plot.few_blocks p q r is e in record { part = k.0; given = k.1 })
