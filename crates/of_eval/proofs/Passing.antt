-- The walk meets one block more, ends a chain, or stops at a fault.
use Rattle.std.proofs.Common.{◌≡◌, ℕ, ◌+◌, ◌-◌, ◌<◌, ◌≤◌, ◌≢◌, ◌⊎◌, inl, inr, List, [], ◌∷◌, ◌++◌, length, get_or, set, sym, ◌∙◌, ap, subst, arith, Some}
use Rattle.std.specs.List.{AllByRecursion as Each, AllPairs}
use Rattle.std.proofs.lemmas.Bool.{cases_eq}
use Rattle.of_mem.specs.declared.plot.Plot.{Plot}
use Rattle.of_mem.specs.Places.{bucket_count, fresh_at, keys_at}
use Rattle.of_mem.specs.Plots.{base}
use Rattle.of_mem.specs.ProgramWork.{memory_of}
use Rattle.of_mem.specs.Programs.{with_value}
use Rattle.of_mem.specs.Numbers.{IsNumber}
use Rattle.of_mem.specs.Stores.{out_chain, queue_chain, IsChain, IsBucket, front_at, first_at, link_at, cell_after}
use Rattle.of_mem.proofs.Changes.{changed_same, changed_other, changed_cases, total_changed_past}
use Rattle.of_mem.proofs.Heaps.{each_append}
use Rattle.of_eval.specs.declared.lawful_cells.LawErr.{LawErr}
use Rattle.of_eval.specs.declared.lawful_cells.LawErr.TheVariants.{Memory, Unlawful}
use Rattle.of_eval.specs.Faults.{IsPath, IsMet, LeadsToNewBlock, HasPassed, HasRightCounts, ChainFault, IsFirstFault, pointer_cell}
use Rattle.of_eval.specs.Faults.ChainFault.{Pointer}
use Rattle.of_eval.specs.Faults.IsFirstFault.{Chain}
use Rattle.of_eval.specs.Walking.{OwnersMatchChains, HasWalked, LinkLeadsOn, LinkIsAtFault, NamesFault}
use Rattle.of_eval.proofs.Paths.{path_push, cell_push, path_chain, once_push}
use Rattle.of_eval.proofs.Paintings.{owned_of, not_met, painted_step}

-- a chain with one block more
abbrev pub with_block : (ℕ → List ℕ) → ℕ → ℕ → ℕ → List ℕ
with_block chains n b = with_value chains n (chains n ++ b ∷ [])

-- what stands in a block fits its chain
pub record Fits (o blocks : ℕ) (m : ℕ → ℕ) (n : ℕ) (chains : ℕ → List ℕ) (b : ℕ) : Type 0 where
  pub bucket : (k : ℕ) → k < bucket_count blocks → n ≡ 1 + k → IsBucket o blocks m k (chains n ++ b ∷ [])
  pub item : (q : ℕ) → q < 4 → n ≡ queue_chain blocks q → IsNumber (m (first_at o b))

module _ (o blocks : ℕ) (m : ℕ → ℕ) (n : ℕ) (chains : ℕ → List ℕ) (h : HasPassed o blocks m n chains) where
  passed_step : (b : ℕ) (owners : List ℕ) → OwnersMatchChains blocks (m (fresh_at o)) (with_block chains n b) owners → LeadsToNewBlock o blocks m n chains b → Fits o blocks m n chains b → HasPassed o blocks m n (with_block chains n b)
  passed_step b owners p l f = record {
    linked = λ c k. subst (λ (x : List ℕ). IsChain o m (front_at o blocks c) x) (sym (changed_other chains n (chains n ++ b ∷ []) c (λ e. omega (arith, e)))) (h.linked c k);
    path = subst (λ (x : List ℕ). IsPath o m (front_at o blocks n) x) (sym (changed_same chains n (chains n ++ b ∷ []))) (path_push o m (front_at o blocks n) b (chains n) h.path l.pointer);
    others = λ c k. changed_other chains n (chains n ++ b ∷ []) c (λ e. omega (arith, e)) ∙ h.others c k;
    owner = λ x. get_or owners x 0 - 1;
    owned = owned_of blocks (m (fresh_at o)) (with_block chains n b) owners p;
    once = subst (λ (x : List ℕ). AllPairs (λ y z. y ≢ z) x) (sym (changed_same chains n (chains n ++ b ∷ []))) (once_push (chains n) b h.once (λ k. l.unmet (n, k)));
    buckets = λ k k_in. changed_cases (λ c x. IsBucket o blocks m k x) chains n (chains n ++ b ∷ []) (1 + k) (λ e. f.bucket k k_in (sym e)) (λ e. h.buckets k k_in);
    items = λ q q_in. changed_cases (λ c x. Each (λ y. IsNumber (m (first_at o y))) x) chains n (chains n ++ b ∷ []) (queue_chain blocks q)
        (λ e. each_append (λ y. IsNumber (m (first_at o y))) (chains n) (b ∷ []) (subst (λ c. Each (λ y. IsNumber (m (first_at o y))) (chains c)) e (h.items q q_in)) (f.item q q_in (sym e), tt))
        (λ e. h.items q q_in);
  }

  -- the chain ends here
  passed_on : (k : ℕ) → k ≡ n + 1 → m (pointer_cell o blocks n chains) ≡ 0 → HasPassed o blocks m k chains
  passed_on k is e =
      let none : chains k ≡ [] = h.others k (omega (arith, is)) in
      record {
        linked = λ c l. elim (cases_eq c n) [
          | inl q ↦ subst (λ (d : ℕ). IsChain o m (front_at o blocks d) (chains d)) (sym q) (path_chain o m (front_at o blocks n) (chains n) h.path e)
          | inr q ↦ h.linked c (omega (arith, q, l, is))
        ];
        path = subst (λ (x : List ℕ). IsPath o m (front_at o blocks k) x) (sym none) tt;
        others = λ c l. h.others c (omega (arith, is, l));
        owner = h.owner;
        owned = h.owned;
        once = subst (λ (x : List ℕ). AllPairs (λ y z. y ≢ z) x) (sym none) (λ i j d lt within. absurd (omega arith));
        buckets = h.buckets;
        items = h.items;
      }

-- there is nothing to count behind the first chains
pub counted_few : (o blocks : ℕ) (m : ℕ → ℕ) (k : ℕ) (chains : ℕ → List ℕ) → k < queue_chain blocks 0 → HasRightCounts o blocks m k chains
counted_few o blocks m k chains l = record { keys = λ h. absurd (omega arith); tails = λ q h. absurd (omega arith); lengths = λ q h. absurd (omega arith) }

counted_step : (o blocks : ℕ) (m : ℕ → ℕ) (k n : ℕ) (chains : ℕ → List ℕ) (l : List ℕ) → k ≤ n → HasRightCounts o blocks m k chains → HasRightCounts o blocks m k (with_value chains n l)
counted_step o blocks m k n chains l below h = record {
  keys = λ p. let e : with_value chains n l 0 ≡ chains 0 = changed_other chains n l 0 (λ q. omega (arith, q)) in ap (λ (x : List ℕ). m (keys_at o) + length x) e ∙ h.keys p ∙ sym (total_changed_past chains n l (queue_chain blocks 0) (omega (arith, p)));
  tails = λ q p. let e : with_value chains n l (queue_chain blocks q) ≡ chains (queue_chain blocks q) = changed_other chains n l (queue_chain blocks q) (λ i. omega (arith, i, p)) in rw e (h.tails q p);
  lengths = λ q p. let e : with_value chains n l (queue_chain blocks q) ≡ chains (queue_chain blocks q) = changed_other chains n l (queue_chain blocks q) (λ i. omega (arith, i, p)) in rw e (h.lengths q p);
}

module _ (p : Plot) (cells : List ℕ) (n k : ℕ) (chains : ℕ → List ℕ) (owners : List ℕ) (w : HasWalked p cells n k chains owners) where
  -- a pointer that was followed
  pub leads_on : (cell chain b : ℕ) (after : List ℕ) → cell ≡ pointer_cell (base p) p.blocks n chains → LinkLeadsOn cells cell chain owners after (Some b) → LeadsToNewBlock (base p) p.blocks (memory_of cells) n chains b
  leads_on cell chain b after e s = record {
    pointer = ap (memory_of cells) (sym e) ∙ s.0;
    below = subst (λ (x : ℕ). b < x) w.painted.sized s.1;
    unmet = not_met p.blocks (memory_of cells (fresh_at (base p))) chains owners w.painted b s.2;
  }

  pub walked_step : (chain b : ℕ) (after : List ℕ) → chain ≡ n → n < out_chain p.blocks → k ≤ n → b < length owners → get_or owners b 0 ≡ 0 → after ≡ set owners b (chain + 1) → LeadsToNewBlock (base p) p.blocks (memory_of cells) n chains b → Fits (base p) p.blocks (memory_of cells) n chains b
      → HasWalked p cells n k (with_block chains n b) after
  walked_step chain b after is n_in k_in b_in free e l f =
      let painted = painted_step p.blocks (memory_of cells (fresh_at (base p))) chains owners w.painted n b n_in b_in free in
      let e' : after ≡ set owners b (n + 1) = e ∙ ap (λ (x : ℕ). set owners b (x + 1)) is in
      subst (λ (x : List ℕ). HasWalked p cells n k (with_block chains n b) x) (sym e') (record {
        begun = w.begun;
        passed = passed_step (base p) p.blocks (memory_of cells) n chains w.passed b (set owners b (n + 1)) painted l f;
        counted = counted_step (base p) p.blocks (memory_of cells) k n chains (chains n ++ b ∷ []) k_in w.counted;
        painted = painted;
      })

  pub walked_on : (j cell : ℕ) → j ≡ n + 1 → cell ≡ pointer_cell (base p) p.blocks n chains → memory_of cells cell ≡ 0 → HasWalked p cells j k chains owners
  walked_on j cell is e z = record {
    begun = w.begun;
    passed = passed_on (base p) p.blocks (memory_of cells) n chains w.passed j is (ap (memory_of cells) (sym e) ∙ z);
    counted = w.counted;
    painted = w.painted;
  }

  pub chain_fault : (cell : ℕ) → HasRightCounts (base p) p.blocks (memory_of cells) n chains → ChainFault (base p) p.blocks (memory_of cells) n chains cell → IsFirstFault p.callers p.instrs p.blocks (memory_of cells) cell
  chain_fault cell c f = Chain w.begun n chains w.passed c f

  pub pointer_fault : (cell : ℕ) (e : LawErr) → n < out_chain p.blocks → HasRightCounts (base p) p.blocks (memory_of cells) n chains → cell ≡ pointer_cell (base p) p.blocks n chains → LinkIsAtFault cells cell owners e → NamesFault p cells e
  pointer_fault cell Memory l c is s = tt
  pointer_fault cell (Unlawful at) l c is s = chain_fault at c (Pointer l s.1.0 (ap (memory_of cells) (sym is) ∙ s.1.1) (bad s.1.2) (s.0 ∙ is))
    where
      bad : (length owners ≤ s.1.0) ⊎ (get_or owners s.1.0 0 ≢ 0) → (memory_of cells (fresh_at (base p)) ≤ s.1.0) ⊎ IsMet chains s.1.0
      bad (inl q) = inl (subst (λ (x : ℕ). x ≤ s.1.0) w.painted.sized q)
      bad (inr q) = inr (w.painted.met s.1.0 q)

  -- the pointer cell behind one block more
  pub here_push : (b : ℕ) → pointer_cell (base p) p.blocks n (with_block chains n b) ≡ link_at (base p) b
  here_push b = ap (λ (l : List ℕ). cell_after (base p) (front_at (base p) p.blocks n) l) (changed_same chains n (chains n ++ b ∷ [])) ∙ cell_push (base p) (front_at (base p) p.blocks n) b (chains n)
