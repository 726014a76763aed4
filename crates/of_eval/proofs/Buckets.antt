-- A block of a bucket: its key and its value, and the faults of them.
use Rattle.std.proofs.Common.{◌≡◌, ℕ, ◌+◌, ◌%◌, ◌<◌, ◌≤◌, ◌≢◌, inl, inr, Bool, true, false, cond, eqb, List, [], ◌∷◌, Option, Some, None, is_some, refl, sym, ◌∙◌, ap, subst, arith}
use Rattle.std.specs.List.{AllByRecursion as Each}
use Rattle.std.specs.FinMap as fin
use Rattle.std.proofs.lemmas.Bool.{eqb-true, false≢true}
use Rattle.of_mem.specs.declared.plot.Plot.{Plot}
use Rattle.of_mem.specs.Places.{bucket_count, fresh_at}
use Rattle.of_mem.specs.Plots.{base}
use Rattle.of_mem.specs.ProgramWork.{memory_of}
use Rattle.of_mem.specs.Stores.{IsBucket, front_at, first_at, second_at, cell_after, value_in}
use Rattle.of_mem.proofs.Frames.{none_value}
use Rattle.of_script.specs.Language.{greatest}
use Rattle.of_store.specs.Store.{Store, stored_count, with_key}
use Rattle.of_eval.specs.Faults.{ContainsNumber, IsNoKey, LeadsToNewBlock, IsFirstFault, pointer_cell}
use Rattle.of_eval.specs.Faults.ChainFault.{Key, Value}
use Rattle.of_eval.specs.Walking.{HasWalked, HoldsWhatWasMet, IsBeforeChain, LinkLeadsOn}
use Rattle.of_eval.proofs.Paths.{has_each}
use Rattle.of_eval.proofs.Paintings.{room_left}
use Rattle.of_eval.proofs.Passing.{Fits, with_block, counted_few, leads_on, walked_step, walked_on, chain_fault}
use Rattle.of_eval.proofs.Filling.{bucket_push, bucket_kept, kept_blocks}

-- before a chain's first block the pointer cell is its front
pub here_start : (o blocks n : ℕ) (chains : ℕ → List ℕ) → chains n ≡ [] → pointer_cell o blocks n chains ≡ front_at o blocks n
here_start o blocks n chains e = ap (cell_after o (front_at o blocks n)) e

value_case : (o : ℕ) (m : ℕ → ℕ) (key v b : ℕ) (l : List ℕ) → (value_in o m key l ≡ Some v → (x : ℕ) × ContainsNumber l x × (m (first_at o x) ≡ key))
    → (t : Bool) → eqb (m (first_at o b)) key ≡ t → cond t (Some (m (second_at o b))) (value_in o m key l) ≡ Some v → (x : ℕ) × ContainsNumber (b ∷ l) x × (m (first_at o x) ≡ key)
value_case o m key v b l rest true q e = (b, inl refl, eqb-true (m (first_at o b)) key q)
value_case o m key v b l rest false q e = let r = rest e in (r.0, inr r.1, r.2)

-- a key with a value stands in a block
value_has : (o : ℕ) (m : ℕ → ℕ) (key v : ℕ) (l : List ℕ) → value_in o m key l ≡ Some v → (x : ℕ) × ContainsNumber l x × (m (first_at o x) ≡ key)
value_has o m key v [] e = absurd (false≢true (ap is_some e))
value_has o m key v (b ∷ l) e = value_case o m key v b l (value_has o m key v l) (eqb (m (first_at o b)) key) refl e

some_is : (x : Option ℕ) → is_some x ≡ true → (v : ℕ) × (x ≡ Some v)
some_is None e = absurd (false≢true e)
some_is (Some v) e = (v, refl)

module _ (p : Plot) (cells : List ℕ) (k : ℕ) (chains : ℕ → List ℕ) (owners : List ℕ) (s : Store) (k_in : k < bucket_count p.blocks) (w : HasWalked p cells (1 + k) 0 chains owners) (h : HoldsWhatWasMet p cells chains s) where
  -- a key that the store has was met in its bucket
  pub met_key : (key : ℕ) → key % bucket_count p.blocks ≡ k → is_some (fin.get s.keys key) ≡ true → IsNoKey (base p) p.blocks (memory_of cells) k (chains (1 + k)) key
  met_key key e there =
      let v = some_is (fin.get s.keys key) there in
      inr (inr (value_has (base p) (memory_of cells) key v.0 (chains (1 + k)) (ap (λ c. value_in (base p) (memory_of cells) key (chains (1 + c))) (sym e) ∙ sym (h.values key) ∙ v.1)))

  module _ (cell b : ℕ) (after : List ℕ) (is : cell ≡ pointer_cell (base p) p.blocks (1 + k) chains) (st : LinkLeadsOn cells cell (1 + k) owners after (Some b)) where
    leads : LeadsToNewBlock (base p) p.blocks (memory_of cells) (1 + k) chains b
    leads = leads_on p cells (1 + k) 0 chains owners w cell (1 + k) b after is st

    pub key_fault : (first : ℕ) → first ≡ first_at (base p) b → IsNoKey (base p) p.blocks (memory_of cells) k (chains (1 + k)) (memory_of cells first) → IsFirstFault p.callers p.instrs p.blocks (memory_of cells) first
    key_fault first e bad = chain_fault p cells (1 + k) 0 chains owners w first (counted_few (base p) p.blocks (memory_of cells) (1 + k) chains (omega arith))
        (Key k b k_in refl leads (subst (λ a. IsNoKey (base p) p.blocks (memory_of cells) k (chains (1 + k)) (memory_of cells a)) e bad) e)

    pub room : stored_count s < s.room
    room =
        let r = room_left p.blocks (memory_of cells (fresh_at (base p))) chains owners w.painted (1 + k) b (omega arith) st.1 st.2 in
        omega (arith, r, kept_blocks p cells chains s h, w.begun.few, h.room)

    module _ (good : memory_of cells (first_at (base p) b) ≤ greatest) (mine : memory_of cells (first_at (base p) b) % bucket_count p.blocks ≡ k) (absent : fin.get s.keys (memory_of cells (first_at (base p) b)) ≡ None) where
      apart : Each (λ x. memory_of cells (first_at (base p) x) ≢ memory_of cells (first_at (base p) b)) (chains (1 + k))
      apart =
          let at : 1 + memory_of cells (first_at (base p) b) % bucket_count p.blocks ≡ 1 + k = omega (arith, mine) in
          subst (λ c. Each (λ x. memory_of cells (first_at (base p) x) ≢ memory_of cells (first_at (base p) b)) (chains c)) at
          (none_value (base p) (memory_of cells) (memory_of cells (first_at (base p) b)) (chains (1 + memory_of cells (first_at (base p) b) % bucket_count p.blocks)) (sym (h.values (memory_of cells (first_at (base p) b))) ∙ absent))

      pub value_fault : (second : ℕ) → second ≡ second_at (base p) b → greatest < memory_of cells second → IsFirstFault p.callers p.instrs p.blocks (memory_of cells) second
      value_fault second e bad = chain_fault p cells (1 + k) 0 chains owners w second (counted_few (base p) p.blocks (memory_of cells) (1 + k) chains (omega arith))
          (Value k b k_in refl leads is_key (λ n. let great : greatest < memory_of cells (second_at (base p) b) = subst (λ a. greatest < memory_of cells a) e bad in omega (arith, n, great)) e)
        where
          is_key : IsNoKey (base p) p.blocks (memory_of cells) k (chains (1 + k)) (memory_of cells (first_at (base p) b)) → ⊥
          is_key (inl n) = n (omega (arith, good))
          is_key (inr (inl n)) = n mine
          is_key (inr (inr x)) = has_each (λ y. memory_of cells (first_at (base p) y) ≢ memory_of cells (first_at (base p) b)) (chains (1 + k)) x.0 apart x.1 x.2

      pub met_block : (value : memory_of cells (second_at (base p) b) ≤ greatest) → HasWalked p cells (1 + k) 0 (with_block chains (1 + k) b) after × HoldsWhatWasMet p cells (with_block chains (1 + k) b) (with_key s (memory_of cells (first_at (base p) b)) (memory_of cells (second_at (base p) b)))
      met_block value = (walked_step p cells (1 + k) 0 chains owners w (1 + k) b after refl (omega arith) (omega arith) st.1 st.2 st.3 leads fits, bucket_kept p cells chains s h (1 + k) k b k_in refl mine good value absent room)
        where
          fits : Fits (base p) p.blocks (memory_of cells) (1 + k) chains b
          fits = record {
            bucket = λ j j_in e. let same : k ≡ j = omega (arith, e) in
                bucket_push (base p) p.blocks (memory_of cells) j b (chains (1 + k)) (subst (λ i. IsBucket (base p) p.blocks (memory_of cells) i (chains (1 + k))) same (w.passed.buckets k k_in)) (mine ∙ same) (omega (arith, good)) (omega (arith, value)) apart;
            item = λ q q_in e. absurd (omega (arith, e, k_in));
          }

    module _ (first second : ℕ) (first_is : first ≡ first_at (base p) b) (second_is : second ≡ second_at (base p) b) (good : memory_of cells first ≤ greatest) (mine : memory_of cells first % bucket_count p.blocks ≡ k) (absent : fin.get s.keys (memory_of cells first) ≡ None) where
      good' : memory_of cells (first_at (base p) b) ≤ greatest
      good' = subst (λ a. memory_of cells a ≤ greatest) first_is good

      mine' : memory_of cells (first_at (base p) b) % bucket_count p.blocks ≡ k
      mine' = subst (λ a. memory_of cells a % bucket_count p.blocks ≡ k) first_is mine

      absent' : fin.get s.keys (memory_of cells (first_at (base p) b)) ≡ None
      absent' = subst (λ a. fin.get s.keys (memory_of cells a) ≡ None) first_is absent

      pub second_fault : greatest < memory_of cells second → IsFirstFault p.callers p.instrs p.blocks (memory_of cells) second
      second_fault bad = value_fault good' mine' absent' second second_is bad

      pub met_entry : (t : Store) → memory_of cells second ≤ greatest → t ≡ with_key s (memory_of cells first) (memory_of cells second) → HasWalked p cells (1 + k) 0 (with_block chains (1 + k) b) after × HoldsWhatWasMet p cells (with_block chains (1 + k) b) t
      met_entry t value t_is =
          let m = met_block good' mine' absent' (subst (λ a. memory_of cells a ≤ greatest) second_is value) in (
            m.0,
            subst (λ (x : Store). HoldsWhatWasMet p cells (with_block chains (1 + k) b) x)
                (sym (t_is ∙ ap (λ a. with_key s (memory_of cells a) (memory_of cells second)) first_is ∙ ap (λ a. with_key s (memory_of cells (first_at (base p) b)) (memory_of cells a)) second_is)) m.1,
          )

  -- the bucket ends
  pub bucket_ends : (cell : ℕ) (after : List ℕ) → cell ≡ pointer_cell (base p) p.blocks (1 + k) chains → memory_of cells cell ≡ 0 → after ≡ owners → IsBeforeChain p cells (2 + k) 0 after s
  bucket_ends cell after is z same = subst (λ (x : List ℕ). IsBeforeChain p cells (2 + k) 0 x s) (sym same) (record {
    chains = chains;
    walked = walked_on p cells (1 + k) 0 chains owners w (2 + k) cell (omega arith) is z;
    kept = h;
    start = w.passed.others (2 + k) (omega arith);
  })
