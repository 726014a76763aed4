-- The store while it is filled with what the blocks hold that are met.
use Rattle.std.proofs.Common.{◌≡◌, ℕ, ◌+◌, ◌%◌, ◌<◌, ◌≤◌, ◌≢◌, inl, inr, Bool, cond, eqb, eq-eqb, List, [], ◌∷◌, ◌++◌, length, map, refl, sym, ◌∙◌, ap, subst, arith, Some, None, length-append}
use Rattle.std.specs.List.{AllByRecursion as Each}
use Rattle.std.specs.FinMap as fin
use Rattle.std.specs.Cmp.{nat_cmp_total}
use Rattle.std.proofs.lemmas.Bool.{cases_eq, ne_eqb}
use Rattle.std.proofs.lemmas.List.{append-nil, length-map, map-append, get_or-set_same, get_or-set_other}
use Rattle.of_mem.specs.declared.plot.Plot.{Plot}
use Rattle.of_mem.specs.Plots.{base}
use Rattle.of_mem.specs.ProgramWork.{memory_of}
use Rattle.of_mem.specs.Numbers.{IsNumber}
use Rattle.of_mem.specs.Stores.{out_chain, queue_chain, IsBucket, first_at, second_at, value_in, blocks_in_chains}
use Rattle.of_mem.proofs.BucketPlaces.{key_bucket}
use Rattle.of_mem.proofs.Changes.{changed_same, changed_other, changed_cases, total_changed, total_changed_past}
use Rattle.of_mem.proofs.Counts.{queue_chains}
use Rattle.of_mem.proofs.Frames.{none_value, value_without}
use Rattle.of_mem.proofs.Heaps.{each_append}
use Rattle.of_alloc.proofs.Leaving.{keys_tie}
use Rattle.of_script.specs.Language.{greatest}
use Rattle.of_store.specs.Store.{Store, stored_count, queue, with_key, with_queue}
use Rattle.of_store.proofs.Kept.{kept_put}
use Rattle.of_store.proofs.Keeps.{put_keeps, queue_keeps, small_pushed}
use Rattle.of_eval.specs.Instructions.{things_kept}
use Rattle.of_eval.specs.Walking.{HoldsWhatWasMet}
use Rattle.of_eval.proofs.Passing.{with_block}
use Rattle.of_mem.specs.Places.{bucket_count}

-- a bucket with one block more
pub bucket_push : (o blocks : ℕ) (m : ℕ → ℕ) (k b : ℕ) (l : List ℕ) → IsBucket o blocks m k l → m (first_at o b) % bucket_count blocks ≡ k → IsNumber (m (first_at o b)) → IsNumber (m (second_at o b)) → Each (λ x. m (first_at o x) ≢ m (first_at o b)) l
    → IsBucket o blocks m k (l ++ b ∷ [])
bucket_push o blocks m k b [] h e i j n = (e, i, j, tt, tt)
bucket_push o blocks m k b (x ∷ l) h e i j n =
    (h.0, h.1, h.2, each_append (λ y. m (first_at o y) ≢ m (first_at o x)) l (b ∷ []) h.3 ((λ q. n.0 (sym q)), tt), bucket_push o blocks m k b l h.4 e i j n.1)

value_last : (o : ℕ) (m : ℕ → ℕ) (key b : ℕ) (l : List ℕ) → Each (λ x. m (first_at o x) ≢ key) l → m (first_at o b) ≡ key → value_in o m key (l ++ b ∷ []) ≡ Some (m (second_at o b))
value_last o m key b [] n e = rw (eq-eqb (m (first_at o b)) key e) refl
value_last o m key b (x ∷ l) n e = rw (ne_eqb (m (first_at o x)) key n.0) (value_last o m key b l n.1 e)

value_past : (o : ℕ) (m : ℕ → ℕ) (key b : ℕ) (l : List ℕ) → m (first_at o b) ≢ key → value_in o m key (l ++ b ∷ []) ≡ value_in o m key l
value_past o m key b l n = sym (value_without o m key b l [] n) ∙ ap (value_in o m key) (append-nil l)

module _ (p : Plot) (cells : List ℕ) (chains : ℕ → List ℕ) (s : Store) (h : HoldsWhatWasMet p cells chains s) where
  abbrev o : ℕ
  o = base p

  abbrev m : ℕ → ℕ
  m = memory_of cells

  pub lengths : (q : ℕ) → q < 4 → length (chains (queue_chain p.blocks q)) ≡ length (queue s q)
  lengths q l = sym (length-map (chains (queue_chain p.blocks q)) (λ (b : ℕ). m (first_at o b))) ∙ ap length (h.items q l)

  -- as many things are kept as blocks stand behind the free list
  pub kept_blocks : stored_count s + length (chains 0) ≡ blocks_in_chains chains (out_chain p.blocks)
  kept_blocks =
      let t : blocks_in_chains chains (out_chain p.blocks) ≡ blocks_in_chains chains (queue_chain p.blocks 0) + length (chains (queue_chain p.blocks 0)) + length (chains (queue_chain p.blocks 1)) + length (chains (queue_chain p.blocks 2)) + length (chains (queue_chain p.blocks 3)) = queue_chains p.blocks chains in
      omega (arith, t, things_kept s h.state, h.key_blocks, lengths 0 (omega arith), lengths 1 (omega arith), lengths 2 (omega arith), lengths 3 (omega arith))

  module _ (n k b : ℕ) (k_in : k < bucket_count p.blocks) (n_is : n ≡ 1 + k) (here : m (first_at o b) % bucket_count p.blocks ≡ k) (key_small : m (first_at o b) ≤ greatest) (value_small : m (second_at o b) ≤ greatest)
      (absent : fin.get s.keys (m (first_at o b)) ≡ None) (room : stored_count s < s.room) where
    abbrev chains' : ℕ → List ℕ
    chains' = with_block chains n b

    abbrev s' : Store
    s' = with_key s (m (first_at o b)) (m (second_at o b))

    -- the key is in no block of its bucket
    pub key_apart : Each (λ x. m (first_at o x) ≢ m (first_at o b)) (chains n)
    key_apart =
        let at : 1 + m (first_at o b) % bucket_count p.blocks ≡ n = omega (arith, here, n_is) in
        subst (λ c. Each (λ x. m (first_at o x) ≢ m (first_at o b)) (chains c)) at (none_value o m (m (first_at o b)) (chains (1 + m (first_at o b) % bucket_count p.blocks)) (sym (h.values (m (first_at o b))) ∙ absent))

    got : (key : ℕ) → fin.get s'.keys key ≡ cond (eqb key (m (first_at o b))) (Some (m (second_at o b))) (fin.get s.keys key)
    got key = fin.get-insert nat_cmp_total s.keys (m (first_at o b)) (m (second_at o b)) key ∙ ap (λ (t : Bool). cond t (Some (m (second_at o b))) (fin.get s.keys key)) (keys_tie key (m (first_at o b)))

    values' : (key : ℕ) → fin.get s'.keys key ≡ value_in o m key (chains' (1 + key % bucket_count p.blocks))
    values' key = elim (cases_eq key (m (first_at o b))) [
      | inl e ↦
          let at : 1 + key % bucket_count p.blocks ≡ n = omega (arith, ap (λ x. x % bucket_count p.blocks) e, here, n_is) in
          got key ∙ ap (λ (t : Bool). cond t (Some (m (second_at o b))) (fin.get s.keys key)) (eq-eqb key (m (first_at o b)) e)
          ∙ sym (ap (λ c. value_in o m key (chains' c)) at ∙ ap (value_in o m key) (changed_same chains n (chains n ++ b ∷ []))
          ∙ ap (λ y. value_in o m y (chains n ++ b ∷ [])) e ∙ value_last o m (m (first_at o b)) b (chains n) key_apart refl)
      | inr e ↦
          got key ∙ ap (λ (t : Bool). cond t (Some (m (second_at o b))) (fin.get s.keys key)) (ne_eqb key (m (first_at o b)) e)
          ∙ changed_cases (λ c x. fin.get s.keys key ≡ value_in o m key x) chains n (chains n ++ b ∷ []) (1 + key % bucket_count p.blocks)
          (λ q. h.values key ∙ ap (λ c. value_in o m key (chains c)) q ∙ sym (value_past o m key b (chains n) (λ i. e (sym i))))
          (λ q. h.values key)
    ]

    pub bucket_kept : HoldsWhatWasMet p cells chains' s'
    bucket_kept =
        let more = kept_put s (m (first_at o b)) (m (second_at o b)) None absent in
        record {
          state = put_keeps s (m (first_at o b)) (m (second_at o b)) None h.state (key_small, value_small) absent (omega (arith, room));
          room = h.room;
          registers = h.registers;
          values = values';
          key_blocks =
              let t = total_changed chains n (chains n ++ b ∷ []) (queue_chain p.blocks 0) (omega (arith, n_is, k_in)) in
              let l = length-append (chains n) (b ∷ []) in
              let z = ap length (changed_other chains n (chains n ++ b ∷ []) 0 (λ e. omega (arith, e, n_is))) in
              omega (arith, t, l, z, more, h.key_blocks);
          items = λ q q_in. ap (map (λ x. m (first_at o x))) (changed_other chains n (chains n ++ b ∷ []) (queue_chain p.blocks q) (λ e. omega (arith, e, n_is, k_in))) ∙ h.items q q_in;
        }

  module _ (n q b : ℕ) (q_in : q < 4) (n_is : n ≡ queue_chain p.blocks q) (small : m (first_at o b) ≤ greatest) (room : stored_count s < s.room) where
    abbrev chains'' : ℕ → List ℕ
    chains'' = with_block chains n b

    abbrev s'' : Store
    s'' = with_queue s q (queue s q ++ m (first_at o b) ∷ [])

    items'' : (r : ℕ) → r < 4 → map (λ x. m (first_at o x)) (chains'' (queue_chain p.blocks r)) ≡ queue s'' r
    items'' r r_in = elim (cases_eq r q) [
      | inl e ↦
          let at : queue_chain p.blocks r ≡ n = omega (arith, e, n_is) in
          ap (λ c. map (λ x. m (first_at o x)) (chains'' c)) at ∙ ap (map (λ x. m (first_at o x))) (changed_same chains n (chains n ++ b ∷ []))
          ∙ map-append (λ x. m (first_at o x)) (chains n) (b ∷ [])
          ∙ ap (λ l. l ++ m (first_at o b) ∷ []) (ap (λ c. map (λ x. m (first_at o x)) (chains c)) n_is ∙ h.items q q_in)
          ∙ sym (ap (queue s'') e ∙ get_or-set_same s.queues q (queue s q ++ m (first_at o b) ∷ []) [] (omega (arith, h.state.queues, q_in)))
      | inr e ↦
          ap (map (λ x. m (first_at o x))) (changed_other chains n (chains n ++ b ∷ []) (queue_chain p.blocks r) (λ i. e (omega (arith, i, n_is)))) ∙ h.items r r_in
          ∙ sym (get_or-set_other s.queues q r (queue s q ++ m (first_at o b) ∷ []) [] e)
    ]

    pub queue_kept : HoldsWhatWasMet p cells chains'' s''
    queue_kept =
        let l = length-append (queue s q) (m (first_at o b) ∷ []) in
        record {
          state = queue_keeps s q (queue s q ++ m (first_at o b) ∷ []) h.state q_in (small_pushed (queue s q) (m (first_at o b)) (h.state.small_items q) small) (omega (arith, l, room));
          room = h.room;
          registers = h.registers;
          values = λ key. h.values key ∙ ap (value_in o m key) (sym (changed_other chains n (chains n ++ b ∷ []) (1 + key % bucket_count p.blocks) (λ e. omega (arith, e, n_is, key_bucket p.blocks key))));
          key_blocks = total_changed_past chains n (chains n ++ b ∷ []) (queue_chain p.blocks 0) (omega (arith, n_is)) ∙ h.key_blocks
              ∙ ap (λ (x : List ℕ). length x + fin.len s.keys) (sym (changed_other chains n (chains n ++ b ∷ []) 0 (λ e. omega (arith, e, n_is))));
          items = items'';
        }
