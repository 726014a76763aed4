-- The first cell at fault is one: two walks that stop at a fault stop at the same.
use Rattle.std.proofs.Common.{◌≡◌, ℕ, suc, ◌+◌, ◌<◌, ◌≤◌, ◌≢◌, ◌⊎◌, inl, inr, List, [], ◌∷◌, ◌++◌, length, get_or, refl, sym, ◌∙◌, ap, subst, arith}
use Rattle.std.specs.List.{AllByRecursion as Each, AllPairs}
use Rattle.std.proofs.lemmas.Bool.{cases_eq, cases_lt}
use Rattle.of_mem.specs.Places.{base_of, register_at, fresh_at, tail_at, length_at}
use Rattle.of_mem.specs.Numbers.{IsNumber}
use Rattle.of_mem.specs.Stores.{out_chain, queue_chain, IsBucket, front_at, first_at, second_at, link_at, cell_after, last_pointer}
use Rattle.of_mem.proofs.Heaps.{each_right}
use Rattle.of_eval.specs.Lawful.{OwnCellsAreSound}
use Rattle.of_eval.specs.Faults.{ContainsNumber, IsPath, IsMet, IsNoKey, LeadsToNewBlock, OwnFault, HasSoundHead, HasPassed, HasRightCounts, ChainFault, CountFault, IsFirstFault, pointer_cell}
use Rattle.of_eval.specs.Faults.ChainFault.{Pointer, Key, Value, Item}
use Rattle.of_eval.specs.Faults.CountFault.{Keys, Tail, Length}
use Rattle.of_eval.specs.Faults.IsFirstFault.{Own, Register, Fresh, Chain, Count, Lost}
use Rattle.of_eval.proofs.Paths.{has_each}
use Rattle.of_eval.proofs.OwnFaults.{own_excludes, own_same}
use Rattle.of_eval.proofs.ChainFaults.{GoesOn, same_block, no_fault, fault_block, same_chains, chain_excludes, count_in, count_excludes, all_same, whole_passed}

-- ---- two paths from one cell

-- one of them is a front of the other, or they are the same
pub data Compared (o : ℕ) (m : ℕ → ℕ) (start : ℕ) (l k : List ℕ) : Type 0 where
  Alike : l ≡ k → Compared o m start l k
  Longer : (b : ℕ) (rest : List ℕ) → k ≡ l ++ b ∷ rest → m (cell_after o start l) ≡ b + 1 → Compared o m start l k
  Shorter : (b : ℕ) (rest : List ℕ) → l ≡ k ++ b ∷ rest → m (cell_after o start k) ≡ b + 1 → Compared o m start l k

one_more : (o : ℕ) (m : ℕ → ℕ) (start a b : ℕ) (l k : List ℕ) → a ≡ b → Compared o m (link_at o b) l k → Compared o m start (a ∷ l) (b ∷ k)
one_more o m start a b l k e (Alike h) = Alike (ap (λ x. x ∷ l) e ∙ ap (λ (x : List ℕ). b ∷ x) h)
one_more o m start a b l k e (Longer d rest h p) = Longer d rest (ap (λ (x : List ℕ). b ∷ x) h ∙ ap (λ x. x ∷ (l ++ d ∷ rest)) (sym e)) (ap (λ x. m (cell_after o (link_at o x) l)) e ∙ p)
one_more o m start a b l k e (Shorter d rest h p) = Shorter d rest (ap (λ x. x ∷ l) e ∙ ap (λ (x : List ℕ). b ∷ x) h) p

compare : (o : ℕ) (m : ℕ → ℕ) (start : ℕ) (l k : List ℕ) → IsPath o m start l → IsPath o m start k → Compared o m start l k
compare o m start [] [] h g = Alike refl
compare o m start [] (b ∷ k) h g = Longer b k refl g.0
compare o m start (a ∷ l) [] h g = Shorter a l refl h.0
compare o m start (a ∷ l) (b ∷ k) h g =
    let e : a ≡ b = same_block o m start a b h.0 g.0 in
    one_more o m start a b l k e (compare o m (link_at o b) l k (subst (λ x. IsPath o m (link_at o x) l) e h.1) g.1)

get_behind : (l rest : List ℕ) (b d : ℕ) → get_or (l ++ b ∷ rest) (length l) d ≡ b
get_behind [] rest b d = refl
get_behind (a ∷ l) rest b d = get_behind l rest b d

long_enough : (l rest : List ℕ) (b : ℕ) → length l < length (l ++ b ∷ rest)
long_enough [] rest b = omega arith
long_enough (a ∷ l) rest b = let r = long_enough l rest b in omega (arith, r)

-- a block stands once
once_apart : (l rest : List ℕ) (b : ℕ) → AllPairs (λ x y. x ≢ y) (l ++ b ∷ rest) → ContainsNumber l b → ⊥
once_apart [] rest b h k = k
once_apart (a ∷ l) rest b h (inl e) = let r = long_enough l rest b in h 0 (suc (length l)) 0 (omega arith) (omega (arith, r)) (sym e ∙ sym (get_behind l rest b 0))
once_apart (a ∷ l) rest b h (inr k) = once_apart l rest b (λ i j d lt within. h (suc i) (suc j) d (omega arith) (omega arith)) k

-- ---- two faults of chains

module _ (o blocks : ℕ) (m : ℕ → ℕ) (n : ℕ) where
  -- a longer walk goes on where the shorter stands
  passed_goes_on : (chains others : ℕ → List ℕ) → HasPassed o blocks m n chains → HasPassed o blocks m n others → (b : ℕ) (rest : List ℕ) → others n ≡ chains n ++ b ∷ rest → GoesOn o blocks m n chains b rest
  passed_goes_on chains others h g b rest e =
      let own = (each_right (λ x. (x < m (fresh_at o)) × (g.owner x ≡ n)) (chains n) (b ∷ rest) (subst (Each (λ x. (x < m (fresh_at o)) × (g.owner x ≡ n))) e (g.owned n))).0 in
      record {
        below = own.0;
        unmet = λ q. met q.0 own.1 q.1;
        bucket = λ k k_in is. subst (IsBucket o blocks m k) (ap others (sym is) ∙ e) (g.buckets k k_in);
        item = λ q q_in is. (each_right (λ x. IsNumber (m (first_at o x))) (chains n) (b ∷ rest) (subst (Each (λ x. IsNumber (m (first_at o x)))) (ap others (sym is) ∙ e) (g.items q q_in))).0;
      }
    where
      met : (c : ℕ) → g.owner b ≡ n → ContainsNumber (chains c) b → ⊥
      met c own q = elim (cases_lt c n) [
        | inl i ↦
            let there : ContainsNumber (others c) b = subst (λ (x : List ℕ). ContainsNumber x b) (same_chains o blocks m n n chains others h (whole_passed o blocks m n others g) c i i) q in
            let is = has_each (λ x. (x < m (fresh_at o)) × (g.owner x ≡ c)) (others c) b (g.owned c) there in
            omega (arith, is.1, own, i)
        | inr i ↦ elim (cases_eq c n) [
          | inl s ↦ once_apart (chains n) rest b (subst (AllPairs (λ x y. x ≢ y)) e g.once) (subst (λ x. ContainsNumber (chains x) b) s q)
          | inr s ↦ subst (λ (x : List ℕ). ContainsNumber x b) (h.others c (omega (arith, i, s))) q
        ]
      ]

  -- at a pointer to a block that is bad, no walk goes on
  stuck : (chains : ℕ → List ℕ) (b d : ℕ) → m (pointer_cell o blocks n chains) ≡ b + 1 → (m (fresh_at o) ≤ b) ⊎ IsMet chains b → LeadsToNewBlock o blocks m n chains d → ⊥
  stuck chains b d e (inl q) l = let s = same_block o m (pointer_cell o blocks n chains) b d e l.pointer in omega (arith, s, q, l.below)
  stuck chains b d e (inr q) l = l.unmet (subst (IsMet chains) (same_block o m (pointer_cell o blocks n chains) b d e l.pointer) q)

  -- a key that is none is not one that is
  key_value : (chains : ℕ → List ℕ) (k k' b d : ℕ) → n ≡ 1 + k → n ≡ 1 + k' → LeadsToNewBlock o blocks m n chains b → LeadsToNewBlock o blocks m n chains d → IsNoKey o blocks m k (chains n) (m (first_at o b)) → (IsNoKey o blocks m k' (chains n) (m (first_at o d)) → ⊥) → ⊥
  key_value chains k k' b d f f' g g' bad good =
      let s : b ≡ d = same_block o m (pointer_cell o blocks n chains) b d g.pointer g'.pointer in
      let t : k ≡ k' = omega (arith, f, f') in
      good (subst (λ z. IsNoKey o blocks m z (chains n) (m (first_at o d))) t (subst (λ z. IsNoKey o blocks m k (chains n) (m (first_at o z))) s bad))

  -- two faults where the same blocks were met
  fault_same : (chains : ℕ → List ℕ) (x y : ℕ) → ChainFault o blocks m n chains x → ChainFault o blocks m n chains y → x ≡ y
  fault_same chains x y (Pointer l b e bad is) (Pointer l' b' e' bad' is') = is ∙ sym is'
  fault_same chains x y (Pointer l b e bad is) (Key k d k_in f g bad' is') = absurd (stuck chains b d e bad g)
  fault_same chains x y (Pointer l b e bad is) (Value k d k_in f g good bad' is') = absurd (stuck chains b d e bad g)
  fault_same chains x y (Pointer l b e bad is) (Item q d q_in f g bad' is') = absurd (stuck chains b d e bad g)
  fault_same chains x y (Key k d k_in f g bad' is') (Pointer l b e bad is) = absurd (stuck chains b d e bad g)
  fault_same chains x y (Value k d k_in f g good bad' is') (Pointer l b e bad is) = absurd (stuck chains b d e bad g)
  fault_same chains x y (Item q d q_in f g bad' is') (Pointer l b e bad is) = absurd (stuck chains b d e bad g)
  fault_same chains x y (Key k b k_in f g bad is) (Key k' d k_in' f' g' bad' is') = is ∙ ap (first_at o) (same_block o m (pointer_cell o blocks n chains) b d g.pointer g'.pointer) ∙ sym is'
  fault_same chains x y (Key k b k_in f g bad is) (Value k' d k_in' f' g' good bad' is') = absurd (key_value chains k k' b d f f' g g' bad good)
  fault_same chains x y (Key k b k_in f g bad is) (Item q d q_in f' g' bad' is') = absurd (omega (arith, f, f', k_in))
  fault_same chains x y (Value k b k_in f g good bad is) (Key k' d k_in' f' g' bad' is') = absurd (key_value chains k' k d b f' f g' g bad' good)
  fault_same chains x y (Value k b k_in f g good bad is) (Value k' d k_in' f' g' good' bad' is') = is ∙ ap (second_at o) (same_block o m (pointer_cell o blocks n chains) b d g.pointer g'.pointer) ∙ sym is'
  fault_same chains x y (Value k b k_in f g good bad is) (Item q d q_in f' g' bad' is') = absurd (omega (arith, f, f', k_in))
  fault_same chains x y (Item q b q_in f g bad is) (Key k d k_in f' g' bad' is') = absurd (omega (arith, f, f', k_in))
  fault_same chains x y (Item q b q_in f g bad is) (Value k d k_in f' g' good bad' is') = absurd (omega (arith, f, f', k_in))
  fault_same chains x y (Item q b q_in f g bad is) (Item q' d q_in' f' g' bad' is') = is ∙ ap (first_at o) (same_block o m (pointer_cell o blocks n chains) b d g.pointer g'.pointer) ∙ sym is'

  -- two faults of one chain
  chains_one : (chains others : ℕ → List ℕ) (x y : ℕ) → HasPassed o blocks m n chains → HasPassed o blocks m n others → ChainFault o blocks m n chains x → ChainFault o blocks m n others y → x ≡ y
  chains_one chains others x y h g f k = go (compare o m (front_at o blocks n) (chains n) (others n) h.path g.path)
    where
      same : chains n ≡ others n → (c : ℕ) → chains c ≡ others c
      same e c = elim (cases_lt c n) [
        | inl i ↦ same_chains o blocks m n n chains others h (whole_passed o blocks m n others g) c i i
        | inr i ↦ elim (cases_eq c n) [
          | inl s ↦ subst (λ z. chains z ≡ others z) (sym s) e
          | inr s ↦ h.others c (omega (arith, i, s)) ∙ sym (g.others c (omega (arith, i, s)))
        ]
      ]

      go : Compared o m (front_at o blocks n) (chains n) (others n) → x ≡ y
      go (Alike e) = let p : chains ≡ others = (λ i. λ c. same e c i) in fault_same others x y (subst (λ (z : ℕ → List ℕ). ChainFault o blocks m n z x) p f) k
      go (Longer b rest e p) = absurd (no_fault o blocks m n chains b rest x p (passed_goes_on chains others h g b rest e) f)
      go (Shorter b rest e p) = absurd (no_fault o blocks m n others b rest y p (passed_goes_on others chains g h b rest e) k)

-- ---- two faults of counts

counts_one : (o blocks : ℕ) (m : ℕ → ℕ) (n k : ℕ) (chains others : ℕ → List ℕ) (x y : ℕ) → n ≡ k → ((c : ℕ) → c < n → chains c ≡ others c) → CountFault o blocks m n chains x → CountFault o blocks m k others y → x ≡ y
counts_one o blocks m n k chains others x y s same (Keys e bad is) (Keys e' bad' is') = is ∙ sym is'
counts_one o blocks m n k chains others x y s same (Keys e bad is) (Tail q q_in e' bad' is') = absurd (omega (arith, s, e, e'))
counts_one o blocks m n k chains others x y s same (Keys e bad is) (Length q q_in e' right bad' is') = absurd (omega (arith, s, e, e'))
counts_one o blocks m n k chains others x y s same (Tail q q_in e bad is) (Keys e' bad' is') = absurd (omega (arith, s, e, e'))
counts_one o blocks m n k chains others x y s same (Length q q_in e right bad is) (Keys e' bad' is') = absurd (omega (arith, s, e, e'))
counts_one o blocks m n k chains others x y s same (Tail q q_in e bad is) (Tail r r_in e' bad' is') = let t : q ≡ r = omega (arith, s, e, e') in is ∙ ap (tail_at o) t ∙ sym is'
counts_one o blocks m n k chains others x y s same (Length q q_in e right bad is) (Length r r_in e' right' bad' is') = let t : q ≡ r = omega (arith, s, e, e') in is ∙ ap (length_at o) t ∙ sym is'
counts_one o blocks m n k chains others x y s same (Tail q q_in e bad is) (Length r r_in e' right bad' is') =
    let t : q ≡ r = omega (arith, s, e, e') in
    absurd (bad (ap (λ z. m (tail_at o z)) t ∙ right ∙ ap (λ z. last_pointer 0 (others (queue_chain blocks z))) (sym t) ∙ ap (last_pointer 0) (sym (same (queue_chain blocks q) (omega (arith, e))))))
counts_one o blocks m n k chains others x y s same (Length q q_in e right bad is) (Tail r r_in e' bad' is') =
    let t : q ≡ r = omega (arith, s, e, e') in
    absurd (bad' (ap (λ z. m (tail_at o z)) (sym t) ∙ right ∙ ap (last_pointer 0) (same (queue_chain blocks q) (omega (arith, e))) ∙ ap (λ z. last_pointer 0 (others (queue_chain blocks z))) t))

-- ---- two first faults

module _ (callers instrs blocks : ℕ) (m : ℕ → ℕ) where
  abbrev o : ℕ
  o = base_of callers instrs

  abbrev First : ℕ → Type 0
  First = IsFirstFault callers instrs blocks m

  own_vs : (x y c : ℕ) → c < callers → ((d : ℕ) → d < c → OwnCellsAreSound instrs m d) → OwnFault instrs m c x → First y → x ≡ y
  own_vs x y c l before f (Own d k before' g) = elim (cases_lt c d) [
    | inl i ↦ absurd (own_excludes instrs m c x (before' c i) f)
    | inr i ↦ elim (cases_lt d c) [
      | inl j ↦ absurd (own_excludes instrs m d y (before d j) g)
      | inr j ↦ (let s : c ≡ d = omega arith in own_same instrs m d x y (subst (λ z. OwnFault instrs m z x) s f) g)
    ]
  ]
  own_vs x y c l before f (Register own r k before' bad e) = absurd (own_excludes instrs m c x (own c l) f)
  own_vs x y c l before f (Fresh own registers bad e) = absurd (own_excludes instrs m c x (own c l) f)
  own_vs x y c l before f (Chain b n chains p k g) = absurd (own_excludes instrs m c x (b.own c l) f)
  own_vs x y c l before f (Count b n chains p k start g) = absurd (own_excludes instrs m c x (b.own c l) f)
  own_vs x y c l before f (Lost b chains p k start bad e) = absurd (own_excludes instrs m c x (b.own c l) f)

  register_vs : (x y : ℕ) → ((c : ℕ) → c < callers → OwnCellsAreSound instrs m c) → (r : ℕ) → r < 16 → ((q : ℕ) → q < r → IsNumber (m (register_at o q))) → (IsNumber (m (register_at o r)) → ⊥) → x ≡ register_at o r → First y → x ≡ y
  register_vs x y own r l before bad e (Own d k before' g) = absurd (own_excludes instrs m d y (own d k) g)
  register_vs x y own r l before bad e (Register own' q k before' bad' e') = elim (cases_lt r q) [
    | inl i ↦ absurd (bad (before' r i))
    | inr i ↦ elim (cases_lt q r) [
      | inl j ↦ absurd (bad' (before q j))
      | inr j ↦ (let s : r ≡ q = omega arith in e ∙ ap (register_at o) s ∙ sym e')
    ]
  ]
  register_vs x y own r l before bad e (Fresh own' registers bad' e') = absurd (bad (registers r l))
  register_vs x y own r l before bad e (Chain b n chains p k g) = absurd (bad (b.registers r l))
  register_vs x y own r l before bad e (Count b n chains p k start g) = absurd (bad (b.registers r l))
  register_vs x y own r l before bad e (Lost b chains p k start bad' e') = absurd (bad (b.registers r l))

  fresh_vs : (x y : ℕ) → ((c : ℕ) → c < callers → OwnCellsAreSound instrs m c) → ((r : ℕ) → r < 16 → IsNumber (m (register_at o r))) → blocks < m (fresh_at o) → x ≡ fresh_at o → First y → x ≡ y
  fresh_vs x y own registers bad e (Own d k before g) = absurd (own_excludes instrs m d y (own d k) g)
  fresh_vs x y own registers bad e (Register own' q k before bad' e') = absurd (bad' (registers q k))
  fresh_vs x y own registers bad e (Fresh own' registers' bad' e') = e ∙ sym e'
  fresh_vs x y own registers bad e (Chain b n chains p k g) = absurd (omega (arith, bad, b.few))
  fresh_vs x y own registers bad e (Count b n chains p k start g) = absurd (omega (arith, bad, b.few))
  fresh_vs x y own registers bad e (Lost b chains p k start bad' e') = absurd (omega (arith, bad, b.few))

  -- nothing before the chains is at fault where they have begun
  begun_vs : (y : ℕ) → HasSoundHead callers instrs blocks m → First y → (A : Type 0) → ((n : ℕ) (chains : ℕ → List ℕ) → HasPassed o blocks m n chains → HasRightCounts o blocks m n chains → ChainFault o blocks m n chains y → A)
      → ((n : ℕ) (chains : ℕ → List ℕ) → HasPassed o blocks m (1 + n) chains → HasRightCounts o blocks m n chains → CountFault o blocks m (1 + n) chains y → A)
      → ((chains : ℕ → List ℕ) → HasPassed o blocks m (out_chain blocks) chains → HasRightCounts o blocks m (out_chain blocks) chains → y ≡ fresh_at o → A) → A
  begun_vs y h (Own d k before g) A chain count lost = absurd (own_excludes instrs m d y (h.own d k) g)
  begun_vs y h (Register own q k before bad e) A chain count lost = absurd (bad (h.registers q k))
  begun_vs y h (Fresh own registers bad e) A chain count lost = absurd (omega (arith, bad, h.few))
  begun_vs y h (Chain b n chains p k g) A chain count lost = chain n chains p k g
  begun_vs y h (Count b n chains p k start g) A chain count lost = count n chains p k g
  begun_vs y h (Lost b chains p k start bad e) A chain count lost = lost chains p k e

  -- a fault of a chain and one of a count exclude each other
  chain_count : (x y n k : ℕ) (chains others : ℕ → List ℕ) → HasPassed o blocks m n chains → HasRightCounts o blocks m n chains → ChainFault o blocks m n chains x → HasPassed o blocks m (1 + k) others → CountFault o blocks m (1 + k) others y → ⊥
  chain_count x y n k chains others p c f q g = elim (cases_lt n (1 + k)) [
    | inl i ↦ chain_excludes o blocks m n (1 + k) chains others x p (whole_passed o blocks m (1 + k) others q) i f
    | inr i ↦ count_excludes o blocks m (1 + k) n others chains y (all_same o blocks m (1 + k) n others chains q (whole_passed o blocks m n chains p) i) c i g
  ]

  chain_vs : (x y : ℕ) → HasSoundHead callers instrs blocks m → (n : ℕ) (chains : ℕ → List ℕ) → HasPassed o blocks m n chains → HasRightCounts o blocks m n chains → ChainFault o blocks m n chains x → First y → x ≡ y
  chain_vs x y b n chains p c f h = begun_vs y b h (x ≡ y)
      (λ k others q d g. elim (cases_lt n k) [
        | inl i ↦ absurd (chain_excludes o blocks m n k chains others x p (whole_passed o blocks m k others q) i f)
        | inr i ↦ elim (cases_lt k n) [
          | inl j ↦ absurd (chain_excludes o blocks m k n others chains y q (whole_passed o blocks m n chains p) j g)
          | inr j ↦ (let s : k ≡ n = omega arith in chains_one o blocks m n chains others x y p (subst (λ z. HasPassed o blocks m z others) s q) f (subst (λ z. ChainFault o blocks m z others y) s g))
        ]
      ])
      (λ k others q d g. absurd (chain_count x y n k chains others p c f q g))
      (λ others q d e. absurd (chain_excludes o blocks m n (out_chain blocks) chains others x p (whole_passed o blocks m (out_chain blocks) others q) (fault_block o blocks m n chains x f).0 f))

  count_vs : (x y : ℕ) → HasSoundHead callers instrs blocks m → (n : ℕ) (chains : ℕ → List ℕ) → HasPassed o blocks m (1 + n) chains → HasRightCounts o blocks m n chains → CountFault o blocks m (1 + n) chains x → First y → x ≡ y
  count_vs x y b n chains p c f h = begun_vs y b h (x ≡ y)
      (λ k others q d g. absurd (chain_count y x k n others chains q d g p f))
      (λ k others q d g. elim (cases_lt n k) [
        | inl i ↦ absurd (count_excludes o blocks m (1 + n) k chains others x (all_same o blocks m (1 + n) (1 + k) chains others p (whole_passed o blocks m (1 + k) others q) (omega (arith, i))) d (omega (arith, i)) f)
        | inr i ↦ elim (cases_lt k n) [
          | inl j ↦ absurd (count_excludes o blocks m (1 + k) n others chains y (all_same o blocks m (1 + k) (1 + n) others chains q (whole_passed o blocks m (1 + n) chains p) (omega (arith, j))) c (omega (arith, j)) g)
          | inr j ↦ counts_one o blocks m (1 + n) (1 + k) chains others x y (omega arith) (all_same o blocks m (1 + n) (1 + k) chains others p (whole_passed o blocks m (1 + k) others q) (omega arith)) f g
        ]
      ])
      (λ others q d e. absurd (let l : 1 + n ≤ out_chain blocks = (let k = count_in o blocks m (1 + n) chains x f in omega (arith, k)) in
      count_excludes o blocks m (1 + n) (out_chain blocks) chains others x (all_same o blocks m (1 + n) (out_chain blocks) chains others p (whole_passed o blocks m (out_chain blocks) others q) l) d l f))

  lost_vs : (x y : ℕ) → HasSoundHead callers instrs blocks m → (chains : ℕ → List ℕ) → HasPassed o blocks m (out_chain blocks) chains → HasRightCounts o blocks m (out_chain blocks) chains → x ≡ fresh_at o → First y → x ≡ y
  lost_vs x y b chains p c e h = begun_vs y b h (x ≡ y)
      (λ k others q d g. absurd (chain_excludes o blocks m k (out_chain blocks) others chains y q (whole_passed o blocks m (out_chain blocks) chains p) (fault_block o blocks m k others y g).0 g))
      (λ k others q d g. absurd (let l : 1 + k ≤ out_chain blocks = (let i = count_in o blocks m (1 + k) others y g in omega (arith, i)) in
      count_excludes o blocks m (1 + k) (out_chain blocks) others chains y (all_same o blocks m (1 + k) (out_chain blocks) others chains q (whole_passed o blocks m (out_chain blocks) chains p) l) c l g))
      (λ others q d f. e ∙ sym f)

  -- two first faults are the same
  pub one_fault : (x y : ℕ) → First x → First y → x ≡ y
  one_fault x y (Own c l before f) h = own_vs x y c l before f h
  one_fault x y (Register own r l before bad e) h = register_vs x y own r l before bad e h
  one_fault x y (Fresh own registers bad e) h = fresh_vs x y own registers bad e h
  one_fault x y (Chain b n chains p c f) h = chain_vs x y b n chains p c f h
  one_fault x y (Count b n chains p c start f) h = count_vs x y b n chains p c f h
  one_fault x y (Lost b chains p c start bad e) h = lost_vs x y b chains p c e h
