-- The owners table while blocks are met.
use Rattle.std.proofs.Common.{◌≡◌, ℕ, zero, suc, ◌+◌, ◌-◌, ◌<◌, ◌≤◌, ◌≢◌, inl, inr, List, [], ◌∷◌, ◌++◌, length, get_or, set, sym, ◌∙◌, ap, subst, arith, Bool, true, false, cond, eqb, length-set, length-append}
use Rattle.std.specs.List.{AllByRecursion as Each}
use Rattle.std.proofs.lemmas.Bool.{cases_eq, ne_eqb}
use Rattle.std.proofs.lemmas.List.{get_or-set_same, get_or-set_other}
use Rattle.of_mem.specs.Programs.{with_value}
use Rattle.of_mem.specs.Stores.{out_chain, blocks_in_chains}
use Rattle.of_mem.proofs.Changes.{changed_same, changed_other, total_changed}
use Rattle.of_eval.specs.Faults.{ContainsNumber, IsMet}
use Rattle.of_eval.specs.Walking.{OwnersMatchChains, unmet_count}
use Rattle.of_eval.proofs.Paths.{has_last, has_more, has_before, each_has}

-- one block more has an owner
pub unmet_set : (l : List ℕ) (b v : ℕ) → b < length l → get_or l b 0 ≡ 0 → v ≢ 0 → unmet_count (set l b v) + 1 ≡ unmet_count l
unmet_set [] b v h e n = absurd (omega arith)
unmet_set (x ∷ l) zero v h e n = rw (e, ne_eqb v 0 n) (omega arith)
unmet_set (x ∷ l) (suc b) v h e n = let r : unmet_count (set l b v) + 1 ≡ unmet_count l = unmet_set l b v (omega arith) e n in go (eqb x 0) r
  where
    go : (t : Bool) → unmet_count (set l b v) + 1 ≡ unmet_count l → cond t 1 0 + unmet_count (set l b v) + 1 ≡ cond t 1 0 + unmet_count l
    go true r = omega arith
    go false r = omega arith

pub unmet_some : (l : List ℕ) (b : ℕ) → b < length l → get_or l b 0 ≡ 0 → 1 ≤ unmet_count l
unmet_some l b h e = let r = unmet_set l b 1 h e (λ q. omega (arith, q)) in omega (arith, r)

-- a block with an owner is below fresh
pub owner_below : (l : List ℕ) (b c : ℕ) → get_or l b 0 ≡ c + 1 → b < length l
owner_below [] b c e = absurd (omega arith)
owner_below (x ∷ l) zero c e = omega arith
owner_below (x ∷ l) (suc b) c e = let r = owner_below l b c e in omega (arith, r)

module _ (blocks fresh : ℕ) (chains : ℕ → List ℕ) (owners : List ℕ) (h : OwnersMatchChains blocks fresh chains owners) where
  pub owned_of : (c : ℕ) → Each (λ b. (b < fresh) × (get_or owners b 0 - 1 ≡ c)) (chains c)
  owned_of c = each_has (λ b. (b < fresh) × (get_or owners b 0 - 1 ≡ c)) (chains c) (λ b k.
      let e = h.paint c b k in (subst (λ (n : ℕ). b < n) h.sized (owner_below owners b c e), omega (arith, e)))

  pub not_met : (b : ℕ) → get_or owners b 0 ≡ 0 → IsMet chains b → ⊥
  not_met b e k = omega (arith, e, h.paint k.0 b k.1)

  module _ (n b : ℕ) (n_in : n < out_chain blocks) (b_in : b < length owners) (free : get_or owners b 0 ≡ 0) where
    abbrev chains' : ℕ → List ℕ
    chains' = with_value chains n (chains n ++ b ∷ [])

    abbrev owners' : List ℕ
    owners' = set owners b (n + 1)

    paint' : (c x : ℕ) → ContainsNumber (chains' c) x → get_or owners' x 0 ≡ c + 1
    paint' c x k = elim (cases_eq c n) [
      | inl e ↦
          let k' : ContainsNumber (chains n ++ b ∷ []) x = subst (λ (l : List ℕ). ContainsNumber l x) (changed_same chains n (chains n ++ b ∷ [])) (subst (λ (d : ℕ). ContainsNumber (chains' d) x) e k) in
          elim (cases_eq x b) [
            | inl q ↦ rw q (get_or-set_same owners b (n + 1) 0 b_in ∙ ap (λ d. d + 1) (sym e))
            | inr q ↦ get_or-set_other owners b x (n + 1) 0 q ∙ h.paint n x (has_before (chains n) b x k' q) ∙ ap (λ d. d + 1) (sym e)
          ]
      | inr e ↦
          let k' : ContainsNumber (chains c) x = subst (λ (l : List ℕ). ContainsNumber l x) (changed_other chains n (chains n ++ b ∷ []) c e) k in
          get_or-set_other owners b x (n + 1) 0 (λ q. not_met b free (c, subst (λ (y : ℕ). ContainsNumber (chains c) y) q k')) ∙ h.paint c x k'
    ]

    met' : (x : ℕ) → get_or owners' x 0 ≢ 0 → IsMet chains' x
    met' x k = elim (cases_eq x b) [
      | inl q ↦ (n, subst (λ (l : List ℕ). ContainsNumber l x) (sym (changed_same chains n (chains n ++ b ∷ []))) (subst (λ (y : ℕ). ContainsNumber (chains n ++ b ∷ []) y) (sym q) (has_last (chains n) b)))
      | inr q ↦
          let old = h.met x (λ e. k (get_or-set_other owners b x (n + 1) 0 q ∙ e)) in (
            old.0,
            elim (cases_eq old.0 n) [
              | inl e ↦ subst (λ (d : ℕ). ContainsNumber (chains' d) x) (sym e) (subst (λ (l : List ℕ). ContainsNumber l x) (sym (changed_same chains n (chains n ++ b ∷ []))) (has_more (chains n) (b ∷ []) x (subst (λ (d : ℕ). ContainsNumber (chains d) x) e old.1)))
              | inr e ↦ subst (λ (l : List ℕ). ContainsNumber l x) (sym (changed_other chains n (chains n ++ b ∷ []) old.0 e)) old.1
            ],
          )
    ]

    pub painted_step : OwnersMatchChains blocks fresh chains' owners'
    painted_step = record {
      sized = length-set owners b (n + 1) ∙ h.sized;
      paint = paint';
      met = met';
      counted =
          let t = total_changed chains n (chains n ++ b ∷ []) (out_chain blocks) n_in in
          let u = unmet_set owners b (n + 1) b_in free (λ q. omega (arith, q)) in
          let l = length-append (chains n) (b ∷ []) in
          omega (arith, t, u, l, h.counted);
    }

    -- there are fewer blocks in the chains than blocks below fresh
    pub room_left : blocks_in_chains chains (out_chain blocks) < fresh
    room_left = let u = unmet_some owners b b_in free in omega (arith, u, h.counted)
