-- How many cells are known, and how many of some cells aren't.
use Rattle.std.proofs.Common.{◌≡◌, ◌⊎◌, inl, inr, ℕ, zero, suc, ◌+◌, ◌<◌, ◌≤◌, List, [], ◌∷◌, length, get_or, set, replicate, refl, sym, ◌∙◌, ap, arith, Option, Some, None, length-set}
use Rattle.std.proofs.lemmas.Bool.{cases_eq, cases_lt}
use Rattle.std.proofs.lemmas.Option.{none-some}
use Rattle.std.proofs.lemmas.List.{get_or-set_same, get_or-set_other, get_or_past}
use Rattle.std.specs.List.{Contains}
use Rattle.of_mem.specs.CellMap.{value_for}
use Rattle.of_mem.specs.Meaning.{Agrees}
use Rattle.of_mem.specs.Part.{overlaid, newer_of, Extends}
use Rattle.of_mem.proofs.Overlaid.{over_at, over_length}
use Rattle.of_core.specs.Footprint.{knowns}

-- nothing is known at first
pub knowns_none : (n : ℕ) → knowns (replicate n None) ≡ 0
knowns_none zero = refl
knowns_none (suc n) = knowns_none n

-- one more cell is known
pub knowns_set : (ks : List (Option ℕ)) (a v : ℕ) → a < length ks → get_or ks a None ≡ None → knowns (set ks a (Some v)) ≡ knowns ks + 1
knowns_set [] a v l e = absurd (omega arith)
knowns_set (None ∷ ks) zero v l e = omega arith
knowns_set (Some x ∷ ks) zero v l e = cc
knowns_set (None ∷ ks) (suc a) v l e = knowns_set ks a v (omega arith) e
knowns_set (Some x ∷ ks) (suc a) v l e = omega (arith, knowns_set ks a v (omega arith) e)

-- 1 where it isn't known
abbrev pub one_if_none : Option ℕ → ℕ
one_if_none None = 1
one_if_none (Some v) = 0

-- how many of these cells aren't known
abbrev pub lacking : List (Option ℕ) → List ℕ → ℕ
lacking known [] = 0
lacking known (c ∷ cs) = one_if_none (get_or known c None) + lacking known cs

at_most_one : (o : Option ℕ) → one_if_none o ≤ 1
at_most_one None = omega arith
at_most_one (Some v) = omega arith

-- they are no more than the cells
pub lacking_upto : (known : List (Option ℕ)) (cs : List ℕ) → lacking known cs ≤ length cs
lacking_upto known [] = omega arith
lacking_upto known (c ∷ cs) = omega (arith, at_most_one (get_or known c None), lacking_upto known cs)

-- a cell that isn't known is one of them
pub lacking_some : (known : List (Option ℕ)) (cs : List ℕ) (a : ℕ) → get_or known a None ≡ None → Contains cs a → 1 ≤ lacking known cs
lacking_some known [] a e c = absurd (omega (arith, c.1))
lacking_some known (x ∷ cs) a e (zero, l, q) = let z : one_if_none (get_or known x None) ≡ 1 = ap (λ (k : ℕ). one_if_none (get_or known k None)) q ∙ ap one_if_none e in omega (arith, z)
lacking_some known (x ∷ cs) a e (suc k, l, q) = omega (arith, lacking_some known cs a e (k, omega arith, q))

module _ (known : List (Option ℕ)) (a v : ℕ) (l : a < length known) (none : get_or known a None ≡ None) where
  abbrev learnt : ℕ → ℕ
  learnt c = one_if_none (get_or (set known a (Some v)) c None)

  here : learnt a ≡ 0
  here = ap one_if_none (get_or-set_same known a (Some v) None l)

  no_more : (c : ℕ) → (c ≡ a) ⊎ (c ≡ a → ⊥) → learnt c ≤ one_if_none (get_or known c None)
  no_more c (inl q) = let z : learnt c ≡ 0 = ap learnt q ∙ here in omega (arith, z)
  no_more c (inr n) = let z : learnt c ≡ one_if_none (get_or known c None) = ap one_if_none (get_or-set_other known a c (Some v) None n) in omega (arith, z)

  fewer : (cs : List ℕ) → lacking (set known a (Some v)) cs ≤ lacking known cs
  fewer [] = omega arith
  fewer (c ∷ cs) = omega (arith, no_more c (cases_eq c a), fewer cs)

  -- once a cell is learnt, one less isn't known
  pub lacking_less : (cs : List ℕ) → Contains cs a → lacking (set known a (Some v)) cs + 1 ≤ lacking known cs
  lacking_less [] c = absurd (omega (arith, c.1))
  lacking_less (x ∷ cs) (zero, m, q) =
      let z : learnt x ≡ 0 = ap learnt q ∙ here in
      let y : one_if_none (get_or known x None) ≡ 1 = ap (λ (k : ℕ). one_if_none (get_or known k None)) q ∙ ap one_if_none none in
      omega (arith, z, y, fewer cs)
  lacking_less (x ∷ cs) (suc k, m, q) = omega (arith, no_more x (cases_eq x a), lacking_less cs (k, omega arith, q))

  extends_set : Extends (set known a (Some v)) known
  extends_set b u e = go (cases_eq b a)
    where
      go : (b ≡ a) ⊎ (b ≡ a → ⊥) → get_or (set known a (Some v)) b None ≡ Some u
      go (inl q) = absurd (none-some u (sym none ∙ ap (λ (k : ℕ). get_or known k None) (sym q) ∙ e))
      go (inr n) = get_or-set_other known a b (Some v) None n ∙ e

  newer_more : (o x y : Option ℕ) (u : ℕ) → ((w : ℕ) → x ≡ Some w → y ≡ Some w) → newer_of o x ≡ Some u → newer_of o y ≡ Some u
  newer_more None x y u h e = h u e
  newer_more (Some w) x y u h e = e

  -- what agrees with the cells that are known then agrees with those that were known before
  pub agrees_before : (es : List (ℕ × ℕ)) (xs : List ℕ) → Agrees (overlaid (set known a (Some v)) es) xs → Agrees (overlaid known es) xs
  agrees_before es xs h b u e = go (cases_lt b (length known))
    where
      go : (b < length known) ⊎ (length known ≤ b) → get_or xs b 0 ≡ u
      go (inl m) = h b u (over_at (set known a (Some v)) es b (rw length-set m) ∙ newer_more (value_for es b) (get_or known b None) (get_or (set known a (Some v)) b None) u (extends_set b) (sym (over_at known es b m) ∙ e))
      go (inr m) = absurd (none-some u (sym (get_or_past (overlaid known es) b None (rw over_length m)) ∙ e))
