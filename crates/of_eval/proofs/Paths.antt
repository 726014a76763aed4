-- Paths of blocks, and what a list has.
use Rattle.std.proofs.Common.{◌≡◌, ℕ, zero, suc, ◌+◌, ◌<◌, ◌≢◌, inl, inr, List, [], ◌∷◌, ◌++◌, length, get_or, refl, sym, ◌∙◌, ap, subst, arith}
use Rattle.std.specs.List.{AllByRecursion as Each, AllPairs}
use Rattle.std.proofs.lemmas.List.Quantifiers.{all_pairs_push}
use Rattle.of_mem.specs.Stores.{IsChain, link_at, cell_after}
use Rattle.of_eval.specs.Faults.{IsPath, ContainsNumber}

pub path_push : (o : ℕ) (m : ℕ → ℕ) (start b : ℕ) (l : List ℕ) → IsPath o m start l → m (cell_after o start l) ≡ b + 1 → IsPath o m start (l ++ b ∷ [])
path_push o m start b [] h e = (e, tt)
path_push o m start b (x ∷ l) h e = (h.0, path_push o m (link_at o x) b l h.1 e)

pub cell_push : (o start b : ℕ) (l : List ℕ) → cell_after o start (l ++ b ∷ []) ≡ link_at o b
cell_push o start b [] = refl
cell_push o start b (x ∷ l) = cell_push o (link_at o x) b l

pub path_chain : (o : ℕ) (m : ℕ → ℕ) (start : ℕ) (l : List ℕ) → IsPath o m start l → m (cell_after o start l) ≡ 0 → IsChain o m start l
path_chain o m start [] h e = e
path_chain o m start (x ∷ l) h e = (h.0, path_chain o m (link_at o x) l h.1 e)

-- a path is a front of the chain
pub path_front : (o : ℕ) (m : ℕ → ℕ) (start : ℕ) (l k : List ℕ) → IsPath o m start l → IsChain o m start k → (rest : List ℕ) × (k ≡ l ++ rest) × IsChain o m (cell_after o start l) rest
path_front o m start [] k h g = (k, refl, g)
path_front o m start (b ∷ l) [] h g = absurd (omega arith)
path_front o m start (b ∷ l) (c ∷ k) h g =
    let e : c ≡ b = omega arith in
    let r = path_front o m (link_at o b) l k h.1 (subst (λ (x : ℕ). IsChain o m (link_at o x) k) e g.1) in
    (r.0, (let q : c ∷ k ≡ b ∷ (l ++ r.0) = ap (λ (x : ℕ). x ∷ k) e ∙ ap (λ (x : List ℕ). b ∷ x) r.1 in q), r.2)

pub has_last : (l : List ℕ) (b : ℕ) → ContainsNumber (l ++ b ∷ []) b
has_last [] b = inl refl
has_last (a ∷ l) b = inr (has_last l b)

pub has_more : (l k : List ℕ) (x : ℕ) → ContainsNumber l x → ContainsNumber (l ++ k) x
has_more [] k x h = absurd h
has_more (a ∷ l) k x (inl e) = inl e
has_more (a ∷ l) k x (inr h) = inr (has_more l k x h)

pub has_before : (l : List ℕ) (b x : ℕ) → ContainsNumber (l ++ b ∷ []) x → x ≢ b → ContainsNumber l x
has_before [] b x (inl e) n = n e
has_before [] b x (inr h) n = absurd h
has_before (a ∷ l) b x (inl e) n = inl e
has_before (a ∷ l) b x (inr h) n = inr (has_before l b x h n)

pub has_at : (l : List ℕ) (k d : ℕ) → k < length l → ContainsNumber l (get_or l k d)
has_at [] k d h = absurd (omega arith)
has_at (a ∷ l) zero d h = inl refl
has_at (a ∷ l) (suc k) d h = inr (has_at l k d (omega arith))

pub each_has : (P : ℕ → Type 0) (l : List ℕ) → ((x : ℕ) → ContainsNumber l x → P x) → Each P l
each_has P [] h = tt
each_has P (a ∷ l) h = (h a (inl refl), each_has P l (λ x k. h x (inr k)))

pub has_each : (P : ℕ → Type 0) (l : List ℕ) (x : ℕ) → Each P l → ContainsNumber l x → P x
has_each P [] x h k = absurd k
has_each P (a ∷ l) x h (inl e) = subst P (sym e) h.0
has_each P (a ∷ l) x h (inr k) = has_each P l x h.1 k

-- a number that the list has not, behind it
pub once_push : (l : List ℕ) (b : ℕ) → AllPairs (λ x y. x ≢ y) l → (ContainsNumber l b → ⊥) → AllPairs (λ x y. x ≢ y) (l ++ b ∷ [])
once_push l b h n = all_pairs_push (λ x y. x ≢ y) l b h (λ k d q e. n (subst (λ (x : ℕ). ContainsNumber l x) e (has_at l k d q)))
