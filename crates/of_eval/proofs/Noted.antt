-- The numbers of values, 0 for none, place by place.
use Rattle.std.proofs.Common.{◌≡◌, ℕ, zero, suc, ◌+◌, ◌<◌, ◌≤◌, List, [], ◌∷◌, ◌++◌, length, map, get_or, take, Option, None, refl, sym, ◌∙◌, ap, arith}
use Rattle.std.proofs.lemmas.List.{map-append, take_more}
use Rattle.std.specs.Option.{unwrap_or}

abbrev pub number : Option ℕ → ℕ
number v = unwrap_or v 0

-- one number more
pub noted_more : (ns ms : List ℕ) (vs : List (Option ℕ)) (i x : ℕ) → i < length vs → take (i + 1) ms ≡ take i ns ++ x ∷ [] → x ≡ number (get_or vs i None) → take i ns ≡ map number (take i vs) → take (i + 1) ms ≡ map number (take (i + 1) vs)
noted_more ns ms vs i x l m e h =
    m
    ∙ ap (λ (xs : List ℕ). xs ++ x ∷ []) h
    ∙ ap (λ (y : ℕ). map number (take i vs) ++ y ∷ []) e
    ∙ sym (map-append number (take i vs) (get_or vs i None ∷ []))
    ∙ sym (ap (map number) (take_more vs i None l))

-- from the last value on there is no number
pub noted_all : (ns : List ℕ) (vs : List (Option ℕ)) (n : ℕ) → length ns ≡ length vs → take n ns ≡ map number (take n vs) → ((k : ℕ) → n ≤ k → get_or ns k 0 ≡ 0) → ((k : ℕ) → n ≤ k → get_or vs k None ≡ None) → ns ≡ map number vs
noted_all [] [] n w e h k = refl
noted_all [] (v ∷ vs) n w e h k = absurd (omega arith)
noted_all (x ∷ ns) [] n w e h k = absurd (omega arith)
noted_all (x ∷ ns) (v ∷ vs) zero w e h k =
    let here : x ≡ number v = h 0 (omega arith) ∙ sym (ap number (k 0 (omega arith))) in
    let rest : ns ≡ map number vs = noted_all ns vs zero (omega arith) refl (λ i l. h (suc i) (omega arith)) (λ i l. k (suc i) (omega arith)) in
    λ j. here j ∷ rest j
noted_all (x ∷ ns) (v ∷ vs) (suc n) w e h k =
    let here : x ≡ number v = cc in
    let more : take n ns ≡ map number (take n vs) = cc in
    let rest : ns ≡ map number vs = noted_all ns vs n (omega arith) more (λ i l. h (suc i) (omega arith)) (λ i l. k (suc i) (omega arith)) in
    λ j. here j ∷ rest j
