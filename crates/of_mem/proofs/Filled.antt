-- What the words answered that have run, and none past them.
use Rattle.std.proofs.Common.{◌≡◌, ℕ, suc, ◌+◌, ◌-◌, ◌<◌, ◌≤◌, List, [], ◌∷◌, ◌++◌, length, Option, None, set, take, replicate, sym, ◌∙◌, ap, arith}
use Rattle.std.proofs.Math.Seq.{set-append_seam}
use Rattle.std.proofs.lemmas.List.{take_more_set, length-take-le, append_assoc}

-- the first values of a list, filled up to n
abbrev pub filled : ℕ → ℕ → List (Option ℕ) → List (Option ℕ)
filled n i vs = take i vs ++ replicate (n - i) None

-- one value more
pub filled_more : (n i : ℕ) (vs : List (Option ℕ)) (v : Option ℕ) → i < n → i < length vs → filled n (i + 1) (set vs i v) ≡ set (filled n i vs) i v
filled_more n i vs v l m =
    let one : n - i ≡ suc (n - (i + 1)) = omega arith in
    let rest : List (Option ℕ) = replicate (n - (i + 1)) None in
    let at : length (take i vs) ≡ i = length-take-le i vs (omega arith) in
    ap (λ (us : List (Option ℕ)). us ++ rest) (take_more_set vs i v m)
    ∙ append_assoc (take i vs) (v ∷ []) rest
    ∙ sym (set-append_seam (take i vs) None rest v)
    ∙ ap (λ (j : ℕ). set (take i vs ++ None ∷ rest) j v) at
    ∙ ap (λ (k : ℕ). set (take i vs ++ replicate k None) i v) (sym one)
