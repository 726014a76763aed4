-- Lists whose items are paired.
use Rattle.std.proofs.Common.{◌≡◌, ℕ, suc, ◌+◌, ◌<◌, List, [], ◌∷◌, ◌++◌, length, get_or, remove, take, drop, append_assoc, sym, refl, ap, ◌∙◌, subst, arith}
use Rattle.std.specs.List.{AllByRecursion as Each}
use Rattle.of_caller.specs.Trees.{AllPaired, PrefixPaired}

pub both_append : {A : Type 0} (P : A → A → Type 0) (a b c d : List A) → AllPaired P a b → AllPaired P c d → AllPaired P (a ++ c) (b ++ d)
both_append P [] [] c d p q = q
both_append P [] (y ∷ b) c d p q = absurd p
both_append P (x ∷ a) [] c d p q = absurd p
both_append P (x ∷ a) (y ∷ b) c d p q = (p.0, both_append P a b c d p.1 q)

pub both_map : {A : Type 0} (P Q : A → A → Type 0) (xs ys : List A) → ((x y : A) → P x y → Q x y) → AllPaired P xs ys → AllPaired Q xs ys
both_map P Q [] [] f b = tt
both_map P Q [] (y ∷ ys) f b = absurd b
both_map P Q (x ∷ xs) [] f b = absurd b
both_map P Q (x ∷ xs) (y ∷ ys) f b = (f x y b.0, both_map P Q xs ys f b.1)

pub each_weaker : {A : Type 0} (P Q : A → Type 0) (xs : List A) → ((x : A) → P x → Q x) → Each P xs → Each Q xs
each_weaker P Q [] f e = tt
each_weaker P Q (x ∷ xs) f e = (f x e.0, each_weaker P Q xs f e.1)

pub both_length : {A : Type 0} (P : A → A → Type 0) (xs ys : List A) → AllPaired P xs ys → length ys ≡ length xs
both_length P [] [] b = refl
both_length P [] (y ∷ ys) b = absurd b
both_length P (x ∷ xs) [] b = absurd b
both_length P (x ∷ xs) (y ∷ ys) b = ap suc (both_length P xs ys b.1)

-- one pair more at the end
paired_end : {A B : Type 0} (P : A → B → Type 0) (xs : List A) (ys : List B) (x : A) (y : B) → PrefixPaired P xs ys → length xs ≡ length ys → P x y → PrefixPaired P (xs ++ x ∷ []) (ys ++ y ∷ [])
paired_end P [] [] x y h same one = (one, tt)
paired_end P [] (b ∷ ys) x y h same one = absurd h
paired_end P (a ∷ xs) [] x y h same one = absurd (omega (arith, same))
paired_end P (a ∷ xs) (b ∷ ys) x y h same one = (h.0, paired_end P xs ys x y h.1 (omega (arith, same)) one)

pub paired_adds : {A B : Type 0} (P : A → B → Type 0) (xs : List A) (ys zs : List B) (x : A) (y : B) → PrefixPaired P xs ys → length xs ≡ length ys → zs ≡ ys ++ y ∷ [] → P x y → PrefixPaired P (xs ++ x ∷ []) zs
paired_adds P xs ys zs x y h same is one = subst (PrefixPaired P (xs ++ x ∷ [])) (sym is) (paired_end P xs ys x y h same one)

-- the first list may be longer
pub paired_longer : {A B : Type 0} (P : A → B → Type 0) (xs more : List A) (ys : List B) → PrefixPaired P xs ys → PrefixPaired P (xs ++ more) ys
paired_longer P xs more [] h = tt
paired_longer P [] more (y ∷ ys) h = absurd h
paired_longer P (x ∷ xs) more (y ∷ ys) h = (h.0, paired_longer P xs more ys h.1)

-- ---- what is taken off the front

cut_front : {A : Type 0} (xs ys : List A) (x : A) → 0 < length xs → x ≡ get_or xs 0 x → ys ≡ remove xs 0 → xs ≡ x ∷ ys
cut_front [] ys x l e w = absurd (omega arith)
cut_front (z ∷ xs) ys x l e w = λ i. sym e i ∷ sym w i

pub front_longer : {A : Type 0} (bs xs ys all : List A) (x : A) → 0 < length xs → x ≡ get_or xs 0 x → ys ≡ remove xs 0 → bs ++ xs ≡ all → (bs ++ x ∷ []) ++ ys ≡ all
front_longer bs xs ys all x l e w is = append_assoc bs (x ∷ []) ys ∙ (ap (λ z. bs ++ z) (sym (cut_front xs ys x l e w)) ∙ is)

pub longer_by : {A : Type 0} (xs : List A) (x : A) → length (xs ++ x ∷ []) ≡ length xs + 1
longer_by [] x = refl
longer_by (y ∷ xs) x = let h = longer_by xs x in omega arith

-- ---- a vector whose slice was written anew

rewritten : {A : Type 0} (xs ys : List A) → length ys ≡ length xs → take (length xs) (ys ++ drop (length ys) xs) ≡ ys
rewritten [] [] e = refl
rewritten [] (y ∷ ys) e = absurd (omega arith)
rewritten (x ∷ xs) [] e = absurd (omega arith)
rewritten (x ∷ xs) (y ∷ ys) e = ap (λ z. y ∷ z) (rewritten xs ys (omega arith))

pub written : {A : Type 0} (P : A → A → Type 0) (xs ys : List A) (n : ℕ) → AllPaired P xs ys → n ≡ length xs → take n (ys ++ drop (length ys) xs) ≡ ys
written P xs ys n b e = ap (λ z. take z (ys ++ drop (length ys) xs)) e ∙ rewritten xs ys (both_length P xs ys b)
