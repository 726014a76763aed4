-- Lists and arrays with one element more.
use Rattle.std.proofs.Common.{◌≡◌, ℕ, ◌+◌, ◌-◌, ◌<◌, ◌≤◌, List, [], ◌∷◌, ◌++◌, length, take, drop, set, replicate, map, Some, refl, sym, ap, ◌∙◌, arith}
use Rattle.std.specs.Prelude.{slice_get}
use Rattle.std.specs.List.{AllByRecursion}
use Rattle.std.proofs.lemmas.List.{take_more, take_more_set, drop-set-lt, drop-drop, drop-replicate, length-take}
use Rattle.std.proofs.lemmas.Option.{slice_get_within, get_or_from_slice_get}

pub take_one_more : {A : Type 0} (xs : List A) (n : ℕ) (x : A) → slice_get xs n ≡ Some x → take (n + 1) xs ≡ take n xs ++ x ∷ []
take_one_more xs n x at = take_more xs n x (slice_get_within xs n x at) ∙ ap (λ y. take n xs ++ y ∷ []) (get_or_from_slice_get xs n x x at)

pub map-push : {A B : Type 0} (f : A → B) (xs : List A) (x : A) → map f (xs ++ x ∷ []) ≡ map f xs ++ f x ∷ []
map-push f [] x = refl
map-push f (y ∷ xs) x = ap (λ (r : List _). f y ∷ r) (map-push f xs x)

pub all-push : {A : Type 0} (P : A → Type 0) (xs : List A) (x : A) → AllByRecursion P xs → P x → AllByRecursion P (xs ++ x ∷ [])
all-push P [] x h p = (p, tt)
all-push P (y ∷ xs) x h p = (h.0, all-push P xs x h.1 p)

-- ---- arrays

-- the front of an array is as long as it should be
pub length-front : {A : Type 0} (room : ℕ) (xs : List A) (n : ℕ) → length xs ≡ room → n ≤ room → length (take n xs) ≡ n
length-front room xs n size le = omega (arith, length-take n xs)

-- an array after one element more
pub placed : {A : Type 0} (room : ℕ) (xs : List A) (n : ℕ) (x : A) → length xs ≡ room → n < room → take (n + 1) (set xs n x) ≡ take n xs ++ x ∷ []
placed room xs n x size lt = take_more_set xs n x (omega arith)

pub rest_placed : {A : Type 0} (room : ℕ) (xs : List A) (n : ℕ) (x filler : A) → length xs ≡ room → n < room → drop n xs ≡ replicate (room - n) filler → drop (n + 1) (set xs n x) ≡ replicate (room - (n + 1)) filler
rest_placed room xs n x filler size lt e =
    drop-set-lt (n + 1) xs n x (omega arith)
    ∙ sym (drop-drop 1 n xs) ∙ ap (drop 1) e ∙ drop-replicate 1 (room - n) filler ∙ ap (λ (k : ℕ). replicate k filler) (let w : (room - n) - 1 ≡ room - (n + 1) = omega arith in w)
