-- A copy of the parts of a store, and its queues as the state sees them.
use Rattle.std.proofs.Common.{◌≡◌, ℕ, zero, suc, ◌<◌, List, [], ◌∷◌, length, get_or, map, refl, ap, arith}
use Rattle.std.specs.FinMap as fm
use Rattle.std.specs.List.{AllZip}
use Rattle.of_script.specs.declared.instr.TheConstants.{QUEUES}
use Rattle.of_store.specs.Store.{Store}

-- a queue as the state sees it
pub at_queue : {A : Type 0} (f : A → List ℕ) (xs : List A) (i : ℕ) (x : A) → x ≡ get_or xs i x → i < length xs → f x ≡ get_or (map f xs) i []
at_queue f [] i x e lt = absurd (omega arith)
at_queue f (y ∷ ys) zero x e lt = ap f e
at_queue f (y ∷ ys) (suc i) x e lt = at_queue f ys i x e (omega arith)

pub items_copied : (C : ℕ → ℕ → Type 0) → ((x y : ℕ) → C x y → y ≡ x) → (xs ys : List ℕ) → AllZip C xs ys → ys ≡ xs
items_copied C h [] [] a = refl
items_copied C h [] (y ∷ ys) a = absurd a
items_copied C h (x ∷ xs) [] a = absurd a
items_copied C h (x ∷ xs) (y ∷ ys) a = let first = h x y a.0 in let rest = items_copied C h xs ys a.1 in cc

pub four : {A : Type 0} (f : A → List ℕ) (qs : List A) (a b c d : A) → length qs ≡ QUEUES → map f qs ≡ f (get_or qs 0 a) ∷ f (get_or qs 1 b) ∷ f (get_or qs 2 c) ∷ f (get_or qs 3 d) ∷ []
four f [] a b c d e = absurd (omega arith)
four f (x ∷ []) a b c d e = absurd (omega arith)
four f (x ∷ y ∷ []) a b c d e = absurd (omega arith)
four f (x ∷ y ∷ z ∷ []) a b c d e = absurd (omega arith)
four f (x ∷ y ∷ z ∷ w ∷ []) a b c d e = refl
four f (x ∷ y ∷ z ∷ w ∷ v ∷ qs) a b c d e = absurd (omega arith)

pub four_same : (a b c d a' b' c' d' : List ℕ) → a ≡ a' → b ≡ b' → c ≡ c' → d ≡ d' → a ∷ b ∷ c ∷ d ∷ [] ≡ a' ∷ b' ∷ c' ∷ d' ∷ []
four_same a b c d a' b' c' d' e f g h = cc

pub same_state : (registers : List ℕ) (es fs : List (ℕ × ℕ)) (qs rs : List (List ℕ)) (room : ℕ) → fs ≡ es → rs ≡ qs → ◌≡◌ {A = Store} (record { registers = registers; keys = fm.from_entries fs; queues = rs; room = room }) (record { registers = registers; keys = fm.from_entries es; queues = qs; room = room })
same_state registers es fs qs rs room e f = λ i. record { registers = registers; keys = fm.from_entries (e i); queues = f i; room = room }
