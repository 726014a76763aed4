-- Lists before and after a tree of threads has worked on each item by itself.
use Rattle.std.specs.Prelude.{◌≡◌, List, [], ◌∷◌}
use denote.Ref.{MutBor}
use denote.Param.Members.{Shared}

-- the lists are equally long, and P holds of the two items at each index
abbrev pub AllPaired : {A : Type 0} → (A → A → Type 0) → List A → List A → Type 0
AllPaired P [] [] = Unit {0}
AllPaired P [] (y ∷ ys) = ⊥
AllPaired P (x ∷ xs) [] = ⊥
AllPaired P (x ∷ xs) (y ∷ ys) = P x y × AllPaired P xs ys

-- the first list is at least as long, and P holds of the two items at each index of the second
abbrev pub PrefixPaired : {A B : Type 0} → (A → B → Type 0) → List A → List B → Type 0
PrefixPaired P xs [] = Unit {0}
PrefixPaired P [] (y ∷ ys) = ⊥
PrefixPaired P (x ∷ xs) (y ∷ ys) = P x y × PrefixPaired P xs ys

module _ {F T : Type 0} (g : Shared F (MutBor T × Unit {0}) (Unit {0} × (MutBor T × Unit {0})))
    (f : F) where
  -- f may be called with a `&mut` to x
  abbrev pub Takes : T → Type 0
  Takes x = (p : MutBor T) → p.now ≡ x → g.pre f (p, tt)

  -- a call of f with a `&mut` to x may leave y there
  pub record Leaves (x y : T) : Type 0 where
    pub argument : MutBor T
    pub argument_is : argument.now ≡ x
    pub after_call : MutBor T
    pub call : g.post f (argument, tt) (tt, (after_call, tt))
    pub left : after_call.now ≡ y
