-- The first line at which two texts differ.
use Rattle.std.proofs.Common.{◌≡◌, ℕ, Bool, true, false, ◌+◌, ◌<◌, ◌≤◌, List, [], ◌∷◌, ◌++◌, length, get_or, take, drop, sym, ap, ◌∙◌, arith}
use Rattle.std.specs.Str.{bytes_eq}
use Rattle.std.proofs.lemmas.Slice.Eq.{bytes_eq-Decides}
use Rattle.std.specs.List.{join_with_byte}
use Rattle.std.proofs.lemmas.List.{take-take, take_more, take_all, get_or-take, length-take, length-drop}
use Rattle.std.proofs.lemmas.List.Splits.{join_with_byte-slice_split}
use Rattle.of_plan.specs.Lines.{text_lines}
use Rattle.of_plan.proofs.LinesAt.{next_at, count_at_last}
use Rattle.of_check.specs.Causes.{DifferFirst}

-- texts with the same lines are the same
lines_text : (a b : List ℕ) → text_lines a ≡ text_lines b → a ≡ b
lines_text a b e = sym (join_with_byte-slice_split 10 a) ∙ ap (join_with_byte 10) e ∙ join_with_byte-slice_split 10 b

below : (ls : List (List ℕ)) (at : ℕ) (line : List ℕ) (rest : List (List ℕ)) → drop at ls ≡ line ∷ rest → at < length ls
below ls at line rest e = omega (arith, length-drop at ls, ap length e)

-- the same up to a line, and so above it
pub same_above : (a b : List ℕ) (above line : ℕ) → above ≤ line → take line (text_lines a) ≡ take line (text_lines b) → take above (text_lines a) ≡ take above (text_lines b)
same_above a b above line le same = sym (take-take above line (text_lines a) le) ∙ ap (take above) same ∙ take-take above line (text_lines b) le

-- one line more is the same
pub same_more : (xs ys : List (List ℕ)) (at : ℕ) (line : List ℕ) (rest others : List (List ℕ)) → take at xs ≡ take at ys → drop at xs ≡ line ∷ rest → drop at ys ≡ line ∷ others → take (at + 1) xs ≡ take (at + 1) ys
same_more xs ys at line rest others same here there =
    let line_is : get_or xs at [] ≡ get_or ys at [] = next_at xs at line rest here ∙ sym (next_at ys at line others there) in
    take_more xs at [] (below xs at line rest here) ∙ (λ i. same i ++ line_is i ∷ []) ∙ sym (take_more ys at [] (below ys at line others there))

-- this line differs
pub differ_here : (one other : List ℕ) (at : ℕ) (x y : List ℕ) (rest others : List (List ℕ)) → take at (text_lines one) ≡ take at (text_lines other) → drop at (text_lines one) ≡ x ∷ rest → drop at (text_lines other) ≡ y ∷ others → (x ≡ y → ⊥) → DifferFirst one other at
differ_here one other at x y rest others same here there never = record {
  same = same;
  differ = λ e. never (
      sym (next_at (text_lines one) at x rest here) ∙ sym (get_or-take (at + 1) (text_lines one) at [] (omega arith))
      ∙ ap (λ (ls : List (List ℕ)). get_or ls at []) e
      ∙ get_or-take (at + 1) (text_lines other) at [] (omega arith) ∙ next_at (text_lines other) at y others there);
}

-- where one text is at its end, the next line differs
ends_first : (one other : List ℕ) (at : ℕ) (line : List ℕ) (others : List (List ℕ)) → drop at (text_lines one) ≡ line ∷ [] → drop at (text_lines other) ≡ line ∷ others → (one ≡ other → ⊥) → take (at + 1 + 1) (text_lines one) ≡ take (at + 1 + 1) (text_lines other) → ⊥
ends_first one other at line [] here there never e =
    let first = take_all (at + 1 + 1) (text_lines one) (omega (arith, count_at_last (text_lines one) at line here)) in
    let second = take_all (at + 1 + 1) (text_lines other) (omega (arith, count_at_last (text_lines other) at line there)) in
    never (lines_text one other (sym first ∙ e ∙ second))
ends_first one other at line (next ∷ others) here there never e =
    omega (arith, count_at_last (text_lines one) at line here, length-drop at (text_lines other), ap length there, length-take (at + 1 + 1) (text_lines one), length-take (at + 1 + 1) (text_lines other), ap length e)

pub one_ends : (one other : List ℕ) (at : ℕ) (line : List ℕ) (others : List (List ℕ)) → take at (text_lines one) ≡ take at (text_lines other) → drop at (text_lines one) ≡ line ∷ [] → drop at (text_lines other) ≡ line ∷ others → (one ≡ other → ⊥) → DifferFirst one other (at + 1)
one_ends one other at line others same here there never = record {
  same = same_more (text_lines one) (text_lines other) at line [] others same here there;
  differ = ends_first one other at line others here there never;
}

pub other_ends : (one other : List ℕ) (at : ℕ) (line : List ℕ) (rest : List (List ℕ)) → take at (text_lines one) ≡ take at (text_lines other) → drop at (text_lines one) ≡ line ∷ rest → drop at (text_lines other) ≡ line ∷ [] → (one ≡ other → ⊥) → DifferFirst one other (at + 1)
other_ends one other at line rest same here there never = record {
  same = same_more (text_lines one) (text_lines other) at line rest [] same here there;
  differ = λ e. ends_first other one at line rest there here (λ s. never (sym s)) (sym e);
}

-- the answer of a comparison
pub unequal : (a b : List ℕ) (r : Bool) → r ≡ bytes_eq a b → r ≡ false → a ≡ b → ⊥
unequal a b r is never e = absurd (let wrong : true ≡ false = sym ((bytes_eq-Decides a b).1 e) ∙ sym is ∙ never in cc)
