-- The pieces of a line between its spaces.
use Rattle.std.proofs.Common.{◌≡◌, ℕ, ◌+◌, ◌<◌, ◌≤◌, List, [], ◌∷◌, Option, Some, None, inl, inr, length, get_or, take, drop, sym, ap, ◌∙◌, arith}
use Rattle.std.proofs.lemmas.List.{get_or-take, length-drop, take-take}
use Rattle.std.proofs.lemmas.Bool.Decides.{leb_tells}
use Rattle.std.specs.Prelude.{MatchOption}
use denote.Ref.{Bor}
use Rattle.of_plan.proofs.LinesAt.{next_at}
use Rattle.of_check.proofs.Differences.{same_more}
use Rattle.of_check.specs.LineRules.{line_pieces, SharePieces}

-- whether or not a space comes, there is a first piece
pub first_piece : (o : Option (Bor (List ℕ))) (ps : List (List ℕ)) (first : List ℕ) → MatchOption o (ps ≡ first ∷ []) (λ r. ps ≡ first ∷ line_pieces r.now) → (others : List (List ℕ)) × (ps ≡ first ∷ others)
first_piece None ps first h = ([], h)
first_piece (Some r) ps first h = (line_pieces r.now, h)

-- if the next pieces differ, no more of them are shared
pub shares_to : (one other : List ℕ) (at : ℕ) (x y : List ℕ) (rest others : List (List ℕ)) → drop at (line_pieces one) ≡ x ∷ rest → drop at (line_pieces other) ≡ y ∷ others → (x ≡ y → ⊥) → (count : ℕ) → SharePieces count one other → count ≤ at
shares_to one other at x y rest others here there never count shares =
    elim (leb_tells count at) [
      | inl p ↦ p.1
      | inr p ↦ absurd (never (
          sym (next_at (line_pieces one) at x rest here) ∙ sym (get_or-take count (line_pieces one) at [] p.1)
          ∙ ap (λ (ps : List (List ℕ)). get_or ps at []) shares.same
          ∙ get_or-take count (line_pieces other) at [] p.1 ∙ next_at (line_pieces other) at y others there))
    ]

-- lines that share some pieces share fewer
pub share_fewer : (few many : ℕ) (one other : List ℕ) → few ≤ many → SharePieces many one other → SharePieces few one other
share_fewer few many one other le share = record {
  first = omega (arith, le, share.first);
  second = omega (arith, le, share.second);
  same = sym (take-take few many (line_pieces one) le) ∙ ap (take few) share.same ∙ take-take few many (line_pieces other) le;
}

-- the lines share the pieces before these, if they are the same
pub shared_so_far : (one other : List ℕ) (at : ℕ) (x y : List ℕ) (rest others : List (List ℕ)) → take at (line_pieces one) ≡ take at (line_pieces other) → drop at (line_pieces one) ≡ x ∷ rest → drop at (line_pieces other) ≡ y ∷ others → SharePieces at one other
shared_so_far one other at x y rest others same here there = record {
  first = omega (arith, length-drop at (line_pieces one), ap length here);
  second = omega (arith, length-drop at (line_pieces other), ap length there);
  same = same;
}

-- the next pieces are the same: the lines share one more
pub share_more : (one other : List ℕ) (at : ℕ) (x : List ℕ) (rest others : List (List ℕ)) → take at (line_pieces one) ≡ take at (line_pieces other) → drop at (line_pieces one) ≡ x ∷ rest → drop at (line_pieces other) ≡ x ∷ others → SharePieces (at + 1) one other
share_more one other at x rest others same here there = record {
  first = omega (arith, length-drop at (line_pieces one), ap length here);
  second = omega (arith, length-drop at (line_pieces other), ap length there);
  same = same_more (line_pieces one) (line_pieces other) at x rest others same here there;
}
