-- Lines of an image that are spelled alike are one.
use Rattle.std.proofs.Common.{◌≡◌, ℕ, ◌+◌, ◌≤◌, List, [], ◌∷◌, get_or, ap, arith}
use Rattle.std.specs.Prelude.{decimal}
use Rattle.std.proofs.lemmas.Fmt.{decimal_injective}
use Rattle.of_image.specs.declared.grammar.Grammar.{Grammar}
use Rattle.of_image.specs.declared.line.ImageLine.{ImageLine}
use Rattle.of_image.specs.declared.line.ImageLine.TheVariants.{Title, Callers, Blocks, Cell, End}
use Rattle.of_image.specs.ImageText.{image_line_words}
use Rattle.of_image.specs.ImageReading.{IsImageLineInRange}
use Rattle.of_image.proofs.Bounds.{few_callers, few_blocks}

-- the first two bytes of a line tell its kind
abbrev pub kind : List (List ℕ) → ℕ
kind [] = 0
kind (w ∷ ws) = get_or w 0 0 + get_or w 1 0

pub other_kind : (v w : List (List ℕ)) → v ≡ w → (kind v ≡ kind w → ⊥) → ⊥
other_kind v w e differ = differ (ap kind e)

same_number : (n m : ℕ) → n ≤ 4294967295 → m ≤ 4294967295 → decimal n ≡ decimal m → n ≡ m
same_number n m low high e = decimal_injective n m (omega arith) (omega arith) e

pub line_same : (g : Grammar) (l m : ImageLine) → IsImageLineInRange g l → IsImageLineInRange g m → image_line_words l ≡ image_line_words m → l ≡ m
line_same g (Title n) (Title m) p q e = ap (λ (k : ℕ). Title k) (same_number n m p q cc)
line_same g (Callers n) (Callers m) p q e = ap (λ (k : ℕ). Callers k) (same_number n m (omega (arith, p, few_callers g.limits)) (omega (arith, q, few_callers g.limits)) cc)
line_same g (Blocks n) (Blocks m) p q e = ap (λ (k : ℕ). Blocks k) (same_number n m (omega (arith, p, few_blocks g.limits)) (omega (arith, q, few_blocks g.limits)) cc)
line_same g (Cell c s x) (Cell d t y) p q e =
    let one = same_number c d p.0 q.0 cc in
    let two = same_number s t p.1 q.1 cc in
    let three = same_number x y p.2 q.2 cc in
    λ i. Cell (one i) (two i) (three i)
line_same g End End p q e = cc
line_same g l m p q e = absurd (other_kind (image_line_words l) (image_line_words m) e (λ k. omega (arith, k)))
