-- One part more.
use Rattle.std.proofs.Common.{◌≡◌, ℕ, zero, suc, ◌+◌, ◌-◌, ◌<◌, ◌≤◌, List, subst, arith}
use Rattle.of_plan.specs.Parts.{AreParts}
use Rattle.of_tool.specs.Cutting.{IsPart}

more : (n k : ℕ) → 1 ≤ n → k ≡ n + 1 → (text first rest part : List ℕ) → AreParts text first rest → IsPart n rest part → IsPart k text part
more zero k low is text first rest part are h = absurd (omega arith)
more (suc n) k low is text first rest part are h =
    let e : suc (suc n) ≡ k = omega (arith, is) in
    subst (λ (m : ℕ). IsPart m text part) e (first, rest, are, h)

-- a part of what comes after the first is a part
pub one_more : (number counter : ℕ) → 1 ≤ counter → counter < number → (text first rest part : List ℕ) → AreParts text first rest → IsPart (number + 1 - (counter + 1)) rest part → IsPart (number + 1 - counter) text part
one_more number counter low high text first rest part are h =
    more (number + 1 - (counter + 1)) (number + 1 - counter) (omega (arith, high)) (omega (arith, high)) text first rest part are h
