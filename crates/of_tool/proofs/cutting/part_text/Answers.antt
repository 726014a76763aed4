use Rattle.std.proofs.Common.{rules, ◌≡◌, List, ℕ, [], ◌∷◌, length, sym, subst, refl, arith}
use Rattle.of_tool.specs.Cutting.{IsPart}
use Rattle.of_tool.specs.Inputs.{AnyTexts}
use Rattle.of_tool.proofs.cutting.part_text.Goals as goal

no_bytes : (bytes : List ℕ) → length bytes ≡ 0 → bytes ≡ []
no_bytes [] e = refl
no_bytes (b ∷ bytes) e = absurd (omega (arith, e))

-- the part is empty, so it is not there
pub returns-then-is_empty : goal.returns-then-is_empty
returns-then-is_empty c = λ source input.
    let none : c.part-found.result.now ≡ [] = no_bytes c.part-found.result.now (search rules) in
    record {
      input = AnyTexts c.args.number;
      reads = refl;
      cause = record { bytes = c.args.input.now; read = input _ refl; none = subst (λ (t : List ℕ). IsPart c.args.number c.args.input.now t) none c.part-found.ensures };
    }

pub returns : goal.returns
returns c = λ source input. record {
  bytes = c.args.input.now;
  read = input _ refl;
  is = subst (λ (t : List ℕ). IsPart c.args.number c.args.input.now t) (sym c.in_ok-from_slice.ensures.items) c.part-found.ensures;
  some = search rules;
}
