use Rattle.std.proofs.Common.{◌≡◌, ℕ, length, take, refl, ap, ◌∙◌, arith}
use Rattle.std.proofs.lemmas.Int.Digits.{digits_more}
use Rattle.std.proofs.lemmas.Str.Parse.{digit_at}
use Rattle.std.proofs.Math.Seq.{take-length}
use Rattle.of_script.proofs.Numbers.{digit_texts}
use Rattle.of_plan.proofs.numerals.is_numeral.Goals as goal

pub returns-then-not-is_ascii_digit : goal.returns-then-not-is_ascii_digit
returns-then-not-is_ascii_digit c = (
  λ t. absurd cc,
  λ h.
      let d = digit_at c.args.word.now c.loop-b.b-index (digit_texts.to _ h.digits) c.loop-b-test.true in
      absurd (grind (arith, d, c.is_ascii_digit.ensures.cases)),
)

pub loop-b-preserved : goal.loop-b-preserved
loop-b-preserved c = digits_more 10 c.args.word.now c.loop-b.b-index c.loop-b-test.true c.loop-b.invariant c.if-not-is_ascii_digit.ensures.bound

pub returns : goal.returns
returns c =
    let at : c.loop-b.b-index ≡ length c.args.word.now = omega arith in
    let whole : take c.loop-b.b-index c.args.word.now ≡ c.args.word.now = ap (λ (n : ℕ). take n c.args.word.now) at ∙ take-length c.args.word.now in
    let digits = rw whole at c.loop-b.invariant in
    (λ t. record { digits = digit_texts.from _ digits; some = grind arith; no_zero = λ e. grind arith }, λ h. refl)
