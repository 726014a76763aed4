use Rattle.std.proofs.Common.{◌≡◌, ◌≤◌, ◌<◌, ◌+◌, get_or, take, length, arith}
use Rattle.std.specs.Char.{digit_value}
use Rattle.std.proofs.lemmas.List.{length-take-le}
use Rattle.std.proofs.lemmas.Int.Digits.{digits_more, digits_value_more}
use Rattle.std.proofs.lemmas.Str.{digit_value_digit}
use Rattle.of_script.proofs.Numbers.{few_digits}
use Rattle.of_script.proofs.text.with_digit.Goals as goal

pub returns : goal.returns
returns c h =
    let bytes = c.args.bytes.now in
    let b = get_or bytes c.args.at 0 in
    let low : 48 ≤ b = omega (arith, c.from-digit.ensures, c.if-digit-gt9.false) in
    let high : b ≤ 57 = omega (arith, c.from-digit.ensures, c.if-digit-gt9.false) in
    let digit : digit_value b + 48 ≡ b = digit_value_digit b (low, high) in
    let below : digit_value b < 10 = omega arith in
    let digits = digits_more 10 bytes c.args.at c.requires h.digits below in
    let more = digits_value_more 10 bytes c.args.at c.requires in
    record {
      digits = digits;
      spelled = λ few.
          let short : length (take (c.args.at + 1) bytes) ≤ 10 = omega (arith, length-take-le (c.args.at + 1) bytes (omega arith)) in
          omega (arith, h.spelled (omega arith), more, digit, few_digits _ digits short, c.from-digit.ensures);
    }
