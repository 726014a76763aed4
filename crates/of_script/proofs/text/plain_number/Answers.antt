use Rattle.std.proofs.Common.{refl, sym, ap, ◌∙◌, arith}
use Rattle.of_script.specs.Text.{text_words}
use Rattle.of_script.specs.Reading.{next_number}
use Rattle.of_script.proofs.Words.{words-spaces, ends_twice}
use Rattle.of_script.proofs.NumberWords.{number_first}
use Rattle.of_script.proofs.text.plain_number.Goals as goal

pub returns-clause-words : goal.returns-clause-words
returns-clause-words c =
    let read = c.leading_digits-len.ensures in
    let value = read.value (omega arith) in
    let first = number_first c.args.most c.leading_digits-len.result.0 c.split_at.result.1.now (omega arith) read.within read.digits (λ more e. grind arith) (c.if-not-ends_word.ensures refl) (omega (arith, value)) in
    ap (next_number c.args.most) (words-spaces _ _ c.spaces.ensures.before ∙ ap text_words (sym c.split_at.ensures.back))
    ∙ first ∙ rw (value, c.split_at-2.ensures.back) refl

pub returns-clause-rest : goal.returns-clause-rest
returns-clause-rest c = ends_twice _ _ _ _ _ c.split_at.ensures.back c.split_at-2.ensures.back
