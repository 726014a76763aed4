use Rattle.std.proofs.Common.{◌≡◌, ◌+◌, ℕ, [], ◌∷◌, take, map, length, refl, sym, ap, subst, ◌∙◌, arith}
use Rattle.std.specs.List.{AllByRecursion}
use Rattle.std.proofs.lemmas.List.{take_all, length-append}
use Rattle.of_script.specs.Language.{IsInstrInRange, instr_word}
use Rattle.of_script.proofs.Grown.{all-push}
use Rattle.of_script.proofs.WordLaws.{instr_at_takes, word_read, no_word, words_injective}
use Rattle.of_script.proofs.packing.from_words_into.Goals as goal

pub returns-in_default-clause-only : goal.returns-in_default-clause-only
returns-in_default-clause-only c read fits e = absurd (no_word read c.args.words.now 0 fits e (omega arith) (sym c.in_default.ensures.value))

pub loop-i-init : goal.loop-i-init
loop-i-init c =
    let one = instr_at_takes _ c.in-Some.first (sym c.in-Some.ensures.value) in
    record {
      words = ap (map instr_word) c.begin.ensures ∙ word_read [] c.args.words.now 0 c.in-Some.first refl (omega arith) one.word;
      range = subst (AllByRecursion IsInstrInRange) (sym c.begin.ensures) (all-push IsInstrInRange [] c.in-Some.first tt one.range);
      count = ap length c.begin.ensures;
    }

pub returns-in_default-from_word-clause-only : goal.returns-in_default-from_word-clause-only
returns-in_default-from_word-clause-only c read fits e = absurd (no_word read c.args.words.now c.loop-i.i fits e c.loop-i-test.true (sym c.in_default-from_word.ensures.value))

pub loop-i-preserved : goal.loop-i-preserved
loop-i-preserved c =
    let one = instr_at_takes _ c.in-Some-from_word.one (sym c.in-Some-from_word.ensures.value) in
    record {
      words = ap (map instr_word) c.push.ensures ∙ word_read _ c.args.words.now c.loop-i.i c.in-Some-from_word.one c.loop-i.invariant.words c.loop-i-test.true one.word;
      range = subst (AllByRecursion IsInstrInRange) (sym c.push.ensures) (all-push IsInstrInRange _ c.in-Some-from_word.one c.loop-i.invariant.range one.range);
      count = ap length c.push.ensures ∙ length-append c.loop-i.script (c.in-Some-from_word.one ∷ []) ∙ ap (λ (n : ℕ). n + 1) c.loop-i.invariant.count;
    }

pub returns-clause-only : goal.returns-clause-only
returns-clause-only c read fits e =
    let all : take c.loop-i.i c.args.words.now ≡ c.args.words.now = take_all c.loop-i.i c.args.words.now (omega arith) in
    (refl, words_injective _ read c.loop-i.invariant.range fits.in_range (c.loop-i.invariant.words ∙ all ∙ sym e))
