use Rattle.std.proofs.Common.{◌≡◌, ◌∙◌, ℕ, List, [], ◌∷◌, ◌++◌, sym, ap, arith}
use Rattle.std.proofs.lemmas.List.{length-append}
use Rattle.of_script.specs.Text.{text_words, semicolon_byte}
use Rattle.of_script.proofs.Words.{ends_behind}
use Rattle.of_script.proofs.InOnePass.{first_ahead, one_ahead, word_same, word_other}
use Rattle.of_plan.proofs.BadPieces.{ends_on}
use Rattle.of_plan.proofs.ScriptFaults.{first_bad, next_bad, word_bad, full_bad}
use Rattle.of_plan.proofs.parser.feed.script_fault.Goals as goal

pub returns-in-Err : goal.returns-in-Err
returns-in-Err c = first_bad c.args.bytes.now c.in-Err.bad.reason c.in-Err.bad.piece c.in-Err.ensures.err

pub loop-mark-init : goal.loop-mark-init
loop-mark-init c = record {
  script = c.in-Ok.field-0-0 ∷ [];
  ahead = first_ahead c.args.bytes.now c.in-Ok.after.now c.in-Ok.field-0-0 c.in-Ok.ensures.ok;
  count = omega arith;
  ends = c.in-Ok.ensures.rest;
}

pub returns-then-ne : goal.returns-then-ne
returns-then-ne c =
    word_bad c.args.bytes.now c.loop-mark.rest.now c.loop-mark.invariant.script c.in-Some.mark.now (text_words c.in-Some.more.now) _ _ c.loop-mark.invariant.ahead c.loop-mark.invariant.ends c.in-Some.ensures.words c.in-Some.ensures.some
    (λ e. word_other c.in-Some.mark.now c.as_slice.result.now c.if-ne.ensures (e ∙ sym c.as_slice.ensures)) c.bad_word.ensures.piece c.bad_word.ensures.reason

pub returns-then-count-eq-MOST_INSTRS : goal.returns-then-count-eq-MOST_INSTRS
returns-then-count-eq-MOST_INSTRS c =
    let mark : c.in-Some.mark.now ≡ semicolon_byte = word_same c.in-Some.mark.now c.as_slice.result.now c.if-ne.ensures ∙ c.as_slice.ensures in
    full_bad c.args.bytes.now c.loop-mark.rest.now c.loop-mark.invariant.script (text_words c.in-Some.more.now) _ _ c.loop-mark.invariant.ahead c.loop-mark.invariant.ends
    (c.in-Some.ensures.words ∙ ap (λ (w : List ℕ). w ∷ text_words c.in-Some.more.now) mark) (omega (arith, c.loop-mark.invariant.count, c.if-count-eq-MOST_INSTRS.true))
    c.bad_word-then-count-eq-MOST_INSTRS.ensures.piece c.bad_word-then-count-eq-MOST_INSTRS.ensures.reason

pub returns-in-Err-read_instr : goal.returns-in-Err-read_instr
returns-in-Err-read_instr c =
    let mark : c.in-Some.mark.now ≡ semicolon_byte = word_same c.in-Some.mark.now c.as_slice.result.now c.if-ne.ensures ∙ c.as_slice.ensures in
    next_bad c.args.bytes.now c.loop-mark.rest.now c.in-Some.more.now c.loop-mark.invariant.script c.in-Err-read_instr.bad.reason c.in-Err-read_instr.bad.piece c.loop-mark.invariant.ahead
    (c.in-Some.ensures.words ∙ ap (λ (w : List ℕ). w ∷ text_words c.in-Some.more.now) mark)
    (ends_on _ c.loop-mark.rest.now _ c.loop-mark.invariant.ends (ends_behind _ _ _ c.in-Some.ensures.parts)) c.in-Err-read_instr.ensures.err

pub loop-mark-preserved : goal.loop-mark-preserved
loop-mark-preserved c =
    let mark : c.in-Some.mark.now ≡ semicolon_byte = word_same c.in-Some.mark.now c.as_slice.result.now c.if-ne.ensures ∙ c.as_slice.ensures in
    let few = c.loop-mark.invariant.ahead.fits.few in
    record {
      script = c.loop-mark.invariant.script ++ c.in-Ok-read_instr.field-0-0 ∷ [];
      ahead = one_ahead c.args.bytes.now c.loop-mark.rest.now c.in-Some.more.now c.in-Ok-read_instr.after.now c.loop-mark.invariant.script c.in-Ok-read_instr.field-0-0 c.loop-mark.invariant.ahead
          (omega (arith, c.loop-mark.invariant.count, c.if-count-eq-MOST_INSTRS.false, few))
          (c.in-Some.ensures.words ∙ ap (λ (w : List ℕ). w ∷ text_words c.in-Some.more.now) mark) c.in-Ok-read_instr.ensures.ok;
      count = omega (arith, c.loop-mark.invariant.count, length-append c.loop-mark.invariant.script (c.in-Ok-read_instr.field-0-0 ∷ []));
      ends = ends_on _ c.loop-mark.rest.now _ c.loop-mark.invariant.ends (ends_on _ c.in-Some.more.now _ (ends_behind _ _ _ c.in-Some.ensures.parts) c.in-Ok-read_instr.ensures.rest);
    }
