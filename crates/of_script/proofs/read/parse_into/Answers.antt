use Rattle.std.proofs.Common.{◌≡◌, ℕ, List, ◌∷◌, sym, ap, subst, ◌∙◌, arith}
use Rattle.of_script.specs.Text.{text_words, semicolon_byte}
use Rattle.of_script.proofs.Instrs.{front_takes}
use Rattle.of_script.proofs.InOnePass.{IsAhead, first_ahead, one_ahead, all_read, no_first, no_next, no_mark, no_room, word_same, word_other}
use Rattle.of_script.proofs.read.parse_into.Goals as goal

pub begin-requires : goal.begin-requires
begin-requires c = (front_takes _ _ c.in-Some.ensures).range

pub loop-mark-init : goal.loop-mark-init
loop-mark-init c = subst (IsAhead c.args.text.now c.in-Some.after.now) (sym c.begin.ensures) (first_ahead c.args.text.now c.in-Some.after.now c.in-Some.one c.in-Some.ensures)

pub push-requires-clause-range : goal.push-requires-clause-range
push-requires-clause-range c = (front_takes _ _ c.in-Some-front.ensures).range

pub loop-mark-preserved : goal.loop-mark-preserved
loop-mark-preserved c =
    let mark : c.in-Some-word.mark.now ≡ semicolon_byte = word_same c.in-Some-word.mark.now c.as_slice.result.now c.if-ne.ensures ∙ c.as_slice.ensures in
    subst (IsAhead c.args.text.now c.in-Some-front.after.now) (sym c.push.ensures)
    (one_ahead c.args.text.now c.loop-mark.rest.now c.in-Some-word.more.now c.in-Some-front.after.now c.loop-mark.script c.in-Some-front.one c.loop-mark.invariant
    (omega (arith, c.if-len.false, c.len.ensures.len, c.len.ensures.few))
    (c.in-Some-word.ensures.words ∙ ap (λ (w : List ℕ). w ∷ text_words c.in-Some-word.more.now) mark) c.in-Some-front.ensures)

-- where nothing is read, no script is spelled
pub returns-in_default-clause-only : goal.returns-in_default-clause-only
returns-in_default-clause-only c spelled s = absurd (no_first c.args.text.now spelled c.in_default.ensures s)

pub returns-then-ne-clause-only : goal.returns-then-ne-clause-only
returns-then-ne-clause-only c spelled s =
    absurd (no_mark c.args.text.now c.loop-mark.rest.now c.loop-mark.script spelled c.in-Some-word.mark.now (text_words c.in-Some-word.more.now) c.loop-mark.invariant c.in-Some-word.ensures.words
    (λ e. word_other c.in-Some-word.mark.now c.as_slice.result.now c.if-ne.ensures (e ∙ sym c.as_slice.ensures)) s)

pub returns-then-len-clause-only : goal.returns-then-len-clause-only
returns-then-len-clause-only c spelled s =
    absurd (no_room c.args.text.now c.loop-mark.rest.now c.loop-mark.script spelled c.in-Some-word.mark.now (text_words c.in-Some-word.more.now) c.loop-mark.invariant c.in-Some-word.ensures.words
    (omega (arith, c.if-len.true, c.len.ensures.len)) s)

pub returns-in_default-front-clause-only : goal.returns-in_default-front-clause-only
returns-in_default-front-clause-only c spelled s =
    let mark : c.in-Some-word.mark.now ≡ semicolon_byte = word_same c.in-Some-word.mark.now c.as_slice.result.now c.if-ne.ensures ∙ c.as_slice.ensures in
    absurd (no_next c.args.text.now c.loop-mark.rest.now c.in-Some-word.more.now c.loop-mark.script spelled c.loop-mark.invariant
    (c.in-Some-word.ensures.words ∙ ap (λ (w : List ℕ). w ∷ text_words c.in-Some-word.more.now) mark) c.in_default-front.ensures s)

-- nothing is left
pub returns-clause-ok : goal.returns-clause-ok
returns-clause-ok c _ = all_read c.args.text.now c.loop-mark.rest.now c.loop-mark.script c.loop-mark.invariant c.in_default-word.ensures.words
