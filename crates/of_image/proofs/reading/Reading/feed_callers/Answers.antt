use Rattle.std.proofs.Common.{inl, inr, refl, ap, arith, ◌∙◌, ℕ, List, [], ◌∷◌, ◌++◌}
use Rattle.std.specs.Prelude.{codes}
use Rattle.of_script.specs.Text.{text_words}
use Rattle.of_plan.proofs.BadPieces.{ends_on}
use Rattle.of_image.specs.declared.line.ImageLine.TheVariants.{Callers}
use Rattle.of_image.specs.ImageText.{image_line_words}
use Rattle.of_image.specs.ImageReading.{row_reading_value}
use Rattle.of_image.proofs.Feeding.{thrown, no_number, zero_callers, too_many, counted_words, callers_taken}
use Rattle.of_image.proofs.reading.Reading.feed_callers.Goals as goal

pub returns-in_err-count : goal.returns-in_err-count
returns-in_err-count c =
    thrown c.from_residual-in_err-count.result _ _ _ c.from_residual-in_err-count.ensures.1
    (no_number c.args.grammar (row_reading_value c.args.self.now) c.args.line.now c.in_ok-rest.rest.now _ c.callers-most.result (codes "callers" ∷ []) c.requires.kept (inr (inl (refl, c.callers-most.ensures.value))) (rw c.as_slice.ensures at c.in_ok-rest.ensures.ok) c.in_ok-rest.ensures.rest c.in_err-count.ensures.err c.in_err-count.ensures.piece c.in_err-count.ensures.reason)

pub returns-then-count-eq0 : goal.returns-then-count-eq0
returns-then-count-eq0 c =
    zero_callers c.args.grammar (row_reading_value c.args.self.now) c.args.line.now c.in_ok-rest.rest.now c.in_ok-count.end.now _ c.in_ok-count.count c.requires.stage c.requires.kept (rw c.as_slice.ensures at c.in_ok-rest.ensures.ok) c.in_ok-rest.ensures.rest (rw c.callers-most.ensures.value at c.in_ok-count.ensures.ok) c.if-count-eq0.true c.bad_word.ensures.piece c.bad_word.ensures.reason

pub returns-in_err-expect_end : goal.returns-in_err-expect_end
returns-in_err-expect_end c =
    let words = counted_words (codes "callers") c.callers-most.result (text_words c.args.line.now) (text_words c.in_ok-rest.rest.now) (text_words c.in_ok-count.end.now) c.in_ok-count.count (omega (arith, c.callers-most.ensures.few)) (rw c.as_slice.ensures at c.in_ok-rest.ensures.ok) c.in_ok-count.ensures.ok in
    thrown c.from_residual-in_err-expect_end.result _ _ _ c.from_residual-in_err-expect_end.ensures.1
    (too_many c.args.grammar (row_reading_value c.args.self.now) c.args.line.now c.in_ok-count.end.now _ (Callers c.in_ok-count.count) c.requires.kept (omega (arith, c.in_ok-count.ensures.small, c.callers-most.ensures.value)) words (ends_on c.args.line.now c.in_ok-rest.rest.now c.in_ok-count.end.now c.in_ok-rest.ensures.rest c.in_ok-count.ensures.rest) c.in_err-expect_end.ensures.ends c.in_err-expect_end.ensures.piece c.in_err-expect_end.ensures.reason)

pub returns : goal.returns
returns c =
    let words = counted_words (codes "callers") c.callers-most.result (text_words c.args.line.now) (text_words c.in_ok-rest.rest.now) (text_words c.in_ok-count.end.now) c.in_ok-count.count (omega (arith, c.callers-most.ensures.few)) (rw c.as_slice.ensures at c.in_ok-rest.ensures.ok) c.in_ok-count.ensures.ok in
    callers_taken c.args.grammar (row_reading_value c.args.self.now) _ (text_words c.args.line.now) c.in_ok-count.count c.requires.stage c.requires.kept c.if-count-eq0.false (omega (arith, c.in_ok-count.ensures.small, c.callers-most.ensures.value)) (words ∙ ap (λ (r : List (List ℕ)). image_line_words (Callers c.in_ok-count.count) ++ r) c.in_ok-expect_end.ensures.ends) refl
