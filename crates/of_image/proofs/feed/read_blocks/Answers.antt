use Rattle.std.proofs.Common.{inl, inr, refl, ap, arith, ◌∙◌, ℕ, List, [], ◌∷◌, ◌++◌}
use Rattle.std.specs.Prelude.{codes}
use Rattle.of_script.specs.Text.{text_words}
use Rattle.of_plan.proofs.BadPieces.{ends_on}
use Rattle.of_image.specs.declared.line.ImageLine.TheVariants.{Blocks}
use Rattle.of_image.specs.ImageText.{image_line_words}
use Rattle.of_image.proofs.Feeding.{thrown, no_number, too_many, counted_words}
use Rattle.of_image.proofs.feed.read_blocks.Goals as goal

pub returns-in_err-count : goal.returns-in_err-count
returns-in_err-count c =
    thrown c.from_residual-in_err-count.result _ _ _ c.from_residual-in_err-count.ensures.1
    (λ p at. no_number c.args.grammar p c.args.line.now c.in_ok-rest.rest.now _ c.blocks-most.result (codes "blocks" ∷ []) c.requires (inr (inr (inl (refl, c.blocks-most.ensures.value)))) (rw c.as_slice.ensures at c.in_ok-rest.ensures.ok) c.in_ok-rest.ensures.rest c.in_err-count.ensures.err c.in_err-count.ensures.piece c.in_err-count.ensures.reason)

pub returns-in_err-expect_end : goal.returns-in_err-expect_end
returns-in_err-expect_end c =
    let words = counted_words (codes "blocks") c.blocks-most.result (text_words c.args.line.now) (text_words c.in_ok-rest.rest.now) (text_words c.in_ok-count.end.now) c.in_ok-count.count (omega (arith, c.blocks-most.ensures.few)) (rw c.as_slice.ensures at c.in_ok-rest.ensures.ok) c.in_ok-count.ensures.ok in
    thrown c.from_residual-in_err-expect_end.result _ _ _ c.from_residual-in_err-expect_end.ensures.1
    (λ p at. too_many c.args.grammar p c.args.line.now c.in_ok-count.end.now _ (Blocks c.in_ok-count.count) c.requires (omega (arith, c.in_ok-count.ensures.small, c.blocks-most.ensures.value)) words (ends_on c.args.line.now c.in_ok-rest.rest.now c.in_ok-count.end.now c.in_ok-rest.ensures.rest c.in_ok-count.ensures.rest) c.in_err-expect_end.ensures.ends c.in_err-expect_end.ensures.piece c.in_err-expect_end.ensures.reason)

pub returns : goal.returns
returns c =
    let words = counted_words (codes "blocks") c.blocks-most.result (text_words c.args.line.now) (text_words c.in_ok-rest.rest.now) (text_words c.in_ok-count.end.now) c.in_ok-count.count (omega (arith, c.blocks-most.ensures.few)) (rw c.as_slice.ensures at c.in_ok-rest.ensures.ok) c.in_ok-count.ensures.ok in
    ((omega (arith, c.in_ok-count.ensures.small, c.blocks-most.ensures.value)), words ∙ ap (λ (r : List (List ℕ)). image_line_words (Blocks c.in_ok-count.count) ++ r) c.in_ok-expect_end.ensures.ends)
