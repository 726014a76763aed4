use Rattle.std.proofs.Common.{inl, refl, ap, ◌∙◌, ℕ, List, [], ◌∷◌, ◌++◌}
use Rattle.std.specs.Prelude.{codes}
use Rattle.of_script.specs.Text.{text_words}
use Rattle.of_plan.proofs.BadPieces.{ends_on}
use Rattle.of_image.specs.declared.line.ImageLine.TheVariants.{Title}
use Rattle.of_image.specs.ImageText.{image_line_words}
use Rattle.of_image.specs.ImageReading.{row_reading_value}
use Rattle.of_image.proofs.Feeding.{thrown, not_image, no_number, other_version, too_many, title_words, title_taken}
use Rattle.of_image.proofs.reading.Reading.feed_title.Goals as goal

pub returns-in_err-number : goal.returns-in_err-number
returns-in_err-number c =
    thrown c.from_residual-in_err-number.result _ _ _ c.from_residual-in_err-number.ensures.1
    (not_image c.args.grammar (row_reading_value c.args.self.now) c.args.line.now c.in_ok-kind.kind.now _ _ c.requires.stage c.requires.kept c.number-read.ensures (rw c.as_slice.ensures at c.in_ok-kind.ensures.ok) c.in_ok-kind.ensures.rest (rw c.as_slice-2.ensures at c.in_err-number.ensures.err) c.in_err-number.ensures.piece c.in_err-number.ensures.reason)

pub returns-in_err-found : goal.returns-in_err-found
returns-in_err-found c =
    let words = rw c.as_slice.ensures at c.in_ok-kind.ensures.ok ∙ ap (λ (w : List (List ℕ)). codes "onefile" ∷ w) (rw c.as_slice-2.ensures at c.in_ok-number.ensures.ok) in
    let ends = ends_on c.args.line.now c.in_ok-kind.kind.now c.in_ok-number.number.now c.in_ok-kind.ensures.rest c.in_ok-number.ensures.rest in
    thrown c.from_residual-in_err-found.result _ _ _ c.from_residual-in_err-found.ensures.1
    (no_number c.args.grammar (row_reading_value c.args.self.now) c.args.line.now c.in_ok-number.number.now _ 4294967295 (codes "onefile" ∷ codes "image" ∷ []) c.requires.kept (inl (refl, refl)) words ends c.in_err-found.ensures.err c.in_err-found.ensures.piece c.in_err-found.ensures.reason)

pub returns-then-found-read : goal.returns-then-found-read
returns-then-found-read c =
    let words = rw c.as_slice.ensures at c.in_ok-kind.ensures.ok ∙ ap (λ (w : List (List ℕ)). codes "onefile" ∷ w) (rw c.as_slice-2.ensures at c.in_ok-number.ensures.ok) in
    let ends = ends_on c.args.line.now c.in_ok-kind.kind.now c.in_ok-number.number.now c.in_ok-kind.ensures.rest c.in_ok-number.ensures.rest in
    other_version c.args.grammar (row_reading_value c.args.self.now) c.args.line.now c.in_ok-number.number.now c.in_ok-found.end.now _ _ _ c.requires.stage c.requires.kept c.number-read.ensures words ends c.in_ok-found.ensures.ok c.if-found-read.true c.bad_word.ensures.piece c.bad_word.ensures.reason

pub returns-in_err-expect_end : goal.returns-in_err-expect_end
returns-in_err-expect_end c =
    let words = rw c.as_slice.ensures at c.in_ok-kind.ensures.ok ∙ ap (λ (w : List (List ℕ)). codes "onefile" ∷ w) (rw c.as_slice-2.ensures at c.in_ok-number.ensures.ok) in
    let ends = ends_on c.args.line.now c.in_ok-kind.kind.now c.in_ok-number.number.now c.in_ok-kind.ensures.rest c.in_ok-number.ensures.rest in
    thrown c.from_residual-in_err-expect_end.result _ _ _ c.from_residual-in_err-expect_end.ensures.1
    (too_many c.args.grammar (row_reading_value c.args.self.now) c.args.line.now c.in_ok-found.end.now _ (Title c.in_ok-found.found) c.requires.kept c.in_ok-found.ensures.small (title_words _ (text_words c.in_ok-number.number.now) _ _ words c.in_ok-found.ensures.ok) (ends_on c.args.line.now c.in_ok-number.number.now c.in_ok-found.end.now ends c.in_ok-found.ensures.rest) c.in_err-expect_end.ensures.ends c.in_err-expect_end.ensures.piece c.in_err-expect_end.ensures.reason)

pub returns : goal.returns
returns c =
    let words = rw c.as_slice.ensures at c.in_ok-kind.ensures.ok ∙ ap (λ (w : List (List ℕ)). codes "onefile" ∷ w) (rw c.as_slice-2.ensures at c.in_ok-number.ensures.ok) in
    title_taken c.args.grammar (row_reading_value c.args.self.now) _ (text_words c.args.line.now) c.in_ok-found.found c.requires.stage c.requires.kept (c.if-found-read.false ∙ c.number-read.ensures) c.in_ok-found.ensures.small (title_words _ (text_words c.in_ok-number.number.now) _ _ words c.in_ok-found.ensures.ok ∙ ap (λ (r : List (List ℕ)). image_line_words (Title c.in_ok-found.found) ++ r) c.in_ok-expect_end.ensures.ends) refl
