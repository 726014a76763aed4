use Rattle.std.proofs.Common.{inr, refl, sym, ap, ◌∙◌, ℕ, List, [], ◌∷◌, ◌++◌, ◌+◌, set, arith, lit≤}
use Rattle.std.specs.Prelude.{codes, decimal}
use Rattle.of_script.specs.Text.{text_words}
use Rattle.of_plan.proofs.BadPieces.{ends_on}
use Rattle.of_image.specs.declared.line.ImageLine.TheVariants.{Cell}
use Rattle.of_image.specs.ImageText.{image_line_words}
use Rattle.of_image.specs.ImageReading.{row_reading_value}
use Rattle.of_image.proofs.Feeding.{thrown, cell_kept, no_number, no_cell, cell_passed, words_one, words_two, words_three, empty_cell, too_many, cell_taken}
use Rattle.of_image.proofs.reading.Reading.feed_cell.Goals as goal

pub returns-in_err-cell : goal.returns-in_err-cell
returns-in_err-cell c =
    let g = c.args.grammar in
    let p = row_reading_value c.args.self.now in
    thrown c.from_residual.result _ _ _ c.from_residual.ensures.1
    (no_number g p c.args.line.now c.args.rest.now _ 4294967295 (codes "cell" ∷ []) (cell_kept g p c.args.line.now c.args.rest.now c.requires.stage c.requires.words) (inr (inr (inr ([], lit≤ tt, refl, refl)))) c.requires.words c.requires.rest c.in_err-cell.ensures.err c.in_err-cell.ensures.piece c.in_err-cell.ensures.reason)

pub returns-then-place-cells : goal.returns-then-place-cells
returns-then-place-cells c =
    no_cell c.args.grammar (row_reading_value c.args.self.now) c.args.line.now c.args.rest.now c.requires.stage c.requires.words (text_words c.in_ok-cell.after.now) _ c.in_ok-cell.cell c.len-cells.result c.requires.rest c.in_ok-cell.ensures.ok c.requires.row (omega (arith, c.len-cells.ensures)) c.if-place-cells.true c.bad_word.ensures.piece c.bad_word.ensures.reason

pub returns-then-place-self : goal.returns-then-place-self
returns-then-place-self c =
    cell_passed c.args.grammar (row_reading_value c.args.self.now) c.args.line.now c.args.rest.now c.requires.stage c.requires.words (text_words c.in_ok-cell.after.now) _ c.in_ok-cell.cell c.requires.rest c.in_ok-cell.ensures.ok c.if-place-self.true c.bad_word-then-place-self.ensures.piece c.bad_word-then-place-self.ensures.reason

pub returns-in_err-seq : goal.returns-in_err-seq
returns-in_err-seq c =
    let g = c.args.grammar in
    let p = row_reading_value c.args.self.now in
    let line = c.args.line.now in
    let rest = c.args.rest.now in
    let after = c.in_ok-cell.after.now in
    thrown c.from_residual-in_err-seq.result _ _ _ c.from_residual-in_err-seq.ensures.1
    (no_number g p line after _ 4294967295 (codes "cell" ∷ decimal c.in_ok-cell.cell ∷ []) (cell_kept g p line rest c.requires.stage c.requires.words) (inr (inr (inr (c.in_ok-cell.cell ∷ [], lit≤ tt, refl, refl)))) (words_one g p line rest c.requires.stage c.requires.words c.in_ok-cell.cell after c.in_ok-cell.ensures.ok) (ends_on line rest after c.requires.rest c.in_ok-cell.ensures.rest) c.in_err-seq.ensures.err c.in_err-seq.ensures.piece c.in_err-seq.ensures.reason)

pub returns-in_err-payload : goal.returns-in_err-payload
returns-in_err-payload c =
    let g = c.args.grammar in
    let p = row_reading_value c.args.self.now in
    let line = c.args.line.now in
    let rest = c.args.rest.now in
    let after = c.in_ok-cell.after.now in
    let more = c.in_ok-seq.more.now in
    thrown c.from_residual-in_err-payload.result _ _ _ c.from_residual-in_err-payload.ensures.1
    (no_number g p line more _ 4294967295 (codes "cell" ∷ decimal c.in_ok-cell.cell ∷ decimal c.in_ok-seq.seq ∷ []) (cell_kept g p line rest c.requires.stage c.requires.words) (inr (inr (inr (c.in_ok-cell.cell ∷ c.in_ok-seq.seq ∷ [], lit≤ tt, refl, refl)))) (words_two g p line rest c.requires.stage c.requires.words c.in_ok-cell.cell after c.in_ok-cell.ensures.ok c.in_ok-seq.seq more c.in_ok-seq.ensures.ok) (ends_on line after more (ends_on line rest after c.requires.rest c.in_ok-cell.ensures.rest) c.in_ok-seq.ensures.rest) c.in_err-payload.ensures.err c.in_err-payload.ensures.piece c.in_err-payload.ensures.reason)

pub returns-then-word-eq0 : goal.returns-then-word-eq0
returns-then-word-eq0 c =
    let line = c.args.line.now in
    let rest = c.args.rest.now in
    let after = c.in_ok-cell.after.now in
    let more = c.in_ok-seq.more.now in
    empty_cell c.args.grammar (row_reading_value c.args.self.now) line rest c.requires.stage c.requires.words c.in_ok-cell.cell after c.in_ok-cell.ensures.ok c.in_ok-seq.seq more c.in_ok-seq.ensures.ok _ c.in_ok-payload.payload (text_words c.in_ok-payload.end.now) (ends_on line after more (ends_on line rest after c.requires.rest c.in_ok-cell.ensures.rest) c.in_ok-seq.ensures.rest) c.in_ok-payload.ensures.ok (sym c.pack-word.ensures ∙ c.if-word-eq0.true) c.bad_word-then-word-eq0.ensures.piece c.bad_word-then-word-eq0.ensures.reason

pub returns-in_err-expect_end : goal.returns-in_err-expect_end
returns-in_err-expect_end c =
    let g = c.args.grammar in
    let p = row_reading_value c.args.self.now in
    let line = c.args.line.now in
    let rest = c.args.rest.now in
    let after = c.in_ok-cell.after.now in
    let more = c.in_ok-seq.more.now in
    let end = c.in_ok-payload.end.now in
    thrown c.from_residual-in_err-expect_end.result _ _ _ c.from_residual-in_err-expect_end.ensures.1
    (too_many g p line end _ (Cell c.in_ok-cell.cell c.in_ok-seq.seq c.in_ok-payload.payload) (cell_kept g p line rest c.requires.stage c.requires.words) (c.in_ok-cell.ensures.small, c.in_ok-seq.ensures.small, c.in_ok-payload.ensures.small) (words_three g p line rest c.requires.stage c.requires.words c.in_ok-cell.cell after c.in_ok-cell.ensures.ok c.in_ok-seq.seq more c.in_ok-seq.ensures.ok c.in_ok-payload.payload (text_words end) c.in_ok-payload.ensures.ok) (ends_on line more end (ends_on line after more (ends_on line rest after c.requires.rest c.in_ok-cell.ensures.rest) c.in_ok-seq.ensures.rest) c.in_ok-payload.ensures.rest) c.in_err-expect_end.ensures.ends c.in_err-expect_end.ensures.piece c.in_err-expect_end.ensures.reason)

pub returns : goal.returns
returns c =
    let g = c.args.grammar in
    let p = row_reading_value c.args.self.now in
    let line = c.args.line.now in
    let rest = c.args.rest.now in
    let after = c.in_ok-cell.after.now in
    let more = c.in_ok-seq.more.now in
    let words = words_three g p line rest c.requires.stage c.requires.words c.in_ok-cell.cell after c.in_ok-cell.ensures.ok c.in_ok-seq.seq more c.in_ok-seq.ensures.ok c.in_ok-payload.payload (text_words c.in_ok-payload.end.now) c.in_ok-payload.ensures.ok in
    cell_taken g p _ (text_words line) c.in_ok-cell.cell c.in_ok-seq.seq c.in_ok-payload.payload c.requires.stage (cell_kept g p line rest c.requires.stage c.requires.words) c.in_ok-cell.ensures.small c.in_ok-seq.ensures.small c.in_ok-payload.ensures.small (omega (arith, c.if-place-self.false)) (omega (arith, c.if-place-cells.false, c.len-cells.ensures)) (λ z. c.if-word-eq0.false (c.pack-word.ensures ∙ z)) (words ∙ ap (λ (r : List (List ℕ)). image_line_words (Cell c.in_ok-cell.cell c.in_ok-seq.seq c.in_ok-payload.payload) ++ r) c.in_ok-expect_end.ensures.ends) (ap (λ (w : ℕ). record p { words = set p.words c.in_ok-cell.cell w; from = c.in_ok-cell.cell + 1 }) c.pack-word.ensures)
