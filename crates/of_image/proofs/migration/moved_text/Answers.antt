use Rattle.std.proofs.Common.{◌≡◌, ℕ, List, length, sym, ap, subst, ◌∙◌, arith}
use Rattle.std.proofs.lemmas.Result.{IfOk-weaker}
use Rattle.of_script.specs.declared.instr.TheConstants.{MOST_INSTRS}
use Rattle.of_cell.specs.Cells.{durable_cells}
use Rattle.of_image.specs.declared.version.Version.TheVariants.{Two}
use Rattle.of_report.specs.Image.{Image, IsImage}
use Rattle.of_report.specs.ImageRow.{row_in, data_cell_count_for}
use Rattle.of_image.specs.ImageText.{image_text}
use Rattle.of_image.specs.MovedRow.{moved_words, moved_row}
use Rattle.of_image.proofs.Bounds.{few_cells}
use Rattle.of_image.proofs.MovedRows.{long}
use Rattle.of_image.proofs.migration.moved_text.Goals as goal

pub moved_words-requires-clause-row : goal.moved_words-requires-clause-row
moved_words-requires-clause-row c =
    let held = subst (IsImage 8) (sym c.image.view_is) c.requires in
    ap length c.deref.ensures.value ∙ held.row.size
    ∙ (λ i. durable_cells (sym c.plot_of-old.ensures.callers i) (data_cell_count_for (sym c.plot_of-old.ensures.instrs i) (sym c.plot_of-old.ensures.callers i) (sym c.plot_of-old.ensures.blocks i)))

-- the words of the moved row
moved_is : (few many callers blocks few' many' callers' blocks' : ℕ) (words words' moved : List ℕ) → few ≡ few' → many ≡ many' → callers ≡ callers' → blocks ≡ blocks' → words ≡ words' → moved ≡ moved_words few many callers blocks words → moved ≡ moved_words few' many' callers' blocks' words'
moved_is few many callers blocks few' many' callers' blocks' words words' moved a b c d e is = is ∙ (λ i. moved_words (a i) (b i) (c i) (d i) (e i))

pub print_row-requires : goal.print_row-requires
print_row-requires c =
    let i = c.image.inside in
    let is = moved_is _ _ _ _ 8 MOST_INSTRS i.callers i.blocks _ i.durable.items c.deref-2.result.now c.plot_of-old.ensures.instrs c.plot_of-new.ensures.instrs c.plot_of-old.ensures.callers c.plot_of-old.ensures.blocks c.deref.ensures.value (c.deref-2.ensures.value ∙ c.in_ok-words.ensures) in
    let size : length c.deref-2.result.now ≡ durable_cells i.callers (data_cell_count_for MOST_INSTRS i.callers i.blocks) = ap length is ∙ long 8 MOST_INSTRS i.callers i.blocks i.durable.items (omega arith) in
    let held = subst (IsImage 8) (sym c.image.view_is) c.requires in
    omega (arith, size, few_cells Two i.callers i.blocks (omega (arith, held.row.few_callers)) (omega (arith, held.row.few_blocks)))

pub returns : goal.returns
returns c =
    let i = c.image.inside in
    let is = moved_is _ _ _ _ 8 MOST_INSTRS i.callers i.blocks _ i.durable.items c.deref-2.result.now c.plot_of-old.ensures.instrs c.plot_of-new.ensures.instrs c.plot_of-old.ensures.callers c.plot_of-old.ensures.blocks c.deref.ensures.value (c.deref-2.ensures.value ∙ c.in_ok-words.ensures) in
    let row : row_in c.plot_of-new.result c.deref-2.result.now ≡ moved_row 8 MOST_INSTRS c.args.image.now.row = (λ j. record { callers = c.plot_of-new.ensures.callers j; blocks = c.plot_of-new.ensures.blocks j; words = is j }) ∙ ap (λ (v : Image). moved_row 8 MOST_INSTRS v.row) c.image.view_is in
    IfOk-weaker c.print_row.result (λ text. text.items ≡ image_text Two (row_in c.plot_of-new.result c.deref-2.result.now)) _ (λ text e. e ∙ ap (image_text Two) row) c.print_row.ensures
