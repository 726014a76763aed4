use Rattle.std.proofs.Common.{◌≡◌}
use Rattle.of_image.specs.Parsed.{refusal_err}
use Rattle.of_report.specs.ImageRow.{row_in}
use Rattle.of_script.specs.declared.instr.TheConstants.{MOST_INSTRS}
use Rattle.of_image.proofs.ImageFacts.{words_restored, words_are_row, only_restored, none_restored, only_memory, restored_is_image}
use Rattle.of_image.proofs.words.image_of_words.Goals as goal

pub returns-in_err-restore-clause-only : goal.returns-in_err-restore-clause-only
returns-in_err-restore-clause-only c image h =
    only_memory c.from_residual-in_err-restore.result (refusal_err c.in_err-restore.field-0.0) (λ i. i ≡ image) c.from_residual-in_err-restore.ensures.1
    (none_restored c.args.plot.now c.requires.instrs c.args.words.now c.in_ok-row.row.items c.in_ok-row.ensures.items c.in_err-restore.field-0.0 c.in_err-restore.ensures.err image h)

pub returns-clause-image : goal.returns-clause-image
returns-clause-image c =
    let p = c.args.plot.now in
    let i = c.in_ok-restore.field-0 in
    restored_is_image MOST_INSTRS (row_in p c.args.words.now) i
    (words_are_row p c.requires.instrs c.args.words.now c.in_ok-row.row.items c.in_ok-row.ensures.items c.requires.row (λ k. (c.type_inv.words k).fits))
    (words_restored p c.requires.instrs c.args.words.now c.in_ok-row.row.items c.in_ok-row.ensures.items i c.in_ok-restore.ensures.ok)

pub returns-clause-only : goal.returns-clause-only
returns-clause-only c image h =
    only_restored c.args.plot.now c.requires.instrs c.args.words.now c.in_ok-row.row.items c.in_ok-row.ensures.items c.in_ok-restore.field-0 image c.in_ok-restore.ensures.ok h
