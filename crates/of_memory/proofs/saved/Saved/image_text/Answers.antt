use Rattle.std.proofs.Common.{subst}
use Rattle.std.proofs.lemmas.Result.{IfOk-weaker}
use Rattle.of_image.specs.Grammar.{table_grammar}
use Rattle.of_image.specs.ImageText.{SpellsIn, table_row}
use Rattle.of_memory.specs.Texts.{TextHolds}
use Rattle.of_memory.proofs.Texts.{printed_row, text_holds}
use Rattle.of_memory.proofs.saved.Saved.image_text.Goals as goal

pub returns-clause-holds : goal.returns-clause-holds
returns-clause-holds c =
    let d = c.args.self.now in
    let row = printed_row d c.scripts-scripts.result c.plot.result c.shape_of.result c.in_ok-words.words.items c.deref.result.now c.words.result.now c.scripts-scripts.ensures c.plot.ensures.callers c.plot.ensures.instrs c.plot.ensures.blocks c.shape_of.ensures.callers c.shape_of.ensures.cells c.deref.ensures.value c.in_ok-words.ensures.durable c.words.ensures in
    let store = c.requires.saved.row.may_start.lawful in
    IfOk-weaker c.image_print.result (λ text. SpellsIn table_grammar text.items (table_row c.plot.result c.deref.result.now)) (λ text. TextHolds text.items d)
    (λ text spelled. text_holds d c.requires store.0 store.1 text.items (subst (SpellsIn table_grammar text.items) row spelled)) c.image_print.ensures.again
