use Rattle.std.proofs.Common.{◌≡◌}
use Rattle.std.proofs.lemmas.Result.{IfOk-weaker, IfErr-weaker}
use Rattle.of_report.specs.ImageRow.{row_in}
use Rattle.of_image.specs.ImageReading.{row_reading_value, row_read}
use Rattle.of_image.proofs.ImageFacts.{plot_faults, plot_read, only_image}
use Rattle.of_image.proofs.parse.read_in.Goals as goal

pub returns-clause-only : goal.returns-clause-only
returns-clause-only c =
    let g = c.args.grammar in
    let r = row_read (row_reading_value c.in_ok-reading.reading) in
    let p = c.plot_of-plot.result in
    let is : row_in p r.words ≡ r = λ i. record { callers = c.plot_of-plot.ensures.callers i; blocks = c.plot_of-plot.ensures.blocks i; words = r.words } in
    only_image g c.args.text.now c.restore.result
    (IfOk-weaker c.restore.result _ _ (λ i h. plot_read g c.args.text.now p r i c.plot_of-plot.ensures.instrs is c.in_ok-reading.ensures.ok h) c.restore.ensures.ok)
    (IfErr-weaker c.restore.result _ _ (λ e h. plot_faults g c.args.text.now p r e c.plot_of-plot.ensures.instrs is c.in_ok-reading.ensures.ok h) c.restore.ensures.err)
