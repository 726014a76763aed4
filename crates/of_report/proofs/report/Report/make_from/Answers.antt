use Rattle.std.proofs.Common.{sym, ◌∙◌}
use Rattle.std.proofs.lemmas.Result.{IfOk-weaker}
use Rattle.of_report.specs.Image.{start_of_image}
use Rattle.of_report.proofs.report.Report.make_from.Goals as goal

pub make_at-requires : goal.make_at-requires
make_at-requires c = (start_of_image c.args.image.now, c.requires.record.0, sym (c.deref.ensures.value ∙ c.in_ok-done.ensures), c.requires.record.1)

pub returns-clause-report : goal.returns-clause-report
returns-clause-report c =
    let start = sym (c.deref.ensures.value ∙ c.in_ok-done.ensures) in
    IfOk-weaker c.make_at.result _ _ (λ made h r lawful. h (start_of_image c.args.image.now) r start lawful) c.make_at.ensures.report
