use Rattle.of_report.proofs.OneReport.{text_tells_report}
use Rattle.of_report.proofs.laws.one_report.Goals as goal

pub returns : goal.returns
returns c = text_tells_report
