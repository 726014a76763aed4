use Rattle.std.proofs.Common.{sym}
use Rattle.std.specs.Prelude.{string_bytes}
use Rattle.std.proofs.lemmas.List.{append-nil}
use Rattle.std.proofs.lemmas.Result.{on_ok_weaker}
use Rattle.of_play.proofs.schedule_run.ScheduleRun.commit_evict.Goals as goal

pub returns-clause-line : goal.returns-clause-line
returns-clause-line c = on_ok_weaker c.event.result (λ e es st. sym (append-nil (string_bytes c.args.text.now))) c.event.ensures
