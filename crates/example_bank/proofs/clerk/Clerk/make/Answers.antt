use Rattle.std.proofs.Common.{◌+◌, refl, ap, ◌∙◌}
use Rattle.example_bank.proofs.Clerks.{script_is, answered_on, ended_on}
use Rattle.example_bank.proofs.clerk.Clerk.make.Goals as goal

pub returns-in-Ok-clause-goes_on : goal.returns-in-Ok-clause-goes_on
returns-in-Ok-clause-goes_on c =
    let y = c.args.self.now in
    let is = c.script-script.ensures ∙ script_is y c.index.result.now c.index.ensures c.requires.next in
    let ran = c.in-Ok.ensures in
    let count = c.count.ensures in
    answered_on y _ c.args.handle.now c.run_within.new.self c.script-script.result is c.requires.end c.requires.next c.in-Ok.answer count.job (record { made = count.counts.made; aborted = count.counts.aborted }) (ap (λ n. n + 1) count.answered) count.steps count.pending count.end ran.same ran.made ran.open_call

pub returns-in-Err-clause-goes_on : goal.returns-in-Err-clause-goes_on
returns-in-Err-clause-goes_on c =
    let y = c.args.self.now in
    let is = c.script-script.ensures ∙ script_is y c.index.result.now c.index.ensures c.requires.next in
    let ran = c.in-Err.ensures in
    ended_on y _ c.args.handle.now c.run_within.new.self c.script-script.result is c.requires.end c.requires.next c.in-Err.error refl (record { job = refl; none = (refl, refl); answered = refl; steps = refl; pending = refl }) c.calls_are_counted.ensures c.requires.handle ran.same
    ran.made ran.open_call ran.cause ran.unmade ran.within ran.only
