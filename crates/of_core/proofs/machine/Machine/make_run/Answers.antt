use Rattle.std.proofs.Common.{◌∙◌, sym}
use Rattle.of_core.specs.Fit.{is_scanning}
use Rattle.of_core.specs.MachineValue.{machine_setup}
use Rattle.of_core.proofs.OwedRuns.{scan_fits, reads_at, script_words, script_state, try_words, try_state, after_script, after_read}
use Rattle.of_core.proofs.machine.Machine.make_run.Goals as goal

pub run-requires-clause-scanning : goal.run-requires-clause-scanning
run-requires-clause-scanning g c = sym c.if-owes_script.ensures

pub run-requires-clause-scan : goal.run-requires-clause-scan
run-requires-clause-scan g c =
    let m = c.args.self.now in
    scan_fits (machine_setup g.W.Work.meaning m) m.call m.call.place (is_scanning m.call.place) c.requires.at_load.0 c.requires.at_load.1 (sym c.if-owes_script.ensures) c.may_step.ensures

pub run-requires-clause-some : goal.run-requires-clause-some
run-requires-clause-some g c = script_words g.W.Work.meaning c.args.self.now g.W.Work.lawful c.requires (sym c.if-owes_script.ensures)

pub run-requires-clause-agrees : goal.run-requires-clause-agrees
run-requires-clause-agrees g c = script_state g.W.Work.meaning c.args.self.now g.W.Work.lawful c.requires (sym c.if-owes_script.ensures)

pub returns-then-owes_script : goal.returns-then-owes_script
returns-then-owes_script g c = c.run.ensures ∙ sym (after_script g.W.Work.meaning c.args.self.now (sym c.if-owes_script.ensures))

pub read_on-requires-clause-reading : goal.read_on-requires-clause-reading
read_on-requires-clause-reading g c = reads_at c.args.self.now.call.place (is_scanning c.args.self.now.call.place) c.requires.at_load.0 c.requires.at_load.1 (sym c.if-owes_script.ensures)

pub read_on-requires-clause-some : goal.read_on-requires-clause-some
read_on-requires-clause-some g c = try_words g.W.Work.meaning c.args.self.now g.W.Work.lawful c.requires (sym c.if-owes_script.ensures)

pub read_on-requires-clause-agrees : goal.read_on-requires-clause-agrees
read_on-requires-clause-agrees g c = try_state g.W.Work.meaning c.args.self.now g.W.Work.lawful c.requires (sym c.if-owes_script.ensures)

pub returns-else-owes_script : goal.returns-else-owes_script
returns-else-owes_script g c = c.read_on.ensures ∙ sym (after_read g.W.Work.meaning c.args.self.now (sym c.if-owes_script.ensures))
