use Rattle.std.proofs.Common.{◌∙◌, sym}
use Rattle.of_core.specs.Fit.{is_scanning}
use Rattle.of_core.specs.MachineValue.{machine_setup}
use Rattle.of_core.proofs.OwedRuns.{scan_fits, script_words, script_state, run_of_script, after_script}
use Rattle.of_core.proofs.machine.Machine.join_batch.Goals as goal

pub add_run-requires-clause-scan : goal.add_run-requires-clause-scan
add_run-requires-clause-scan g c =
    let m = c.args.self.now in
    scan_fits (machine_setup g.W.Work.meaning m) m.call m.call.place (is_scanning m.call.place) c.requires.owes.at_load.0 c.requires.owes.at_load.1 c.requires.scanning c.may_step.ensures

pub add_run-requires-clause-some : goal.add_run-requires-clause-some
add_run-requires-clause-some g c = script_words g.W.Work.meaning c.args.self.now g.W.Work.lawful c.requires.owes c.requires.scanning

pub add_run-requires-clause-agrees : goal.add_run-requires-clause-agrees
add_run-requires-clause-agrees g c = script_state g.W.Work.meaning c.args.self.now g.W.Work.lawful c.requires.owes c.requires.scanning

pub add_run-requires-clause-gives : goal.add_run-requires-clause-gives
add_run-requires-clause-gives g c = run_of_script g.W.Work.meaning c.args.self.now _ c.requires.scanning c.requires.gives

pub returns : goal.returns
returns g c = c.add_run.ensures ∙ sym (after_script g.W.Work.meaning c.args.self.now c.requires.scanning)
