use Rattle.of_core.proofs.machine.Machine.after_load_script.Goals as goal

pub run-requires-clause-agrees : goal.run-requires-clause-agrees
run-requires-clause-agrees g c = rw (← c.self.view_is) at c.requires.agrees
