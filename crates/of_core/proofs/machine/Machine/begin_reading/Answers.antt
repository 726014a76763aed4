use Rattle.of_core.proofs.machine.Machine.begin_reading.Goals as goal

pub read_on-requires-clause-agrees : goal.read_on-requires-clause-agrees
read_on-requires-clause-agrees g c = c.open_reading.ensures.knows
