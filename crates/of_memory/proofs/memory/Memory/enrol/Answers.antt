use Rattle.of_memory.proofs.Holding.{took_none, took_out, handle_out, knows_others, others_open}
use Rattle.of_memory.proofs.memory.Memory.enrol.Goals as goal

pub returns-in_err-cells-clause-memory : goal.returns-in_err-cells-clause-memory
returns-in_err-cells-clause-memory c = took_none c.args.self.now _ c.requires c.enrol.ensures.memory c.enrol.ensures.still c.in_err-cells.ensures.refused

pub returns-in_err-cells-clause-others : goal.returns-in_err-cells-clause-others
returns-in_err-cells-clause-others c = knows_others _ c.args.self.now _ c.enrol.ensures.others

pub returns-in_err-cells-clause-others_open : goal.returns-in_err-cells-clause-others_open
returns-in_err-cells-clause-others_open c = others_open _ c.args.self.now _ c.enrol.ensures.others_open

pub returns-clause-memory : goal.returns-clause-memory
returns-clause-memory c = took_out c.args.self.now _ c.requires c.enrol.ensures.memory c.enrol.ensures.still (record { cells = c.in_ok-cells.cells }) c.in_ok-cells.ensures.taken

pub returns-clause-handle : goal.returns-clause-handle
returns-clause-handle c =
    handle_out c.args.self.now _ c.requires c.enrol.ensures.memory c.enrol.ensures.still _ c.in_ok-cells.ensures.taken c.in_ok-cells.ensures.handle c.in_ok-cells.ensures.from

pub returns-clause-others : goal.returns-clause-others
returns-clause-others c = knows_others _ c.args.self.now _ c.enrol.ensures.others

pub returns-clause-others_open : goal.returns-clause-others_open
returns-clause-others_open c = others_open _ c.args.self.now _ c.enrol.ensures.others_open
