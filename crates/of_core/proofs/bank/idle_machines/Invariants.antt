use Rattle.std.proofs.Common.{◌≡◌, length}
use Rattle.of_core.specs.Table.{setup_of}
use Rattle.of_core.specs.Moment.{RunSameWork, call_states}
use Rattle.of_core.specs.Events.{idle_machines, start_ticket}
use Rattle.of_core.specs.Starts.{start_from_durable}
use Rattle.of_core.proofs.bank.idle_machines.Given as goal

abbrev pub invariant-loop-caller : goal.invariant-loop-caller
invariant-loop-caller g l = record {
  members : length l.machines.items ≡ l.caller;
  alike : RunSameWork l.work l.shape.callers l.shape.cells l.limit l.machines.items;
  machines : call_states l.machines.items ≡ idle_machines (setup_of l.shape.callers l.shape.cells l.limit (g.W.Work.meaning l.work)) (start_ticket (setup_of l.shape.callers l.shape.cells l.limit (g.W.Work.meaning l.work)) (start_from_durable l.shape.callers l.shape.cells l.words)) 0 l.caller;
}
