use Rattle.std.proofs.Common.{ap}
use Rattle.of_core.specs.Fit.{is_scanning}
use Rattle.of_core.specs.MachineValue.{Machine, machine_setup}
use Rattle.of_core.proofs.Allows.{request_words, request_reads}
use Rattle.of_core.proofs.machine.Machine.take_request.Goals as goal
use Rattle.of_core.proofs.machine.Machine.take_request.Goals.{else-self-gt0-via-then-self-gt0+else-found-pack, else-self-gt0-via-else-self-gt0}

pub open_reading-requires : goal.open_reading-requires
open_reading-requires g c =
    let some = rw (← c.self.view_is) at (request_words (machine_setup g.W.Work.meaning c.args.self.now) (g.W.Work.lawful c.args.self.now.work) c.args.self.now.call c.args.found c.requires.good c.requires.here) in
    elim c.else-self-gt0.branch [
      | else-self-gt0-via-then-self-gt0+else-found-pack w ↦ record { some = rw w.self-is some }
      | else-self-gt0-via-else-self-gt0 w ↦ record { some = rw w.self-is some }
    ]

pub returns-clause-owes : goal.returns-clause-owes
returns-clause-owes g c = λ _.
    let reads = rw (← c.self.view_is) at (request_reads (machine_setup g.W.Work.meaning c.args.self.now) (g.W.Work.lawful c.args.self.now.work) c.args.self.now.call c.args.found c.requires.good c.requires.here) in
    elim c.else-self-gt0.branch [
      | else-self-gt0-via-then-self-gt0+else-found-pack w ↦ c.open_reading.ensures.owes (rw w.self-is reads)
      | else-self-gt0-via-else-self-gt0 w ↦ c.open_reading.ensures.owes (rw w.self-is reads)
    ]

pub returns-clause-kind : goal.returns-clause-kind
returns-clause-kind g c = λ _. ap (λ (m : Machine _). is_scanning m.call.place) c.open_reading.ensures.comes
