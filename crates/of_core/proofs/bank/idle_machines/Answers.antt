use Rattle.std.proofs.Common.{◌≡◌, length, arith, ap, ◌∙◌, length-append}
use Rattle.of_core.specs.Table.{Setup, setup_of}
use Rattle.of_core.specs.TableMoment.{TableStart}
use Rattle.of_core.specs.MachineValue.{machine_setup}
use Rattle.of_core.specs.Machine.{idle_machine}
use Rattle.of_core.specs.Events.{idle_machines, start_ticket}
use Rattle.of_core.specs.Starts.{start_from_durable}
use Rattle.of_core.proofs.Benches.{at_end, alike_new, alike_push, held_push}
use Rattle.of_core.proofs.bank.idle_machines.Goals as goal

pub start_ticket-made-requires-clause-own : goal.start_ticket-made-requires-clause-own
start_ticket-made-requires-clause-own g c =
    let a = c.args in
    let laws = g.met.W.Work in
    let fits = laws.fits a.work in
    omega (arith, fits.own, c.requires.callers, c.requires.cells)

pub loop-caller-preserved : goal.loop-caller-preserved
loop-caller-preserved g c =
    let a = c.args in
    let M = g.W.Work.meaning in
    let S : Setup = setup_of a.shape.callers a.shape.cells a.limit (M a.work) in
    let B : TableStart = start_from_durable a.shape.callers a.shape.cells a.words.now in
    let ms = c.loop-caller.machines.items in
    let m = c.in_ok-machine.machine in
    let made = c.in_ok-machine.ensures in
    let pushed = c.in_ok-push.ensures.items in
    let inv = c.loop-caller.invariant in
    let alike = alike_new a.work a.shape.callers a.shape.cells a.limit m made.work made.callers made.cells made.limit in
    let idle_is : m.call ≡ idle_machine S c.loop-caller.caller (start_ticket S B c.loop-caller.caller) =
    made.idle ∙ ap (λ (T : Setup). idle_machine T c.loop-caller.caller c.start_ticket-made.result) (ap (machine_setup M) alike) ∙ ap (idle_machine S c.loop-caller.caller) c.start_ticket-made.ensures in
    record {
      members = ap length pushed ∙ length-append ms _ ∙ omega (arith, inv.members);
      alike = rw pushed (alike_push a.work a.shape.callers a.shape.cells a.limit ms m inv.alike alike);
      machines = rw pushed (held_push a.work a.shape.callers a.shape.cells a.limit ms S (start_ticket S B) m c.loop-caller.caller inv.machines idle_is);
    }

pub returns-clause-each : goal.returns-clause-each
returns-clause-each g c = c.loop-caller.invariant.members ∙ at_end _ _ c.loop-caller.auto.caller-end c.loop-caller-test.false

pub returns-clause-alike : goal.returns-clause-alike
returns-clause-alike g c = c.loop-caller.invariant.alike

pub returns-clause-idle : goal.returns-clause-idle
returns-clause-idle g c =
    let a = c.args in
    let S : Setup = setup_of a.shape.callers a.shape.cells a.limit (g.W.Work.meaning a.work) in
    let B : TableStart = start_from_durable a.shape.callers a.shape.cells a.words.now in
    let all : c.loop-caller.caller ≡ a.shape.callers = at_end _ _ c.loop-caller.auto.caller-end c.loop-caller-test.false in
    c.loop-caller.invariant.machines ∙ ap (idle_machines S (start_ticket S B) 0) all
