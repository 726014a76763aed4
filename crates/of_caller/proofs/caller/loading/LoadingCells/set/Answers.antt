use Rattle.std.proofs.Common.{◌≡◌, ◌∙◌, ◌<◌, refl, sym, ap, arith}
use Rattle.of_mem.specs.OnDemand.{write_cell}
use Rattle.of_caller.specs.declared.caller.Caller.{Caller}
use Rattle.of_caller.proofs.Loadings.{writes_cell, has_room, tells}
use Rattle.of_caller.proofs.caller.loading.LoadingCells.set.Goals as goal

pub put-requires : goal.put-requires
put-requires g c =
    let l = c.args.self.now in
    let k = c.requires.knows in
    let room = has_room g.W.Work.meaning g.W.Work.lawful g.B.Brake.denials g.B.Brake.left g.B.Brake.answers g.B.Brake.asks l.row.now k.first l.course l.caller.now l.brake.now l.steps.now k.knows.0 in
    omega (arith, c.requires.below, k.knows.2, room)

pub returns : goal.returns
returns g c =
    let l = c.args.self.now in
    let k = c.requires.knows in
    let f = k.first in
    let now : Caller g.row.W.Denot = record { member = l.caller.now.member; machine = l.caller.now.machine; writes = c.put.new.self } in
    tells g.W.Work.meaning g.W.Work.lawful g.B.Brake.denials g.B.Brake.left g.B.Brake.answers g.B.Brake.asks l.row.now g.O.LoadArgs.front f k.told (write_cell c.args.addr c.args.value) g.K.RunKind.scans l.caller.ghost_name l.brake.ghost_name l.steps.ghost_name l.course l.course l.caller.now now l.brake.now l.brake.now l.steps.now l.steps.now _ k.lent
    (writes_cell g.W.Work.meaning g.W.Work.lawful g.B.Brake.denials g.B.Brake.left g.B.Brake.answers g.B.Brake.asks l.row.now f l.course l.caller.now now l.brake.now l.steps.now c.args.addr c.args.value k.knows refl refl c.put.ensures)
