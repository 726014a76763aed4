use Rattle.std.proofs.Common.{◌≡◌, ◌<◌, ◌≤◌, ◌∙◌, inl, arith, ap, sym}
use Rattle.of_cell.specs.Words.{seq_of}
use Rattle.of_core.specs.Remains.{revived_machine}
use Rattle.of_core.specs.Table.{Setup, setup_of}
use Rattle.of_core.specs.MachineValue.{machine_setup}
use Rattle.of_row.specs.Views.{last_caller}
use Rattle.of_row.specs.RowLaws.{RowLaws}
use Rattle.of_row.specs.Rows.{key_of, setup_at, row_start}
use Rattle.of_row.proofs.Members.{first_is, member_in_range, sole_as}
use Rattle.of_row.proofs.RowLaws.{at_row}
use Rattle.of_row.proofs.Replacing.{shows}
use Rattle.of_row.proofs.row.Row.revive.Goals as goal

pub invariant_of-member-2 : goal.invariant_of-member-2
invariant_of-member-2 g c =
    let row = c.args.self.now in
    let key = key_of row in
    let laws = at_row g.W.Work.meaning g.W.Work.lawful g.W.Work.many g.W.Work.size key.callers key.cells key.limit c.limit-limit.result key.work c.work-work.result c.shape-shape.ensures.work (sym c.limit-limit.ensures.is) (sym c.work-work.ensures) RowLaws c.protocol.ensures in
    let k = shows (setup_at g.W.Work.meaning row) (g.W.Work.lawful key.work) (row_start g.W.Work.meaning row) laws _ _ _ _ _ _ (sole_as c.args.member.now c.args.made c.requires.made) (member_in_range row c.args.member.now c.requires.row) c.find_remains-found.ensures.learnt _ _ c.replace-ticket.ensures.tries c.look_up-current.ensures.learns c.find_remains-found.result c.find_remains-found.ensures.found in
    record { keeps = k.sole }

pub returns-then-seq_of-limit-clause-refused : goal.returns-then-seq_of-limit-clause-refused
returns-then-seq_of-limit-clause-refused g c =
    let row = c.args.self.now in
    let key = key_of row in
    let laws = at_row g.W.Work.meaning g.W.Work.lawful g.W.Work.many g.W.Work.size key.callers key.cells key.limit c.limit-limit.result key.work c.work-work.result c.shape-shape.ensures.work (sym c.limit-limit.ensures.is) (sym c.work-work.ensures) RowLaws c.protocol.ensures in
    let k = shows (setup_at g.W.Work.meaning row) (g.W.Work.lawful key.work) (row_start g.W.Work.meaning row) laws _ _ _ _ _ _ (sole_as c.args.member.now c.args.made c.requires.made) (member_in_range row c.args.member.now c.requires.row) c.find_remains-found.ensures.learnt _ _ c.replace-ticket.ensures.tries c.look_up-current.ensures.learns c.find_remains-found.result c.find_remains-found.ensures.found in
    let high : key.limit ≤ seq_of c.look_up-current.result = omega (arith, c.if-seq_of-limit.true, c.seq_of.ensures, c.limit-limit.ensures.is) in
    (k.either, k.limited high)

pub returns-in-Ok-clause-revived : goal.returns-in-Ok-clause-revived
returns-in-Ok-clause-revived g c =
    let row = c.args.self.now in
    let key = key_of row in
    let laws = at_row g.W.Work.meaning g.W.Work.lawful g.W.Work.many g.W.Work.size key.callers key.cells key.limit c.limit-limit.result key.work c.work-work.result c.shape-shape.ensures.work (sym c.limit-limit.ensures.is) (sym c.work-work.ensures) RowLaws c.protocol.ensures in
    let k = shows (setup_at g.W.Work.meaning row) (g.W.Work.lawful key.work) (row_start g.W.Work.meaning row) laws _ _ _ _ _ _ (sole_as c.args.member.now c.args.made c.requires.made) (member_in_range row c.args.member.now c.requires.row) c.find_remains-found.ensures.learnt _ _ c.replace-ticket.ensures.tries c.look_up-current.ensures.learns c.find_remains-found.result c.find_remains-found.ensures.found in
    let low : seq_of c.look_up-current.result < key.limit = omega (arith, c.if-seq_of-limit.false, c.seq_of.ensures, c.limit-limit.ensures.is) in
    (k.below low).0

pub returns-in-Ok-clause-kept : goal.returns-in-Ok-clause-kept
returns-in-Ok-clause-kept g c =
    let row = c.args.self.now in
    let key = key_of row in
    let laws = at_row g.W.Work.meaning g.W.Work.lawful g.W.Work.many g.W.Work.size key.callers key.cells key.limit c.limit-limit.result key.work c.work-work.result c.shape-shape.ensures.work (sym c.limit-limit.ensures.is) (sym c.work-work.ensures) RowLaws c.protocol.ensures in
    let S : Setup = setup_at g.W.Work.meaning row in
    let k = shows S (g.W.Work.lawful key.work) (row_start g.W.Work.meaning row) laws _ _ _ _ _ _ (sole_as c.args.member.now c.args.made c.requires.made) (member_in_range row c.args.member.now c.requires.row) c.find_remains-found.ensures.learnt _ _ c.replace-ticket.ensures.tries c.look_up-current.ensures.learns c.find_remains-found.result c.find_remains-found.ensures.found in
    let low : seq_of c.look_up-current.result < key.limit = omega (arith, c.if-seq_of-limit.false, c.seq_of.ensures, c.limit-limit.ensures.is) in
    let m = c.in-Ok.machine in
    let e = c.in-Ok.ensures in
    let same : machine_setup g.W.Work.meaning m ≡ S = λ i. setup_of ((e.callers ∙ c.shape-shape.ensures.callers) i) ((e.cells ∙ c.shape-shape.ensures.cells) i) ((e.limit ∙ c.limit-limit.ensures.is) i) (g.W.Work.meaning ((e.work ∙ c.work-work.ensures) i)) in
    e.revived ∙ (ap (λ (z : Setup). revived_machine z (record c.find_remains-found.result { ticket = c.replace-ticket.result }) c.args.member.now.number c.args.made) same ∙ (k.below low).1)

pub returns-in-Ok-clause-member : goal.returns-in-Ok-clause-member
returns-in-Ok-clause-member g c =
    let row = c.args.self.now in
    let key = key_of row in
    let laws = at_row g.W.Work.meaning g.W.Work.lawful g.W.Work.many g.W.Work.size key.callers key.cells key.limit c.limit-limit.result key.work c.work-work.result c.shape-shape.ensures.work (sym c.limit-limit.ensures.is) (sym c.work-work.ensures) RowLaws c.protocol.ensures in
    let S : Setup = setup_at g.W.Work.meaning row in
    let k = shows S (g.W.Work.lawful key.work) (row_start g.W.Work.meaning row) laws _ _ _ _ _ _ (sole_as c.args.member.now c.args.made c.requires.made) (member_in_range row c.args.member.now c.requires.row) c.find_remains-found.ensures.learnt _ _ c.replace-ticket.ensures.tries c.look_up-current.ensures.learns c.find_remains-found.result c.find_remains-found.ensures.found in
    (last_caller c.look_up-current.new.seat.me.0.kept, first_is c.look_up-current.new.seat.me.0.kept k.sole.0, inl (inl (returns-in-Ok-clause-kept g c)), sym k.sole.1, sym k.sole.2)

pub returns-in-Err-clause-refused : goal.returns-in-Err-clause-refused
returns-in-Err-clause-refused g c =
    let row = c.args.self.now in
    let key = key_of row in
    let laws = at_row g.W.Work.meaning g.W.Work.lawful g.W.Work.many g.W.Work.size key.callers key.cells key.limit c.limit-limit.result key.work c.work-work.result c.shape-shape.ensures.work (sym c.limit-limit.ensures.is) (sym c.work-work.ensures) RowLaws c.protocol.ensures in
    let k = shows (setup_at g.W.Work.meaning row) (g.W.Work.lawful key.work) (row_start g.W.Work.meaning row) laws _ _ _ _ _ _ (sole_as c.args.member.now c.args.made c.requires.made) (member_in_range row c.args.member.now c.requires.row) c.find_remains-found.ensures.learnt _ _ c.replace-ticket.ensures.tries c.look_up-current.ensures.learns c.find_remains-found.result c.find_remains-found.ensures.found in
    k.either
