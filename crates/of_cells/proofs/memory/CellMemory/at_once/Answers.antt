use Rattle.std.proofs.Common.{◌≡◌, ◌≤◌, ◌<◌, vec_len, vec_capacity, length, arith, ap, ◌∙◌, rules}
use Rattle.of_cells.proofs.Handing.{written, may_work, may_after, all_worked, others_known, others_in_order, others_remembered, all_in_order, all_remembered, may_leave_again, tasks_back, all_back}
use Rattle.of_cells.proofs.memory.CellMemory.at_once.Goals as goal

pub hand_out-requires-clause-few : goal.hand_out-requires-clause-few
hand_out-requires-clause-few g c =
    let long : vec_len c.args.tasks.now ≡ length c.args.tasks.now.items = search rules in
    omega (arith, c.if-len-callers.false, c.callers-callers.ensures, c.len.ensures, long)

pub hand_out-requires-clause-small : goal.hand_out-requires-clause-small
hand_out-requires-clause-small g c =
    let low : c.callers-callers.result < 4294967296 = search rules in
    omega (arith, c.if-len-callers.false, c.len.ensures, low)

pub work_all-requires-clause-slots : goal.work_all-requires-clause-slots
work_all-requires-clause-slots g c κs within =
    may_work g.W.Work.meaning c.args.self.now c.hand_out.new.self c.args.tasks.now.items c.hand_out.new.tasks.items c.hand_out.new.slots.items c.in-Ok-hand_out.ensures.out c.as_mut_slice.result.now c.as_mut_slice.ensures.value

pub take_back-requires-clause-room : goal.take_back-requires-clause-room
take_back-requires-clause-room g c =
    let e = c.in-Ok-hand_out.ensures in
    let before : vec_len c.args.tasks.now ≡ length c.args.tasks.now.items = search rules in
    let there : vec_len c.args.tasks.now ≤ vec_capacity c.args.tasks.now = search rules in
    let left : vec_len c.hand_out.new.tasks ≡ length c.hand_out.new.tasks.items = search rules in
    let slots : vec_len c.hand_out.new.slots ≡ length c.hand_out.new.slots.items = search rules in
    omega (arith, e.out.count, e.room, before, there, left, slots)

pub take_back-requires-in-Err-clause-slots : goal.take_back-requires-in-Err-clause-slots
take_back-requires-in-Err-clause-slots g c =
    may_leave_again g.W.Work.meaning c.args.self.now c.hand_out.new.self c.args.tasks.now.items c.hand_out.new.tasks.items c.hand_out.new.slots.items c.in-Err.ensures.out c.in-Err.ensures.still

pub take_back-requires-clause-slots : goal.take_back-requires-clause-slots
take_back-requires-clause-slots g c =
    let m = c.args.self.now in
    let xs = c.args.tasks.now.items in
    let ss = c.hand_out.new.slots.items in
    let rs = c.work_all.new.slots in
    let value = c.as_mut_slice.ensures.value in
    let long : c.hand_out.new.slots.len ≡ length ss = omega (arith, c.hand_out.new.slots.ok) in
    let size = c.work_all.auto.slots in
    may_after g.W.Work.meaning g.J.CellTask.does m c.hand_out.new.self xs c.hand_out.new.tasks.items ss c.as_mut_slice.result.now rs _ c.in-Ok-hand_out.ensures.out c.in-Ok-hand_out.ensures.all
    value size (written ss rs c.hand_out.new.slots.len (size ∙ ap length value) long) c.work_all.ensures c.in-Ok-hand_out.ensures.still

pub returns-in-Ok-hand_out-clause-worked : goal.returns-in-Ok-hand_out-clause-worked
returns-in-Ok-hand_out-clause-worked g c =
    let m = c.args.self.now in
    let xs = c.args.tasks.now.items in
    let ss = c.hand_out.new.slots.items in
    let rs = c.work_all.new.slots in
    let value = c.as_mut_slice.ensures.value in
    let long : c.hand_out.new.slots.len ≡ length ss = omega (arith, c.hand_out.new.slots.ok) in
    let size = c.work_all.auto.slots in
    all_worked g.W.Work.meaning g.J.CellTask.does m c.hand_out.new.self xs c.hand_out.new.tasks.items ss c.as_mut_slice.result.now rs _ c.in-Ok-hand_out.ensures.out c.in-Ok-hand_out.ensures.all
    value size (written ss rs c.hand_out.new.slots.len (size ∙ ap length value) long) c.work_all.ensures c.take_back.new.self c.take_back.new.tasks.items c.take_back.ensures.back (c.take_back.ensures.still ∙ c.in-Ok-hand_out.ensures.still)

pub returns-in-Ok-hand_out-clause-rest : goal.returns-in-Ok-hand_out-clause-rest
returns-in-Ok-hand_out-clause-rest g c =
    let m = c.args.self.now in
    let xs = c.args.tasks.now.items in
    let ss = c.hand_out.new.slots.items in
    let rs = c.work_all.new.slots in
    let value = c.as_mut_slice.ensures.value in
    let long : c.hand_out.new.slots.len ≡ length ss = omega (arith, c.hand_out.new.slots.ok) in
    let size = c.work_all.auto.slots in
    others_known g.W.Work.meaning g.J.CellTask.does m c.hand_out.new.self xs c.hand_out.new.tasks.items ss c.as_mut_slice.result.now rs _ c.in-Ok-hand_out.ensures.out c.in-Ok-hand_out.ensures.all
    value size (written ss rs c.hand_out.new.slots.len (size ∙ ap length value) long) c.work_all.ensures c.take_back.new.self c.take_back.new.tasks.items c.take_back.ensures.back (c.take_back.ensures.still ∙ c.in-Ok-hand_out.ensures.still)

pub returns-in-Ok-hand_out-clause-rest_order : goal.returns-in-Ok-hand_out-clause-rest_order
returns-in-Ok-hand_out-clause-rest_order g c =
    let m = c.args.self.now in
    let xs = c.args.tasks.now.items in
    let ss = c.hand_out.new.slots.items in
    let rs = c.work_all.new.slots in
    let value = c.as_mut_slice.ensures.value in
    let long : c.hand_out.new.slots.len ≡ length ss = omega (arith, c.hand_out.new.slots.ok) in
    let size = c.work_all.auto.slots in
    others_in_order g.W.Work.meaning g.J.CellTask.does m c.hand_out.new.self xs c.hand_out.new.tasks.items ss c.as_mut_slice.result.now rs _ c.in-Ok-hand_out.ensures.out c.in-Ok-hand_out.ensures.all
    value size (written ss rs c.hand_out.new.slots.len (size ∙ ap length value) long) c.work_all.ensures c.take_back.new.self c.take_back.new.tasks.items c.take_back.ensures.back (c.take_back.ensures.still ∙ c.in-Ok-hand_out.ensures.still)

pub returns-in-Ok-hand_out-clause-remembers : goal.returns-in-Ok-hand_out-clause-remembers
returns-in-Ok-hand_out-clause-remembers g c =
    let m = c.args.self.now in
    let xs = c.args.tasks.now.items in
    let ss = c.hand_out.new.slots.items in
    let rs = c.work_all.new.slots in
    let value = c.as_mut_slice.ensures.value in
    let long : c.hand_out.new.slots.len ≡ length ss = omega (arith, c.hand_out.new.slots.ok) in
    let size = c.work_all.auto.slots in
    others_remembered g.W.Work.meaning g.J.CellTask.does m c.hand_out.new.self xs c.hand_out.new.tasks.items ss c.as_mut_slice.result.now rs _ c.in-Ok-hand_out.ensures.out c.in-Ok-hand_out.ensures.all
    value size (written ss rs c.hand_out.new.slots.len (size ∙ ap length value) long) c.work_all.ensures c.take_back.new.self c.take_back.new.tasks.items c.take_back.ensures.back (c.take_back.ensures.still ∙ c.in-Ok-hand_out.ensures.still)

pub returns-in-Err-clause-unchanged : goal.returns-in-Err-clause-unchanged
returns-in-Err-clause-unchanged g c =
    all_back g.W.Work.meaning c.args.self.now c.hand_out.new.self c.take_back-in-Err.new.self c.args.tasks.now.items c.hand_out.new.tasks.items c.take_back-in-Err.new.tasks.items c.hand_out.new.slots.items
    c.in-Err.ensures.out c.take_back-in-Err.ensures.back

pub returns-in-Err-clause-tasks : goal.returns-in-Err-clause-tasks
returns-in-Err-clause-tasks g c =
    tasks_back g.W.Work.meaning c.args.self.now c.hand_out.new.self c.take_back-in-Err.new.self c.args.tasks.now.items c.hand_out.new.tasks.items c.take_back-in-Err.new.tasks.items c.hand_out.new.slots.items
    c.in-Err.ensures.out c.take_back-in-Err.ensures.back

pub returns-in-Err-clause-unchanged_order : goal.returns-in-Err-clause-unchanged_order
returns-in-Err-clause-unchanged_order g c =
    all_in_order g.W.Work.meaning c.args.self.now c.hand_out.new.self c.take_back-in-Err.new.self c.args.tasks.now.items c.hand_out.new.tasks.items c.take_back-in-Err.new.tasks.items c.hand_out.new.slots.items
    c.in-Err.ensures.out c.take_back-in-Err.ensures.back (c.take_back-in-Err.ensures.still ∙ c.in-Err.ensures.still)

pub returns-in-Err-clause-remembers : goal.returns-in-Err-clause-remembers
returns-in-Err-clause-remembers g c =
    all_remembered g.W.Work.meaning c.args.self.now c.hand_out.new.self c.take_back-in-Err.new.self c.args.tasks.now.items c.hand_out.new.tasks.items c.take_back-in-Err.new.tasks.items c.hand_out.new.slots.items
    c.in-Err.ensures.out c.take_back-in-Err.ensures.back

pub returns-in-Err-clause-rest : goal.returns-in-Err-clause-rest
returns-in-Err-clause-rest g c n high =
    let low : 0 ≤ n = omega arith in
    all_back g.W.Work.meaning c.args.self.now c.hand_out.new.self c.take_back-in-Err.new.self c.args.tasks.now.items c.hand_out.new.tasks.items c.take_back-in-Err.new.tasks.items c.hand_out.new.slots.items
    c.in-Err.ensures.out c.take_back-in-Err.ensures.back n low

pub returns-in-Err-clause-rest_order : goal.returns-in-Err-clause-rest_order
returns-in-Err-clause-rest_order g c j high =
    let low : 0 ≤ j = omega arith in
    all_in_order g.W.Work.meaning c.args.self.now c.hand_out.new.self c.take_back-in-Err.new.self c.args.tasks.now.items c.hand_out.new.tasks.items c.take_back-in-Err.new.tasks.items c.hand_out.new.slots.items
    c.in-Err.ensures.out c.take_back-in-Err.ensures.back (c.take_back-in-Err.ensures.still ∙ c.in-Err.ensures.still) j low
