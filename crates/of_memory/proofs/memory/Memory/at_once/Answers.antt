use Rattle.std.proofs.Common.{◌≡◌, ◌≤◌, ◌<◌, vec_len, vec_capacity, length, arith, ap, ◌∙◌, rules}
use Rattle.of_eval.specs.Scripts.{scripts_meaning}
use Rattle.of_cells.proofs.Handing.{written, may_after, all_worked, others_known, others_in_order, others_remembered, all_in_order, all_remembered, may_leave_again, tasks_back, all_back}
use Rattle.of_memory.specs.Tasks.{WorksWith}
use Rattle.of_memory.proofs.Tasks.{may_all_work, knows_rest, have_worked, after_same, after_work}
use Rattle.of_memory.proofs.memory.Memory.at_once.Goals as goal

pub hand_out-requires-clause-few : goal.hand_out-requires-clause-few
hand_out-requires-clause-few g c =
    let long : vec_len c.args.tasks.now ≡ length c.args.tasks.now.items = search rules in
    omega (arith, c.if-len-callers.false, c.callers-callers.ensures, c.len.ensures, long)

pub hand_out-requires-clause-small : goal.hand_out-requires-clause-small
hand_out-requires-clause-small g c =
    let low : c.callers-callers.result < 4294967296 = search rules in
    omega (arith, c.if-len-callers.false, c.len.ensures, low)

pub work_all-requires-after_bounds : goal.work_all-requires-after_bounds
work_all-requires-after_bounds g c κs within =
    may_all_work c.args.self.now c.requires c.hand_out.new.self c.args.tasks.now.items c.hand_out.new.tasks.items c.hand_out.new.slots.items c.as_mut_slice.result.now c.in-Ok-hand_out.ensures.out c.as_mut_slice.ensures.value

pub take_back-requires-clause-room : goal.take_back-requires-clause-room
take_back-requires-clause-room g c =
    let e = c.in-Ok-hand_out.ensures in
    let before : vec_len c.args.tasks.now ≡ length c.args.tasks.now.items = search rules in
    let there : vec_len c.args.tasks.now ≤ vec_capacity c.args.tasks.now = search rules in
    let left : vec_len c.hand_out.new.tasks ≡ length c.hand_out.new.tasks.items = search rules in
    let slots : vec_len c.hand_out.new.slots ≡ length c.hand_out.new.slots.items = search rules in
    omega (arith, e.out.count, e.room, before, there, left, slots)

pub take_back-requires-in-Err-clause-slots : goal.take_back-requires-in-Err-clause-slots
take_back-requires-in-Err-clause-slots g c =
    may_leave_again scripts_meaning c.args.self.now.cells c.hand_out.new.self c.args.tasks.now.items c.hand_out.new.tasks.items c.hand_out.new.slots.items c.in-Err.ensures.out c.in-Err.ensures.still

pub take_back-requires-clause-slots : goal.take_back-requires-clause-slots
take_back-requires-clause-slots g c =
    let m = c.args.self.now.cells in
    let xs = c.args.tasks.now.items in
    let ss = c.hand_out.new.slots.items in
    let rs = c.work_all.new.slots in
    let value = c.as_mut_slice.ensures.value in
    let long : c.hand_out.new.slots.len ≡ length ss = omega (arith, c.hand_out.new.slots.ok) in
    let size = c.work_all.auto.slots in
    may_after scripts_meaning (WorksWith g.J.Task.does) m c.hand_out.new.self xs c.hand_out.new.tasks.items ss c.as_mut_slice.result.now rs _ c.in-Ok-hand_out.ensures.out c.in-Ok-hand_out.ensures.all
    value size (written ss rs c.hand_out.new.slots.len (size ∙ ap length value) long) c.work_all.ensures c.in-Ok-hand_out.ensures.still

pub returns-in-Ok-hand_out-clause-memory : goal.returns-in-Ok-hand_out-clause-memory
returns-in-Ok-hand_out-clause-memory g c =
    let m = c.args.self.now in
    let xs = c.args.tasks.now.items in
    let ss = c.hand_out.new.slots.items in
    let rs = c.work_all.new.slots in
    let value = c.as_mut_slice.ensures.value in
    let long : c.hand_out.new.slots.len ≡ length ss = omega (arith, c.hand_out.new.slots.ok) in
    let size = c.work_all.auto.slots in
    let still = c.take_back.ensures.still ∙ c.in-Ok-hand_out.ensures.still in
    after_work g.J.Task.does m (record { alloc = m.alloc; cells = c.take_back.new.self }) c.requires c.take_back.ensures.memory still xs c.take_back.new.tasks.items
    (all_worked scripts_meaning (WorksWith g.J.Task.does) m.cells c.hand_out.new.self xs c.hand_out.new.tasks.items ss c.as_mut_slice.result.now rs _ c.in-Ok-hand_out.ensures.out c.in-Ok-hand_out.ensures.all value size (written ss rs c.hand_out.new.slots.len (size ∙ ap length value) long) c.work_all.ensures c.take_back.new.self c.take_back.new.tasks.items c.take_back.ensures.back still)
    (others_known scripts_meaning (WorksWith g.J.Task.does) m.cells c.hand_out.new.self xs c.hand_out.new.tasks.items ss c.as_mut_slice.result.now rs _ c.in-Ok-hand_out.ensures.out c.in-Ok-hand_out.ensures.all value size (written ss rs c.hand_out.new.slots.len (size ∙ ap length value) long) c.work_all.ensures c.take_back.new.self c.take_back.new.tasks.items c.take_back.ensures.back still)

pub returns-in-Ok-hand_out-clause-worked : goal.returns-in-Ok-hand_out-clause-worked
returns-in-Ok-hand_out-clause-worked g c =
    let m = c.args.self.now in
    let xs = c.args.tasks.now.items in
    let ss = c.hand_out.new.slots.items in
    let rs = c.work_all.new.slots in
    let value = c.as_mut_slice.ensures.value in
    let long : c.hand_out.new.slots.len ≡ length ss = omega (arith, c.hand_out.new.slots.ok) in
    let size = c.work_all.auto.slots in
    let still = c.take_back.ensures.still ∙ c.in-Ok-hand_out.ensures.still in
    have_worked g.J.Task.does m (record { alloc = m.alloc; cells = c.take_back.new.self }) c.requires xs c.take_back.new.tasks.items (all_worked scripts_meaning (WorksWith g.J.Task.does) m.cells c.hand_out.new.self xs c.hand_out.new.tasks.items ss c.as_mut_slice.result.now rs _ c.in-Ok-hand_out.ensures.out c.in-Ok-hand_out.ensures.all value size (written ss rs c.hand_out.new.slots.len (size ∙ ap length value) long) c.work_all.ensures c.take_back.new.self c.take_back.new.tasks.items c.take_back.ensures.back still)

pub returns-in-Ok-hand_out-clause-rest : goal.returns-in-Ok-hand_out-clause-rest
returns-in-Ok-hand_out-clause-rest g c =
    let m = c.args.self.now in
    let xs = c.args.tasks.now.items in
    let ss = c.hand_out.new.slots.items in
    let rs = c.work_all.new.slots in
    let value = c.as_mut_slice.ensures.value in
    let long : c.hand_out.new.slots.len ≡ length ss = omega (arith, c.hand_out.new.slots.ok) in
    let size = c.work_all.auto.slots in
    let still = c.take_back.ensures.still ∙ c.in-Ok-hand_out.ensures.still in
    knows_rest (length xs) m (record { alloc = m.alloc; cells = c.take_back.new.self }) (others_known scripts_meaning (WorksWith g.J.Task.does) m.cells c.hand_out.new.self xs c.hand_out.new.tasks.items ss c.as_mut_slice.result.now rs _ c.in-Ok-hand_out.ensures.out c.in-Ok-hand_out.ensures.all value size (written ss rs c.hand_out.new.slots.len (size ∙ ap length value) long) c.work_all.ensures c.take_back.new.self c.take_back.new.tasks.items c.take_back.ensures.back still)

pub returns-in-Ok-hand_out-clause-rest_order : goal.returns-in-Ok-hand_out-clause-rest_order
returns-in-Ok-hand_out-clause-rest_order g c =
    let m = c.args.self.now in
    let xs = c.args.tasks.now.items in
    let ss = c.hand_out.new.slots.items in
    let rs = c.work_all.new.slots in
    let value = c.as_mut_slice.ensures.value in
    let long : c.hand_out.new.slots.len ≡ length ss = omega (arith, c.hand_out.new.slots.ok) in
    let size = c.work_all.auto.slots in
    let still = c.take_back.ensures.still ∙ c.in-Ok-hand_out.ensures.still in
    (others_in_order scripts_meaning (WorksWith g.J.Task.does) m.cells c.hand_out.new.self xs c.hand_out.new.tasks.items ss c.as_mut_slice.result.now rs _ c.in-Ok-hand_out.ensures.out c.in-Ok-hand_out.ensures.all value size (written ss rs c.hand_out.new.slots.len (size ∙ ap length value) long) c.work_all.ensures c.take_back.new.self c.take_back.new.tasks.items c.take_back.ensures.back still)

pub returns-in-Ok-hand_out-clause-remembers : goal.returns-in-Ok-hand_out-clause-remembers
returns-in-Ok-hand_out-clause-remembers g c =
    let m = c.args.self.now in
    let xs = c.args.tasks.now.items in
    let ss = c.hand_out.new.slots.items in
    let rs = c.work_all.new.slots in
    let value = c.as_mut_slice.ensures.value in
    let long : c.hand_out.new.slots.len ≡ length ss = omega (arith, c.hand_out.new.slots.ok) in
    let size = c.work_all.auto.slots in
    let still = c.take_back.ensures.still ∙ c.in-Ok-hand_out.ensures.still in
    (others_remembered scripts_meaning (WorksWith g.J.Task.does) m.cells c.hand_out.new.self xs c.hand_out.new.tasks.items ss c.as_mut_slice.result.now rs _ c.in-Ok-hand_out.ensures.out c.in-Ok-hand_out.ensures.all value size (written ss rs c.hand_out.new.slots.len (size ∙ ap length value) long) c.work_all.ensures c.take_back.new.self c.take_back.new.tasks.items c.take_back.ensures.back still)

pub returns-in-Err-clause-memory : goal.returns-in-Err-clause-memory
returns-in-Err-clause-memory g c =
    let m = c.args.self.now in
    let still = c.take_back-in-Err.ensures.still ∙ c.in-Err.ensures.still in
    after_same g.J.Task.does m (record { alloc = m.alloc; cells = c.take_back-in-Err.new.self }) c.requires c.take_back-in-Err.ensures.memory still (all_back scripts_meaning m.cells c.hand_out.new.self c.take_back-in-Err.new.self c.args.tasks.now.items c.hand_out.new.tasks.items c.take_back-in-Err.new.tasks.items c.hand_out.new.slots.items c.in-Err.ensures.out c.take_back-in-Err.ensures.back)

pub returns-in-Err-clause-unchanged : goal.returns-in-Err-clause-unchanged
returns-in-Err-clause-unchanged g c =
    let m = c.args.self.now in
    knows_rest 0 m (record { alloc = m.alloc; cells = c.take_back-in-Err.new.self }) (all_back scripts_meaning m.cells c.hand_out.new.self c.take_back-in-Err.new.self c.args.tasks.now.items c.hand_out.new.tasks.items c.take_back-in-Err.new.tasks.items c.hand_out.new.slots.items c.in-Err.ensures.out c.take_back-in-Err.ensures.back)

pub returns-in-Err-clause-rest : goal.returns-in-Err-clause-rest
returns-in-Err-clause-rest g c n high =
    let m = c.args.self.now in
    let low : 0 ≤ n = omega arith in
    knows_rest 0 m (record { alloc = m.alloc; cells = c.take_back-in-Err.new.self }) (all_back scripts_meaning m.cells c.hand_out.new.self c.take_back-in-Err.new.self c.args.tasks.now.items c.hand_out.new.tasks.items c.take_back-in-Err.new.tasks.items c.hand_out.new.slots.items c.in-Err.ensures.out c.take_back-in-Err.ensures.back) n low

pub returns-in-Err-clause-tasks : goal.returns-in-Err-clause-tasks
returns-in-Err-clause-tasks g c =
    let m = c.args.self.now in
    tasks_back scripts_meaning m.cells c.hand_out.new.self c.take_back-in-Err.new.self c.args.tasks.now.items c.hand_out.new.tasks.items c.take_back-in-Err.new.tasks.items c.hand_out.new.slots.items c.in-Err.ensures.out c.take_back-in-Err.ensures.back

pub returns-in-Err-clause-unchanged_order : goal.returns-in-Err-clause-unchanged_order
returns-in-Err-clause-unchanged_order g c =
    let m = c.args.self.now in
    all_in_order scripts_meaning m.cells c.hand_out.new.self c.take_back-in-Err.new.self c.args.tasks.now.items c.hand_out.new.tasks.items c.take_back-in-Err.new.tasks.items c.hand_out.new.slots.items c.in-Err.ensures.out c.take_back-in-Err.ensures.back (c.take_back-in-Err.ensures.still ∙ c.in-Err.ensures.still)

pub returns-in-Err-clause-rest_order : goal.returns-in-Err-clause-rest_order
returns-in-Err-clause-rest_order g c j high =
    let m = c.args.self.now in
    let low : 0 ≤ j = omega arith in
    all_in_order scripts_meaning m.cells c.hand_out.new.self c.take_back-in-Err.new.self c.args.tasks.now.items c.hand_out.new.tasks.items c.take_back-in-Err.new.tasks.items c.hand_out.new.slots.items c.in-Err.ensures.out c.take_back-in-Err.ensures.back (c.take_back-in-Err.ensures.still ∙ c.in-Err.ensures.still) j low

pub returns-in-Err-clause-remembers : goal.returns-in-Err-clause-remembers
returns-in-Err-clause-remembers g c =
    let m = c.args.self.now in
    all_remembered scripts_meaning m.cells c.hand_out.new.self c.take_back-in-Err.new.self c.args.tasks.now.items c.hand_out.new.tasks.items c.take_back-in-Err.new.tasks.items c.hand_out.new.slots.items c.in-Err.ensures.out c.take_back-in-Err.ensures.back
