use Rattle.std.proofs.Common.{◌≡◌, ◌+◌, ◌∷◌, [], None, Some, refl, length, get_or, sym, subst, ap, ◌∙◌, arith}
use Rattle.std.proofs.lemmas.List.{get_or_append_left, length-append}
use Rattle.of_mem.proofs.Lists.{same_some}
use Rattle.of_cells.specs.declared.handle.CellHandle.{CellHandle}
use Rattle.of_cells.specs.Tasks.{MayLeave, HasTakenBack}
use Rattle.of_cells.proofs.Holding.{low_handle}
use Rattle.of_cells.proofs.Handing.{back_none, back_more, next_leaves}
use Rattle.of_cells.proofs.memory.CellMemory.take_back.Goals as goal

pub loop-slot-init : goal.loop-slot-init
loop-slot-init g c = record {
  memory = c.requires.memory;
  still = refl;
  back = back_none g.W.Work.meaning c.args.self.now c.args.tasks.now.items c.args.slots.items;
  front = λ i lt. refl;
  room = c.requires.room;
}

pub unreachable-requires : goal.unreachable-requires
unreachable-requires g c =
    let inv = c.loop-slot.invariant in
    let may = next_leaves g.W.Work.meaning c.args.self.now (length c.args.tasks.now.items) c.args.slots.items c.loop-slot.slots.items c.pop.new.self.items c.in-Some.slot c.requires.slots c.in-Some.ensures.items inv.back.low inv.front in
    c.in_default-slot.not-Some may.0 may.1

pub leave-requires-clause-handle : goal.leave-requires-clause-handle
leave-requires-clause-handle g c =
    let inv = c.loop-slot.invariant in
    let may = next_leaves g.W.Work.meaning c.args.self.now (length c.args.tasks.now.items) c.args.slots.items c.loop-slot.slots.items c.pop.new.self.items c.in-Some.slot c.requires.slots c.in-Some.ensures.items inv.back.low inv.front in
    let pair : CellHandle g.row.W.Denot × g.row.J.Denot = (c.in-Some-slot.handle, c.in-Some-slot.task) in
    (subst (MayLeave g.W.Work.meaning c.args.self.now _ _) (same_some may.0 pair c.in-Some.slot may.1 c.in-Some-slot.is) may.3).handle

pub leave-requires-clause-from : goal.leave-requires-clause-from
leave-requires-clause-from g c =
    let inv = c.loop-slot.invariant in
    let may = next_leaves g.W.Work.meaning c.args.self.now (length c.args.tasks.now.items) c.args.slots.items c.loop-slot.slots.items c.pop.new.self.items c.in-Some.slot c.requires.slots c.in-Some.ensures.items inv.back.low inv.front in
    let pair : CellHandle g.row.W.Denot × g.row.J.Denot = (c.in-Some-slot.handle, c.in-Some-slot.task) in
    (subst (MayLeave g.W.Work.meaning c.args.self.now _ _) (same_some may.0 pair c.in-Some.slot may.1 c.in-Some-slot.is) may.3).from ∙ sym inv.still

pub loop-slot-preserved : goal.loop-slot-preserved
loop-slot-preserved g c =
    let inv = c.loop-slot.invariant in
    let m = c.args.self.now in
    let k = c.loop-slot.self in
    let n = c.leave.new.memory in
    let xs = c.args.tasks.now.items in
    let zs = c.loop-slot.tasks.items in
    let ss = c.args.slots.items in
    let now = c.loop-slot.slots.items in
    let front = c.pop.new.self.items in
    let s = c.in-Some.slot in
    let h = c.in-Some-slot.handle in
    let t = c.in-Some-slot.task in
    let pair : CellHandle g.row.W.Denot × g.row.J.Denot = (h, t) in
    let items = c.in-Some.ensures.items in
    let next : length now ≡ length front + 1 = ap length items ∙ length-append front (s ∷ []) in
    let may = next_leaves g.W.Work.meaning m (length xs) ss now front s c.requires.slots items inv.back.low inv.front in
    let same = same_some may.0 pair s may.1 c.in-Some-slot.is in
    let leaves = subst (MayLeave g.W.Work.meaning m (length xs + length ss) (length front)) same may.3 in
    record {
      memory = c.leave.ensures.memory;
      still = c.leave.ensures.still ∙ inv.still;
      back = subst (λ l. HasTakenBack g.W.Work.meaning m n xs l (length front) ss) (sym c.put.ensures.items)
          (back_more g.W.Work.meaning m k xs zs (length now) ss inv.back c.requires.slots n (length front) h t next (may.2 ∙ ap (λ p. Some p) same)
          (low_handle g.W.Work.meaning k h inv.memory leaves.handle (leaves.from ∙ sym inv.still)) c.leave.ensures.back c.leave.ensures.heard c.leave.ensures.remembers);
      front = λ i below. sym (get_or_append_left front (s ∷ []) None i below) ∙ ap (λ l. get_or l i None) (sym items) ∙ inv.front i (omega (arith, below, next));
      room = omega (arith, inv.room, c.put.ensures.len, c.put.ensures.capacity, c.in-Some.ensures.cases);
    }
