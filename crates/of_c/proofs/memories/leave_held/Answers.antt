use Rattle.std.proofs.Common.{refl, sym, subst}
use Rattle.of_c.specs.declared.held.Held.{Held}
use Rattle.of_c.specs.Slots.{HasMemory, HasHandle}
use Rattle.of_c.proofs.memories.leave_held.Goals as goal

pub leave-requires-clause-from : goal.leave-requires-clause-from
leave-requires-clause-from c =
    c.requires.of_one c.in-Memory.home.memory c.in-Caller-into_inner.seat.handle
    (subst (λ (h : Held). HasMemory h c.in-Memory.home.memory) (sym c.in-Memory.is) refl)
    (subst (λ (h : Held). HasHandle h c.in-Caller-into_inner.seat.handle) c.in-Caller-into_inner.ensures refl)

pub returns-clause-left : goal.returns-clause-left
returns-clause-left c done = record {
  memory = c.in-Memory.home.memory;
  was = subst (λ (h : Held). HasMemory h c.in-Memory.home.memory) (sym c.in-Memory.is) refl;
  handle = c.in-Caller-into_inner.seat.handle;
  enrolled = subst (λ (h : Held). HasHandle h c.in-Caller-into_inner.seat.handle) c.in-Caller-into_inner.ensures refl;
  next = c.leave.new.memory;
  is = refl;
  still = c.leave.ensures.still;
  made = c.leave.ensures.made;
  open_call = c.leave.ensures.open_call;
  back = c.leave.ensures.back;
  others = c.leave.ensures.others;
  others_open = c.leave.ensures.others_open;
  order = c.leave.ensures.order;
  others_order = c.leave.ensures.others_order;
  heard = c.leave.ensures.heard;
  remembers = c.leave.ensures.remembers;
  seq = c.leave.ensures.seq;
}
