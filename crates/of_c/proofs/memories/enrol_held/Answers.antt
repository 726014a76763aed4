use Rattle.std.proofs.Common.{refl, sym, subst}
use Rattle.std.specs.Prelude.{Option}
use Rattle.of_c.specs.declared.held.Held.{Held}
use Rattle.of_c.specs.Slots.{HasMemory, HoldsHandle}
use Rattle.of_c.proofs.Knowing.{keeps_memory}
use Rattle.of_c.proofs.memories.enrol_held.Goals as goal

pub returns-in-Ok-clause-enrolled : goal.returns-in-Ok-clause-enrolled
returns-in-Ok-clause-enrolled c done = record {
  memory = c.in-Memory.home.memory;
  was = subst (λ (h : Held). HasMemory h c.in-Memory.home.memory) (sym c.in-Memory.is) refl;
  next = c.enrol.new.self;
  is = refl;
  handle = c.in-Ok.handle;
  enrolled = subst (λ (h : Option Held). HoldsHandle h c.in-Ok.handle) (sym c.put.ensures) refl;
  still = c.enrol.ensures.still;
  from = c.in-Ok.ensures.from;
  of_number = c.in-Ok.ensures.number;
  made = c.in-Ok.ensures.made;
  open_call = c.in-Ok.ensures.open_call;
  taken = c.in-Ok.ensures.taken;
  others = c.enrol.ensures.others;
  others_open = c.enrol.ensures.others_open;
  order = c.in-Ok.ensures.order;
  others_order = c.enrol.ensures.others_order;
  heard = c.in-Ok.ensures.heard;
  remembers = c.enrol.ensures.remembers;
  seq = c.in-Ok.ensures.seq;
  same_seq = c.enrol.ensures.same_seq;
}

pub returns-in-Err-OutOfMemory-clause-kept : goal.returns-in-Err-OutOfMemory-clause-kept
returns-in-Err-OutOfMemory-clause-kept c out = keeps_memory _ c.in-Memory.home _ c.in-Memory.is c.enrol.ensures.still c.in-Err-OutOfMemory.ensures.refused c.enrol.ensures.remembers

pub returns-in-Err-NoCaller-clause-range : goal.returns-in-Err-NoCaller-clause-range
returns-in-Err-NoCaller-clause-range c out = record {
  memory = c.in-Memory.home.memory;
  is = subst (λ (h : Held). HasMemory h c.in-Memory.home.memory) (sym c.in-Memory.is) refl;
  so = (rw c.in-Err-NoCaller.field-0-is at c.in-Err-NoCaller.ensures.cause).1;
}

pub returns-in-Err-NoCaller-clause-kept : goal.returns-in-Err-NoCaller-clause-kept
returns-in-Err-NoCaller-clause-kept c out = keeps_memory _ c.in-Memory.home _ c.in-Memory.is c.enrol.ensures.still c.in-Err-NoCaller.ensures.refused c.enrol.ensures.remembers

pub returns-in-Memory-clause-taken : goal.returns-in-Memory-clause-taken
returns-in-Memory-clause-taken c out = record {
  memory = c.in-Memory.home.memory;
  is = subst (λ (h : Held). HasMemory h c.in-Memory.home.memory) (sym c.in-Memory.is) refl;
  so = (rw c.in-Err-Enrolled.field-0-is at c.in-Err-Enrolled.ensures.cause).1;
}

pub returns-in-Memory-clause-kept : goal.returns-in-Memory-clause-kept
returns-in-Memory-clause-kept c out = keeps_memory _ c.in-Memory.home _ c.in-Memory.is c.enrol.ensures.still c.in-Err-Enrolled.ensures.refused c.enrol.ensures.remembers
