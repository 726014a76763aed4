use Rattle.std.proofs.Common.{refl, sym, subst}
use Rattle.std.specs.Prelude.{Option}
use Rattle.of_c.specs.declared.held.Held.{Held}
use Rattle.of_c.specs.Slots.{HoldsMemory}
use Rattle.of_c.proofs.memories.of_c_open.Goals as goal

pub returns-in-Ok-clause-opened : goal.returns-in-Ok-clause-opened
returns-in-Ok-clause-opened c done = record {
  memory = c.in-Ok.opened;
  is = subst (λ (h : Option Held). HoldsMemory h c.in-Ok.opened) (sym (c.keep.ensures.done done)) refl;
  count = c.in-Ok.ensures.callers;
  limit_is = c.in-Ok.ensures.limit;
  empty = c.in-Ok.ensures.empty;
  tickets = c.in-Ok.ensures.tickets;
  none = c.in-Ok.ensures.none;
  idle = c.in-Ok.ensures.idle;
  seq = c.in-Ok.ensures.seq;
}
