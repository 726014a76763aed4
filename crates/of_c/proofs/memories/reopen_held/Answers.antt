use Rattle.std.proofs.Common.{refl, sym, subst}
use Rattle.std.specs.Prelude.{Option}
use Rattle.of_c.specs.declared.held.Held.{Held}
use Rattle.of_c.specs.Slots.{HasSaved, HoldsMemory}
use Rattle.of_c.proofs.memories.reopen_held.Goals as goal

pub returns-in-Ok-clause-reopened : goal.returns-in-Ok-clause-reopened
returns-in-Ok-clause-reopened c done = record {
  left = c.in-Saved.kept.saved;
  was = subst (λ (h : Held). HasSaved h c.in-Saved.kept.saved) (sym c.in-Saved.is) refl;
  memory = c.in-Ok.opened;
  is = subst (λ (h : Option Held). HoldsMemory h c.in-Ok.opened) (sym (c.keep.ensures.done done)) refl;
  count = c.in-Ok.ensures.callers;
  limit_is = c.in-Ok.ensures.limit;
  goes_on = c.in-Ok.ensures.goes_on;
  tickets = c.in-Ok.ensures.tickets;
  none = c.in-Ok.ensures.none;
  idle = c.in-Ok.ensures.idle;
  seq = c.in-Ok.ensures.seq;
}
