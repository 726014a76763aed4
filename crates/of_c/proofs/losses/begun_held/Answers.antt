use Rattle.std.proofs.Common.{refl, sym, subst}
use Rattle.of_c.specs.declared.held.Held.{Held}
use Rattle.of_c.specs.Slots.{HasHandle}
use Rattle.of_c.proofs.losses.begun_held.Goals as goal

pub returns-in-Caller-clause-read : goal.returns-in-Caller-clause-read
returns-in-Caller-clause-read c done = record {
  handle = c.in-Caller.seat.handle;
  is = subst (λ (h : Held). HasHandle h c.in-Caller.seat.handle) (sym c.in-Caller.is) refl;
  begun_is = c.begun.ensures;
}
