use Rattle.std.proofs.Common.{arith, refl, sym, subst}
use Rattle.of_c.specs.declared.held.Held.{Held}
use Rattle.of_c.specs.Slots.{HasSaved}
use Rattle.of_c.proofs.states.ticket_held.Goals as goal

pub returns-else-number-callers-clause-read : goal.returns-else-number-callers-clause-read
returns-else-number-callers-clause-read c done = record {
  left = c.in-Saved.kept.saved;
  is = subst (λ (h : Held). HasSaved h c.in-Saved.kept.saved) (sym c.in-Saved.is) refl;
  there = omega (arith, c.if-number-callers.false, c.callers.ensures);
  so = c.ticket.ensures;
}

pub returns-then-number-callers-clause-range : goal.returns-then-number-callers-clause-range
returns-then-number-callers-clause-range c done = record {
  left = c.in-Saved.kept.saved;
  is = subst (λ (h : Held). HasSaved h c.in-Saved.kept.saved) (sym c.in-Saved.is) refl;
  so = omega (arith, c.if-number-callers.true, c.callers.ensures);
}
