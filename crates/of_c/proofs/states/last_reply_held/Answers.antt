use Rattle.std.proofs.Common.{arith, refl, sym, subst}
use Rattle.of_c.specs.declared.held.Held.{Held}
use Rattle.of_c.specs.Slots.{HasSaved}
use Rattle.of_c.proofs.states.last_reply_held.Goals as goal

pub returns-in-Some-clause-read : goal.returns-in-Some-clause-read
returns-in-Some-clause-read c done = record {
  left = c.in-Saved.kept.saved;
  is = subst (λ (h : Held). HasSaved h c.in-Saved.kept.saved) (sym c.in-Saved.is) refl;
  there = omega (arith, c.if-number-callers.false, c.callers.ensures);
  so = record {
    ticket = c.in-Some.ensures.ticket;
    reply = c.in-Some.last;
    held = c.in-Some.ensures.reply;
    shows = record {
      len = c.show.ensures.shows.len;
      given = c.show.ensures.shows.given;
      values = c.show.ensures.shows.values;
      abort = c.show.ensures.shows.abort;
    };
  };
}

pub returns-in-None-clause-absent : goal.returns-in-None-clause-absent
returns-in-None-clause-absent c done = record {
  left = c.in-Saved.kept.saved;
  is = subst (λ (h : Held). HasSaved h c.in-Saved.kept.saved) (sym c.in-Saved.is) refl;
  there = omega (arith, c.if-number-callers.false, c.callers.ensures);
  so = c.in-None.ensures.none.0 refl;
}

pub returns-then-number-callers-clause-range : goal.returns-then-number-callers-clause-range
returns-then-number-callers-clause-range c done = record {
  left = c.in-Saved.kept.saved;
  is = subst (λ (h : Held). HasSaved h c.in-Saved.kept.saved) (sym c.in-Saved.is) refl;
  so = omega (arith, c.if-number-callers.true, c.callers.ensures);
}
