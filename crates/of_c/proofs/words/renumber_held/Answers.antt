use Rattle.std.proofs.Common.{refl, subst}
use Rattle.of_c.specs.declared.held.Held.{Held}
use Rattle.of_c.specs.Slots.{HasSaved}
use Rattle.of_c.proofs.words.renumber_held.Goals as goal

pub returns-in-Saved-clause-renumbered : goal.returns-in-Saved-clause-renumbered
returns-in-Saved-clause-renumbered c done = record {
  left = c.in-Saved.kept.saved;
  was = subst (λ (h : Held). HasSaved h c.in-Saved.kept.saved) c.in-Saved.ensures.value refl;
  next = c.renumbered-saved.result;
  is = refl;
  same = c.renumbered-saved.ensures.same;
  seq = c.renumbered-saved.ensures.seq;
  limit = c.renumbered-saved.ensures.limit;
}
