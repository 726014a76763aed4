use Rattle.std.proofs.Common.{refl, sym, subst}
use Rattle.of_c.specs.declared.held.Held.{Held}
use Rattle.of_c.specs.Slots.{HasSaved}
use Rattle.of_c.proofs.images.text_held.Goals as goal

pub returns-in-Ok-clause-text : goal.returns-in-Ok-clause-text
returns-in-Ok-clause-text c = record {
  left = c.in-Saved.kept.saved;
  is = subst (λ (h : Held). HasSaved h c.in-Saved.kept.saved) (sym c.in-Saved.is) refl;
  text = c.in-Ok.text.items;
  printed = c.in-Ok.ensures.printed;
  holds = c.in-Ok.ensures.holds;
  so = refl;
}
