use Rattle.std.proofs.Common.{refl, sym, subst}
use Rattle.of_c.specs.declared.held.Held.{Held}
use Rattle.of_c.specs.Slots.{HasSaved}
use Rattle.of_c.proofs.words.seq_held.Goals as goal

pub returns-in-Saved-clause-read : goal.returns-in-Saved-clause-read
returns-in-Saved-clause-read c done = record {
  left = c.in-Saved.kept.saved;
  is = subst (λ (h : Held). HasSaved h c.in-Saved.kept.saved) (sym c.in-Saved.is) refl;
  so = c.seq.ensures;
}
