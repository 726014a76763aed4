use Rattle.std.proofs.Common.{◌∙◌, ap, refl, subst}
use Rattle.of_c.specs.declared.held.Held.{Held}
use Rattle.of_c.specs.declared.held.Held.TheVariants.{Saved as HeldSaved}
use Rattle.of_c.specs.declared.held.Kept.{Kept}
use Rattle.of_c.specs.Slots.{HasSaved}
use Rattle.of_c.proofs.Same.{same_kept}
use Rattle.of_c.proofs.words.limit_held.Goals as goal

pub returns-in-Ok-clause-limited : goal.returns-in-Ok-clause-limited
returns-in-Ok-clause-limited c done = record {
  left = c.in-Saved.kept.saved;
  was = subst (λ (h : Held). HasSaved h c.in-Saved.kept.saved) c.in-Saved.ensures.value refl;
  next = c.in-Ok.saved;
  is = refl;
  same = c.in-Ok.ensures.same;
  seq = c.in-Ok.ensures.seq;
  limit_is = c.in-Ok.ensures.limit;
}

pub returns-in-Err-clause-range : goal.returns-in-Err-clause-range
returns-in-Err-clause-range c out = record {
  left = c.in-Saved.kept.saved;
  is = subst (λ (h : Held). HasSaved h c.in-Saved.kept.saved) c.in-Saved.ensures.value refl;
  so = c.in-Err.ensures.cause;
}

pub returns-in-Err-clause-same : goal.returns-in-Err-clause-same
returns-in-Err-clause-same c out =
    ap (λ (k : Kept). HeldSaved k) (same_kept _ c.in-Saved.kept c.in-Err.ensures.refused) ∙ c.in-Saved.ensures.value
