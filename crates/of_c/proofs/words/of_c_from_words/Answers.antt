use Rattle.std.proofs.Common.{refl, sym, subst}
use Rattle.std.specs.Prelude.{Option}
use Rattle.of_c.specs.declared.held.Held.{Held}
use Rattle.of_c.specs.Slots.{HoldsSaved}
use Rattle.of_c.proofs.words.of_c_from_words.Goals as goal

pub returns-in-Ok-clause-read : goal.returns-in-Ok-clause-read
returns-in-Ok-clause-read c done = record {
  left = c.in-Ok.left;
  is = subst (λ (h : Option Held). HoldsSaved h c.in-Ok.left) (sym (c.keep.ensures.done done)) refl;
  holds = c.in-Ok.ensures.holds;
  limit_is = c.in-Ok.ensures.limit;
}
