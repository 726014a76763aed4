use Rattle.std.proofs.Common.{◌∙◌, ap, refl, sym, subst}
use Rattle.std.specs.Prelude.{Option, Some}
use Rattle.of_c.specs.declared.held.Held.{Held}
use Rattle.of_c.specs.declared.held.Held.TheVariants.{Memory as HeldMemory}
use Rattle.of_c.specs.declared.held.Home.{Home}
use Rattle.of_c.specs.Slots.{HoldsSaved}
use Rattle.of_c.proofs.Same.{same_home}
use Rattle.of_c.proofs.memories.close_home.Goals as goal

pub returns-in-Ok-clause-closed : goal.returns-in-Ok-clause-closed
returns-in-Ok-clause-closed c done = record {
  memory = c.args.home.memory;
  was = refl;
  left = c.in-Ok.left;
  is = subst (λ (h : Option Held). HoldsSaved h c.in-Ok.left) (sym c.put.ensures) refl;
  history = c.in-Ok.ensures.history;
  count = c.in-Ok.ensures.callers;
  limit_is = c.in-Ok.ensures.limit;
  here = c.in-Ok.ensures.here;
}

pub returns-in-Err-clause-back : goal.returns-in-Err-clause-back
returns-in-Err-clause-back c out =
    c.put-in-Err.ensures ∙ ap (λ (h : Home). Some (HeldMemory h)) (same_home _ c.args.home c.in-Err.ensures.in_use)
