use Rattle.std.proofs.Common.{◌∙◌, ap, arith, refl, sym, subst}
use Rattle.std.specs.Prelude.{Option}
use Rattle.of_c.specs.declared.held.Held.{Held}
use Rattle.of_c.specs.Images.{fault_code}
use Rattle.of_c.specs.Slots.{HoldsSaved}
use Rattle.of_c.proofs.images.of_c_from_image.Goals as goal

pub returns-in-Ok-clause-read : goal.returns-in-Ok-clause-read
returns-in-Ok-clause-read c done = record {
  left = c.in-Ok.left;
  is = subst (λ (h : Option Held). HoldsSaved h c.in-Ok.left) (sym (c.keep.ensures.done done)) refl;
  holds = c.in-Ok.ensures.holds;
  limit = c.in-Ok.ensures.limit;
  back = c.in-Ok.ensures.back;
}

pub returns-in-Ok-clause-cause : goal.returns-in-Ok-clause-cause
returns-in-Ok-clause-cause c is d saved holds =
    omega (arith, is, c.keep.ensures.code (λ done. omega (arith, is, done)))

pub returns-in-Err-clause-cause : goal.returns-in-Err-clause-cause
returns-in-Err-clause-cause c is d saved holds =
    omega (arith, is, c.code_of_fault.ensures ∙ ap fault_code (c.in-Err.ensures.back d saved holds))
