use Rattle.std.proofs.Common.{◌∙◌, ap, sym, subst}
use Rattle.std.specs.Prelude.{Option, Some}
use Rattle.of_c.specs.declared.held.Held.{Held}
use Rattle.of_c.specs.Losses.{TellsBegun}
use Rattle.of_c.proofs.losses.of_c_begun.Goals as goal

pub returns-clause-read : goal.returns-clause-read
returns-clause-read c done =
    subst (λ (h : Option Held). TellsBegun h c.begun_held-code.new.begun)
    (ap Some c.deref.ensures ∙ sym c.in-Some.ensures.some) (c.begun_held-code.ensures.read done)
