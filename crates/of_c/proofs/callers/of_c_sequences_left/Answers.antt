use Rattle.std.proofs.Common.{◌∙◌, ap, sym, subst}
use Rattle.std.specs.Prelude.{Option, Some}
use Rattle.of_c.specs.declared.held.Held.{Held}
use Rattle.of_c.specs.Calls.{HasSequencesLeft}
use Rattle.of_c.proofs.callers.of_c_sequences_left.Goals as goal

pub returns-clause-read : goal.returns-clause-read
returns-clause-read c done =
    subst (λ (h : Option Held). HasSequencesLeft h c.left_held-code.new.left)
    (ap Some c.deref.ensures ∙ sym c.in-Some.ensures.some) (c.left_held-code.ensures.read done)
