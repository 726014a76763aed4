use Rattle.std.proofs.Common.{◌∙◌, ap, sym, subst}
use Rattle.std.specs.Prelude.{Option, Some}
use Rattle.of_c.specs.declared.held.Held.{Held}
use Rattle.of_c.specs.Lives.{HoldsNext}
use Rattle.of_c.proofs.memories.of_c_reopen.Goals as goal

pub returns-clause-reopened : goal.returns-clause-reopened
returns-clause-reopened c done =
    subst (λ (h : Option Held). HoldsNext h c.reopen_held-code.new.memory.raw.held)
    (ap Some c.deref.ensures ∙ sym c.in-Some.ensures.some) (c.reopen_held-code.ensures.reopened done)
