use Rattle.std.proofs.Common.{◌∙◌, ap, sym, subst}
use Rattle.std.specs.Prelude.{Option, Some}
use Rattle.of_c.specs.declared.held.Held.{Held}
use Rattle.of_c.specs.Words.{HoldsRenumbered}
use Rattle.of_c.proofs.words.of_c_renumber.Goals as goal

pub returns-clause-renumbered : goal.returns-clause-renumbered
returns-clause-renumbered c done =
    subst (λ (h : Option Held). HoldsRenumbered h c.put.new.self.raw.held)
    (ap Some c.deref_mut.ensures.value ∙ sym c.in-Some.ensures.some)
    (subst (λ (h : Option Held). HoldsRenumbered (Some c.deref_mut.result.now) h) (sym c.put.ensures) (c.renumber_held-code.ensures.renumbered done))
