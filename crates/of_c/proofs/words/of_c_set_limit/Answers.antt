use Rattle.std.proofs.Common.{◌∙◌, ap, sym, subst}
use Rattle.std.specs.Prelude.{Option, Some}
use Rattle.of_c.specs.declared.held.Held.{Held}
use Rattle.of_c.specs.Causes.{HoldsSavedWith, RefusesLimit}
use Rattle.of_c.specs.Words.{HoldsLimited}
use Rattle.of_c.proofs.words.of_c_set_limit.Goals as goal

pub returns-clause-limited : goal.returns-clause-limited
returns-clause-limited c done =
    subst (λ (h : Option Held). HoldsLimited c.args.limit h c.put.new.self.raw.held)
    (ap Some c.deref_mut.ensures.value ∙ sym c.in-Some.ensures.some)
    (subst (λ (h : Option Held). HoldsLimited c.args.limit (Some c.deref_mut.result.now) h) (sym c.put.ensures) (c.limit_held-code.ensures.limited done))

pub returns-clause-range : goal.returns-clause-range
returns-clause-range c out =
    subst (λ (h : Option Held). HoldsSavedWith (RefusesLimit c.args.limit) h)
    (ap Some c.deref_mut.ensures.value ∙ sym c.in-Some.ensures.some) (c.limit_held-code.ensures.range out)
