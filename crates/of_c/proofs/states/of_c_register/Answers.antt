use Rattle.std.proofs.Common.{◌≡◌, ◌∙◌, ap, sym, subst}
use Rattle.std.specs.Prelude.{Option, Some}
use Rattle.of_store.specs.Store.{register}
use Rattle.of_c.specs.declared.held.Held.{Held}
use Rattle.of_c.specs.States.{HoldsStore}
use Rattle.of_c.proofs.states.of_c_register.Goals as goal

pub returns-clause-read : goal.returns-clause-read
returns-clause-read c done =
    subst (λ (h : Option Held). HoldsStore h (λ s. c.register_held-code.new.value ≡ register s c.args.register))
    (ap Some c.deref.ensures ∙ sym c.in-Some.ensures.some) (c.register_held-code.ensures.read done)
