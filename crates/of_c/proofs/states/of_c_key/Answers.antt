use Rattle.std.proofs.Common.{◌≡◌, ◌∙◌, ap, sym, subst}
use Rattle.std.specs.Prelude.{Option, Some, None}
use Rattle.std.specs.FinMap as fm
use Rattle.of_c.specs.declared.held.Held.{Held}
use Rattle.of_c.specs.States.{HoldsStore}
use Rattle.of_c.proofs.states.of_c_key.Goals as goal

pub returns-clause-read : goal.returns-clause-read
returns-clause-read c done =
    subst (λ (h : Option Held). HoldsStore h (λ s. fm.get s.keys c.args.key ≡ Some c.key_held-code.new.value))
    (ap Some c.deref.ensures ∙ sym c.in-Some.ensures.some) (c.key_held-code.ensures.read done)

pub returns-clause-absent : goal.returns-clause-absent
returns-clause-absent c done =
    subst (λ (h : Option Held). HoldsStore h (λ s. fm.get s.keys c.args.key ≡ None))
    (ap Some c.deref.ensures ∙ sym c.in-Some.ensures.some) (c.key_held-code.ensures.absent done)
