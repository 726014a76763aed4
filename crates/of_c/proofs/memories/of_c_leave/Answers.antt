use Rattle.std.proofs.Common.{◌∙◌, ap, sym, subst}
use Rattle.std.specs.Prelude.{Option, Some}
use Rattle.of_c.specs.declared.held.Held.{Held}
use Rattle.of_c.specs.Slots.{HoldsMemory, HoldsHandle}
use Rattle.of_c.specs.Lives.{HoldsLeft}
use Rattle.of_c.proofs.memories.of_c_leave.Goals as goal

pub leave_held-code-requires-clause-of_one : goal.leave_held-code-requires-clause-of_one
leave_held-code-requires-clause-of_one c m k is_m is_k =
    c.surely.ensures m k
    (subst (λ (h : Option Held). HoldsMemory h m) (ap Some c.deref_mut.ensures.value ∙ sym c.in-Some.ensures.some) is_m)
    (subst (λ (h : Option Held). HoldsHandle h k) (sym c.in-Some-take.ensures.some) is_k)

pub returns-clause-left : goal.returns-clause-left
returns-clause-left c done =
    subst (λ (h : Option Held). HoldsLeft h c.args.pair.now.caller.raw.held c.put-2.new.self.raw.held)
    (ap Some c.deref_mut.ensures.value ∙ sym c.in-Some.ensures.some)
    (subst (λ (h : Option Held). HoldsLeft (Some c.deref_mut.result.now) h c.put-2.new.self.raw.held)
    (sym c.in-Some-take.ensures.some)
    (subst (λ (h : Option Held). HoldsLeft (Some c.deref_mut.result.now) (Some c.in-Some-take.seat.value) h)
    (sym c.put-2.ensures) (c.leave_held-code.ensures.left done)))
