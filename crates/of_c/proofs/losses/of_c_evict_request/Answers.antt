use Rattle.std.proofs.Common.{◌∙◌, ap, refl, sym, subst}
use Rattle.std.specs.Prelude.{Option, Some}
use Rattle.of_c.specs.declared.held.Held.{Held}
use Rattle.of_c.specs.Causes.{KeepsSlot}
use Rattle.of_c.specs.Losses.{IsHeldEvicted}
use Rattle.of_c.proofs.losses.of_c_evict_request.Goals as goal

pub returns-clause-kept : goal.returns-clause-kept
returns-clause-kept c =
    subst (λ (h : Option Held). KeepsSlot h c.put.new.self.raw.held)
    (ap Some c.deref_mut.ensures.value ∙ sym c.in-Some.ensures.some)
    (subst (KeepsSlot (Some c.deref_mut.result.now)) (sym c.put.ensures) c.evict_held-code.ensures.kept)

pub returns-in_default-clause-kept : goal.returns-in_default-clause-kept
returns-in_default-clause-kept c = subst (λ (h : Option Held). KeepsSlot h c.take.new.self.raw.held) (sym (c.in_default.ensures.none refl)) c.take.ensures.gone

pub returns-clause-evicted : goal.returns-clause-evicted
returns-clause-evicted c done =
    subst (λ (h : Option Held). IsHeldEvicted c.args.number h c.put.new.self.raw.held)
    (ap Some c.deref_mut.ensures.value ∙ sym c.in-Some.ensures.some)
    (subst (IsHeldEvicted c.args.number (Some c.deref_mut.result.now)) (sym c.put.ensures) (c.evict_held-code.ensures.evicted done))
