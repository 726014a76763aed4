use Rattle.std.proofs.Common.{◌∙◌, ap, sym, subst}
use Rattle.std.specs.Prelude.{Option, Some}
use Rattle.of_c.specs.declared.held.Held.{Held}
use Rattle.of_c.specs.Lives.{HoldsEnrolled}
use Rattle.of_c.specs.Causes.{HoldsMemoryWith, HasNoNumber}
use Rattle.of_c.proofs.Knowing.{keeps_slot}
use Rattle.of_c.proofs.memories.of_c_enrol.Goals as goal

pub returns-clause-enrolled : goal.returns-clause-enrolled
returns-clause-enrolled c done =
    subst (λ (h : Option Held). HoldsEnrolled c.args.number h c.put.new.self.raw.held c.enrol_held-code.new.caller.raw.held)
    (ap Some c.deref_mut.ensures.value ∙ sym c.in-Some.ensures.some)
    (subst (λ (h : Option Held). HoldsEnrolled c.args.number (Some c.deref_mut.result.now) h c.enrol_held-code.new.caller.raw.held)
    (sym c.put.ensures) (c.enrol_held-code.ensures.enrolled done))

pub returns-then-not-is_empty-clause-kept : goal.returns-then-not-is_empty-clause-kept
returns-then-not-is_empty-clause-kept c out = keeps_slot c.args.pair.now.memory.raw.held

pub returns-in_default-clause-kept : goal.returns-in_default-clause-kept
returns-in_default-clause-kept c out = keeps_slot c.args.pair.now.memory.raw.held

pub returns-clause-range : goal.returns-clause-range
returns-clause-range c out =
    subst (λ (h : Option Held). HoldsMemoryWith (HasNoNumber c.args.number) h)
    (ap Some c.deref_mut.ensures.value ∙ sym c.in-Some.ensures.some) (c.enrol_held-code.ensures.range out)
