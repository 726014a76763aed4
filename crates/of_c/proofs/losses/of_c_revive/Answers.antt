use Rattle.std.proofs.Common.{sym, ap, subst, ◌∙◌}
use Rattle.std.specs.Prelude.{Option, Some}
use Rattle.of_c.specs.declared.held.Held.{Held}
use Rattle.of_c.specs.Losses.{IsHeldRevived, IsHeldLost}
use Rattle.of_c.proofs.losses.of_c_revive.Goals as goal

pub returns-clause-revived : goal.returns-clause-revived
returns-clause-revived c done =
    let before = ap Some c.deref_mut.ensures.value ∙ sym c.in-Some.ensures.some in
    subst (IsHeldRevived c.args.caller.now.raw.held) (sym c.put.ensures)
    (subst (λ (x : Option Held). IsHeldRevived x (Some c.revive_held-code.new.held)) before (c.revive_held-code.ensures.revived done))

pub returns-clause-lost : goal.returns-clause-lost
returns-clause-lost c none some =
    let before = ap Some c.deref_mut.ensures.value ∙ sym c.in-Some.ensures.some in
    subst (λ (x : Option Held). IsHeldLost c.args.caller.now.raw.held x c.revive_held-code.result) (sym c.put.ensures)
    (subst (λ (x : Option Held). IsHeldLost x (Some c.revive_held-code.new.held) c.revive_held-code.result) before (c.revive_held-code.ensures.lost none some))
