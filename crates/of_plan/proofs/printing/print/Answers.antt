use Rattle.std.proofs.Common.{◌≡◌, sym, subst, arith}
use Rattle.std.proofs.lemmas.Grind.{common_steps}
use Rattle.of_plan.specs.Grammar.{SpellsPlan}
use Rattle.of_plan.specs.PlanText.{plan_text}
use Rattle.of_plan.proofs.PrintedPlans.{printed_again}
use Rattle.of_plan.proofs.printing.print.Goals as goal

pub returns : goal.returns
returns c =
    let p = c.args.plan.now in
    let text : c.into_bytes.result.items ≡ plan_text p = grind (arith, common_steps) in
    record { text = text; again = subst (λ t. SpellsPlan t p) (sym text) (printed_again p c.in_ok-put_heading.ensures.plan) }
