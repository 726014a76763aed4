use Rattle.std.proofs.Common.{◌≡◌, ℕ, ◌<◌, ◌≤◌, inl, inr, length, ap, subst, arith}
use Rattle.std.proofs.lemmas.Bool.{cases_lt}
use Rattle.of_plan.specs.Plan.{scripts_of}
use Rattle.of_plan.specs.Report.{finished_of}
use Rattle.of_report.specs.Image.{start_of_image}
use Rattle.of_lives.proofs.ImageStarts.{done_is_ticket}
use Rattle.of_lives.proofs.start.has_scripts.Goals as goal

pub returns-then-ticket-scripts : goal.returns-then-ticket-scripts
returns-then-ticket-scripts c =
    let n = c.loop-caller.caller in
    let lt : n < c.args.plan.now.callers = omega (arith, c.loop-caller-test.true, c.callers-caller-end.ensures.value) in
    (λ is. absurd (cc (is)), λ all. absurd (omega (arith, all n lt, c.if-ticket-scripts.true, c.ticket.ensures, ap length c.scripts.ensures.value, done_is_ticket c.args.image.now n (omega (arith, lt, c.requires.callers)))))

pub loop-caller-preserved : goal.loop-caller-preserved
loop-caller-preserved c k below =
    let n = c.loop-caller.caller in
    let lt : n < c.args.plan.now.callers = omega (arith, c.loop-caller-test.true, c.callers-caller-end.ensures.value) in
    let here : finished_of (start_of_image c.args.image.now) n ≤ length (scripts_of c.args.plan.now n) =
    omega (arith, c.if-ticket-scripts.false, c.ticket.ensures, ap length c.scripts.ensures.value, done_is_ticket c.args.image.now n (omega (arith, lt, c.requires.callers))) in
    elim (cases_lt k n) [
      | inl before ↦ c.loop-caller.invariant k before
      | inr past ↦ let same : n ≡ k = omega (arith, past, below) in subst (λ (x : ℕ). finished_of (start_of_image c.args.image.now) x ≤ length (scripts_of c.args.plan.now x)) same here
    ]
