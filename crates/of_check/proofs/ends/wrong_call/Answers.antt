use Rattle.std.proofs.Common.{◌≡◌, ℕ, Option, None, inl, inr, get_or, map, sym, subst, ◌∙◌, arith}
use Rattle.std.specs.Prelude.{IfSome}
use Rattle.std.proofs.lemmas.Bool.Decides.{eqb_tells}
use Rattle.of_plan.specs.Report.{Entry}
use Rattle.of_report.specs.Report.{entry_value, report_value}
use Rattle.of_check.specs.Ends.{entry_in, last_announced, last_call, ticket_after, CellsHoldReply, HoldsLastCall}
use Rattle.of_check.proofs.Own.{own}
use Rattle.of_check.proofs.ends.wrong_call.Goals as goal

pub returns-then-from-ticket_after : goal.returns-then-from-ticket_after
returns-then-from-ticket_after c s same =
    let caller = c.loop-caller.caller in
    let last : entry_in c.last_announced-last.result ≡ last_call (report_value c.args.report.now) caller = c.last_announced-last.ensures ∙ (λ i. last_announced None (own caller (map entry_value (c.deref.ensures.value i)))) in
    let there : ticket_after (get_or s.finished caller 0) (last_call (report_value c.args.report.now) caller) ≡ c.ticket_after.result = (λ i. ticket_after (get_or (same i) caller 0) (sym last i)) ∙ sym c.ticket_after.ensures in
    record {
      there = omega arith;
      before = c.loop-caller.invariant s same;
      breaks = λ has. absurd (omega (arith, c.if-from-ticket_after.true, c.from.ensures, c.ticket.ensures, has, there));
    }

pub returns-then-not-holds_last : goal.returns-then-not-holds_last
returns-then-not-holds_last c s same =
    let caller = c.loop-caller.caller in
    let last : entry_in c.last_announced-last.result ≡ last_call (report_value c.args.report.now) caller = c.last_announced-last.ensures ∙ (λ i. last_announced None (own caller (map entry_value (c.deref.ensures.value i)))) in
    let there : ticket_after (get_or s.finished caller 0) (last_call (report_value c.args.report.now) caller) ≡ c.ticket_after.result = (λ i. ticket_after (get_or (same i) caller 0) (sym last i)) ∙ sym c.ticket_after.ensures in
    record {
      there = omega arith;
      before = c.loop-caller.invariant s same;
      breaks = (
        omega (arith, c.if-from-ticket_after.false, c.from.ensures, c.ticket.ensures, there),
        λ has. absurd (let so = c.holds_last.ensures.1 (subst (λ (o : Option Entry). IfSome o (λ e. CellsHoldReply c.args.image.now caller e.reply)) (sym last) has) in cc (so, c.if-not-holds_last.true)),
      );
    }

pub loop-caller-preserved : goal.loop-caller-preserved
loop-caller-preserved c s same k lt =
    let caller = c.loop-caller.caller in
    let last : entry_in c.last_announced-last.result ≡ last_call (report_value c.args.report.now) caller = c.last_announced-last.ensures ∙ (λ i. last_announced None (own caller (map entry_value (c.deref.ensures.value i)))) in
    let there : ticket_after (get_or s.finished caller 0) (last_call (report_value c.args.report.now) caller) ≡ c.ticket_after.result = (λ i. ticket_after (get_or (same i) caller 0) (sym last i)) ∙ sym c.ticket_after.ensures in
    let here : HoldsLastCall s (report_value c.args.report.now) c.args.image.now caller = record {
      ticket = omega (arith, c.if-from-ticket_after.false, c.from.ensures, c.ticket.ensures, there);
      reply = subst (λ (o : Option Entry). IfSome o (λ e. CellsHoldReply c.args.image.now caller e.reply)) last (c.holds_last.ensures.0 c.if-not-holds_last.false);
    } in
    elim (eqb_tells k caller) [
      | inl is ↦ subst (λ (n : ℕ). HoldsLastCall s (report_value c.args.report.now) c.args.image.now n) (sym is.1) here
      | inr other ↦ c.loop-caller.invariant s same k (omega (arith, lt, other.1))
    ]

pub returns : goal.returns
returns c s same k lt = c.loop-caller.invariant s same k (omega (arith, lt, c.loop-caller-test.false, c.callers-caller-end.ensures.value))
