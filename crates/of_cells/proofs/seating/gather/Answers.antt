use Rattle.std.proofs.Common.{◌≢◌, ◌≤◌, ◌+◌, sym, ap, subst, ◌∙◌, arith, length, get_or, None, [], append-nil}
use mathlib.Core.List.{IsPrefix}
use Rattle.std.proofs.lemmas.List.{get_or-set_other, length-set}
use Rattle.of_mem.proofs.Lists.{same_some}
use Rattle.of_row.specs.declared.member.Pass.{Pass}
use Rattle.of_row.specs.Rows.{IsSeatOf}
use Rattle.of_caller.specs.declared.caller.Caller.{Caller}
use Rattle.of_cells.specs.Serving.{KeepsSo, IsKeptOf, KeepsThose, KnowsPasts, events_known_to}
use Rattle.of_cells.proofs.Seats.{kept_more, pasts_more}
use Rattle.of_cells.proofs.seating.gather.Goals as goal
use Rattle.of_cells.proofs.seating.gather.Goals.{in-Some, in_default}

pub gather_one-pass-requires-clause-serves : goal.gather_one-pass-requires-clause-serves
gather_one-pass-requires-clause-serves g c =
    let n = c.loop-number.number in
    let low : n ≤ n = omega arith in
    c.requires.serve n c.in-Some.caller (sym (c.loop-number.invariant.rest n low) ∙ sym c.in-Some.ensures.caller)

pub loop-number-preserved : goal.loop-number-preserved
loop-number-preserved g c =
    let inv = c.loop-number.invariant in
    let i = c.loop-number.number in
    let low : i ≤ i = omega arith in
    let fs = c.args.callers.now.items in
    let now = c.loop-number.callers.items in
    let r = c.args.row.now in
    record {
      pass = elim c.match-take_at.branch [
        | in-Some w ↦ subst (λ (p : Pass). IsSeatOf r p.seat) (sym w.pass-is) w.gather_one-pass.ensures.pass
        | in_default w ↦ subst (λ (p : Pass). IsSeatOf r p.seat) (sym w.pass-is) inv.pass
      ];
      first = elim c.match-take_at.branch [
        | in-Some w ↦ ap (λ (p : Pass). p.seat.me.0.first) w.pass-is ∙ w.gather_one-pass.ensures.first
        | in_default w ↦ ap (λ (p : Pass). p.seat.me.0.first) w.pass-is ∙ inv.first
      ];
      long = ap length c.take_at.ensures.items ∙ length-set now i None ∙ inv.long;
      rest = λ n le. let ne : n ≢ i = omega arith in ap (λ xs. get_or xs n None) c.take_at.ensures.items ∙ get_or-set_other now i n None None ne ∙ inv.rest n (omega (arith, le));
      kept = elim c.match-take_at.branch [
        | in-Some w ↦ subst (λ (p : Pass). KeepsThose fs (i + 1) p.seat.me.0.kept) (sym w.pass-is)
            (kept_more fs i c.loop-number.pass.seat.me.0.kept w.gather_one-pass.result.seat.me.0.kept inv.kept w.gather_one-pass.ensures.others
            (λ k here. subst (λ (x : Caller _). KeepsSo i (IsKeptOf x) w.gather_one-pass.result.seat.me.0.kept)
            (same_some w.in-Some.caller k (get_or fs i None) (sym (inv.rest i low) ∙ sym w.in-Some.ensures.caller) here) w.gather_one-pass.ensures.own))
        | in_default w ↦ subst (λ (p : Pass). KeepsThose fs (i + 1) p.seat.me.0.kept) (sym w.pass-is)
            (kept_more fs i c.loop-number.pass.seat.me.0.kept c.loop-number.pass.seat.me.0.kept inv.kept (λ n k h. h)
            (λ k here. absurd (w.in_default.not-Some k (c.take_at.ensures.caller ∙ inv.rest i low ∙ here))))
      ];
      pasts = elim c.match-take_at.branch [
        | in-Some w ↦ subst (λ (p : Pass). KnowsPasts fs (i + 1) p.seat.me.0.past) (sym w.pass-is)
            (pasts_more fs i c.loop-number.pass.seat.me.0.past w.gather_one-pass.result.seat.me.0.past inv.pasts w.gather_one-pass.ensures.more
            (λ k here. subst (λ (x : Caller _). IsPrefix (events_known_to x) w.gather_one-pass.result.seat.me.0.past)
            (same_some w.in-Some.caller k (get_or fs i None) (sym (inv.rest i low) ∙ sym w.in-Some.ensures.caller) here) w.gather_one-pass.ensures.past))
        | in_default w ↦ subst (λ (p : Pass). KnowsPasts fs (i + 1) p.seat.me.0.past) (sym w.pass-is)
            (pasts_more fs i c.loop-number.pass.seat.me.0.past c.loop-number.pass.seat.me.0.past inv.pasts ([], append-nil c.loop-number.pass.seat.me.0.past)
            (λ k here. absurd (w.in_default.not-Some k (c.take_at.ensures.caller ∙ inv.rest i low ∙ here))))
      ];
    }
