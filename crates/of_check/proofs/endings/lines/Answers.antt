use Rattle.std.proofs.Common.{◌-◌, [], ◌∷◌, ◌++◌, ◌∙◌, get_or, map, sym, zero-add}
use Rattle.std.specs.List.{range_with_len}
use Rattle.std.proofs.lemmas.List.FromFn.{map-range_with_len_more}
use Rattle.of_report.specs.Lines.{end_state_value}
use Rattle.of_check.specs.Endings.{claimed_line_at}
use Rattle.of_check.proofs.endings.lines.Goals as goal

pub loop-caller-preserved : goal.loop-caller-preserved
loop-caller-preserved c =
    let caller = c.loop-caller.caller in
    let end = c.end_at-end in
    let line_is = claimed_line_at c.args.done.now c.args.counts.now c.args.ends.now in
    c.in_ok-push.ensures.items
    ∙ (λ i. c.loop-caller.invariant i ++ record { state = end_state_value end.result.state; answered = end.result.answered; entries = c.saturating_sub-entries.ensures i; longest = c.from.ensures i } ∷ [])
    ∙ (λ i. map line_is (range_with_len 0 caller) ++ record { state = end_state_value (end.ensures i).state; answered = (end.ensures i).answered; entries = get_or c.args.counts.now caller 0 - get_or c.args.done.now caller 0; longest = (end.ensures i).longest } ∷ [])
    ∙ sym (map-range_with_len_more line_is 0 caller caller (zero-add caller))
