use Rattle.std.proofs.Common.{◌≡◌, ℕ, List, get_or, ◌++◌, ◌∷◌, [], length, map, sym, ◌∙◌, ap, zero-add, arith}
use Rattle.std.specs.Prelude.{flat_map}
use Rattle.std.specs.List.{range_with_len}
use Rattle.std.proofs.lemmas.List.Elements.{All-same, All-append}
use Rattle.std.proofs.lemmas.List.{map-append, length-map}
use Rattle.std.proofs.lemmas.List.FromFn.{map-range_with_len_more}
use Rattle.of_eval.specs.Record.{line_for}
use Rattle.of_report.specs.Report.{entry_value, HasWholeReply}
use Rattle.of_report.proofs.Gathers.{one_more_caller}
use Rattle.of_report.proofs.make.entries_and_lines.Goals as goal

pub loop-caller-preserved : goal.loop-caller-preserved
loop-caller-preserved c = (
  All-same HasWholeReply _ _ c.in_ok-append.ensures.items (All-append HasWholeReply c.loop-caller.entries.items c.in_ok-own.own.items c.loop-caller.invariant.0 c.in_ok-own.ensures.whole),
  λ s own done are.
      let e = c.args.ended.now in
      let n = c.loop-caller.caller in
      let before = c.loop-caller.invariant.1 s own done are in
      let here : map entry_value c.in_ok-own.own.items ≡ own n = c.in_ok-own.ensures.own c.args.plan.now s (own n) c.requires.found (ap (λ (xs : List ℕ). get_or xs n 0) done ∙ sym c.scripts_done.ensures) (are n (omega arith)) in
      let count : c.len.result ≡ length (own n) = omega (arith, ap length here, length-map c.in_ok-own.own.items entry_value, c.len.ensures, c.in_ok-own.own.ok) in
      let line : c.line.result ≡ line_for e n (length (own n)) = c.line.ensures ∙ ap (line_for e n) count in (
        ap (map entry_value) c.in_ok-append.ensures.items ∙ map-append entry_value c.loop-caller.entries.items c.in_ok-own.own.items ∙ (λ i. before.0 i ++ here i) ∙ sym (one_more_caller own n),
        c.in_ok-push.ensures.items ∙ (λ i. before.1 i ++ line i ∷ []) ∙ sym (map-range_with_len_more (λ d. line_for e d (length (own d))) 0 n n (zero-add n)),
      ),
)

pub returns-clause-callers : goal.returns-clause-callers
returns-clause-callers c s own done are =
    let e = c.args.ended.now in
    let all : c.loop-caller.caller ≡ c.args.plan.now.callers = omega arith in
    (c.loop-caller.invariant.1 s own done are).1 ∙ ap (λ (n : ℕ). map (λ d. line_for e d (length (own d))) (range_with_len 0 n)) all

pub returns-clause-entries : goal.returns-clause-entries
returns-clause-entries c s own done are =
    let all : c.loop-caller.caller ≡ c.args.plan.now.callers = omega arith in
    (c.loop-caller.invariant.1 s own done are).0 ∙ ap (λ (n : ℕ). flat_map own (range_with_len 0 n)) all
