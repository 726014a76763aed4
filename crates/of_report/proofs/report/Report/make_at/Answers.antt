use Rattle.std.proofs.Common.{rules, ℕ, List, get_or, sym, ap, ◌∙◌}
use Rattle.std.specs.Prelude.{slice_index}
use Rattle.std.proofs.lemmas.List.Sorted.{All-permutation}
use Rattle.std.proofs.lemmas.Fn.{always_returns_same}
use Rattle.of_plan.specs.Report.{entries_of}
use Rattle.of_report.specs.Report.{entry_value, report_value, HasWholeReply}
use Rattle.of_report.specs.Order.{sort_key}
use Rattle.of_report.proofs.Records.{whole, lines, in_order, same_report, found_store}
use Rattle.of_report.proofs.report.Report.make_at.Goals as goal

pub store-requires : goal.store-requires
store-requires c = (c.requires.1.store, found_store c.args.plan.now c.requires.0 c.args.ended.now c.in_ok-found.found c.in_ok-found.ensures c.requires.1 c.requires.3.report)

pub entries_and_lines-requires-clause-complete : goal.entries_and_lines-requires-clause-complete
entries_and_lines-requires-clause-complete c = whole c.args.plan.now c.in_ok-found.ensures.plan c.requires.0 c.args.ended.now c.requires.1 c.requires.3 (slice_index c.args.done.now) (λ d. ap (λ (xs : List ℕ). get_or xs d 0) c.requires.2)

pub returns-clause-whole : goal.returns-clause-whole
returns-clause-whole c = All-permutation HasWholeReply c.in_ok-entries.entries.items c.sort_by_key.new.self.items c.in_ok-sort_by_key.ensures.permutation c.in_ok-entries.ensures.whole

pub returns-clause-report : goal.returns-clause-report
returns-clause-report c s r done lawful =
    let p = c.args.plan.now in
    let e = c.args.ended.now in
    let plan = c.in_ok-found.ensures.plan in
    let sorted = c.sort_by_key.new.self.items in
    same_report (report_value (record { entries = c.sort_by_key.new.self; callers = c.in_ok-entries.callers; seq = c.in_ok-found.found.seq; store = c.in_ok-store.store })) r
    (in_order p plan s e r lawful c.in_ok-entries.entries.items sorted (c.in_ok-entries.ensures.entries s (entries_of r) done lawful.report.entries) c.in_ok-sort_by_key.ensures.permutation
    (c.in_ok-sort_by_key.ensures.sorted (λ x. sort_key (entry_value x)) (always_returns_same _ _ _ (λ a r q k. search rules))))
    (c.in_ok-entries.ensures.callers s (entries_of r) done lawful.report.entries ∙ sym (lines p plan s e r lawful))
    (c.in_ok-found.ensures.seq ∙ sym lawful.report.seq)
    (c.in_ok-store.ensures r.store (found_store p s e c.in_ok-found.found c.in_ok-found.ensures r lawful.report))
