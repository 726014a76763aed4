use Rattle.std.proofs.Common.{false, List, take, sym, subst}
use Rattle.std.proofs.lemmas.List.{take_more}
use Rattle.of_check.specs.declared.claims.CallClaim.{CallClaim}
use Rattle.of_check.specs.Starts.{start_of}
use Rattle.of_check.specs.Replay.{HasRunCalls}
use Rattle.of_check.specs.Causes.{call_at}
use Rattle.of_check.proofs.Causes.{took_more}
use Rattle.of_check.proofs.Verdicts.{counts_wide}
use Rattle.of_check.proofs.judging.replayed.Goals as goal

pub broken_entry-requires : goal.broken_entry-requires
broken_entry-requires c = counts_wide c.args.plan.now (start_of c.args.start) c.requires (take c.loop-count.count c.args.calls.now) c.loop-count.replay c.loop-count.invariant

pub run_call-requires-clause-counts : goal.run_call-requires-clause-counts
run_call-requires-clause-counts c = counts_wide c.args.plan.now (start_of c.args.start) c.requires (take c.loop-count.count c.args.calls.now) c.loop-count.replay c.loop-count.invariant

pub loop-count-preserved : goal.loop-count-preserved
loop-count-preserved c =
    let p = c.args.plan.now in
    let s = start_of c.args.start in
    let calls = c.args.calls.now in
    let i = c.loop-count.count in
    let more = take_more calls i (record { seq = 0; caller = 0; index = 0; announced = false }) c.loop-count-test.true in
    subst (λ (qs : List CallClaim). HasRunCalls p s qs c.run_call.new.self) (sym more)
    (took_more p s (take i calls) (call_at calls i) c.loop-count.replay c.run_call.new.self c.loop-count.invariant c.in_ok-run_call.ensures)
