use Rattle.std.proofs.Common.{◌≡◌, ℕ, ◌<◌, ◌≤◌, arith, ap, sym, refl, ◌∙◌, ◌+◌, length, get_or, set, length-set, Ok, []}
use Rattle.std.proofs.lemmas.Result.{err_from_is_err_and}
use Rattle.of_mem.specs.Part.{Part}
use Rattle.of_mem.specs.Plots.{base}
use Rattle.of_mem.specs.Programs.{Ends, run_program}
use Rattle.of_mem.specs.Calls.{RunsProgram, HasStore}
use Rattle.of_mem.proofs.OnDemand.{may_rest, rests}
use Rattle.of_script.specs.declared.instr.TheConstants.{MOST_INSTRS}
use Rattle.of_store.proofs.Values.{none_left}
use Rattle.of_eval.specs.ScriptPrograms.{InstrResult}
use Rattle.of_eval.specs.Calls.{run_word}
use Rattle.of_eval.specs.Resuming.{part_with}
use Rattle.of_eval.proofs.Walks.{ran_aborts, ran_lacks, ran_more, ran_ends}
use Rattle.of_eval.specs.Scripts.{is_success}
use Rattle.of_eval.proofs.Overlay.{answered_succeeds, aborted_fails}
use Rattle.of_eval.proofs.Resumed.{goes_more, ran_so, of_store, has_store, holds_so}
use Rattle.of_eval.proofs.walk.run_words.Goals as goal

pub loop-i-init : goal.loop-i-init
loop-i-init c = record {
  of = c.requires.of;
  done = sym c.done-i.ensures.value;
  below = omega (arith, c.done-i.ensures.value, c.requires.goes.left, ap length c.requires.of.words);
  goes = c.requires.goes;
  part = λ i. record c.args.part.now { script = c.requires.written i };
  room = refl;
  out = refl;
}

pub run_word-requires : goal.run_word-requires
run_word-requires c = may_rest (run_word c.args.plot.now (get_or c.args.op.now c.loop-i.i 0)) (HasStore c.args.plot.now) c.loop-i.part (has_store c.args.plot.now c.loop-i.kept (record c.args.part.now { script = [] }) c.loop-i.part c.loop-i.invariant.goes c.requires.stands refl c.loop-i.invariant.part)

pub returns-in_err-cause-clause-runs : goal.returns-in_err-cause-clause-runs
returns-in_err-cause-clause-runs c =
    let p = err_from_is_err_and c.from_residual.result c.from_residual.ensures.1 in
    let r = rests (run_word c.args.plot.now (get_or c.args.op.now c.loop-i.i 0)) c.loop-i.part c.run_word.new.cells _ c.in_err-cause.ensures in
    rw (p.1, p.2) (record {
      walk = ran_so (base c.args.plot.now) c.args.plot.now.blocks c.args.plot.now.few_blocks c.loop-i.kept (record c.args.part.now { script = [] }) c.loop-i.invariant.goes refl c.args.op.now c.loop-i.invariant.of.words c.requires.words.few c.loop-i.i c.loop-i.invariant.done c.loop-i.part c.loop-i.invariant.part
          ∙ ran_lacks (base c.args.plot.now) c.args.plot.now.blocks (length c.args.op.now) c.args.op.now c.loop-i.i c.loop-i-test.true c.loop-i.kept.values c.loop-i.part c.run_word.new.cells _ r.walk;
      known = r.known ∙ ap (λ (x : Part). x.known) c.loop-i.invariant.part;
      batch = r.batch ∙ ap (λ (x : Part). x.batch) c.loop-i.invariant.part;
    })

pub returns-in_err-cause-clause-holds : goal.returns-in_err-cause-clause-holds
returns-in_err-cause-clause-holds c = holds_so c.args.plot.now c.loop-i.kept (record c.args.part.now { script = [] }) c.args.op.now c.loop-i.invariant.of c.requires.instrs c.loop-i.invariant.goes

pub returns-in_err-cause-clause-out : goal.returns-in_err-cause-clause-out
returns-in_err-cause-clause-out c = let p = err_from_is_err_and c.from_residual.result c.from_residual.ensures.1 in rw p.1 c.loop-i.invariant.out

pub returns-in-Err-clause-runs : goal.returns-in-Err-clause-runs
returns-in-Err-clause-runs c =
    let r = rests (run_word c.args.plot.now (get_or c.args.op.now c.loop-i.i 0)) c.loop-i.part c.run_word.new.cells _ c.in_ok-cause.ensures in
    rw c.abort_in_cells.ensures (record {
      walk = ran_so (base c.args.plot.now) c.args.plot.now.blocks c.args.plot.now.few_blocks c.loop-i.kept (record c.args.part.now { script = [] }) c.loop-i.invariant.goes refl c.args.op.now c.loop-i.invariant.of.words c.requires.words.few c.loop-i.i c.loop-i.invariant.done c.loop-i.part c.loop-i.invariant.part
          ∙ ran_aborts (base c.args.plot.now) c.args.plot.now.blocks (length c.args.op.now) c.args.op.now c.loop-i.i c.loop-i-test.true c.loop-i.kept.values c.loop-i.part c.run_word.new.cells c.in-Err.cause
          (omega (arith, c.loop-i.invariant.goes.width, c.requires.words.few, c.loop-i-test.true)) (r.walk ∙ ap (λ (x : InstrResult). Ends x c.run_word.new.cells) c.in-Err.is);
      known = r.known ∙ ap (λ (x : Part). x.known) c.loop-i.invariant.part;
      batch = r.batch ∙ ap (λ (x : Part). x.batch) c.loop-i.invariant.part;
    })

pub returns-in-Err-clause-holds : goal.returns-in-Err-clause-holds
returns-in-Err-clause-holds c = holds_so c.args.plot.now c.loop-i.kept (record c.args.part.now { script = [] }) c.args.op.now c.loop-i.invariant.of c.requires.instrs c.loop-i.invariant.goes

pub loop-i-preserved : goal.loop-i-preserved
loop-i-preserved c =
    let h = c.loop-i.invariant in
    let words : c.loop-i.kept.words ≡ c.args.op.now = h.of.words in
    let done : c.loop-i.kept.done ≡ c.loop-i.i = h.done in
    let here : c.loop-i.part ≡ part_with c.args.part.now.known c.args.part.now.batch c.loop-i.kept.writes = h.part in
    let runs : RunsProgram (run_word c.args.plot.now (get_or c.args.op.now c.loop-i.i 0)) c.loop-i.part c.run_word.new.cells (Ok (Ok c.in-Ok.value)) = rests (run_word c.args.plot.now (get_or c.args.op.now c.loop-i.i 0)) c.loop-i.part c.run_word.new.cells (Ok (Ok c.in-Ok.value)) (rw (← c.in-Ok.is) c.in_ok-cause.ensures) in
    let known : c.run_word.new.cells.known ≡ c.args.part.now.known = runs.known ∙ ap (λ (x : Part). x.known) here in
    let batch : c.run_word.new.cells.batch ≡ c.args.part.now.batch = runs.batch ∙ ap (λ (x : Part). x.batch) here in
    let walk : run_program (run_word c.args.plot.now (get_or c.loop-i.kept.words c.loop-i.kept.done 0)) (part_with c.args.part.now.known c.args.part.now.batch c.loop-i.kept.writes) ≡ Ends (Ok c.in-Ok.value) c.run_word.new.cells = rw (words, done, ← here) runs.walk in
    let more : c.loop-i.i + 1 < length c.args.op.now = omega (arith, h.below, c.if-i-last.false, c.requires.words.some) in
    let less : c.loop-i.kept.done + 1 < length c.loop-i.kept.words = omega (arith, ap length words, done, more) in
    let few : length c.loop-i.kept.words ≤ MOST_INSTRS = omega (arith, ap length words, c.requires.words.few) in
    record {
      of = rw c.advance.ensures (record { callers = h.of.callers; blocks = h.of.blocks; words = words });
      done = rw c.advance.ensures (ap (λ (n : ℕ). n + 1) done);
      below = more;
      goes = rw c.advance.ensures (goes_more (base c.args.plot.now) c.args.plot.now.blocks c.args.plot.now.few_blocks c.loop-i.kept (record c.args.part.now { script = [] }) h.goes c.run_word.new.cells c.in-Ok.value walk batch (of_store c.args.plot.now (record c.args.part.now { script = [] }) c.requires.stands refl) less few);
      part = rw c.advance.ensures (λ i. part_with (known i) (batch i) c.run_word.new.cells.script);
      room = rw c.advance.ensures h.room;
      out = h.out;
    }

pub returns-in-Ok-clause-runs : goal.returns-in-Ok-clause-runs
returns-in-Ok-clause-runs c =
    let h = c.loop-i.invariant in
    let end : length c.args.op.now ≡ c.loop-i.i + 1 = omega (arith, h.below, c.if-i-last.true) in
    let room : c.loop-i.i < length c.loop-i.kept.values = omega (arith, h.goes.width, h.below, c.requires.words.few) in
    let runs : RunsProgram (run_word c.args.plot.now (get_or c.args.op.now c.loop-i.i 0)) c.loop-i.part c.run_word.new.cells (Ok (Ok c.in-Ok.value)) = rests (run_word c.args.plot.now (get_or c.args.op.now c.loop-i.i 0)) c.loop-i.part c.run_word.new.cells (Ok (Ok c.in-Ok.value)) (rw (← c.in-Ok.is) c.in_ok-cause.ensures) in
    rw (c.answers_in_cells.ensures, h.done, ← end) (record {
      walk = ran_so (base c.args.plot.now) c.args.plot.now.blocks c.args.plot.now.few_blocks c.loop-i.kept (record c.args.part.now { script = [] }) h.goes refl c.args.op.now h.of.words c.requires.words.few c.loop-i.i h.done c.loop-i.part h.part
          ∙ ran_more (base c.args.plot.now) c.args.plot.now.blocks (length c.args.op.now) c.args.op.now c.loop-i.i h.below c.loop-i.kept.values c.loop-i.part c.run_word.new.cells c.in-Ok.value room runs.walk
          ∙ ran_ends (base c.args.plot.now) c.args.plot.now.blocks (length c.args.op.now) c.args.op.now (c.loop-i.i + 1) (set c.loop-i.kept.values c.loop-i.i c.in-Ok.value) c.run_word.new.cells
          end (omega (arith, end)) (length-set c.loop-i.kept.values c.loop-i.i c.in-Ok.value ∙ h.goes.width) c.requires.words.few
          (none_left c.loop-i.kept.values c.loop-i.i c.in-Ok.value (λ k l. h.goes.past k (omega (arith, l, h.done))));
      known = runs.known ∙ ap (λ (x : Part). x.known) h.part;
      batch = runs.batch ∙ ap (λ (x : Part). x.batch) h.part;
    })

pub returns-in-Ok-clause-ended : goal.returns-in-Ok-clause-ended
returns-in-Ok-clause-ended c =
    let h = c.loop-i.invariant in
    ap is_success c.answers_in_cells.ensures
    ∙ answered_succeeds (c.loop-i.kept.done + 1) (set c.loop-i.kept.values c.loop-i.kept.done c.in-Ok.value) (omega (arith, h.below, h.done, c.requires.words.few)) (length-set c.loop-i.kept.values c.loop-i.kept.done c.in-Ok.value ∙ h.goes.width)

pub returns-in-Err-clause-ended : goal.returns-in-Err-clause-ended
returns-in-Err-clause-ended c = ap is_success c.abort_in_cells.ensures ∙ aborted_fails (length c.args.op.now) c.loop-i.i c.in-Err.cause

pub returns-in-Ok-clause-holds : goal.returns-in-Ok-clause-holds
returns-in-Ok-clause-holds c = holds_so c.args.plot.now c.loop-i.kept (record c.args.part.now { script = [] }) c.args.op.now c.loop-i.invariant.of c.requires.instrs c.loop-i.invariant.goes
