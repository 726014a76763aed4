use Rattle.std.proofs.Common.{ℕ, ◌^◌, ◌<◌, ◌∙◌, ap, subst, arith, get_or, length, Ok}
use Rattle.of_mem.specs.Calls.{HasStore}
use Rattle.of_mem.specs.OnDemand.{RunsOn}
use Rattle.of_mem.specs.Part.{with_known}
use Rattle.of_script.specs.declared.instr.TheConstants.{MOST_INSTRS}
use Rattle.of_eval.specs.Calls.{run_word}
use Rattle.of_eval.specs.Scripts.{is_success}
use Rattle.of_eval.specs.Shapes.{mask_of}
use Rattle.of_eval.specs.ShapeLaws.{mask_width}
use Rattle.of_eval.specs.Stored.{HasState}
use Rattle.of_eval.proofs.Masks.{bit_is, bit_small}
use Rattle.of_eval.proofs.Overlay.{aborted_fails}
use Rattle.of_eval.proofs.Answering.{none_answered, may_word, number_answered, none_answered_at, word_aborted, word_lacked, state_behind, state_store, all_answered, all_succeed}
use Rattle.of_eval.proofs.write.write_words.Goals as goal
use Rattle.of_eval.proofs.write.write_words.Goals.{in-Some, in_default}

pub loop-i-init : goal.loop-i-init
loop-i-init g c = record {
  answered = none_answered c.args.plot.now c.args.op.now (g.C.Cells.run c.args.cells.now) c.requires.may.knows c.requires.words.few;
  state = c.requires.may.always;
}

pub run_word-requires : goal.run_word-requires
run_word-requires g c =
    let h = c.loop-i.invariant in
    may_word c.args.plot.now c.args.op.now c.requires.words.few (g.C.Cells.run c.args.cells.now) (g.C.Cells.run c.loop-i.cells) c.loop-i.i _ _ c.loop-i-test.true h.answered (HasState c.args.plot.now) (HasStore c.args.plot.now) c.requires.may
    (λ more e k. state_store c.args.plot.now (with_known more (g.C.Cells.run c.loop-i.cells).part) (h.state more e k))

pub returns-in-Err-clause-runs : goal.returns-in-Err-clause-runs
returns-in-Err-clause-runs g c =
    let h = c.loop-i.invariant in
    word_lacked c.args.plot.now c.args.op.now c.requires.words.few (g.C.Cells.run c.args.cells.now) (g.C.Cells.run c.loop-i.cells) c.loop-i.i _ _ c.loop-i-test.true h.answered
    (g.C.Cells.run c.run_word.new.cells) c.in-Err.need c.in-Err.ensures

pub returns-in-Ok-Err-clause-runs : goal.returns-in-Ok-Err-clause-runs
returns-in-Ok-Err-clause-runs g c =
    let h = c.loop-i.invariant in
    rw c.abort_in_cells.ensures (word_aborted c.args.plot.now c.args.op.now c.requires.words.few (g.C.Cells.run c.args.cells.now) (g.C.Cells.run c.loop-i.cells) c.loop-i.i _ _ c.loop-i-test.true h.answered
    (g.C.Cells.run c.run_word.new.cells) c.in-Ok-Err.cause (rw c.in-Ok-Err.field-0-is at c.in-Ok-Err.ensures))

pub returns-in-Ok-Err-clause-aborted : goal.returns-in-Ok-Err-clause-aborted
returns-in-Ok-Err-clause-aborted g c = ap is_success c.abort_in_cells.ensures ∙ aborted_fails (length c.args.op.now) c.loop-i.i c.in-Ok-Err.cause

pub overflow_add-out : goal.overflow_add-out
overflow_add-out g c =
    let a = c.loop-i.invariant.answered in
    let below : c.loop-i.i < MOST_INSTRS = omega (arith, c.loop-i-test.true, c.requires.words.few) in
    let marks : mask_of a.answers < 2 ^ MOST_INSTRS = subst (λ (n : ℕ). mask_of a.answers < 2 ^ n) a.width (mask_width a.answers) in
    omega (arith, a.marks, marks, bit_small c.loop-i.i below, c.requires.words.few)

pub loop-i-preserved : goal.loop-i-preserved
loop-i-preserved g c =
    let h = c.loop-i.invariant in
    let r : RunsOn (run_word c.args.plot.now (get_or c.args.op.now c.loop-i.i 0)) (g.C.Cells.run c.loop-i.cells) (g.C.Cells.run c.run_word.new.cells) (Ok (Ok c.in-Ok-Ok.answer)) = rw (← c.in-Ok-Ok.field-0-is) c.in-Ok-Ok.ensures in
    record {
      answered = elim c.match-answer.branch [
        | in-Some w ↦ rw w.out-is (number_answered c.args.plot.now c.args.op.now c.requires.words.few (g.C.Cells.run c.args.cells.now) (g.C.Cells.run c.loop-i.cells) c.loop-i.i _ _ c.loop-i-test.true h.answered
            (g.C.Cells.run c.run_word.new.cells) w.in-Some.value _ (bit_is c.loop-i.i (omega (arith, c.loop-i-test.true, c.requires.words.few))) (rw w.in-Some.is at r))
        | in_default w ↦ rw w.out-is (none_answered_at c.args.plot.now c.args.op.now c.requires.words.few (g.C.Cells.run c.args.cells.now) (g.C.Cells.run c.loop-i.cells) c.loop-i.i _ _ c.loop-i-test.true h.answered
            (g.C.Cells.run c.run_word.new.cells) (rw w.in_default.is at r))
      ];
      state = state_behind c.args.plot.now c.args.op.now c.requires.words.few (g.C.Cells.run c.args.cells.now) (g.C.Cells.run c.loop-i.cells) c.loop-i.i _ _ c.loop-i-test.true h.answered (g.C.Cells.run c.run_word.new.cells) c.in-Ok-Ok.answer h.state r;
    }

pub returns-clause-runs : goal.returns-clause-runs
returns-clause-runs g c =
    let h = c.loop-i.invariant in
    all_answered c.args.plot.now c.args.op.now c.requires.words.few (g.C.Cells.run c.args.cells.now) (g.C.Cells.run c.loop-i.cells) c.loop-i.i _ _ (omega (arith, c.loop-i.auto.i-end, c.loop-i-test.false)) h.answered

pub returns-clause-aborted : goal.returns-clause-aborted
returns-clause-aborted g c =
    let h = c.loop-i.invariant in
    all_succeed c.args.plot.now c.args.op.now c.requires.words.few (g.C.Cells.run c.args.cells.now) (g.C.Cells.run c.loop-i.cells) c.loop-i.i _ _ (omega (arith, c.loop-i.auto.i-end, c.loop-i-test.false)) h.answered
