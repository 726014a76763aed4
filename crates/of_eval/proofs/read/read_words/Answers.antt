use Rattle.std.proofs.Common.{ℕ, ◌^◌, ◌<◌, refl, subst, arith, get_or, Ok}
use Rattle.of_mem.specs.Calls.{HasStore}
use Rattle.of_mem.specs.OnDemand.{RunsOn}
use Rattle.of_mem.proofs.OnDemand.{always_only_read, only_read_on}
use Rattle.of_script.specs.declared.instr.TheConstants.{MOST_INSTRS}
use Rattle.of_eval.specs.Calls.{run_word}
use Rattle.of_eval.specs.Shapes.{mask_of}
use Rattle.of_eval.specs.ShapeLaws.{mask_width}
use Rattle.of_eval.proofs.Masks.{bit_is, bit_small}
use Rattle.of_eval.proofs.Answering.{word_reads_at, none_answered, may_word, number_answered, none_answered_at, word_aborted, word_lacked, all_answered}
use Rattle.of_eval.proofs.read.read_words.Goals as goal
use Rattle.of_eval.proofs.read.read_words.Goals.{in-Some, in_default}

pub loop-i-init : goal.loop-i-init
loop-i-init g c = record {
  part = refl;
  answered = none_answered c.args.plot.now c.args.op.now (g.C.Cells.run c.args.cells.now) c.requires.may.knows c.requires.words.few;
}

pub read_word-requires-clause-may : goal.read_word-requires-clause-may
read_word-requires-clause-may g c =
    let h = c.loop-i.invariant in
    may_word c.args.plot.now c.args.op.now c.requires.words.few (g.C.Cells.run c.args.cells.now) (g.C.Cells.run c.loop-i.cells) c.loop-i.i _ _ c.loop-i-test.true h.answered (HasStore c.args.plot.now) (HasStore c.args.plot.now) c.requires.may
    (always_only_read (HasStore c.args.plot.now) (g.C.Cells.run c.args.cells.now) (g.C.Cells.run c.loop-i.cells) c.requires.may.always h.part h.answered.came.goes)

pub read_word-requires-clause-reads : goal.read_word-requires-clause-reads
read_word-requires-clause-reads g c = word_reads_at c.args.op.now c.loop-i.i c.requires.reads c.loop-i-test.true

pub returns-in-Err-clause-runs : goal.returns-in-Err-clause-runs
returns-in-Err-clause-runs g c =
    let h = c.loop-i.invariant in
    word_lacked c.args.plot.now c.args.op.now c.requires.words.few (g.C.Cells.run c.args.cells.now) (g.C.Cells.run c.loop-i.cells) c.loop-i.i _ _ c.loop-i-test.true h.answered
    (g.C.Cells.run c.read_word.new.cells) c.in-Err.need c.in-Err.ensures.runs

pub returns-in-Ok-Err-clause-runs : goal.returns-in-Ok-Err-clause-runs
returns-in-Ok-Err-clause-runs g c =
    let h = c.loop-i.invariant in
    rw c.abort_in_cells.ensures (word_aborted c.args.plot.now c.args.op.now c.requires.words.few (g.C.Cells.run c.args.cells.now) (g.C.Cells.run c.loop-i.cells) c.loop-i.i _ _ c.loop-i-test.true h.answered
    (g.C.Cells.run c.read_word.new.cells) c.in-Ok-Err.cause (rw c.in-Ok-Err.field-0-is at c.in-Ok-Err.ensures.runs))

pub overflow_add-out : goal.overflow_add-out
overflow_add-out g c =
    let a = c.loop-i.invariant.answered in
    let below : c.loop-i.i < MOST_INSTRS = omega (arith, c.loop-i-test.true, c.requires.words.few) in
    let marks : mask_of a.answers < 2 ^ MOST_INSTRS = subst (λ (n : ℕ). mask_of a.answers < 2 ^ n) a.width (mask_width a.answers) in
    omega (arith, a.marks, marks, bit_small c.loop-i.i below, c.requires.words.few)

pub loop-i-preserved : goal.loop-i-preserved
loop-i-preserved g c =
    let h = c.loop-i.invariant in
    let r : RunsOn (run_word c.args.plot.now (get_or c.args.op.now c.loop-i.i 0)) (g.C.Cells.run c.loop-i.cells) (g.C.Cells.run c.read_word.new.cells) (Ok (Ok c.in-Ok-Ok.answer)) = rw (← c.in-Ok-Ok.field-0-is) c.in-Ok-Ok.ensures.runs in
    record {
      part = only_read_on (g.C.Cells.run c.args.cells.now).part (g.C.Cells.run c.loop-i.cells).part (g.C.Cells.run c.read_word.new.cells).part h.part c.in-Ok-Ok.ensures.part;
      answered = elim c.match-answer.branch [
        | in-Some w ↦ rw w.out-is (number_answered c.args.plot.now c.args.op.now c.requires.words.few (g.C.Cells.run c.args.cells.now) (g.C.Cells.run c.loop-i.cells) c.loop-i.i _ _ c.loop-i-test.true h.answered
            (g.C.Cells.run c.read_word.new.cells) w.in-Some.value _ (bit_is c.loop-i.i (omega (arith, c.loop-i-test.true, c.requires.words.few))) (rw w.in-Some.is at r))
        | in_default w ↦ rw w.out-is (none_answered_at c.args.plot.now c.args.op.now c.requires.words.few (g.C.Cells.run c.args.cells.now) (g.C.Cells.run c.loop-i.cells) c.loop-i.i _ _ c.loop-i-test.true h.answered
            (g.C.Cells.run c.read_word.new.cells) (rw w.in_default.is at r))
      ];
    }

pub returns-clause-runs : goal.returns-clause-runs
returns-clause-runs g c =
    let h = c.loop-i.invariant in
    all_answered c.args.plot.now c.args.op.now c.requires.words.few (g.C.Cells.run c.args.cells.now) (g.C.Cells.run c.loop-i.cells) c.loop-i.i _ _ (omega (arith, c.loop-i.auto.i-end, c.loop-i-test.false)) h.answered
