use Rattle.std.proofs.Common.{◌≡◌, ◌<◌, ℕ, List, ◌∙◌, arith, ap, sym, subst, get_or, length-set}
use Rattle.of_cell.specs.Cells.{script_place}
use Rattle.of_mem.specs.declared.work.TheConstants.{MOST_INSTRS}
use Rattle.of_core.specs.Table.{script_word, script_word_at}
use Rattle.of_row.specs.Views.{KnownCaller, last_caller}
use Rattle.of_row.specs.RowLaws.{RowLaws}
use Rattle.of_row.specs.Rows.{key_of, setup_at, row_start, IsCallerOf}
use Rattle.of_row.specs.Passes.{words_of_past}
use Rattle.of_row.proofs.Members.{first_is, sole_all}
use Rattle.of_row.proofs.RowLaws.{at_row}
use Rattle.of_row.proofs.Replacing.{script_all, script_more, learn_first, learn_more, learnt_kept, leaves_learnt}
use Rattle.of_row.proofs.row.Row.load_script.Goals as goal

pub loop-place-preserved : goal.loop-place-preserved
loop-place-preserved g c =
    let row = c.args.self.now in
    let key = key_of row in
    let S = setup_at g.W.Work.meaning row in
    let L = g.W.Work.lawful key.work in
    let B = row_start g.W.Work.meaning row in
    let inv = c.loop-place.invariant in
    let kept : List KnownCaller = c.args.seat.now.me.0.kept in
    let x : KnownCaller = last_caller kept in
    let inside : x.machine.caller < key.callers = sole_all (IsCallerOf row) kept c.requires.sole.0 c.requires.row.3 in
    let laws : RowLaws S L = at_row g.W.Work.meaning g.W.Work.lawful g.W.Work.many g.W.Work.size key.callers key.cells key.limit c.limit-limit.result key.work c.work-work.result c.shape-shape.ensures.work (sym c.limit-limit.ensures.is) (sym c.work-work.ensures) RowLaws c.protocol.ensures in
    let more = learn_first S L B c.script_word-word.result c.look_up.result c.loop-place.seat.me.0 c.look_up.new.seat.me.0 c.look_up.ensures.learns in
    let left = leaves_learnt S L B laws c.loop-place.seat.me.0 c.look_up.new.seat.me.0 x inside (learnt_kept S L B c.args.seat.now.me.0 c.loop-place.seat.me.0 inv.learnt ∙ first_is kept c.requires.sole.0) inv.learnt.own more in
    let at : c.script_word-word.result ≡ script_word_at S c.args.number c.loop-place.place = c.script_word-word.ensures.value ∙ λ i. script_place (c.shape-shape.ensures.callers i) (c.shape-shape.ensures.instrs i) (c.shape-shape.ensures.cells i) c.args.number c.loop-place.place in
    record {
      row = c.look_up.ensures.row;
      learnt = learn_more S L B c.args.seat.now.me.0 c.loop-place.seat.me.0 c.look_up.new.seat.me.0 inv.learnt more;
      long = length-set c.loop-place.script c.loop-place.place c.look_up.result ∙ inv.long;
      each = script_more S (words_of_past g.W.Work.meaning row c.loop-place.seat.me.0) (words_of_past g.W.Work.meaning row c.look_up.new.seat.me.0) c.args.number c.loop-place.place c.look_up.result c.loop-place.script (omega (arith, inv.long, c.loop-place-test.true)) inv.each
          (λ y l. subst (λ (i : ℕ). script_word S (words_of_past g.W.Work.meaning row c.look_up.new.seat.me.0) i y ≡ script_word S (words_of_past g.W.Work.meaning row c.loop-place.seat.me.0) i y) c.requires.sole.1 (left.own.said y (omega (arith, l, c.loop-place-test.true))))
          (c.look_up.ensures.learns.word ∙ ap (λ (k : ℕ). get_or (words_of_past g.W.Work.meaning row c.look_up.new.seat.me.0) k 0) at);
    }

pub returns-clause-script : goal.returns-clause-script
returns-clause-script g c =
    let row = c.args.self.now in
    let inv = c.loop-place.invariant in
    script_all (setup_at g.W.Work.meaning row) (words_of_past g.W.Work.meaning row c.loop-place.seat.me.0) c.args.number MOST_INSTRS c.loop-place.script inv.long (λ y l. inv.each y (omega (arith, l, c.loop-place-test.false)))
