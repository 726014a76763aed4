use Rattle.std.proofs.Common.{◌≡◌, ◌<◌, ◌+◌, ◌*◌, ℕ, set, ◌∙◌, arith, ap, sym, subst, length-set}
use Rattle.of_cell.specs.Cells.{data_cell}
use Rattle.of_cell.proofs.Places.{row_within}
use Rattle.of_core.specs.Table.{data_at, reply_cell}
use Rattle.of_row.specs.Looking.{AreFirstNumbers}
use Rattle.of_row.specs.RowLaws.{RowLaws}
use Rattle.of_row.specs.Rows.{key_of, setup_at, row_start}
use Rattle.of_row.specs.Passes.{words_of_past}
use Rattle.of_row.proofs.RowLaws.{at_row}
use Rattle.of_row.proofs.Replacing.{learn_first, learn_more}
use Rattle.of_row.proofs.Looks.{word_of, numbers_more}
use Rattle.of_row.proofs.row.Row.load_values.Goals as goal

pub loop-place-preserved : goal.loop-place-preserved
loop-place-preserved g c =
    let row = c.args.self.now in
    let key = key_of row in
    let S = setup_at g.W.Work.meaning row in
    let L = g.W.Work.lawful key.work in
    let B = row_start g.W.Work.meaning row in
    let laws : RowLaws S L = at_row g.W.Work.meaning g.W.Work.lawful g.W.Work.many g.W.Work.size key.callers key.cells key.limit c.limit-limit.result key.work c.work-work.result c.shape-shape.ensures.work (sym c.limit-limit.ensures.is) (sym c.work-work.ensures) RowLaws c.protocol.ensures in
    let inv = c.loop-place.invariant in
    let v = c.args.seat.now.me.0 in
    let w = c.loop-place.seat.me.0 in
    let u = c.look_up-word.new.seat.me.0 in
    let n : ℕ = c.loop-place.place in
    let i : ℕ = c.args.number in
    let more = learn_first S L B c.data_cell.result c.look_up-word.result w u c.look_up-word.ensures.learns in
    let inside : reply_cell S i n < S.cells = omega (arith, row.own, row.key.0, row.key.1, row_within i key.callers 18 c.requires.number, ap (λ (k : ℕ). k * 18) row.key.0, c.loop-place-test.true) in
    let at : c.data_cell.result ≡ data_at S (reply_cell S i n) = c.data_cell.ensures.value ∙ ap (λ (k : ℕ). data_cell k (reply_cell S i n)) c.shape-shape.ensures.callers in
    record {
      row = c.look_up-word.ensures.row;
      learnt = learn_more S L B v w u inv.learnt more;
      long = length-set c.loop-place.values n c.payload_of.result ∙ inv.long;
      each = λ rest. subst (λ (k : ℕ). AreFirstNumbers S (words_of_past g.W.Work.meaning row u) i (n + 1) (set c.loop-place.values n k)) (sym c.payload_of.ensures)
          (numbers_more S L B laws i v w u n c.look_up-word.result c.loop-place.values inv.learnt more (omega (arith, inv.long, c.loop-place-test.true)) inside inv.each
          (word_of S L B laws _ _ _ _ _ c.look_up-word.ensures.learns at) rest);
    }
