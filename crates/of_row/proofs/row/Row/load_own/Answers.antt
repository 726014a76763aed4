use Rattle.std.proofs.Common.{◌≡◌, ◌<◌, ◌*◌, ℕ, ◌∙◌, arith, ap, sym, subst}
use Rattle.of_cell.specs.Cells.{data_cell}
use Rattle.of_cell.proofs.Places.{row_within}
use Rattle.of_core.specs.Table.{data_at, ticket_cell, shape_cell}
use Rattle.of_row.specs.Looking.{AreOwnCells}
use Rattle.of_row.specs.RowLaws.{RowLaws}
use Rattle.of_row.specs.Rows.{key_of, setup_at, row_start}
use Rattle.of_row.specs.Passes.{words_of_past}
use Rattle.of_row.proofs.RowLaws.{at_row}
use Rattle.of_row.proofs.Replacing.{learn_first, learn_more}
use Rattle.of_row.proofs.Looks.{word_of, own_found}
use Rattle.of_row.proofs.row.Row.load_own.Goals as goal

pub returns-clause-learnt : goal.returns-clause-learnt
returns-clause-learnt g c =
    let row = c.args.self.now in
    let key = key_of row in
    let S = setup_at g.W.Work.meaning row in
    let L = g.W.Work.lawful key.work in
    let B = row_start g.W.Work.meaning row in
    let v = c.args.seat.now.me.0 in
    let a = c.look_up-ticket.new.seat.me.0 in
    let b = c.look_up-kind.new.seat.me.0 in
    let w = c.load_values-values.new.seat.me.0 in
    learn_more S L B v a w (learn_first S L B _ _ v a c.look_up-ticket.ensures.learns) (learn_more S L B a b w (learn_first S L B _ _ a b c.look_up-kind.ensures.learns) c.load_values-values.ensures.learnt)

pub returns-clause-found : goal.returns-clause-found
returns-clause-found g c rest =
    let row = c.args.self.now in
    let key = key_of row in
    let S = setup_at g.W.Work.meaning row in
    let L = g.W.Work.lawful key.work in
    let B = row_start g.W.Work.meaning row in
    let laws : RowLaws S L = at_row g.W.Work.meaning g.W.Work.lawful g.W.Work.many g.W.Work.size key.callers key.cells key.limit c.limit-limit.result key.work c.work-work.result c.shape-shape.ensures.work (sym c.limit-limit.ensures.is) (sym c.work-work.ensures) RowLaws c.protocol.ensures in
    let v = c.args.seat.now.me.0 in
    let a = c.look_up-ticket.new.seat.me.0 in
    let b = c.look_up-kind.new.seat.me.0 in
    let w = c.load_values-values.new.seat.me.0 in
    let i : ℕ = c.args.number in
    let inside : shape_cell S i < S.cells = omega (arith, row.own, row.key.0, row.key.1, row_within i key.callers 18 c.requires.number, ap (λ (k : ℕ). k * 18) row.key.0) in
    let at_ticket : c.data_cell.result ≡ data_at S (ticket_cell S i) = c.data_cell.ensures.value ∙ ap (λ (k : ℕ). data_cell k (ticket_cell S i)) c.shape-shape.ensures.callers in
    let at_shape : c.data_cell-2.result ≡ data_at S (shape_cell S i) = c.data_cell-2.ensures.value ∙ ap (λ (k : ℕ). data_cell k (shape_cell S i)) c.shape-shape.ensures.callers in
    subst (λ (z : ℕ × ℕ). AreOwnCells S (words_of_past g.W.Work.meaning row w) i z.0 (record { shape = z.1; values = c.load_values-values.result })) (λ k. (sym c.payload_of.ensures k, sym c.payload_of-2.ensures k))
    (own_found S L B laws i v a b w c.look_up-ticket.result c.look_up-kind.result c.load_values-values.result
    (learn_first S L B _ _ v a c.look_up-ticket.ensures.learns) (learn_first S L B _ _ a b c.look_up-kind.ensures.learns) c.load_values-values.ensures.learnt inside
    (word_of S L B laws _ _ _ _ _ c.look_up-ticket.ensures.learns at_ticket)
    (word_of S L B laws _ _ _ _ _ c.look_up-kind.ensures.learns at_shape)
    c.load_values-values.ensures.long c.load_values-values.ensures.found rest)
