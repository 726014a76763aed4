use Rattle.std.proofs.Common.{◌≡◌, ◌+◌, ◌∙◌, ℕ, arith, ap, sym, subst, get_or}
use Rattle.of_cell.specs.Cells.{table_words, durable_place}
use Rattle.of_mem.specs.declared.work.TheConstants.{MOST_INSTRS}
use Rattle.of_row.specs.Keys.{FitsWork}
use Rattle.of_row.specs.Rows.{key_of}
use Rattle.of_row.specs.Passes.{words_of_past}
use Rattle.of_row.specs.Gathered.{IsWordOfPastOf}
use Rattle.of_row.proofs.Gathered.{finds_for}
use Rattle.of_row.proofs.row.Row.load_cell.Goals as goal

pub load-requires : goal.load-requires
load-requires g c =
    let row = c.args.self.now in
    let key = key_of row in
    let words : row.table.shared.table_id.words ≡ table_words key.callers MOST_INSTRS key.cells = row.words_is ∙ λ i. table_words (sym row.key.0 i) MOST_INSTRS (sym row.key.1 i) in
    let word : c.args.first + c.args.cell ≡ durable_place key.callers key.cells c.args.cell = ap (λ (k : ℕ). k + c.args.cell) c.requires.first in (
      c.requires.row.0,
      omega (arith, words, word, c.requires.cell),
      finds_for g.W.Work.meaning g.W.Work.lawful (FitsWork g.W.Work.many g.W.Work.size key) key _ c.requires.told _ _ _ _ (omega (arith, word, c.requires.cell)) c.requires.row.2 c.requires.gathered c.requires.known,
    )

pub returns-clause-at : goal.returns-clause-at
returns-clause-at g c = (c.load.ensures.0, c.load.ensures.2.0)

pub returns-clause-word : goal.returns-clause-word
returns-clause-word g c =
    let key = key_of c.args.self.now in
    let word : c.args.first + c.args.cell ≡ durable_place key.callers key.cells c.args.cell = ap (λ (k : ℕ). k + c.args.cell) c.requires.first in
    subst (λ o. IsWordOfPastOf g.W.Work.meaning o c.args.seat.now.me.0 (c.args.first + c.args.cell) c.load.result) c.requires.told c.load.ensures.2.1
    ∙ ap (λ (k : ℕ). get_or (words_of_past g.W.Work.meaning c.args.self.now c.args.seat.now.me.0) k 0) word
