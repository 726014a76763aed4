use Rattle.std.proofs.Common.{◌≡◌, ◌<◌, ◌*◌, ℕ, List, ◌∙◌, arith, ap, sym, subst}
use Rattle.of_cell.specs.Cells.{table_words, data_cell, durable_cells}
use Rattle.of_mem.specs.declared.work.TheConstants.{MOST_INSTRS}
use Rattle.of_core.specs.Table.{ticket_word_at}
use Rattle.of_core.specs.Remains.{remains_of, MayRevive}
use Rattle.of_row.specs.Views.{KnownCaller, last_caller}
use Rattle.of_row.specs.Keys.{FitsWork}
use Rattle.of_row.specs.RowLaws.{RowLaws}
use Rattle.of_row.specs.Rows.{key_of, setup_at, IsCallerOf}
use Rattle.of_row.specs.Passes.{words_of_past}
use Rattle.of_row.specs.Revivals.{TriesRevivalOf}
use Rattle.of_row.specs.Replacing.{TriesRevivalAt}
use Rattle.of_row.proofs.Members.{first_is, sole_all}
use Rattle.of_row.proofs.RowLaws.{at_row}
use Rattle.of_row.proofs.Revivals.{tries_revival_for, tried_seat}
use Rattle.of_row.proofs.row.Row.replace.Goals as goal

pub load-requires : goal.load-requires
load-requires g c =
    let row = c.args.self.now in
    let key = key_of row in
    let kept : List KnownCaller = c.args.seat.now.me.0.kept in
    let x : KnownCaller = last_caller kept in
    let words : row.table.shared.table_id.words ≡ table_words key.callers MOST_INSTRS key.cells = row.words_is ∙ λ i. table_words (sym row.key.0 i) MOST_INSTRS (sym row.key.1 i) in
    let inside : x.machine.caller < key.callers = sole_all (IsCallerOf row) kept c.requires.sole.0 c.requires.row.3 in
    let cell : c.data_cell-cell.result ≡ data_cell key.callers (c.args.number * 18) = c.data_cell-cell.ensures.value ∙ ap (λ (k : ℕ). data_cell k (c.args.number * 18)) c.shape.ensures.callers in
    let low : c.data_cell-cell.result < durable_cells key.callers key.cells = subst (λ (z : ℕ × ℕ). c.data_cell-cell.result < durable_cells z.0 z.1) (λ i. (c.shape.ensures.callers i, c.shape.ensures.cells i)) c.data_cell-cell.ensures.below in (
      c.requires.row.0,
      omega (arith, words, low),
      tries_revival_for g.W.Work.meaning g.W.Work.lawful (FitsWork g.W.Work.many g.W.Work.size key) key _ c.requires.told
          (λ z. at_row g.W.Work.meaning g.W.Work.lawful g.W.Work.many g.W.Work.size key.callers key.cells key.limit c.limit-limit.result key.work c.work-work.result z (sym c.limit-limit.ensures.is) (sym c.work-work.ensures) RowLaws c.protocol.ensures)
          _ _ _ _ (omega (arith, low)) c.requires.row.2 c.requires.known x (first_is kept c.requires.sole.0) inside
          (subst (λ (i : ℕ). MayRevive (remains_of (setup_at g.W.Work.meaning row) (words_of_past g.W.Work.meaning row c.args.seat.now.me.0) i) i) (sym c.requires.sole.1) c.requires.may),
    )

pub returns-clause-tries : goal.returns-clause-tries
returns-clause-tries g c =
    let row = c.args.self.now in
    let cell : c.data_cell-cell.result ≡ ticket_word_at (setup_at g.W.Work.meaning row) c.args.number = c.data_cell-cell.ensures.value ∙ ap (λ (k : ℕ). data_cell k (c.args.number * 18)) c.shape.ensures.callers in
    subst (λ (k : ℕ). TriesRevivalAt g.W.Work.meaning g.W.Work.lawful row k c.args.seat.now.me.0 c.load.result c.load.new.seat.me.0) cell
    (subst (λ o. TriesRevivalOf g.W.Work.meaning g.W.Work.lawful o c.data_cell-cell.result c.args.seat.now.me.0 c.load.result c.load.new.seat.me.0) c.requires.told c.load.ensures.2.1)

pub returns-clause-row : goal.returns-clause-row
returns-clause-row g c =
    let row = c.args.self.now in
    let kept : List KnownCaller = c.args.seat.now.me.0.kept in
    let inside : (last_caller kept).machine.caller < (key_of row).callers = sole_all (IsCallerOf row) kept c.requires.sole.0 c.requires.row.3 in
    let t = returns-clause-tries g c in
    let s = tried_seat _ _ _ _ _ _ _ t (last_caller kept) (first_is kept c.requires.sole.0) (key_of row).callers inside in (
      c.load.ensures.0 ∙ c.requires.row.0,
      c.load.ensures.2.0 ∙ c.requires.row.1,
      s.0 ∙ c.requires.row.2,
      s.1,
    )
