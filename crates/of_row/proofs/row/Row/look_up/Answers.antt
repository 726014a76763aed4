use Rattle.std.proofs.Common.{◌≡◌, ◌∙◌, arith, ap, sym, subst}
use Rattle.std.specs.List.{AllByRecursion as Each}
use Rattle.of_cell.specs.Cells.{table_words}
use Rattle.of_mem.specs.declared.work.TheConstants.{MOST_INSTRS}
use Rattle.of_row.specs.Views.{View}
use Rattle.of_row.specs.Keys.{FitsWork}
use Rattle.of_row.specs.Rows.{key_of, IsCallerOf}
use Rattle.of_row.specs.Revivals.{LearnsWordOf}
use Rattle.of_row.specs.Replacing.{LearnsWordAt}
use Rattle.of_row.proofs.Revivals.{learns_word_for}
use Rattle.of_row.proofs.row.Row.look_up.Goals as goal

pub load-requires : goal.load-requires
load-requires g c =
    let row = c.args.self.now in
    let key = key_of row in
    let words : row.table.shared.table_id.words ≡ table_words key.callers MOST_INSTRS key.cells = row.words_is ∙ λ i. table_words (sym row.key.0 i) MOST_INSTRS (sym row.key.1 i) in (
      c.requires.row.0,
      omega (arith, words, c.requires.word),
      learns_word_for g.W.Work.meaning g.W.Work.lawful (FitsWork g.W.Work.many g.W.Work.size key) key _ c.requires.told _ _ _ _ c.requires.word c.requires.row.2,
    )

pub returns-clause-learns : goal.returns-clause-learns
returns-clause-learns g c =
    subst (λ o. LearnsWordOf g.W.Work.meaning g.W.Work.lawful o c.args.word c.args.seat.now.me.0 c.load.result c.load.new.seat.me.0) c.requires.told c.load.ensures.2.1

pub returns-clause-row : goal.returns-clause-row
returns-clause-row g c =
    let learnt : LearnsWordAt g.W.Work.meaning g.W.Work.lawful c.args.self.now c.args.word c.args.seat.now.me.0 c.load.result c.load.new.seat.me.0 = returns-clause-learns g c in
    let is = learnt.is in (
      c.load.ensures.0 ∙ c.requires.row.0,
      c.load.ensures.2.0 ∙ c.requires.row.1,
      ap (λ (v : View). v.spent) is ∙ c.requires.row.2,
      subst (λ (v : View). Each (IsCallerOf c.args.self.now) v.kept) (sym is) c.requires.row.3,
    )
