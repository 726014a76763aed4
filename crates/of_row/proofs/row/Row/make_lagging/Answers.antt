use Rattle.std.proofs.Common.{sym, refl, subst, ◌∙◌, Option}
use Rattle.of_cell.specs.Cells.{table_words}
use Rattle.of_mem.specs.declared.work.TheConstants.{MOST_INSTRS}
use Rattle.of_core.specs.Lagging.{at_place}
use Rattle.of_core.specs.MachineValue.{Machine, machine_setup}
use Rattle.of_core.specs.TableMoment.{TableStart}
use Rattle.of_core.proofs.Lagging.{true_want}
use Rattle.of_row.specs.Keys.{FitsWork}
use Rattle.of_row.specs.RowLaws.{RowLaws}
use Rattle.of_row.specs.Turned.{MakesStepOf}
use Rattle.of_row.proofs.Lagging.{true_runs}
use Rattle.of_row.proofs.RowLaws.{at_row}
use Rattle.of_row.proofs.Turns.{turns_with, word_fits}
use Rattle.of_row.proofs.row.Row.make_lagging.Goals as goal

pub perform_at-requires-clause-takes : goal.perform_at-requires-clause-takes
perform_at-requires-clause-takes g c = λ op is range.
    let row = c.args.self.now in
    let key = row.table.shared.key in
    let m = c.args.machine.now in
    let d = at_place m c.args.place c.args.more in
    let runs = true_runs row m c.args.place c.args.more c.requires.machine in
    let wants = is ∙ true_want (machine_setup g.W.Work.meaning m) m.call c.args.place c.args.more in (
      c.requires.row.0,
      word_fits g.W.Work.meaning key.work key.callers key.cells key.limit d runs _ op refl range _ (row.words_is ∙ λ i. table_words (sym row.key.0 i) MOST_INSTRS (sym row.key.1 i)),
      turns_with g.W.Work.meaning g.W.Work.lawful key.work key.callers key.cells key.limit (FitsWork g.W.Work.many g.W.Work.size key)
          (λ z. at_row g.W.Work.meaning g.W.Work.lawful g.W.Work.many g.W.Work.size key.callers key.cells key.limit c.limit-limit.result key.work c.work-work.result z (sym c.limit-limit.ensures.is) (sym c.work-work.ensures) RowLaws c.protocol.ensures)
          _ d runs _ c.requires.told _ c.requires.start _ _ _ c.requires.member c.requires.row.2 c.requires.open _ op wants refl range,
    )

pub returns-clause-at : goal.returns-clause-at
returns-clause-at g c = (c.perform_at.ensures.made.0, c.perform_at.ensures.made.1 ∙ c.requires.row.1)

pub returns-clause-step : goal.returns-clause-step
returns-clause-step g c =
    subst (λ (z : Option (Machine _) × TableStart). MakesStepOf g.W.Work.meaning g.W.Work.lawful z.1 z.0 c.args.seat.now.me.0 c.perform_at.result c.perform_at.new.hand.me.0) (λ i. (c.requires.told i, c.requires.start i)) c.perform_at.ensures.made.2
