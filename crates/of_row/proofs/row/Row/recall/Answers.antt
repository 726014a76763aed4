use Rattle.std.proofs.Common.{arith, subst, sym}
use Rattle.of_row.specs.RowLaws.{RowLaws}
use Rattle.of_core.specs.Table.{Setup}
use Rattle.of_core.specs.TableMoment.{TableStart}
use Rattle.of_row.specs.Keys.{FitsWork}
use Rattle.of_row.specs.Rule.{KeepsOwn, KeepsOnce, IsLegalFront}
use Rattle.of_row.specs.Views.{View, KnowsBothJoined}
use Rattle.of_row.proofs.Moves.{looks_for}
use Rattle.of_row.proofs.RowLaws.{at_row}
use Rattle.of_row.proofs.row.Row.recall.Goals as goal

pub load-requires : goal.load-requires
load-requires g c =
    let key = c.args.self.now.table.shared.key in (
      c.requires.row.0,
      omega (arith, c.args.self.now.words_is),
      looks_for (FitsWork g.W.Work.many g.W.Work.size key) _ _ _ _ _
          (λ z. at_row g.W.Work.meaning g.W.Work.lawful g.W.Work.many g.W.Work.size key.callers key.cells key.limit c.limit-limit.result key.work c.work-work.result z (sym c.limit-limit.ensures.is) (sym c.work-work.ensures) RowLaws c.protocol.ensures) _ _ _ _ c.requires.setup c.requires.start c.requires.row.2,
    )

pub returns-clause-own : goal.returns-clause-own
returns-clause-own g c =
    subst (λ (z : Setup × TableStart × View). KeepsOwn z.0 z.1 z.2) (λ i. (c.requires.setup i, c.requires.start i, (sym c.load.ensures.2.0 i).0)) c.load.ensures.2.1

pub returns-clause-once : goal.returns-clause-once
returns-clause-once g c =
    subst (λ (z : Setup × TableStart × View). KeepsOnce z.0 z.1 z.2) (λ i. (c.requires.setup i, c.requires.start i, (sym c.load.ensures.2.0 i).0)) c.load.ensures.2.2

pub returns-clause-met : goal.returns-clause-met
returns-clause-met g c = subst KnowsBothJoined (λ i. (sym c.load.ensures.2.0 i).0) c.load.ensures.2.3

pub returns-clause-legal : goal.returns-clause-legal
returns-clause-legal g c =
    subst (λ (z : Setup × TableStart × View). IsLegalFront z.0 z.1 z.2.seen) (λ i. (c.requires.setup i, c.requires.start i, (sym c.load.ensures.2.0 i).0)) c.load.ensures.2.4
