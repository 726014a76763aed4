use Rattle.std.proofs.Common.{◌∙◌, arith, ap, sym, subst}
use Rattle.std.specs.List.{AllByRecursion as Each}
use Rattle.of_row.specs.Views.{View}
use Rattle.of_row.specs.Keys.{FitsWork}
use Rattle.of_row.specs.Rows.{key_of, IsCallerOf}
use Rattle.of_row.specs.Gathered.{LearnsAllOf}
use Rattle.of_row.specs.Passes.{LearnsAllAt}
use Rattle.of_row.proofs.Gathered.{learns_for}
use Rattle.of_row.proofs.row.Row.learn_all.Goals as goal

pub load-requires : goal.load-requires
load-requires g c =
    let key = key_of c.args.self.now in (
      c.requires.row.0,
      omega (arith, c.args.self.now.words_is),
      learns_for g.W.Work.meaning g.W.Work.lawful (FitsWork g.W.Work.many g.W.Work.size key) key _ c.requires.told _ _ _ _ c.requires.row.2 c.requires.gathered,
    )

pub returns-clause-learns : goal.returns-clause-learns
returns-clause-learns g c =
    subst (λ o. LearnsAllOf g.W.Work.meaning g.W.Work.lawful o c.args.seat.now.me.0 c.load.new.seat.me.0) c.requires.told c.load.ensures.2.1

pub returns-clause-row : goal.returns-clause-row
returns-clause-row g c =
    let learnt : LearnsAllAt g.W.Work.meaning g.W.Work.lawful c.args.self.now c.args.seat.now.me.0 c.load.new.seat.me.0 = returns-clause-learns g c in
    let is = learnt.learnt.1 in (
      c.load.ensures.0 ∙ c.requires.row.0,
      c.load.ensures.2.0 ∙ c.requires.row.1,
      ap (λ (v : View). v.spent) is ∙ c.requires.row.2,
      subst (λ (v : View). Each (IsCallerOf c.args.self.now) v.kept) (sym is) c.requires.row.3,
    )
