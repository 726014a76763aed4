use Rattle.std.proofs.Common.{◌∙◌}
use Rattle.of_report.proofs.Cells.{numbers_stand}
use Rattle.of_report.proofs.recovered_table.RecoveredTable.store.Goals as goal

pub returns-in-Ok : goal.returns-in-Ok
returns-in-Ok c s h = c.in-Ok.ensures.only s (numbers_stand c.args.self.now c.deref.result.now (c.deref.ensures.value ∙ c.in_ok-numbers.ensures) s h)

pub unreachable-requires : goal.unreachable-requires
unreachable-requires c = cc (c.in-Err-Unlawful.ensures.only c.requires.0 (numbers_stand c.args.self.now c.deref.result.now (c.deref.ensures.value ∙ c.in_ok-numbers.ensures) c.requires.0 c.requires.1))
