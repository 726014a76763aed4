use Rattle.of_row.proofs.Runs.{runs_are_linearizable}
use Rattle.of_row.proofs.laws.runs_are_linearizable.Goals as goal

pub returns : goal.returns
returns g c B ws v es h = runs_are_linearizable _ _ c.every_moment.ensures.sound c.every_order.ensures.order B ws v es h
