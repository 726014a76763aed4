use Rattle.std.proofs.Common.{refl, arith}
use Rattle.of_tool.proofs.command.Command.most.Goals as goal

pub returns-in-Recover : goal.returns-in-Recover
returns-in-Recover c = rw c.in-Recover.is (record { input = _; reads = refl; is = refl; few = omega arith })

pub returns-in-Renumber : goal.returns-in-Renumber
returns-in-Renumber c = rw c.in-Renumber.is (record { input = _; reads = refl; is = refl; few = omega arith })

pub returns-in-Migrate : goal.returns-in-Migrate
returns-in-Migrate c = rw c.in-Migrate.is (record { input = _; reads = refl; is = refl; few = omega arith })

pub returns-in-Check : goal.returns-in-Check
returns-in-Check c = rw c.in-Check.is (record { input = _; reads = refl; is = refl; few = omega arith })

pub returns-in-CheckLife : goal.returns-in-CheckLife
returns-in-CheckLife c = rw c.in-CheckLife.is (record { input = _; reads = refl; is = refl; few = omega arith })

pub returns-in-Part : goal.returns-in-Part
returns-in-Part c = rw c.in-Part.is (record { input = _; reads = refl; is = refl; few = omega arith })

pub returns-in-Continue : goal.returns-in-Continue
returns-in-Continue c = rw c.in-Continue.is (record { input = _; reads = refl; is = refl; few = omega arith })
