use Rattle.std.proofs.Common.{sym, ap}
use Rattle.of_core.specs.Fit.{is_scanning}
use Rattle.of_core.proofs.OwedRuns.{not_script}
use Rattle.of_core.proofs.machine.Machine.owes_script.Goals as goal

pub returns-in-LoadCell : goal.returns-in-LoadCell
returns-in-LoadCell g c = rw (← c.self.view_is) (sym (ap is_scanning c.in-LoadCell.is))

pub returns-in_default : goal.returns-in_default
returns-in_default g c =
    let o = rw (← c.self.view_is) at c.requires in
    rw (← c.self.view_is) (not_script c.self.inside.place (is_scanning c.self.inside.place) o.at_load.0 o.at_load.1 (c.in_default.not-LoadCell o.at_load.0))
