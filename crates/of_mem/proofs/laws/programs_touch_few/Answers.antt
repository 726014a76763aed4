use Rattle.of_mem.proofs.FewTouches.{programs_touch_few}
use Rattle.of_mem.proofs.laws.programs_touch_few.Goals as goal

pub returns : goal.returns
returns g c = programs_touch_few _ _ _ _ _ _ c.requires
