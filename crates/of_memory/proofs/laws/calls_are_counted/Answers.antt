use Rattle.std.proofs.Common.{◌∙◌, ◌+◌, sym, ap}
use Rattle.of_memory.specs.Handles.{tickets_behind}
use Rattle.of_memory.proofs.Called.{made_long}
use Rattle.of_memory.proofs.laws.calls_are_counted.Goals as goal

pub returns : goal.returns
returns c h ms is none made =
    c.calls_are_counted.ensures h.cells is.handle none ∙ ap (λ n. tickets_behind h + n) (sym (made_long _ ms made))
