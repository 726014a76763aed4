use Rattle.std.proofs.Common.{length, sym, ◌∙◌, subst}
use mathlib.Core.Bool.{true≢false}
use Rattle.of_cells.specs.Serving.{AllHere}
use Rattle.of_cells.proofs.memory.CellMemory.close.Goals as goal

pub close_at_home-requires-clause-here : goal.close_at_home-requires-clause-here
close_at_home-requires-clause-here g c =
    subst (λ cs. AllHere cs (length cs)) c.deref.ensures.value (c.all_here.ensures.0 c.if-all_here.true)

pub returns-then-all_here-clause-here : goal.returns-then-all_here-clause-here
returns-then-all_here-clause-here g c =
    subst (λ cs. AllHere cs (length cs)) c.deref.ensures.value (c.all_here.ensures.0 c.if-all_here.true)

pub returns-else-all_here-clause-cause : goal.returns-else-all_here-clause-cause
returns-else-all_here-clause-cause g c here =
    absurd (true≢false (sym (c.all_here.ensures.1 (subst (λ cs. AllHere cs (length cs)) (sym c.deref.ensures.value) here)) ∙ c.if-all_here.false))
