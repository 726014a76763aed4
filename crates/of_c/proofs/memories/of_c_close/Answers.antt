use Rattle.std.proofs.Common.{◌∙◌, ap, refl, sym, subst}
use Rattle.std.specs.Prelude.{Option, Some}
use Rattle.of_c.specs.declared.held.Held.{Held}
use Rattle.of_memory.specs.Memories.{HasHandleOut}
use Rattle.of_c.specs.Causes.{HoldsMemoryWith}
use Rattle.of_c.specs.Lives.{HoldsClosed}
use Rattle.of_c.proofs.memories.of_c_close.Goals as goal

pub returns-clause-closed : goal.returns-clause-closed
returns-clause-closed c done =
    subst (λ (h : Option Held). HoldsClosed h c.close_home.new.saved.raw.held)
    (ap Some c.in-Memory-into_inner.ensures ∙ sym c.in-Some.ensures.some) (c.close_home.ensures.closed done)

pub returns-clause-in_use : goal.returns-clause-in_use
returns-clause-in_use c in_use =
    subst (HoldsMemoryWith HasHandleOut) (ap Some c.in-Memory-into_inner.ensures ∙ sym c.in-Some.ensures.some)
    (record { memory = c.in-Memory-into_inner.home.memory; is = refl; so = c.close_home.ensures.in_use in_use })
