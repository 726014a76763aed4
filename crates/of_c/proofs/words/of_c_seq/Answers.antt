use Rattle.std.proofs.Common.{◌≡◌, ◌∙◌, ap, sym, subst}
use Rattle.std.specs.Prelude.{Option, Some}
use Rattle.of_memory.specs.Saving.{saved_seq}
use Rattle.of_c.specs.declared.held.Held.{Held}
use Rattle.of_c.specs.Causes.{HoldsSavedWith}
use Rattle.of_c.proofs.words.of_c_seq.Goals as goal

pub returns-clause-read : goal.returns-clause-read
returns-clause-read c done =
    subst (λ (h : Option Held). HoldsSavedWith (λ d. c.seq_held-code.new.seq ≡ saved_seq d) h)
    (ap Some c.deref.ensures ∙ sym c.in-Some.ensures.some) (c.seq_held-code.ensures.read done)
