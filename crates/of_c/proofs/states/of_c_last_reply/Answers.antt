use Rattle.std.proofs.Common.{◌≡◌, ◌∙◌, ap, sym, subst}
use Rattle.std.specs.Prelude.{Option, Some}
use Rattle.of_memory.specs.Saving.{saved_ticket}
use Rattle.of_c.specs.declared.held.Held.{Held}
use Rattle.of_c.specs.Causes.{HoldsSavedWith, HasNoTicketOf}
use Rattle.of_c.specs.States.{HasCallerWith, ShowsLast}
use Rattle.of_c.proofs.states.of_c_last_reply.Goals as goal

pub returns-clause-read : goal.returns-clause-read
returns-clause-read c done =
    subst (λ (h : Option Held). HasCallerWith h c.args.number (ShowsLast c.args.number c.last_reply_held-code.new.reply))
    (ap Some c.deref.ensures ∙ sym c.in-Some.ensures.some) (c.last_reply_held-code.ensures.read done)

pub returns-clause-absent : goal.returns-clause-absent
returns-clause-absent c done =
    subst (λ (h : Option Held). HasCallerWith h c.args.number (λ d. saved_ticket d c.args.number ≡ 0))
    (ap Some c.deref.ensures ∙ sym c.in-Some.ensures.some) (c.last_reply_held-code.ensures.absent done)

pub returns-clause-range : goal.returns-clause-range
returns-clause-range c out =
    subst (λ (h : Option Held). HoldsSavedWith (HasNoTicketOf c.args.number) h)
    (ap Some c.deref.ensures ∙ sym c.in-Some.ensures.some) (c.last_reply_held-code.ensures.range out)
