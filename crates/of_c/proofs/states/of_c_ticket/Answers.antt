use Rattle.std.proofs.Common.{◌≡◌, ◌∙◌, ap, sym, subst}
use Rattle.std.specs.Prelude.{Option, Some}
use Rattle.of_memory.specs.Saving.{saved_ticket}
use Rattle.of_c.specs.declared.held.Held.{Held}
use Rattle.of_c.specs.Causes.{HoldsSavedWith, HasNoTicketOf}
use Rattle.of_c.specs.States.{HasCallerWith}
use Rattle.of_c.proofs.states.of_c_ticket.Goals as goal

pub returns-clause-read : goal.returns-clause-read
returns-clause-read c done =
    subst (λ (h : Option Held). HasCallerWith h c.args.number (λ d. c.ticket_held-code.new.ticket ≡ saved_ticket d c.args.number))
    (ap Some c.deref.ensures ∙ sym c.in-Some.ensures.some) (c.ticket_held-code.ensures.read done)

pub returns-clause-range : goal.returns-clause-range
returns-clause-range c out =
    subst (λ (h : Option Held). HoldsSavedWith (HasNoTicketOf c.args.number) h)
    (ap Some c.deref.ensures ∙ sym c.in-Some.ensures.some) (c.ticket_held-code.ensures.range out)
