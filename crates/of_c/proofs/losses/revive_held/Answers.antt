use Rattle.std.proofs.Common.{sym, subst, ◌∙◌}
use Rattle.std.specs.Prelude.{Some}
use Rattle.of_memory.specs.Lost.{GivesUp}
use Rattle.of_c.specs.declared.held.Held.{Held}
use Rattle.of_c.specs.Losses.{IsLostAs, IsHeldRevived, IsHeldLost}
use Rattle.of_c.proofs.losses.revive_held.Goals as goal

pub returns-in-Caller-clause-revived : goal.returns-in-Caller-clause-revived
returns-in-Caller-clause-revived c done =
    let r = c.revive_lost.ensures.revived done in
    record {
      lost = r.lost;
      was = subst (λ (h : Held). IsLostAs h r.lost) (sym c.in-Caller.is ∙ c.replace.ensures.value) (subst (GivesUp c.in-Caller.seat.handle) r.was c.give_up-lost.ensures.calls);
      handle = r.handle;
      is = r.is;
      revived = r.revived;
    }

pub returns-in-Caller-clause-lost : goal.returns-in-Caller-clause-lost
returns-in-Caller-clause-lost c none some =
    let r = c.revive_lost.ensures.lost none in
    record {
      lost = r.lost;
      was = subst (λ (h : Held). IsLostAs h r.lost) (sym c.in-Caller.is ∙ c.replace.ensures.value) (subst (GivesUp c.in-Caller.seat.handle) r.was c.give_up-lost.ensures.calls);
      next = r.next;
      is = r.is;
      stays = r.stays;
      reason = r.reason;
      cause = r.cause;
      code_is = r.code_is;
    }

pub returns-in-Lost-clause-revived : goal.returns-in-Lost-clause-revived
returns-in-Lost-clause-revived c done =
    subst (λ (h : Held). IsHeldRevived (Some h) (Some c.revive_lost-in-Lost.new.held)) (sym c.in-Lost.is ∙ c.replace.ensures.value) (c.revive_lost-in-Lost.ensures.revived done)

pub returns-in-Lost-clause-lost : goal.returns-in-Lost-clause-lost
returns-in-Lost-clause-lost c none some =
    subst (λ (h : Held). IsHeldLost (Some h) (Some c.revive_lost-in-Lost.new.held) c.revive_lost-in-Lost.result) (sym c.in-Lost.is ∙ c.replace.ensures.value) (c.revive_lost-in-Lost.ensures.lost none)
