use Rattle.std.proofs.Common.{◌≡◌, ◌∙◌, ap, sym, subst}
use Rattle.std.specs.Prelude.{◌↔◌, Option, Some}
use Rattle.of_c.specs.declared.codes.TheConstants.{RANGE}
use Rattle.of_c.specs.declared.held.Held.{Held}
use Rattle.of_c.specs.Asking.{WasHeldSo, WasHeldBusy, ShowsLastCall, ShowsNoCall}
use Rattle.of_c.specs.Causes.{HoldsMemoryWith, HasNoNumber}
use Rattle.of_c.proofs.asking.of_c_last_reply_of.Goals as goal

pub returns-clause-read : goal.returns-clause-read
returns-clause-read c done =
    subst (λ (h : Option Held). WasHeldSo (ShowsLastCall c.args.number c.last_reply_of_held-code.new.reply) h c.put.new.self.raw.held)
    (ap Some c.deref_mut.ensures.value ∙ sym c.in-Some.ensures.some)
    (subst (WasHeldSo (ShowsLastCall c.args.number c.last_reply_of_held-code.new.reply) (Some c.deref_mut.result.now)) (sym c.put.ensures) (c.last_reply_of_held-code.ensures.read done))

pub returns-clause-absent : goal.returns-clause-absent
returns-clause-absent c gone =
    subst (λ (h : Option Held). WasHeldSo (ShowsNoCall c.args.number) h c.put.new.self.raw.held)
    (ap Some c.deref_mut.ensures.value ∙ sym c.in-Some.ensures.some)
    (subst (WasHeldSo (ShowsNoCall c.args.number) (Some c.deref_mut.result.now)) (sym c.put.ensures) (c.last_reply_of_held-code.ensures.absent gone))

pub returns-clause-busy : goal.returns-clause-busy
returns-clause-busy c later =
    subst (λ (h : Option Held). WasHeldBusy h c.put.new.self.raw.held)
    (ap Some c.deref_mut.ensures.value ∙ sym c.in-Some.ensures.some)
    (subst (WasHeldBusy (Some c.deref_mut.result.now)) (sym c.put.ensures) (c.last_reply_of_held-code.ensures.busy later))

pub returns-clause-range : goal.returns-clause-range
returns-clause-range c =
    subst (λ (h : Option Held). (c.last_reply_of_held-code.result ≡ RANGE) ↔ HoldsMemoryWith (HasNoNumber c.args.number) h)
    (ap Some c.deref_mut.ensures.value ∙ sym c.in-Some.ensures.some) c.last_reply_of_held-code.ensures.range
