use Rattle.std.proofs.Common.{refl, sym, subst, ℕ, Option}
use Rattle.of_c.specs.declared.codes.TheConstants.{CALL_OPEN}
use Rattle.of_c.specs.declared.held.Held.{Held}
use Rattle.of_c.specs.declared.held.Held.TheVariants.{Caller}
use Rattle.of_c.specs.Calls.{CallsScript, CallsHeld}
use Rattle.of_c.proofs.callers.run_held.Goals as goal

pub returns-in-Some-clause-runs : goal.returns-in-Some-clause-runs
returns-in-Some-clause-runs c s is words =
    let a = c.run_within.ensures.some in
    subst (λ (h : Held). CallsHeld (CallsScript s c.args.limit) CALL_OPEN h (Caller c.run_within.new.self) c.code_of_call.new.reply c.code_of_call.result) (sym c.in-Caller.is)
    (record { handle = c.run_within.new.self.handle; held = refl; answer = a.0; tells = c.code_of_call.ensures.tells a.0 a.1; does = subst (λ (l : Option ℕ). CallsScript s l c.in-Caller.seat.handle a.0 c.run_within.new.self.handle) (sym c.in-Some.is) (c.run_within.ensures.runs a.0 a.1 s is words) })

pub returns-in-None-clause-runs : goal.returns-in-None-clause-runs
returns-in-None-clause-runs c s is words =
    let a = c.run.ensures.some in
    subst (λ (h : Held). CallsHeld (CallsScript s c.args.limit) CALL_OPEN h (Caller c.run.new.self) c.code_of_call-in-None.new.reply c.code_of_call-in-None.result) (sym c.in-Caller.is)
    (record { handle = c.run.new.self.handle; held = refl; answer = a.0; tells = c.code_of_call-in-None.ensures.tells a.0 a.1; does = subst (λ (l : Option ℕ). CallsScript s l c.in-Caller.seat.handle a.0 c.run.new.self.handle) (sym c.in-None.is) (c.run.ensures.runs a.0 a.1 s is words) })
