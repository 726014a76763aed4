use Rattle.std.proofs.Common.{refl, sym, subst}
use Rattle.of_c.specs.declared.codes.TheConstants.{NO_CALL}
use Rattle.of_c.specs.declared.held.Held.{Held}
use Rattle.of_c.specs.declared.held.Held.TheVariants.{Caller}
use Rattle.of_c.specs.Calls.{GoesOn, CallsHeld}
use Rattle.of_c.proofs.callers.go_on_held.Goals as goal

pub returns-in-Caller-clause-runs : goal.returns-in-Caller-clause-runs
returns-in-Caller-clause-runs c =
    let a = c.go_on.ensures.some in
    subst (λ (h : Held). CallsHeld (GoesOn c.args.limit) NO_CALL h (Caller c.go_on.new.self) c.code_of_call.new.reply c.code_of_call.result) (sym c.in-Caller.is)
    (record { handle = c.go_on.new.self.handle; held = refl; answer = a.0; tells = c.code_of_call.ensures.tells a.0 a.1; does = c.go_on.ensures.runs a.0 a.1 })
