use Rattle.std.proofs.Common.{◌≡◌, ◌⊎◌, ◌<◌, ◌*◌, inl, inr, arith, sym, subst, List, ℕ, ◌∷◌, []}
use Rattle.std.specs.Prelude.{codes, decimal}
use Rattle.of_tool.specs.Commands.{IsNoCommand}
use Rattle.of_tool.proofs.CommandLemmas.{out_of_range}
use Rattle.of_tool.proofs.command.Command.load.Goals as goal
use Rattle.of_tool.proofs.command.Command.load.Goals.{then-callers-eq0-via-then-callers-eq0, then-callers-eq0-via-else-callers-eq0+then-callers-scripts-gt-MOST_SCRIPTS}

-- both numbers are spelled, and there is no caller, or there are too many scripts
pub returns-then-callers-eq0 : goal.returns-then-callers-eq0
returns-then-callers-eq0 c =
    let first = c.in_ok-callers.ensures in
    let second = c.in_ok-scripts.ensures in
    let out : (c.in_ok-callers.callers ≡ 0) ⊎ (20000 < c.in_ok-callers.callers * c.in_ok-scripts.scripts) = elim c.then-callers-eq0.branch [ then-callers-eq0-via-then-callers-eq0 w ↦ inl (omega arith) | then-callers-eq0-via-else-callers-eq0+then-callers-scripts-gt-MOST_SCRIPTS w ↦ inr (omega arith) ] in
    subst (λ (a : List ℕ). IsNoCommand (codes "load" ∷ a ∷ c.args.scripts.now ∷ [])) (sym first.1)
    (subst (λ (b : List ℕ). IsNoCommand (codes "load" ∷ decimal c.in_ok-callers.callers ∷ b ∷ [])) (sym second.1)
    (out_of_range c.in_ok-callers.callers c.in_ok-scripts.scripts first.0 second.0 out))
