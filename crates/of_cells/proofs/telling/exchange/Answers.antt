use Rattle.std.proofs.Common.{◌≡◌, refl, sym, ap, subst, ◌∙◌, Some}
use mathlib.Core.List.{IsPrefix}
use Rattle.of_row.specs.Views.{View}
use Rattle.of_row.specs.Turned.{after_tell}
use Rattle.of_caller.specs.Callers.{sight_of}
use Rattle.of_cells.specs.Serving.{events_in, events_known_to}
use Rattle.of_cells.proofs.telling.exchange.Goals as goal
use Rattle.of_cells.proofs.telling.exchange.Goals.{in-Some, in_default}

pub returns-clause-heard : goal.returns-clause-heard
returns-clause-heard g c = elim c.match-take.branch [
  | in-Some w ↦
      let known : c.args.known.now ≡ Some w.in-Some.pass = sym c.take.ensures.value ∙ w.in-Some.is in
      let sight : sight_of c.tell.new.self ≡ after_tell (sight_of w.hear.new.self) = c.tell.ensures.sight ∙ ap (λ a. after_tell (sight_of a)) w.caller-is in
      subst (λ o. IsPrefix (events_in o) (events_known_to c.tell.new.self)) (sym known)
      (subst (λ (v : View). IsPrefix (events_in (Some w.in-Some.pass)) v.past) (sym sight) w.hear.ensures.heard.3)
  | in_default w ↦
      subst (λ o. IsPrefix (events_in o) (events_known_to c.tell.new.self)) (sym (sym c.take.ensures.value ∙ w.in_default.is)) (events_known_to c.tell.new.self, refl)
]
