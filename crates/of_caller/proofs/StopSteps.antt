-- Steps that a brake gave, added up over the calls of a caller.
use Rattle.std.proofs.Common.{◌≡◌, ℕ, ◌+◌, ◌-◌, List, [], ◌∷◌, ◌++◌, Option, Some, None, ap, ◌∙◌, subst, arith}
use Rattle.of_eval.specs.Record.{end_state_of}
use Rattle.of_plan.specs.Report.{EndState, done, stopped, spent}
use Rattle.of_plan.specs.declared.answer.Answer.{Answer}
use Rattle.of_plan.specs.declared.answer.Ending.{Ending}
use Rattle.of_plan.specs.declared.answer.Ending.TheVariants.{Done, Stopped, Spent as RanOut}
use Rattle.of_core.specs.declared.place.Outcome.{Outcome}
use Rattle.of_core.specs.declared.place.Outcome.TheVariants.{Answered, Spent, Lost}
use Rattle.of_core.specs.Calls.{IsAnswered}
use Rattle.of_row.specs.Turned as turned
use Rattle.of_caller.specs.Ends.{TellsAnswer}
use Rattle.of_caller.specs.Brakes.{TakesSteps, TakesStepsFrom, UsesCountedSteps, StopsWhenToldUsedUp}
use Rattle.of_caller.specs.Stops.{answer_steps, open_call_steps, KeepsStop}
use Rattle.of_caller.specs.Lanes.{Appends, TakesStepsOfAnswers, KeepsToBrake, KeepsLeft}

told_push : (xs : List Answer) (a : Answer) → answer_steps (xs ++ a ∷ []) ≡ answer_steps xs + a.steps
told_push [] a = omega arith
told_push (x ∷ xs) a = omega (arith, told_push xs a)

steps_of_item : (k : ℕ) (o : Outcome) (a : Answer) → IsAnswered o → turned.TellsSteps k o → TellsAnswer o a → a.steps ≡ k
steps_of_item k (Answered s announced raw steps) a h t q = q.3 ∙ t
steps_of_item k (Spent s) a h t q = absurd h
steps_of_item k (Lost s) a h t q = absurd h

pub gave_for : (a b : Option (Option ℕ)) (x y k n : ℕ) (o : Outcome) (xs ys : List Answer) → UsesCountedSteps a b x y → y ≡ x + n → k ≡ n → IsAnswered o → turned.TellsSteps k o → Appends (TellsAnswer o) xs ys → TakesStepsOfAnswers a b xs ys
gave_for a b x y k n o xs ys u rise same h t q =
    let item : q.item.steps ≡ k = steps_of_item k o q.item h t q.holds in
    (u.0, ap answer_steps q.is ∙ told_push xs q.item ∙ (let e : q.item.steps ≡ u.0 = omega (arith, item, same, rise, u.1) in ap (λ (m : ℕ). answer_steps xs + m) e), u.2)

gave_of_both : (a b c : Option ℕ) (n m : ℕ) → TakesStepsFrom a b n → TakesStepsFrom b c m → TakesStepsFrom a c (n + m)
gave_of_both None b c n m g h = subst (λ (z : Option ℕ). TakesStepsFrom z c m) g h
gave_of_both (Some k) b c n m g h = let q : TakesStepsFrom (Some g.0) c m = subst (λ (z : Option ℕ). TakesStepsFrom z c m) g.2 h in (q.0, omega (arith, g.1, q.1), q.2)

gave_both : (a b c : Option (Option ℕ)) (n m : ℕ) → TakesSteps a b n → TakesSteps b c m → TakesSteps a c (n + m)
gave_both None b c n m g h = subst (λ (z : Option (Option ℕ)). TakesSteps z c m) g h
gave_both (Some a) None c n m g h = absurd g
gave_both (Some a) (Some b) None n m g h = absurd h
gave_both (Some a) (Some b) (Some c) n m g h = gave_of_both a b c n m g h

pub gave_then : (a b c : Option (Option ℕ)) (xs ys zs : List Answer) → TakesStepsOfAnswers a b xs ys → TakesStepsOfAnswers b c ys zs → TakesStepsOfAnswers a c xs zs
gave_then a b c xs ys zs g h = (g.0 + h.0, omega (arith, g.1, h.1), gave_both a b c g.0 h.0 g.2 h.2)

stop_more : (a b : Option ℕ) (n m o : ℕ) (state : EndState) → TakesStepsFrom a b n → KeepsStop b (m + o) state → KeepsStop a (n + m + o) state
stop_more None b n m o state g k = subst (λ (z : Option ℕ). KeepsStop z (m + o) state) g k
stop_more (Some x) b n m o state g k =
    let q : KeepsStop (Some g.0) (m + o) state = subst (λ (z : Option ℕ). KeepsStop z (m + o) state) g.2 k in
    (omega (arith, g.1, q.0), λ is. omega (arith, g.1, q.1 is))

pub keeps_then : (a b : Option (Option ℕ)) (xs ys zs : List Answer) (e : Ending) → TakesStepsOfAnswers a b xs ys → KeepsToBrake b ys zs e → KeepsToBrake a xs zs e
keeps_then None b xs ys zs e g k = tt
keeps_then (Some a) None xs ys zs e g k = absurd g.2
keeps_then (Some a) (Some b) xs ys zs e g k = (g.0 + k.0, omega (arith, g.1, k.1), stop_more a b g.0 k.0 (open_call_steps e) (end_state_of e) g.2 k.2)

by_stop : (a : Option ℕ) (asked : ℕ) → StopsWhenToldUsedUp (Some a) asked → KeepsStop a (0 + (asked - 1)) stopped
by_stop None asked h = absurd h
by_stop (Some m) asked h = (omega (arith, h), λ is. omega (arith, h))

pub stops_now : (a : Option (Option ℕ)) (xs : List Answer) (asked : ℕ) → StopsWhenToldUsedUp a asked → KeepsToBrake a xs xs (Stopped asked)
stops_now None xs asked h = tt
stops_now (Some a) xs asked h = (0, omega arith, by_stop a asked h)

by_other : (a : Option ℕ) (state : EndState) → (state ≡ stopped → ⊥) → KeepsStop a 0 state
by_other None state ne = ne
by_other (Some m) state ne = (omega arith, λ q. absurd (ne q))

not_done : done ≡ stopped → ⊥
not_done q = cc

not_spent : spent ≡ stopped → ⊥
not_spent q = cc

pub spent_now : (a : Option (Option ℕ)) (xs : List Answer) (k : ℕ) → KeepsToBrake a xs xs (RanOut k)
spent_now None xs k = tt
spent_now (Some a) xs k = (0, omega arith, by_other a spent not_spent)

done_of : (a : Option (Option ℕ)) (xs : List Answer) → KeepsToBrake a xs xs Done
done_of None xs = tt
done_of (Some a) xs = (0, omega arith, by_other a done not_done)

pub done_now : (a b : Option (Option ℕ)) (xs ys : List Answer) → TakesStepsOfAnswers a b xs ys → KeepsToBrake a xs ys Done
done_now a b xs ys g = keeps_then a b xs ys ys Done g (done_of b ys)

-- with no answer before, all are told
pub keeps_left : (a : Option (Option ℕ)) (none all : List Answer) (e : Ending) → none ≡ [] → KeepsToBrake a none all e → KeepsLeft a all e
keeps_left None none all e is k = tt
keeps_left (Some stop) none all e is k =
    let same : k.0 ≡ answer_steps all = omega (arith, k.1, ap answer_steps is) in
    subst (λ (n : ℕ). KeepsStop stop (n + open_call_steps e) (end_state_of e)) same k.2
