-- The run before its first event, and what it leaves at its end.
use Rattle.std.proofs.Common.{◌≡◌, ℕ, zero, suc, ◌+◌, ◌<◌, ◌≤◌, ◌⊎◌, ◌==◌, inl, inr, List, [], ◌∷◌, ◌++◌, length, get_or, map, take, refl, sym, ◌∙◌, ap, subst, arith, Option, Some, None, Bool, true, false, if◌then◌else◌}
use Rattle.std.proofs.lemmas.Bool.{cases_lt}
use Rattle.std.proofs.lemmas.Bool.Decides.{nat_tests}
use Rattle.std.proofs.lemmas.List.{length-map, append-nil, get_or-map, get_or_append_left, get_or_push, take_more, take_all}
use Rattle.std.specs.List.{flat_map}
use Rattle.std.proofs.lemmas.Grind.{flat_map-append}
use Rattle.of_mem.proofs.Lists.{take_none}
use Rattle.of_eval.specs.Scripts.{scripts_meaning}
use Rattle.of_plan.specs.declared.answer.Answer.{Answer}
use Rattle.of_plan.specs.declared.answer.Ending.{Ending}
use Rattle.of_plan.specs.declared.answer.Ending.TheVariants.{Done, Stopped, Spent as Ran_out}
use Rattle.of_plan.specs.declared.plan.Item.{Item}
use Rattle.of_plan.specs.Plan.{Plan, scripts_of}
use Rattle.of_plan.specs.Ended.{Ended, answers_of, ending_of}
use Rattle.of_core.specs.declared.place.Outcome.{Outcome}
use Rattle.of_core.specs.declared.place.Outcome.TheVariants.{Answered, Spent, Lost}
use Rattle.of_core.specs.Table.{Setup}
use Rattle.of_core.specs.MachineValue.{ended_outcome}
use Rattle.of_core.specs.Machine.{CallState, no_machine}
use Rattle.of_core.specs.Moment.{bank_setup, machine_of, table_word_count}
use Rattle.of_core.specs.Events.{Event, machine_in, opening_moment, idle_machines, start_ticket, zero_start}
use Rattle.of_core.specs.Calls.{outcomes}
use Rattle.of_caller.specs.Tables.{plan_setup, opening_for, operation_of}
use Rattle.of_caller.specs.Ends.{is_spent, AreAnswers, ending_if_left, ending_at}
use Rattle.of_caller.specs.Left.{moment_after}
use Rattle.of_play.specs.Play.{item_events, plan_events, events_from}
use Rattle.of_play.specs.ScheduleRun.{answers_in, EventsMayFollow, StandsAfter, MakesMoves, CallerEndsAs, RunLeaves}
use Rattle.of_play.specs.declared.schedule_run.ScheduleRun.{ScheduleRun}
use Rattle.of_play.proofs.PlaysMoments.{IsPlayable, zero_ticket}
use Rattle.of_play.proofs.PlaysEvents.{events_append}
use Rattle.of_play.proofs.PlaysStand.{machine_same, outcome_same}

-- before the first event nobody has begun a call
none_made : (S : Setup) (i n c : ℕ) → (get_or (idle_machines S (start_ticket S (zero_start S)) i n) c no_machine).made ≡ 0
none_made S i zero c = refl
none_made S i (suc n) zero = zero_ticket S i
none_made S i (suc n) (suc c) = none_made S (suc i) n c

pub starts : (p : Plan) → EventsMayFollow p []
starts p = record {
  schedule = tt;
  made = λ c h. omega (arith, none_made (plan_setup p) 0 p.callers c);
  begun = λ c h. sym (ap (map operation_of) (ap (λ (k : ℕ). take k (scripts_of p c)) (none_made (plan_setup p) 0 p.callers c) ∙ take_none (scripts_of p c)));
}

pub start_stands : (p : Plan) (s : ScheduleRun) → s.bank.callers ≡ p.callers → bank_setup scripts_meaning s.bank ≡ plan_setup p
    → s.bank.words ≡ (opening_moment (bank_setup scripts_meaning s.bank) (zero_start (bank_setup scripts_meaning s.bank)) (table_word_count (bank_setup scripts_meaning s.bank))).words
    → s.bank.machines ≡ (opening_moment (bank_setup scripts_meaning s.bank) (zero_start (bank_setup scripts_meaning s.bank)) (table_word_count (bank_setup scripts_meaning s.bank))).machines
    → length s.answers.items ≡ p.callers → ((c : ℕ) → answers_in s c ≡ []) → StandsAfter p [] s
start_stands p s callers same words machines answers none = record {
  follows = starts p;
  callers = callers;
  table = same;
  words = words ∙ ap (λ (T : Setup). (opening_moment T (zero_start T) (table_word_count T)).words) same;
  machines = machines ∙ ap (λ (T : Setup). (opening_moment T (zero_start T) (table_word_count T)).machines) same;
  answers = answers;
  told = λ c h. subst (AreAnswers []) (sym (none c)) tt;
}

-- how many answers a caller has
pub said_is : {A : Type 0} (items : A → List Answer) (vs : List A) (c : ℕ) (v : A) (n : ℕ) → c < length vs → v ≡ get_or vs c v → n ≡ length (items v) → n ≡ length (get_or (map items vs) c [])
said_is items vs c v n l read e = e ∙ ap length (ap items read) ∙ ap length (sym (get_or-map items vs c v [] l))

-- how a caller ends
ends_halted : (m : CallState) (n a : ℕ) → (a ≡ n → ⊥) → ending_if_left m.answer m.steps ≡ ending_at m n a
ends_halted m n a e = go (a == n) refl
  where
    go : (b : Bool) → (a == n) ≡ b → ending_if_left m.answer m.steps ≡ (if b then Done else ending_if_left m.answer m.steps)
    go true q = let z : a ≡ n = grind (arith, nat_tests) in absurd (e z)
    go false q = refl

halts_open : (o : Option Outcome) (k : ℕ) → is_spent o ≡ false → Stopped (k + 1) ≡ ending_if_left o k
halts_open None k e = refl
halts_open (Some (Answered q announced raw steps)) k e = refl
halts_open (Some (Spent q)) k e = cc
halts_open (Some (Lost q)) k e = refl

module _ (p : Plan) (plan : IsPlayable p) (c : ℕ) (h : c < p.callers) (s : ScheduleRun) where
  module _ (said scripts : ℕ) (told : said ≡ length (answers_in s c)) (all : scripts ≡ length (scripts_of p c)) where
    module _ (not_done : said ≡ scripts → ⊥) where
      pub ends_as_spent : (q : ℕ) → ended_outcome (machine_of s.bank c) ≡ Some (Spent q) → CallerEndsAs p c s (Ran_out q)
      ends_as_spent q e es st =
          let m = machine_in (moment_after p es) c in
          ap (λ (o : Option Outcome). ending_if_left o m.steps) (sym e ∙ outcome_same p plan es s st c h) ∙ ends_halted m _ _ (λ q. not_done (told ∙ q ∙ sym all))

      pub ends_as_stopped : is_spent (ended_outcome (machine_of s.bank c)) ≡ false → CallerEndsAs p c s (Stopped ((machine_of s.bank c).steps + 1))
      ends_as_stopped e es st =
          let m = machine_in (moment_after p es) c in
          let same = machine_same p plan es s st c in
          ap (λ (x : CallState). Stopped (x.steps + 1)) same ∙ halts_open m.answer m.steps (ap is_spent (sym (outcome_same p plan es s st c h)) ∙ e) ∙ ends_halted m _ _ (λ q. not_done (told ∙ q ∙ sym all))

pub leaves_as : (p : Plan) (s : ScheduleRun) (e : Ended) → e.answers ≡ map (λ v. v.items) s.answers.items → e.words ≡ s.bank.words → length e.endings ≡ p.callers → ((c : ℕ) → c < p.callers → CallerEndsAs p c s (ending_of e c)) → RunLeaves p s e
leaves_as p s e answers words endings each es st = record {
  answers = ap length answers ∙ length-map s.answers.items (λ v. v.items) ∙ st.answers;
  endings = endings;
  words = words ∙ st.words;
  told = λ c h. subst (AreAnswers (outcomes (plan_setup p) (opening_for p) es c)) (sym (here c)) (st.told c h);
  ended = λ c h. each c h es st ∙ ap (λ (xs : List Answer). ending_at (machine_in (moment_after p es) c) (length (scripts_of p c)) (length xs)) (sym (here c));
}
  where
    here : (c : ℕ) → answers_of e c ≡ answers_in s c
    here c = ap (λ (xs : List (List Answer)). get_or xs c []) answers

-- the items so far
pub items_more : (p : Plan) (items : List Item) → items ≡ p.schedule → (k : ℕ) (d : Item) (s t : ScheduleRun) → k < length items → MakesMoves p (item_events (get_or items k d)) s t
    → StandsAfter p (events_from p (opening_for p) (flat_map item_events (take k p.schedule))) s → StandsAfter p (events_from p (opening_for p) (flat_map item_events (take (k + 1) p.schedule))) t
items_more p items same k d s t l f st =
    let ms = flat_map item_events (take k p.schedule) in
    let item = get_or items k d in
    subst (λ (es : List Event). StandsAfter p es t)
    (sym (events_append p (opening_for p) ms (item_events item))
    ∙ ap (events_from p (opening_for p))
    (ap (λ (ns : List Event). ms ++ ns) (sym (append-nil (item_events item)))
    ∙ sym (flat_map-append item_events (take k p.schedule) (item ∷ []))
    ∙ ap (λ (xs : List Item). flat_map item_events (take k p.schedule ++ get_or xs k d ∷ [])) same
    ∙ ap (flat_map item_events) (sym (take_more p.schedule k d (omega (arith, l, ap length same))))))
    (f (events_from p (opening_for p) ms) st)

-- all items
pub items_all : (p : Plan) (items : List Item) → items ≡ p.schedule → (k : ℕ) → length items ≤ k → flat_map item_events (take k p.schedule) ≡ plan_events p
items_all p items same k l = ap (flat_map item_events) (take_all k p.schedule (omega (arith, l, ap length same)))

-- what holds of each ending so far and of the next
pub each_pushed : (P : ℕ → Ending → Type 0) (es fs : List Ending) (e : Ending) (n : ℕ) → fs ≡ es ++ e ∷ [] → length es ≡ n → ((c : ℕ) → c < n → P c (get_or es c Done)) → P n e → (c : ℕ) → c < n + 1 → P c (get_or fs c Done)
each_pushed P es fs e n pushed count each last c l = go (cases_lt c n)
  where
    go : (c < n) ⊎ (n ≤ c) → P c (get_or fs c Done)
    go (inl h) = subst (P c) (sym (ap (λ (xs : List Ending). get_or xs c Done) pushed ∙ get_or_append_left es (e ∷ []) Done c (omega (arith, h, count)))) (each c h)
    go (inr h) =
        let z : n ≡ c = omega (arith, l, h) in
        subst (λ (k : ℕ). P k (get_or fs k Done)) z (subst (P n) (sym (ap (λ (xs : List Ending). get_or xs n Done) pushed ∙ get_or_push es e Done n count)) last)
