-- What is kept of a caller tells its record: its calls, its answers and its ending.
use Rattle.std.proofs.Common.{◌≡◌, ℕ, ◌+◌, ◌-◌, ◌<◌, ◌≤◌, inl, inr, Bool, false, List, [], ◌∷◌, ◌++◌, length, map, take, drop, Option, Some, None, refl, sym, ap, ◌∙◌, subst, arith}
use Rattle.std.proofs.lemmas.Bool.{cases_lt}
use Rattle.std.proofs.lemmas.List.{append-nil, map-append}
use Rattle.of_plan.specs.declared.answer.Answer.{Answer}
use Rattle.of_plan.specs.declared.answer.Ending.{Ending}
use Rattle.of_plan.specs.declared.answer.Ending.TheVariants.{Done, Stopped, Spent as RanOut}
use Rattle.of_plan.specs.Plan.{Plan, scripts_of, bound_of}
use Rattle.of_core.specs.declared.place.Outcome.{Outcome}
use Rattle.of_core.specs.declared.place.Outcome.TheVariants.{Answered, Spent, Lost}
use Rattle.of_core.specs.Machine.{IsOpen, is_idle}
use Rattle.of_core.specs.Turn.{IsIdle}
use Rattle.of_core.specs.Calls.{NoneSpent, last_outcome_or, last_outcome, total_steps}
use Rattle.of_row.specs.Views.{EndedCall, KnownCaller}
use Rattle.of_row.specs.Told.{open_operation, operations_known, outcomes_of}
use Rattle.of_caller.specs.Tables.{operation_of}
use Rattle.of_caller.specs.Ends.{AreAnswers, AnswersStandBeforeSpent, is_spent, ending_if_left}
use Rattle.of_caller.specs.Runs.{AreNextScripts, ending_of_calls}
use Rattle.of_caller.specs.Stops.{answer_steps, open_call_steps}
use Rattle.of_caller.specs.Teams.{script_operation_at, AreAnswered, IsStopped, KeepsLastCall, KeepsCaller}
use Rattle.of_caller.proofs.RecordsOwn.{done_at, halted_at, stopped_at}
use Rattle.of_caller.proofs.Answering.{take_next}

-- ---- outcomes

first_answers : (xs : List Outcome) → NoneSpent xs → AnswersStandBeforeSpent xs
first_answers [] none = tt
first_answers (Answered t q r k ∷ xs) none = first_answers xs none.1
first_answers (Spent t ∷ xs) none = absurd none.0
first_answers (Lost t ∷ xs) none = absurd none.0

first_then_spent : (xs : List Outcome) (s : ℕ) → NoneSpent xs → AnswersStandBeforeSpent (xs ++ Spent s ∷ [])
first_then_spent [] s none = tt
first_then_spent (Answered t q r k ∷ xs) s none = first_then_spent xs s none.1
first_then_spent (Spent t ∷ xs) s none = absurd none.0
first_then_spent (Lost t ∷ xs) s none = absurd none.0

told_then_spent : (xs : List Outcome) (answers : List Answer) (s : ℕ) → NoneSpent xs → AreAnswers xs answers → AreAnswers (xs ++ Spent s ∷ []) answers
told_then_spent [] [] s none told = tt
told_then_spent [] (b ∷ others) s none told = absurd told
told_then_spent (Answered t q r k ∷ xs) [] s none told = absurd told
told_then_spent (Answered t q r k ∷ xs) (b ∷ others) s none told = (told.0, told_then_spent xs others s none.1 told.1)
told_then_spent (Spent t ∷ xs) answers s none told = absurd none.0
told_then_spent (Lost t ∷ xs) answers s none told = absurd none.0

pub unspent : (xs : List Outcome) (before : Option Outcome) → is_spent before ≡ false → NoneSpent xs → is_spent (last_outcome_or before xs) ≡ false
unspent [] before is none = is
unspent (Answered t q r k ∷ xs) before is none = unspent xs (Some (Answered t q r k)) refl none.1
unspent (Spent t ∷ xs) before is none = absurd none.0
unspent (Lost t ∷ xs) before is none = absurd none.0

pub last_push : (xs : List Outcome) (before : Option Outcome) (o : Outcome) → last_outcome_or before (xs ++ o ∷ []) ≡ Some o
last_push [] before o = refl
last_push (x ∷ xs) before o = last_push xs (Some x) o

-- answers tell the steps that outcomes tell
pub told_steps : (outs : List Outcome) (answers : List Answer) → AreAnswers outs answers → answer_steps answers ≡ total_steps outs
told_steps [] [] told = refl
told_steps [] (a ∷ others) told = absurd told
told_steps (Answered s announced raw steps ∷ outs) [] told = absurd told
told_steps (Answered s announced raw steps ∷ outs) (a ∷ others) told = omega (arith, told_steps outs others told.1, told.0.3)
told_steps (Spent s ∷ outs) answers told = omega (arith, told_steps outs answers told)
told_steps (Lost s ∷ outs) answers told = absurd told

-- ---- what is kept

pub begun_idle : (x : KnownCaller) → IsIdle x.machine → operations_known x ≡ map (λ (e : EndedCall). e.op) x.ended
begun_idle x idle = ap (λ (b : Bool). map (λ (e : EndedCall). e.op) x.ended ++ open_operation x.machine b) (ap is_idle idle) ∙ append-nil (map (λ (e : EndedCall). e.op) x.ended)

begun_open : (x : KnownCaller) → IsOpen x.machine.place → operations_known x ≡ map (λ (e : EndedCall). e.op) x.ended ++ x.machine.op ∷ []
begun_open x opened = ap (λ (b : Bool). map (λ (e : EndedCall). e.op) x.ended ++ open_operation x.machine b) opened

-- what it tells of the record, where an idle machine counts no steps
pub record TellsRecord (p : Plan) (behind c : ℕ) (answers : List Answer) (ending : Ending) (x : KnownCaller) : Type 0 where
  pub scripts : AreNextScripts p behind c (operations_known x)
  pub answers_first : AnswersStandBeforeSpent (outcomes_of x)
  pub told : AreAnswers (outcomes_of x) answers
  pub ended : ending ≡ ending_of_calls (outcomes_of x) x.machine.steps (length (scripts_of p c) - behind) (length answers)
  -- the steps of its open call are those that the ending tells
  pub steps : x.machine.steps ≡ open_call_steps ending
  pub within : x.machine.steps < bound_of p

module _ (p : Plan) (behind c : ℕ) (answers : List Answer) (x : KnownCaller) (calls : List EndedCall) (a : AreAnswered p behind c calls answers) (rests : IsIdle x.machine → x.machine.steps ≡ 0) where
  abbrev rest : ℕ
  rest = length (scripts_of p c) - behind

  abbrev outs : List Outcome
  outs = map (λ (e : EndedCall). e.outcome) calls

  positive : 0 < bound_of p
  positive = omega arith

  -- nothing is kept beyond the answered calls
  outs_are : x.ended ≡ calls → outcomes_of x ≡ outs
  outs_are same = ap (map (λ (e : EndedCall). e.outcome)) same

  next_idle : x.ended ≡ calls → IsIdle x.machine → AreNextScripts p behind c (operations_known x)
  next_idle same idle = record { count = length answers; few = a.few; are = begun_idle x idle ∙ ap (map (λ (e : EndedCall). e.op)) same ∙ a.scripts }

  all_done : x.ended ≡ calls → behind + length answers ≡ length (scripts_of p c) → IsIdle x.machine → TellsRecord p behind c answers Done x
  all_done same all idle =
      let are = outs_are same in
      let none = rests idle in
      record {
        scripts = next_idle same idle;
        answers_first = subst AnswersStandBeforeSpent (sym are) (first_answers outs a.none_spent);
        told = subst (λ (os : List Outcome). AreAnswers os answers) (sym are) a.told;
        ended = sym (done_at (outcomes_of x) x.machine.steps rest (length answers) (omega (arith, all)));
        steps = none;
        within = omega (arith, none, positive);
      }

  -- a stopped caller's calls are all answered but for an open one
  stopped_then : (asked : ℕ) → x.ended ≡ calls → behind + length answers < length (scripts_of p c) → AreNextScripts p behind c (operations_known x) → x.machine.steps + 1 ≡ asked → asked ≤ bound_of p → TellsRecord p behind c answers (Stopped asked) x
  stopped_then asked same less next steps within =
      let are = outs_are same in
      record {
        scripts = next;
        answers_first = subst AnswersStandBeforeSpent (sym are) (first_answers outs a.none_spent);
        told = subst (λ (os : List Outcome). AreAnswers os answers) (sym are) a.told;
        ended = ap Stopped (sym steps)
            ∙ sym (halted_at (outcomes_of x) x.machine.steps rest (length answers) (λ all. absurd (omega (arith, all, less)))
            ∙ stopped_at (last_outcome (outcomes_of x)) x.machine.steps (ap (λ (os : List Outcome). is_spent (last_outcome os)) are ∙ unspent outs None refl a.none_spent));
        steps = omega (arith, steps);
        within = omega (arith, steps, within);
      }

  is_stopped : (asked : ℕ) → x.ended ≡ calls → behind + length answers < length (scripts_of p c) → IsStopped p (script_operation_at p c (behind + length answers)) asked x.machine → TellsRecord p behind c answers (Stopped asked) x
  is_stopped asked same less s = elim (cases_lt 1 asked) [
    | inl more ↦
        let at = s.open_call more in
        let next : operations_known x ≡ map operation_of (take (length answers + 1) (drop behind (scripts_of p c))) =
        begun_open x at.0 ∙ ap (λ (op : List ℕ). map (λ (e : EndedCall). e.op) x.ended ++ op ∷ []) at.1
        ∙ ap (λ (l : List (List ℕ)). l ++ script_operation_at p c (behind + length answers) ∷ []) (ap (map (λ (e : EndedCall). e.op)) same ∙ a.scripts)
        ∙ sym (take_next p behind c (length answers) (omega (arith, less))) in
        stopped_then asked same less (record { count = length answers + 1; few = omega (arith, less); are = next }) at.2 s.within
    | inr few ↦
        let one : asked ≡ 1 = omega (arith, few, s.some) in
        let idle = s.at_once one in
        stopped_then asked same less (next_idle same idle) (omega (arith, one, rests idle)) s.within
  ]

  is_spent_at : (s : ℕ) → x.ended ≡ calls ++ record { op = script_operation_at p c (behind + length answers); outcome = Spent s } ∷ [] → behind + length answers < length (scripts_of p c) → IsIdle x.machine → TellsRecord p behind c answers (RanOut s) x
  is_spent_at s same less idle =
      let e : EndedCall = record { op = script_operation_at p c (behind + length answers); outcome = Spent s } in
      let are : outcomes_of x ≡ outs ++ Spent s ∷ [] = ap (map (λ (f : EndedCall). f.outcome)) same ∙ map-append (λ (f : EndedCall). f.outcome) calls (e ∷ []) in
      let none = rests idle in
      record {
        scripts = record {
          count = length answers + 1;
          few = omega (arith, less);
          are = begun_idle x idle ∙ ap (map (λ (f : EndedCall). f.op)) same ∙ map-append (λ (f : EndedCall). f.op) calls (e ∷ [])
              ∙ ap (λ (l : List (List ℕ)). l ++ script_operation_at p c (behind + length answers) ∷ []) a.scripts ∙ sym (take_next p behind c (length answers) (omega (arith, less)));
        };
        answers_first = subst AnswersStandBeforeSpent (sym are) (first_then_spent outs s a.none_spent);
        told = subst (λ (os : List Outcome). AreAnswers os answers) (sym are) (told_then_spent outs answers s a.none_spent a.told);
        ended = sym (halted_at (outcomes_of x) x.machine.steps rest (length answers) (λ all. absurd (omega (arith, all, less)))
            ∙ ap (λ (o : Option Outcome). ending_if_left o x.machine.steps) (ap last_outcome are ∙ last_push outs None (Spent s)));
        steps = none;
        within = omega (arith, none, positive);
      }

  tells_by : (ending : Ending) (beyond : List EndedCall) → x.ended ≡ calls ++ beyond → KeepsLastCall p c (behind + length answers) (length (scripts_of p c)) x.machine beyond ending → TellsRecord p behind c answers ending x
  tells_by Done beyond same k = all_done (same ∙ ap (λ (l : List EndedCall). calls ++ l) k.2 ∙ append-nil calls) k.0 k.1
  tells_by (Stopped asked) beyond same k = is_stopped asked (same ∙ ap (λ (l : List EndedCall). calls ++ l) k.2 ∙ append-nil calls) k.0 k.1
  tells_by (RanOut s) beyond same k = is_spent_at s (same ∙ ap (λ (l : List EndedCall). calls ++ l) k.2) k.0 k.1

pub tells_record : (p : Plan) (behind c : ℕ) (answers : List Answer) (ending : Ending) (x : KnownCaller) → KeepsCaller p behind c answers ending x → (IsIdle x.machine → x.machine.steps ≡ 0) → TellsRecord p behind c answers ending x
tells_record p behind c answers ending x k rests = tells_by p behind c answers x k.calls k.answered rests ending k.beyond k.ended k.last
