-- One script more of a caller: answered, stopped or spent.
use Rattle.std.proofs.Common.{◌≡◌, ℕ, ◌+◌, ◌-◌, ◌<◌, ◌≤◌, Bool, List, [], ◌∷◌, ◌++◌, length, get_or, map, take, drop, refl, sym, ap, ◌∙◌, subst, arith, length-append}
use Rattle.std.proofs.lemmas.List.{append-nil, map-append, take_more, length-drop, get_or-drop}
use Rattle.of_mem.specs.declared.work.RawReply.{RawReply}
use Rattle.of_script.specs.declared.instr.Instr.{Instr}
use Rattle.of_plan.specs.declared.answer.Answer.{Answer}
use Rattle.of_plan.specs.declared.answer.Ending.TheVariants.{Done, Stopped, Spent as RanOut}
use Rattle.of_plan.specs.Plan.{Plan, scripts_of, bound_of}
use Rattle.of_core.specs.declared.place.Outcome.{Outcome}
use Rattle.of_core.specs.declared.place.Outcome.TheVariants.{Answered, Spent, Lost}
use Rattle.of_core.specs.Machine.{IsOpen}
use Rattle.of_core.specs.Turn.{IsIdle}
use Rattle.of_core.specs.Calls.{NoneSpent}
use Rattle.of_row.specs.Views.{EndedCall, KnownCaller}
use Rattle.of_row.specs.Runs.{HasNoLoss}
use Rattle.of_caller.specs.Tables.{operation_of}
use Rattle.of_caller.specs.Ends.{AreAnswers, TellsAnswer}
use Rattle.of_caller.specs.Teams.{script_operation_at, KeepsCaller}
use Rattle.of_caller.specs.Lanes.{HasAnsweredScripts}

-- ---- outcomes

none_more : (xs : List Outcome) (s : ℕ) (announced : Bool) (raw : RawReply) (steps : ℕ) → NoneSpent xs → NoneSpent (xs ++ Answered s announced raw steps ∷ [])
none_more [] s announced raw steps h = (tt, tt)
none_more (x ∷ xs) s announced raw steps h = (h.0, none_more xs s announced raw steps h.1)

told_more : (xs : List Outcome) (answers : List Answer) (s : ℕ) (announced : Bool) (raw : RawReply) (steps : ℕ) (a : Answer) → NoneSpent xs → AreAnswers xs answers → TellsAnswer (Answered s announced raw steps) a → AreAnswers (xs ++ Answered s announced raw steps ∷ []) (answers ++ a ∷ [])
told_more [] [] s announced raw steps a none told tells = (tells, tt)
told_more [] (b ∷ others) s announced raw steps a none told tells = absurd told
told_more (Answered t q r k ∷ xs) [] s announced raw steps a none told tells = absurd told
told_more (Answered t q r k ∷ xs) (b ∷ others) s announced raw steps a none told tells = (told.0, told_more xs others s announced raw steps a none.1 told.1 tells)
told_more (Spent t ∷ xs) answers s announced raw steps a none told tells = absurd none.0
told_more (Lost t ∷ xs) answers s announced raw steps a none told tells = absurd none.0

-- ---- scripts

module _ (p : Plan) (behind c : ℕ) where
  -- how many scripts there are to do
  abbrev rest : ℕ
  rest = length (scripts_of p c) - behind

  abbrev left : List (List Instr)
  left = drop behind (scripts_of p c)

  pub take_next : (i : ℕ) → i < rest → map operation_of (take (i + 1) left) ≡ map operation_of (take i left) ++ script_operation_at p c (behind + i) ∷ []
  take_next i lt =
      let long : length left ≡ rest = length-drop behind (scripts_of p c) in
      ap (map operation_of) (take_more left i [] (omega (arith, lt, long))) ∙ map-append operation_of (take i left) (get_or left i [] ∷ [])
      ∙ ap (λ (script : List Instr). map operation_of (take i left) ++ operation_of script ∷ []) (get_or-drop behind (scripts_of p c) i [])

  module _ (x : KnownCaller) (answers : List Answer) (i : ℕ) (g : HasAnsweredScripts p behind c x answers i) where
    -- the next script is the one behind those that are answered
    next_is : script_operation_at p c (behind + i) ≡ script_operation_at p c (behind + length answers)
    next_is = ap (λ (n : ℕ). script_operation_at p c (behind + n)) (sym g.count)

    -- all scripts are answered
    pub is_done : behind ≤ length (scripts_of p c) → i ≡ rest → KeepsCaller p behind c answers Done x
    is_done first all = record {
      calls = x.ended;
      beyond = [];
      ended = sym (append-nil x.ended);
      answered = g.answered;
      last = (omega (arith, first, all, g.count), g.idle, refl);
      unlost = g.unlost;
    }

    -- the brake denied the first step of the next call
    pub is_stopped_at_once : i < rest → KeepsCaller p behind c answers (Stopped 1) x
    is_stopped_at_once less = record {
      calls = x.ended;
      beyond = [];
      ended = sym (append-nil x.ended);
      answered = g.answered;
      last = (
        omega (arith, less, g.count),
        record { some = omega arith; within = omega arith; at_once = λ one. g.idle; open_call = λ more. absurd (omega (arith, more)) },
        refl,
      );
      unlost = g.unlost;
    }

    module _ (less : i < rest) (y : KnownCaller) (unlost : HasNoLoss y) where
      -- one script more is answered
      pub is_answered : (k : ℕ) (announced : Bool) (raw : RawReply) (steps : ℕ) (a : Answer) → IsIdle y.machine → y.ended ≡ x.ended ++ record { op = script_operation_at p c (behind + i); outcome = Answered k announced raw steps } ∷ [] → TellsAnswer (Answered k announced raw steps) a
          → HasAnsweredScripts p behind c y (answers ++ a ∷ []) (i + 1)
      is_answered k announced raw steps a idle kept tells =
          let e : EndedCall = record { op = script_operation_at p c (behind + i); outcome = Answered k announced raw steps } in
          let outs : map (λ (f : EndedCall). f.outcome) y.ended ≡ map (λ (f : EndedCall). f.outcome) x.ended ++ Answered k announced raw steps ∷ [] = ap (map (λ (f : EndedCall). f.outcome)) kept ∙ map-append (λ (f : EndedCall). f.outcome) x.ended (e ∷ []) in
          let count : length (answers ++ a ∷ []) ≡ i + 1 = length-append answers (a ∷ []) ∙ ap (λ (m : ℕ). m + 1) g.count in
          record {
            idle = idle;
            answered = record {
              few = omega (arith, count, less);
              scripts = ap (map (λ (f : EndedCall). f.op)) kept ∙ map-append (λ (f : EndedCall). f.op) x.ended (e ∷ [])
                  ∙ ap (λ (l : List (List ℕ)). l ++ script_operation_at p c (behind + i) ∷ []) (g.answered.scripts ∙ ap (λ (n : ℕ). map operation_of (take n left)) g.count)
                  ∙ sym (take_next i less) ∙ ap (λ (n : ℕ). map operation_of (take n left)) (sym count);
              none_spent = subst NoneSpent (sym outs) (none_more (map (λ (f : EndedCall). f.outcome) x.ended) k announced raw steps g.answered.none_spent);
              told = subst (λ (os : List Outcome). AreAnswers os (answers ++ a ∷ [])) (sym outs) (told_more (map (λ (f : EndedCall). f.outcome) x.ended) answers k announced raw steps a g.answered.none_spent g.answered.told tells);
            };
            count = count;
            unlost = unlost;
          }

      -- the next call is open, and the brake denied its next step
      pub is_stopped : (n : ℕ) → 0 < n → IsOpen y.machine.place → y.machine.op ≡ script_operation_at p c (behind + i) → y.machine.steps ≡ n → n < bound_of p → y.ended ≡ x.ended → KeepsCaller p behind c answers (Stopped (n + 1)) y
      is_stopped n some opened op steps within kept = record {
        calls = x.ended;
        beyond = [];
        ended = kept ∙ sym (append-nil x.ended);
        answered = g.answered;
        last = (
          omega (arith, less, g.count),
          record {
            some = omega arith;
            within = omega (arith, within);
            at_once = λ one. absurd (omega (arith, one, some));
            open_call = λ more. (opened, op ∙ next_is, omega (arith, steps));
          },
          refl,
        );
        unlost = unlost;
      }

      -- no sequence was left for the next call
      pub is_spent_now : (k : ℕ) → IsIdle y.machine → y.ended ≡ x.ended ++ record { op = script_operation_at p c (behind + i); outcome = Spent k } ∷ [] → KeepsCaller p behind c answers (RanOut k) y
      is_spent_now k idle kept = record {
        calls = x.ended;
        beyond = record { op = script_operation_at p c (behind + i); outcome = Spent k } ∷ [];
        ended = kept;
        answered = g.answered;
        last = (omega (arith, less, g.count), idle, ap (λ (op : List ℕ). record { op = op; outcome = Spent k } ∷ []) next_is);
        unlost = unlost;
      }
