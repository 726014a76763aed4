-- What the code notes of a turn that has ended a call.
use Rattle.std.proofs.Common.{◌≡◌, ℕ, ◌<◌, List, [], ◌∷◌, ◌++◌, length, get_or, set, map, sym, ◌∙◌, ap, subst, arith}
use Rattle.std.proofs.lemmas.List.{length-map, length-set, map-set, get_or-map, get_or-set_same, get_or-set_other}
use Rattle.of_plan.specs.declared.answer.Answer.{Answer}
use Rattle.of_core.specs.declared.bank.Turn.{Turn}
use Rattle.of_core.specs.declared.bank.Turn.TheVariants.{Ended}
use Rattle.of_core.specs.declared.place.Outcome.{Outcome}
use Rattle.of_core.specs.declared.place.Outcome.TheVariants.{Spent}
use Rattle.of_core.specs.Calls.{outcome_of_turn}
use Rattle.of_caller.specs.Ends.{TellsAnswer, AreAnswers}
use Rattle.of_play.specs.ScheduleRun.{answers_in, NotesTurn}
use Rattle.of_play.specs.declared.schedule_run.ScheduleRun.{ScheduleRun}
use Rattle.of_play.proofs.PlaysEvents.{answers_spent, answers_more}

module _ (c : ℕ) (turn : Turn) (s t : ScheduleRun) (bank : t.bank ≡ s.bank) where
  -- with an answer more
  pub notes_more : (o : Outcome) → turn ≡ Ended o → (a : Answer) → TellsAnswer o a → c < length s.answers.items → map (λ v. v.items) t.answers.items ≡ set (map (λ v. v.items) s.answers.items) c (answers_in s c ++ a ∷ []) → NotesTurn c turn s t
  notes_more o ends a tells l more = record {
    bank = bank;
    answers = sym (length-map t.answers.items (λ v. v.items)) ∙ ap length more ∙ length-set _ c _ ∙ length-map s.answers.items (λ v. v.items);
    others = λ i n. ap (λ (xs : List (List Answer)). get_or xs i []) more ∙ get_or-set_other _ c i _ [] n;
    told = λ os h. subst (AreAnswers (os ++ outcome_of_turn turn)) (sym (ap (λ (xs : List (List Answer)). get_or xs c []) more ∙ get_or-set_same _ c _ [] (omega (arith, l, length-map s.answers.items (λ v. v.items)))))
        (subst (λ (r : Turn). AreAnswers (os ++ outcome_of_turn r) (answers_in s c ++ a ∷ [])) (sym ends) (answers_more os (answers_in s c) o a h tells));
  }

  -- with none
  pub notes_spent : (q : ℕ) → turn ≡ Ended (Spent q) → t.answers.items ≡ s.answers.items → NotesTurn c turn s t
  notes_spent q ends same = record {
    bank = bank;
    answers = ap length same;
    others = λ i n. ap (λ (xs : List (List Answer)). get_or xs i []) (ap (map (λ v. v.items)) same);
    told = λ os h. subst (AreAnswers (os ++ outcome_of_turn turn)) (sym (ap (λ (xs : List (List Answer)). get_or xs c []) (ap (map (λ v. v.items)) same)))
        (subst (λ (r : Turn). AreAnswers (os ++ outcome_of_turn r) (answers_in s c)) (sym ends) (answers_spent os (answers_in s c) q h));
  }

-- a list of lists with one element more at a place
pub pushed_at : {A : Type 0} (items : A → List Answer) (vs : List A) (c : ℕ) (v w : A) (a : Answer) → c < length vs → v ≡ get_or vs c v → items w ≡ items v ++ a ∷ []
    → map items (set vs c w) ≡ set (map items vs) c (get_or (map items vs) c [] ++ a ∷ [])
pushed_at items vs c v w a l read more =
    map-set items vs c w ∙ ap (set (map items vs) c) (more ∙ ap (λ (xs : List Answer). xs ++ a ∷ []) (ap items read ∙ sym (get_or-map items vs c v [] l)))
