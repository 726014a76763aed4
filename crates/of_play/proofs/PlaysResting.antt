-- A caller that has no call open and begins no other: its turns change nothing.
use Rattle.std.proofs.Common.{◌≡◌, ℕ, zero, suc, ◌+◌, ◌-◌, ◌<◌, ◌≤◌, List, [], ◌∷◌, set, replicate, refl, sym, ◌∙◌, ap, subst, arith}
use Rattle.std.proofs.lemmas.List.{append-nil, set-get_or}
use Rattle.of_eval.specs.declared.scripts.Scripts.{Scripts}
use Rattle.of_eval.specs.Scripts.{scripts_meaning}
use Rattle.of_plan.specs.Plan.{Plan}
use Rattle.of_core.specs.declared.bank.Turn.TheVariants.{Idle as NoCall}
use Rattle.of_core.specs.declared.place.Place.{Place}
use Rattle.of_core.specs.declared.place.Place.TheVariants.{Idle}
use Rattle.of_core.specs.declared.place.Outcome.{Outcome}
use Rattle.of_core.specs.Table.{Setup}
use Rattle.of_core.specs.Machine.{CallState, no_machine}
use Rattle.of_core.specs.Steps.{want, want_at, take_word, take_word_at, with_step_counted, words_after, word_found}
use Rattle.of_core.specs.Turn.{turn_at}
use Rattle.of_core.specs.Moment.{Bank, bank_setup, bank_after, machine_of}
use Rattle.of_core.specs.Events.{Turns}
use Rattle.of_caller.specs.Ends.{AreAnswers}
use Rattle.of_play.specs.ScheduleRun.{NotesTurn, MakesMoves, BeginsNext, answers_in}
use Rattle.of_play.specs.declared.schedule_run.ScheduleRun.{ScheduleRun}
use Rattle.of_play.proofs.PlaysMoments.{IsPlayable}
use Rattle.of_play.proofs.PlaysMoves.{one_turn_more}
use Rattle.of_play.proofs.PlaysStand.{turn_goes_on}

idle_words : (S : Setup) (m : CallState) (ws : List ℕ) (q : Place) → Idle ≡ q → words_after (want_at S m q) ws ≡ ws
idle_words S m ws q e = subst (λ (r : Place). words_after (want_at S m r) ws ≡ ws) e (set-get_or ws 0 0)

idle_machine : (S : Setup) (m : CallState) (found : ℕ) (q : Place) → Idle ≡ q → take_word_at S (with_step_counted q m) found q ≡ m
idle_machine S m found q e = subst (λ (r : Place). take_word_at S (with_step_counted r m) found r ≡ m) e refl

-- a turn of an idle machine leaves a bank as it is
idle_after : (b : Bank Scripts) (c : ℕ) → (machine_of b c).place ≡ Idle → b ≡ bank_after scripts_meaning (Turns c ∷ []) b
unfolding take_word want
idle_after b c idle =
    let S : Setup = bank_setup scripts_meaning b in
    let m : CallState = machine_of b c in
    let found : ℕ = word_found S b.words m in
    let words = idle_words S m b.words m.place (sym idle) in
    let machines = ap (set b.machines c) (idle_machine S m found m.place (sym idle)) ∙ set-get_or b.machines c no_machine in
    λ i. record b { words = sym words i; machines = sym machines i }

idle_turn : (m : CallState) (q : Place) → Idle ≡ q → NoCall ≡ turn_at q m
idle_turn m q e = subst (λ (r : Place). NoCall ≡ turn_at r m) e refl

no_notes : (c : ℕ) (s : ScheduleRun) → NotesTurn c NoCall (record s { bank = s.bank }) s
no_notes c s = record {
  bank = refl;
  answers = refl;
  others = λ i n. refl;
  told = λ os told. subst (λ (xs : List Outcome). AreAnswers xs (answers_in s c)) (sym (append-nil os)) told;
}

-- a turn changes nothing
pub rests : (p : Plan) → IsPlayable p → (c : ℕ) → c < p.callers → (s : ScheduleRun) → (machine_of s.bank c).place ≡ Idle → BeginsNext p c s s → MakesMoves p (Turns c ∷ []) s s
rests p plan c h s idle begins =
    turn_goes_on p plan c h s s begins s.bank (idle_after s.bank c idle) NoCall (idle_turn (machine_of s.bank c) (machine_of s.bank c).place (sym idle)) s (no_notes c s)

rests_more : (p : Plan) (c n k : ℕ) (first s : ScheduleRun) → MakesMoves p (replicate n (Turns c)) first s → MakesMoves p (Turns c ∷ []) s s → MakesMoves p (replicate (n + k) (Turns c)) first s
rests_more p c n zero first s far still = subst (λ (m : ℕ). MakesMoves p (replicate m (Turns c)) first s) (let e : n ≡ n + 0 = omega arith in e) far
rests_more p c n (suc k) first s far still =
    subst (λ (m : ℕ). MakesMoves p (replicate m (Turns c)) first s) (let e : n + 1 + k ≡ n + suc k = omega arith in e)
    (rests_more p c (n + 1) k first s (one_turn_more p c n first s s far still) still)

-- nor do all that are left
pub rests_on : (p : Plan) (c n most : ℕ) (first s : ScheduleRun) → n ≤ most → MakesMoves p (replicate n (Turns c)) first s → MakesMoves p (Turns c ∷ []) s s → MakesMoves p (replicate most (Turns c)) first s
rests_on p c n most first s le far still =
    let k : ℕ = most - n in
    subst (λ (m : ℕ). MakesMoves p (replicate m (Turns c)) first s) (let e : n + k ≡ most = omega arith in e) (rests_more p c n k first s far still)
