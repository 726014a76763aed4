-- Turns of a caller in a row: steps of its call on the words, while all else stays.
use Rattle.std.proofs.Common.{◌≡◌, ℕ, zero, suc, ◌<◌, ◌≤◌, List, length, get_or, set, replicate, refl, sym, ◌∙◌, ap, subst, arith, length-set, add-one}
use Rattle.std.proofs.lemmas.List.{get_or-set_same, set-get_or, set-set, replicate_more}
use Rattle.of_cell.specs.declared.word.TheConstants.{PAYLOADS}
use Rattle.of_mem.specs.Meaning.{Meaning, IsSoundMeaning}
use Rattle.of_mem.specs.declared.work.TheConstants.{MOST_INSTRS}
use Rattle.of_core.specs.Table.{Setup, first_operation_cell}
use Rattle.of_core.specs.Machine.{CallState, no_machine}
use Rattle.of_core.specs.Steps.{want, take_word, word_found, words_after}
use Rattle.of_core.specs.TableMoment.{Moment, TableStart}
use Rattle.of_core.specs.Events.{Turns, machine_in, after_event, after_events}
use Rattle.of_core.specs.Moment.{Bank, IsReached, bank_after, bank_setup, machine_of, moment_of_bank}
use Rattle.of_core.specs.OwnSteps.{CallOnTable, MayGoOn, after_own_steps}
use Rattle.of_core.proofs.Benches.{run_push, turns, meets}

-- no step changes how many words there are
pub stay_long : (S : Setup) (n : ℕ) (x : CallOnTable) → length (after_own_steps S n x).words ≡ length x.words
stay_long S zero x = refl
stay_long S (suc n) x = length-set (after_own_steps S n x).words _ _ ∙ stay_long S n x

module _ (S : Setup) (i : ℕ) (ws : List ℕ) (ms : List CallState) (inside : i < length ms) where
  -- the caller's call on the words, after so many steps
  abbrev here : ℕ → CallOnTable
  here n = after_own_steps S n (record { call = get_or ms i no_machine; words = ws })

  -- and the machines then
  abbrev then : ℕ → List CallState
  then n = set ms i (here n).call

  at_first : then 0 ≡ ms
  at_first = set-get_or ms i no_machine

  its_own : (n : ℕ) → get_or (then n) i no_machine ≡ (here n).call
  its_own n = get_or-set_same ms i (here n).call no_machine inside

  module _ (Lawful : List ℕ → Type 0) (B : TableStart) (caller : i < S.callers) (r : IsReached S Lawful B ws ms) where
    -- the words and machines stay those of a moment
    pub stays_reached : (n : ℕ) → IsReached S Lawful B (here n).words (then n)
    stays_reached zero = subst (λ (xs : List CallState). IsReached S Lawful B ws xs) (sym at_first) r
    stays_reached (suc n) =
        subst (λ (xs : List CallState). IsReached S Lawful B (here (suc n)).words xs) (set-set ms i (here n).call (here (suc n)).call)
        (turns S Lawful B (here n).words (then n) (stays_reached n) i (here n).call (its_own n) caller)

    pub may_go_on : IsSoundMeaning S.meaning Lawful (first_operation_cell S) S.cells → 0 < S.callers → S.callers < PAYLOADS → first_operation_cell S ≤ S.cells → S.instrs ≤ MOST_INSTRS → S.cells < PAYLOADS → MayGoOn S Lawful (here 0)
    may_go_on sound some few own_in narrow little k =
        meets S Lawful sound some few own_in narrow little B (here k).words (then k) (stays_reached k) i (here k).call caller (omega (arith, inside, length-set ms i (here k).call)) (its_own k)

  -- what so many turns leave of a moment
  module _ (w : Moment) (words : w.words ≡ ws) (machines : w.machines ≡ ms) where
    pub leaves : (n : ℕ) → ((after_events S w (replicate n (Turns i))).words ≡ (here n).words) × ((after_events S w (replicate n (Turns i))).machines ≡ then n)
    leaves zero = (words, machines ∙ sym at_first)
    leaves (suc n) =
        let v = after_events S w (replicate n (Turns i)) in
        let last : after_events S w (replicate (suc n) (Turns i)) ≡ after_event S v (Turns i) =
        ap (after_events S w) (ap (λ (k : ℕ). replicate k (Turns i)) (sym (add-one n)) ∙ sym (replicate_more n (Turns i))) ∙ run_push S w (replicate n (Turns i)) (Turns i) in
        let before = leaves n in
        let call : machine_in v i ≡ (here n).call = ap (λ (xs : List CallState). get_or xs i no_machine) before.1 ∙ its_own n in (
          ap (λ (u : Moment). u.words) last ∙ ap (λ (m : CallState). words_after (want S m) v.words) call ∙ ap (words_after (want S (here n).call)) before.0,
          ap (λ (u : Moment). u.machines) last
              ∙ ap (λ (m : CallState). set v.machines i (take_word S m (word_found S v.words m))) call
              ∙ ap (λ (vs : List ℕ). set v.machines i (take_word S (here n).call (word_found S vs (here n).call))) before.0
              ∙ ap (λ (xs : List CallState). set xs i (here (suc n)).call) before.1
              ∙ set-set ms i (here n).call (here (suc n)).call,
        )

-- what so many turns leave of a bank
module _ {X : Type 0} (M : X → Meaning) (b : Bank X) (i : ℕ) (inside : i < length b.machines) where
  pub turned : (n : ℕ) → record b { words = (here (bank_setup M b) i b.words b.machines inside n).words; machines = then (bank_setup M b) i b.words b.machines inside n } ≡ bank_after M (replicate n (Turns i)) b
  turned n =
      let is = leaves (bank_setup M b) i b.words b.machines inside (moment_of_bank b) refl refl n in
      rw (is.0, is.1) refl

  -- and of its caller's call
  pub turned_call : (n : ℕ) → machine_of (bank_after M (replicate n (Turns i)) b) i ≡ (here (bank_setup M b) i b.words b.machines inside n).call
  turned_call n = ap (λ (x : Bank X). machine_of x i) (sym (turned n)) ∙ its_own (bank_setup M b) i b.words b.machines inside n
