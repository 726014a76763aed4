-- A run of threads is a schedule: that of its events, with evictions made at once.
use Rattle.std.proofs.Common.{◌≡◌, ℕ, ◌+◌, ◌≤◌, ◌<◌, ◌⊎◌, inl, inr, List, [], ◌∷◌, ◌++◌, length, map, get_or, set, true, false, sym, ◌∙◌, ap, subst, arith}
use Rattle.std.specs.Int.{bit_at}
use Rattle.std.specs.List.{AllByRecursion as Each}
use Rattle.std.proofs.lemmas.Bool.{cases_eq}
use Rattle.std.proofs.lemmas.List.{append-nil}
use Rattle.std.proofs.lemmas.Nat.Bits.{bit_at-lt}
use Rattle.of_core.specs.Table.{Setup, words_before_members, durable_at, durable_word}
use Rattle.of_core.specs.Machine.{CallState, no_machine}
use Rattle.of_core.specs.TableMoment.{Moment, TableStart}
use Rattle.of_core.specs.Events.{Event, AllReplaceNone}
use Rattle.of_core.specs.Claim.{IsSound}
use Rattle.of_core.specs.Laws.{EveryMomentIsSound, EveryOrder}
use Rattle.of_core.specs.Linear.{IsDurablyLinearizable}
use Rattle.of_row.specs.Views.{KnownCaller, View}
use Rattle.of_row.specs.Rule.{members_of, IsRaised, IsCallerKept, ViewFits, ViewMeetsRule, KeepsAll}
use Rattle.of_row.specs.RowLaws.{RowLaws}
use Rattle.of_row.specs.Trail.{first_of, moment, at_once, revival_count, IsRunBy}
use Rattle.of_row.specs.Runs.{HasNoLoss, HasRun}
use Rattle.of_row.proofs.AtOnce.{Follows, lifted_done, at_once_follows, operations_at_once, turns_at_once, revivals_at_once, prompt_at_once, evicts_loaded}
use Rattle.of_row.proofs.Events.{none_replaced}
use Rattle.of_row.proofs.Fronts.{each_map}
use Rattle.of_row.proofs.RowLaws.{word_at, room_of}
use Rattle.of_row.proofs.Wholes.{sees_whole, evictions_raised}

-- the machine of a kept caller without a loss was never replaced
kept_unreplaced : (S : Setup) (B : TableStart) (es : List Event) (n : ℕ) (xs : List KnownCaller) → IsCallerKept n xs → Each HasNoLoss xs → Each (IsRunBy S B es) xs → revival_count n es ≡ 0
kept_unreplaced S B es n [] q a b = absurd q
kept_unreplaced S B es n (x ∷ xs) (inl q) a b = subst (λ (k : ℕ). revival_count k es ≡ 0) q (sym b.0.told.lost ∙ a.0)
kept_unreplaced S B es n (x ∷ xs) (inr q) a b = kept_unreplaced S B es n xs q a.1 b.1

pub runs_are_schedules : (S : Setup) (L : List ℕ → Type 0) → RowLaws S L → (B : TableStart) (ws : List ℕ) (v : View) → ViewMeetsRule S L B ws v → v.spent ≡ false → v.first ≡ true → v.loaded ≡ [] → KeepsAll S ws v → Each HasNoLoss v.kept → (es : List Event) × HasRun S L B ws v es
runs_are_schedules S L laws B ws v m live first none all unlost = (
  at_once es,
  record {
    from = m.rule.from;
    schedule = same.schedule;
    prompt = prompt_at_once es m.rule.steps stay;
    room = ap length (sym m.words) ∙ room_of S L laws B m.state m.rule;
    words = ap (λ (z : List ℕ). set z (words_before_members S) 0) (sym m.words) ∙ (m.rule.words ∙ sym unraised);
    batches = sees_whole S L laws B ws v m live all ∙ same.alike.batches;
    callers = each_map (IsRunBy S B es) (IsRunBy S B (at_once es)) v.kept run_at_once fits.runs;
    others = λ n b off.
        let h = m.rule.free n b (ap (λ (z : List ℕ). bit_at (members_of S z) n) m.words ∙ off) in
        (operations_at_once es n ∙ h.0, turns_at_once es n ∙ h.1, revivals_at_once es n ∙ h.2);
    evicted = ap (map (λ (e : ℕ × ℕ). e.0)) evicted ∙ evicts_loaded S (first_of S B) es m.rule.steps;
    raised = evictions_raised S L B ws v m live;
  },
)
  where
    es : List Event
    es = m.rule.events

    W : Moment
    W = moment S B m.rule.events

    fits : ViewFits S B m.state.words m.rule.events m.rule.home m.rule.chief m.seat v
    fits = m.rule.each m.seat v m.view live

    -- no machine was replaced: neither that of a caller that is kept, nor one of a free number
    unreplaced : (i : ℕ) → i < S.callers → revival_count i m.rule.events ≡ 0
    unreplaced i low = go (cases_eq (bit_at (members_of S ws) i) 1)
      where
        go : (bit_at (members_of S ws) i ≡ 1) ⊎ (bit_at (members_of S ws) i ≡ 1 → ⊥) → revival_count i m.rule.events ≡ 0
        go (inl on) = kept_unreplaced S B m.rule.events i v.kept (all i on) unlost fits.runs
        go (inr off) =
            let b = bit_at-lt (members_of S ws) i in
            let zero : bit_at (members_of S m.state.words) i ≡ 0 = ap (λ (z : List ℕ). bit_at (members_of S z) i) m.words ∙ omega (arith, b, off) in
            (m.rule.free i low zero).2

    stay : AllReplaceNone m.rule.events
    stay = none_replaced S (first_of S B) m.rule.events m.rule.schedule unreplaced

    same : Follows S (first_of S B) (first_of S B) m.rule.events (at_once m.rule.events)
    same = at_once_follows S L laws B m.rule.from m.rule.events stay m.rule.schedule

    words : (c : ℕ) → c < words_before_members S → get_or ws c 0 ≡ get_or (moment S B m.rule.events).words c 0
    words c low = ap (λ (z : List ℕ). get_or z c 0) (sym m.words) ∙ word_at S L B m.state m.rule c low

    -- all evictions are the pass's, and each is raised
    evicted : v.evicted ≡ (moment S B m.rule.events).loaded
    evicted = sym (append-nil v.evicted) ∙ (ap (λ (l : List (ℕ × ℕ)). v.evicted ++ l) (sym none) ∙ (fits.first first).evicts)

    raised : Each (λ (e : ℕ × ℕ). e.1 ≤ durable_word S (moment S B m.rule.events).words e.0) (moment S B m.rule.events).loaded
    raised = subst (Each (λ (e : ℕ × ℕ). e.1 ≤ durable_word S (moment S B m.rule.events).words e.0)) evicted
        (each_map (IsRaised S ws) (λ (e : ℕ × ℕ). e.1 ≤ durable_word S (moment S B m.rule.events).words e.0) v.evicted
        (λ e q. let at = words (durable_at S e.0) (omega (arith, q.0)) in omega (arith, q.1, at)) (evictions_raised S L B ws v m live))

    -- so nothing is left to be raised
    unraised : (moment S B (at_once m.rule.events)).words ≡ (moment S B m.rule.events).words
    unraised = same.alike.words ∙ lifted_done S (moment S B m.rule.events).loaded (moment S B m.rule.events).words raised

    run_at_once : (x : KnownCaller) → IsRunBy S B m.rule.events x → IsRunBy S B (at_once m.rule.events) x
    run_at_once x r =
        let i : ℕ = x.machine.caller in
        record {
          told = record {
            begun = r.told.begun ∙ sym (operations_at_once es i);
            ended = r.told.ended ∙ sym (same.ended i);
            turned = r.told.turned ∙ sym (turns_at_once es i);
            lost = r.told.lost ∙ sym (revivals_at_once es i);
            busy = λ q. same.busy i (r.told.busy q);
          };
          machine_is = ap (λ (ms : List CallState). get_or ms i no_machine) (sym same.alike.machines) ∙ r.machine_is;
        }

-- what holds of every schedule holds of it
pub runs_are_linearizable : (S : Setup) (L : List ℕ → Type 0) → EveryMomentIsSound S L → EveryOrder S L → (B : TableStart) (ws : List ℕ) (v : View) (es : List Event) → HasRun S L B ws v es → IsSound S B (moment S B es) × IsDurablyLinearizable S B (first_of S B) es
runs_are_linearizable S L moments orders B ws v es h = (moments B h.from (words_before_members S + 1) (omega arith) es h.schedule, orders B h.from (words_before_members S + 1) (omega arith) es h.schedule)
