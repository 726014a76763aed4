-- A call that begins when its caller has heard of an answer comes after that answer, and begins after it.
use Rattle.std.proofs.Common.{◌≡◌, ℕ, zero, suc, ◌+◌, ◌≤◌, ◌<◌, List, [], ◌∷◌, ◌++◌, length, take, map, Result, Ok, refl, sym, ◌∙◌, ap, subst, arith, Bool, true, false, Err}
use Rattle.std.proofs.lemmas.List.{length-append, length-map}
use Rattle.std.proofs.Math.Seq.{take-append_seam}
use mathlib.Core.List.{IsPrefix}
use Rattle.of_mem.specs.Meaning.{Meaning}
use Rattle.of_mem.proofs.Lists.{prefix_trans}
use Rattle.of_core.specs.declared.place.Outcome.{Outcome}
use Rattle.of_core.specs.declared.place.Outcome.TheVariants.{Answered, Spent, Lost}
use Rattle.of_core.specs.Table.{Setup}
use Rattle.of_core.specs.Machine.{CallState, is_idle}
use Rattle.of_core.specs.Turn.{IsIdle}
use Rattle.of_core.specs.Events.{Event, after_events}
use Rattle.of_core.specs.TableMoment.{Moment, TableStart, Batch}
use Rattle.of_core.specs.Calls.{operations_begun, outcomes, outcome_seq, IsNotBefore}
use Rattle.of_core.proofs.Parts.{outcomes_append}
use Rattle.of_row.specs.Views.{EndedCall, KnownCaller, View, last_caller, seen_seq, seen_history}
use Rattle.of_row.specs.Trail.{first_of, IsToldBy}
use Rattle.of_row.specs.Rule.{CallHasEnded}
use Rattle.of_row.specs.Turned.{since_after, since_by}
use Rattle.of_row.specs.Rows.{key_of, setup_at, row_start, HasNoCall}
use Rattle.of_row.specs.declared.row.Row.{Row}
use Rattle.of_caller.specs.declared.caller.Caller.{Caller}
use Rattle.of_caller.specs.declared.caller.CallErr.{CallErr}
use Rattle.of_caller.specs.declared.caller.CallErr.TheVariants.{Stopped, Spent as Over}
use Rattle.of_caller.specs.Callers.{caller_call, sight_of}
use Rattle.of_caller.specs.CallsTold.{TellsCallOf, HasEndedWith, TellsResult}
use Rattle.of_caller.specs.Behind.{IsAnsweredAfter, ComesBehind, EndsFirst}
use Rattle.of_caller.proofs.CallSteps.{same_kept}
use Rattle.of_caller.proofs.KeptCallers.{begun_idle}

-- no outcome is newer than what was seen
ended_low : (S : Setup) (B : TableStart) (bs : List Batch) (r i t : ℕ) (op : List ℕ) (o : Outcome) → CallHasEnded S B bs r i t op o → outcome_seq o ≤ r
ended_low S B bs r i t op (Answered s true raw steps) h = h.1
ended_low S B bs r i t op (Answered s false raw steps) h = h.1
ended_low S B bs r i t op (Spent s) h = h.1
ended_low S B bs r i t op (Lost s) h = h.1

higher : (low high : ℕ) (o : Outcome) → low ≤ high → IsNotBefore high o → IsNotBefore low o
higher low high (Answered s true raw steps) l h = omega arith
higher low high (Answered s false raw steps) l h = omega arith
higher low high (Spent s) l h = omega arith
higher low high (Lost s) l h = omega arith

prefix_short : {X : Type 0} (xs ys : List X) → IsPrefix xs ys → length xs ≤ length ys
prefix_short xs ys h = omega (arith, ap length h.1, length-append xs h.0)

-- what was seen when the open call of a member with this view began, or is seen now where none is open
abbrev began_at : TableStart → View → ℕ
began_at B v = since_after B v (last_caller v.kept)

kept_last : (B : TableStart) (v : View) (x : KnownCaller) → v.kept ≡ x ∷ [] → began_at B v ≡ since_after B v x
kept_last B v x k = ap (λ (xs : List KnownCaller). since_after B v (last_caller xs)) k

-- where no call was open the call begins at what is seen
begins_now : (B : TableStart) (v : View) → is_idle (last_caller v.kept).machine.place ≡ true → began_at B v ≡ seen_seq B v.seen
begins_now B v idle = ap (λ (b : Bool). since_by b (seen_seq B v.seen) (last_caller v.kept).since) idle

module _ {W : Type 0} (meaning : W → Meaning) (lawful : W → List ℕ → Type 0) (row : Row W) where
  abbrev B : TableStart
  B = row_start meaning row

  -- a stop leaves the call with what was seen when it began
  stop_keeps : (m : CallState) (b c : Caller W) (s t asked : ℕ) → TellsCallOf meaning lawful row m b c s t (Err (Stopped asked)) → began_at B (sight_of b) ≡ began_at B (sight_of c)
  stop_keeps m b c s t asked h = go h.steps refl
    where
      go : (n : ℕ) → h.steps ≡ n → began_at B (sight_of b) ≡ began_at B (sight_of c)
      go zero z = ap (began_at B) (sym (h.none z))
      go (suc n) z =
          let some : 0 < h.steps = omega (arith, z) in
          let opened : is_idle h.kept.machine.place ≡ false = ap (λ (d : CallState). is_idle d.place) (h.some some).machine ∙ h.result.0.open_call in
          kept_last B (sight_of b) h.before h.kept_before
          ∙ (sym (h.since some) ∙ (sym (ap (λ (z : Bool). since_by z (seen_seq B (sight_of c).seen) h.kept.since) opened) ∙ sym (kept_last B (sight_of c) h.kept h.kept_now)))

  -- so the answer comes after that, however often the call was stopped
  answer_beyond : (stops : ℕ) (m : CallState) (b b' : Caller W) (p : Outcome) → IsAnsweredAfter meaning lawful row stops m b b' p → IsNotBefore (began_at B (sight_of b)) p
  answer_beyond zero m b b' p h =
      let told = h.2 in
      subst (λ (x : ℕ). IsNotBefore x p) (sym (kept_last B (sight_of b) told.before told.kept_before)) told.result.1.beyond
  answer_beyond (suc stops) m b b' p h = subst (λ (x : ℕ). IsNotBefore x p) (sym (stop_keeps m b h.0 h.1 h.2 h.3 h.4)) (answer_beyond stops (caller_call h.0) h.0 b' p h.5)

pub comes_behind : {W : Type 0} (meaning : W → Meaning) (lawful : W → List ℕ → Type 0) → ComesBehind meaning lawful
comes_behind meaning lawful row m n a a' b b' s t stops o p told heard rest again =
    let S : Setup = setup_at meaning row in
    let B : TableStart = row_start meaning row in
    let low : outcome_seq o ≤ seen_seq B (sight_of a').seen = ended_low S B (seen_history (sight_of a').seen) (seen_seq B (sight_of a').seen) m.caller m.made m.op o told.result.1.stands in
    let beyond : IsNotBefore (seen_seq B (sight_of b).seen) p = subst (λ (x : ℕ). IsNotBefore x p) (begins_now B (sight_of b) (ap is_idle rest)) (answer_beyond meaning lawful row stops n b b' p again) in
    higher (outcome_seq o) (seen_seq B (sight_of b).seen) p (omega (arith, low, prefix_short (sight_of a').seen (sight_of b).seen heard)) beyond

-- ---- among the events

-- a call that left no call open has ended
closed_of : (S : Setup) (L : List ℕ → Type 0) (B : TableStart) (m : CallState) (v : View) (x : KnownCaller) (n : ℕ) (d : CallState) (w : View) (y : KnownCaller) (r : Result Outcome CallErr) → TellsResult S L B m v x n d w y r → IsIdle d → (o : Outcome) × HasEndedWith S L B m v x n d w y o
closed_of S L B m v x n d w y (Ok o) h idle = (o, h.1)
closed_of S L B m v x n d w y (Err (Stopped asked)) h idle = absurd (let z : true ≡ false = sym (ap is_idle idle) ∙ h.0.open_call in cc)
closed_of S L B m v x n d w y (Err (Over s)) h idle = (Spent s, h)

module _ {W : Type 0} (meaning : W → Meaning) (lawful : W → List ℕ → Type 0) (row : Row W) where
  abbrev S : Setup
  S = setup_at meaning row

  abbrev at_start : TableStart
  at_start = row_start meaning row

  abbrev first : Moment
  first = first_of S at_start

  -- the call that has ended is in the caller's past
  ended_in_past : (m : CallState) (a b : Caller W) (s t : ℕ) (r : Result Outcome CallErr) (told : TellsCallOf meaning lawful row m a b s t r) → IsIdle (caller_call b) → length told.before.ended < length (outcomes S first (sight_of b).past m.caller)
  ended_in_past m a b s t r told idle = omega (arith, many, all, length-map told.kept.ended (λ (e : EndedCall). e.outcome))
    where
      closed : (o : Outcome) × HasEndedWith S (lawful (key_of row).work) at_start m (sight_of a) told.before told.steps (caller_call b) (sight_of b) told.kept o
      closed = closed_of S (lawful (key_of row).work) at_start m (sight_of a) told.before told.steps (caller_call b) (sight_of b) told.kept r told.result idle

      last : EndedCall
      last = record { op = m.op; outcome = closed.0 }

      many : length told.kept.ended ≡ length told.before.ended + 1
      many = ap length closed.1.kept ∙ length-append told.before.ended (last ∷ [])

      some : 0 < told.steps
      some = go told.steps refl
        where
          go : (n : ℕ) → told.steps ≡ n → 0 < told.steps
          go zero none =
              let same : told.kept ≡ told.before = same_kept told.kept told.before (sym told.kept_now ∙ ap (λ (v : View). v.kept) (told.none none) ∙ told.kept_before) in
              absurd (omega (arith, many, ap (λ (x : KnownCaller). length x.ended) same))
          go (suc n) more = omega (arith, more)

      by_past : IsToldBy S at_start (sight_of b).past m.caller told.kept
      by_past = subst (λ (i : ℕ). IsToldBy S at_start (sight_of b).past i told.kept) told.caller (told.some some).told

      all : length (map (λ (e : EndedCall). e.outcome) told.kept.ended) ≡ length (outcomes S first (sight_of b).past m.caller)
      all = ap length by_past.ended

  -- and in each that begins with it
  pub ended_later : (es ds : List Event) (i : ℕ) → IsPrefix es ds → length (outcomes S first es i) ≤ length (outcomes S first ds i)
  ended_later es ds i p =
      let more = outcomes S (after_events S first es) p.0 i in
      let e : outcomes S first ds i ≡ outcomes S first es i ++ more = ap (λ (l : List Event). outcomes S first l i) (sym p.1) ∙ outcomes_append S first es p.0 i in
      omega (arith, ap length e, length-append (outcomes S first es i) more)

  -- before a caller with no open call makes a step, its past has only calls that have ended
  pub begun_in_past : (n : CallState) (b c : Caller W) (p q : ℕ) (r : Result Outcome CallErr) (told : TellsCallOf meaning lawful row n b c p q r) → HasNoCall b.member → 0 < told.steps → length (operations_begun (sight_of b).past n.caller) ≤ length told.before.ended
  begun_in_past n b c p q r told rest some =
      let idle : IsIdle told.before.machine = ap (λ (xs : List KnownCaller). (last_caller xs).machine.place) (sym told.kept_before) ∙ rest in
      omega (arith, told.behind some, ap length (begun_idle told.before idle), length-map told.before.ended (λ (e : EndedCall). e.op))

pub ends_first : {W : Type 0} (meaning : W → Meaning) (lawful : W → List ℕ → Type 0) → EndsFirst meaning lawful
ends_first meaning lawful row m n a a' b b' s t p q r result told idle followed rest next some es past =
    let S : Setup = setup_at meaning row in
    let first : Moment = first_of S (row_start meaning row) in
    let known : List Event = (sight_of b).past in
    let on : IsPrefix known es = prefix_trans known (sight_of b').past es next.past past in
    let cut : take (length known) es ≡ known = ap (take (length known)) (sym on.1) ∙ take-append_seam known on.0 in (
      length known,
      subst (λ (l : List Event). length told.before.ended < length (outcomes S first l m.caller)) (sym cut)
          (omega (arith, ended_in_past meaning lawful row m a a' s t r told idle, ended_later meaning lawful row (sight_of a').past known m.caller followed)),
      subst (λ (l : List Event). length (operations_begun l n.caller) ≤ length next.before.ended) (sym cut) (begun_in_past meaning lawful row n b b' p q result next rest some),
    )
