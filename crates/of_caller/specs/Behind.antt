-- Real time between two callers, as far as they have heard of each other. If a caller has heard of
-- an answer when it begins a call, this call comes after the answered one in the history, and the
-- call's begin comes after the answer among the events.
use Rattle.std.specs.Prelude.{ℕ, ◌<◌, List, length, Result, Ok, Err}
use Rattle.std.proofs.Common.{zero, suc}
use mathlib.Core.List.{IsPrefix}
use Rattle.of_mem.specs.Meaning.{Meaning}
use Rattle.of_core.specs.declared.place.Outcome.{Outcome}
use Rattle.of_core.specs.Machine.{CallState}
use Rattle.of_core.specs.Turn.{IsIdle}
use Rattle.of_core.specs.Events.{Event}
use Rattle.of_core.specs.Calls.{outcome_seq, IsNotBefore}
use Rattle.of_core.specs.Linear.{CallEndsBefore}
use Rattle.of_row.specs.declared.row.Row.{Row}
use Rattle.of_row.specs.Rows.{setup_at, row_start, HasNoCall}
use Rattle.of_row.specs.Trail.{first_of}
use Rattle.of_caller.specs.declared.caller.Caller.{Caller}
use Rattle.of_caller.specs.declared.caller.CallErr.{CallErr}
use Rattle.of_caller.specs.declared.caller.CallErr.TheVariants.{Stopped}
use Rattle.of_caller.specs.Callers.{caller_call, member_of, sight_of}
use Rattle.of_caller.specs.CallsTold.{TellsCallOf}

-- the second caller has seen every batch that the first one has seen
abbrev pub HasHeard : {W : Type 0} → (told hearer : Caller W) → Type 0
HasHeard a b = IsPrefix (sight_of a).seen (sight_of b).seen

-- The open call m of caller b is answered with p, and leaves the caller as b'. Before that the call
-- is stopped `stops` times, and goes on each time.
abbrev pub IsAnsweredAfter : {W : Type 0} → (W → Meaning) → (W → List ℕ → Type 0) → Row W
    → (stops : ℕ) → (m : CallState) → (b b' : Caller W) → Outcome → Type 0
IsAnsweredAfter {W} meaning lawful row zero m b b' p =
    (s : ℕ) × (t : ℕ) × TellsCallOf meaning lawful row m b b' s t (Ok p)
IsAnsweredAfter {W} meaning lawful row (suc stops) m b b' p =
    (c : Caller W) × (s : ℕ) × (t : ℕ) × (asked : ℕ)
    × TellsCallOf meaning lawful row m b c s t (Err (Stopped asked))
    × IsAnsweredAfter meaning lawful row stops (caller_call c) c b' p

-- A call of caller a was answered with o and left the caller as a'. Caller b has then seen all that
-- a' had seen, and begins a call that is answered with p, at once or after stops. So p comes after
-- o: at a higher sequence if it was announced, and at no lower one if it was a read.
abbrev pub ComesBehind : {W : Type 0} → (W → Meaning) → (W → List ℕ → Type 0) → Type 0
ComesBehind {W} meaning lawful =
    (row : Row W) (m n : CallState) (a a' b b' : Caller W) (s t stops : ℕ) (o p : Outcome)
    → TellsCallOf meaning lawful row m a a' s t (Ok o)
    → HasHeard a' b → HasNoCall (member_of b)
    → IsAnsweredAfter meaning lawful row stops n b b' p
    → IsNotBefore (outcome_seq o) p

-- the events that the second caller knows begin with all events that the first one knows
abbrev pub HasFollowed : {W : Type 0} → (told hearer : Caller W) → Type 0
HasFollowed a b = IsPrefix (sight_of a).past (sight_of b).past

-- A call of caller a has ended and left the caller as a'. Caller b has then learnt all that a'
-- knew, and has made a step of its next call. In each list of events that begins with the events
-- that b' knows, the call of a has ended before the call of b begins.
abbrev pub EndsFirst : {W : Type 0} → (W → Meaning) → (W → List ℕ → Type 0) → Type 0
EndsFirst {W} meaning lawful =
    (row : Row W) (m n : CallState) (a a' b b' : Caller W) (s t p q : ℕ)
    (r result : Result Outcome CallErr)
    → (first : TellsCallOf meaning lawful row m a a' s t r) → IsIdle (caller_call a')
    → HasFollowed a' b → HasNoCall (member_of b)
    → (second : TellsCallOf meaning lawful row n b b' p q result) → 0 < second.steps
    → (es : List Event) → IsPrefix (sight_of b').past es
    → CallEndsBefore (setup_at meaning row)
    (first_of (setup_at meaning row) (row_start meaning row)) es
    m.caller (length first.before.ended) n.caller (length second.before.ended)
