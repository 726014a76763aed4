-- The laws of new machines that take the places of lost ones.
use Rattle.std.specs.Prelude.{ℕ, List, true, false, ◌≡◌, ◌≤◌, ◌<◌}
use Rattle.std.specs.List.{All}
use Rattle.of_cell.specs.Words.{seq_of}
use Rattle.of_core.specs.Table.{Setup, request_of, announcement_of, committed_seq}
use Rattle.of_core.specs.Machine.{CallState}
use Rattle.of_core.specs.TableMoment.{Moment, TableStart, Read, after_step}
use Rattle.of_core.specs.History.{last_ticket_by}
use Rattle.of_core.specs.WordsMatch.{IsLastOpen}
use Rattle.of_core.specs.Order.{IsOlder}
use Rattle.of_core.specs.Facts.{ReadsFrom, rests_on_seq}
use Rattle.of_core.specs.declared.remains.Remains.{Remains}
use Rattle.of_core.specs.Invariant.{MeetsInvariant, MeetsCore}
use Rattle.of_core.specs.Events.{after_raise, machine_in}
use Rattle.of_core.specs.Laws.{EachStep, EachLoaded, KeepsOthersCalls}
use Rattle.of_core.specs.Remains.{remains_of, MayRevive, announces_open_call, revived_machine, CountsOn, after_revival}

-- the law holds of each caller whose machine may be replaced, and of each number of calls that the
-- new machine is given
abbrev pub EachRevival : Setup → (List ℕ → Type 0)
    → (TableStart → Moment → (i made : ℕ) → Type 0) → Type 0
EachRevival S Lawful Law =
    (B : TableStart) (w : Moment) → MeetsInvariant S Lawful B w
    → (i made : ℕ) → i < S.callers → MayRevive (remains_of S w.words i) i → Law B w i made

-- the answered reads of caller i are older than the open call of the machine d or, if d is idle, no
-- newer than its last call
abbrev pub HasOlderReads : Moment → ℕ → CallState → Type 0
HasOlderReads w i d = All (λ (r : Read). r.caller ≡ i → IsOlder d d.place r) w.reads

-- the new machine's number of calls is large enough for the caller's answered reads
abbrev pub CountsReads : Setup → Moment → (i made : ℕ) → Type 0
CountsReads S w i made = HasOlderReads w i (revived_machine S (remains_of S w.words i) i made)

-- a new machine works at no sequence yet, and no try of it has read a state
abbrev pub RevivedRestOnNothing : Setup → Type 0
RevivedRestOnNothing S = (r : Remains) (i made : ℕ) →
    let d : CallState = revived_machine S r i made in
    (rests_on_seq d ≡ 0) × ((low : ℕ) → ReadsFrom low d)

-- a new machine keeps what the invariant says of words, history and machines, whatever number of
-- calls it is given
abbrev pub RevivalsKeepCore : Setup → (List ℕ → Type 0) → Type 0
RevivalsKeepCore S Lawful =
    EachRevival S Lawful (λ B w i made. MeetsCore S Lawful B (after_revival S i made w))

-- a new machine keeps the whole invariant if its number of calls is large enough for the answered
-- reads
abbrev pub RevivalsKeepInvariant : Setup → (List ℕ → Type 0) → Type 0
RevivalsKeepInvariant S Lawful = EachRevival S Lawful (λ B w i made.
    CountsReads S w i made → MeetsInvariant S Lawful B (after_revival S i made w))

-- below the limit, a new machine that goes on with an announced call has a number of calls that is
-- large enough for the answered reads: it is the announced ticket
abbrev pub OpenCallsCountReads : Setup → (List ℕ → Type 0) → Type 0
OpenCallsCountReads S Lawful = EachRevival S Lawful (λ B w i made.
    announces_open_call (remains_of S w.words i) ≡ true → committed_seq w.words < S.limit
    → CountsReads S w i made)

-- below the limit, a new machine that is given the number of calls of the lost one has begun as
-- many calls, and has an open call only if the lost one had an open call
abbrev pub RevivalsCountOn : Setup → (List ℕ → Type 0) → Type 0
RevivalsCountOn S Lawful = EachRevival S Lawful (λ B w i made.
    let m : CallState = machine_in w i in
    made ≡ m.made → committed_seq w.words < S.limit
    → CountsOn m (revived_machine S (remains_of S w.words i) i made))

-- A new machine is idle only if the announced call has run. If no transaction is open, the call
-- with which a new machine goes on has not run.
abbrev pub RevivalsMissNoCall : Setup → (List ℕ → Type 0) → Type 0
RevivalsMissNoCall S Lawful = EachRevival S Lawful (λ B w i made.
    let ticket : ℕ = seq_of (announcement_of S w.words i) in
    let ran : ℕ = last_ticket_by S B w.batches (committed_seq w.words) i in
    (announces_open_call (remains_of S w.words i) ≡ false → ticket ≤ ran)
    × (announces_open_call (remains_of S w.words i) ≡ true
    → (IsLastOpen B w.words → ⊥) → ran < ticket))

-- a new machine whose number of calls is large enough for its caller's answered reads changes no
-- other caller's calls
abbrev pub RevivalsKeepOthers : Setup → (List ℕ → Type 0) → Type 0
RevivalsKeepOthers S Lawful = EachRevival S Lawful (λ B w i made.
    CountsReads S w i made → KeepsOthersCalls S B i w (after_revival S i made w))

-- if the machine of a caller may be replaced, it may still be replaced after each step of another
-- caller
abbrev pub StepsLeaveRevivable : Setup → (List ℕ → Type 0) → Type 0
StepsLeaveRevivable S Lawful = EachStep S Lawful (λ B w j m n.
    (i : ℕ) → i < S.callers → (i ≡ j → ⊥) → MayRevive (remains_of S w.words i) i
    → MayRevive (remains_of S (after_step S j m n w).words i) i)

-- if the machine of a caller may be replaced, a step of another caller leaves the caller's request
-- as it is
abbrev pub StepsKeepRequest : Setup → (List ℕ → Type 0) → Type 0
StepsKeepRequest S Lawful = EachStep S Lawful (λ B w j m n.
    (i : ℕ) → i < S.callers → (i ≡ j → ⊥) → MayRevive (remains_of S w.words i) i
    → request_of (after_step S j m n w).words i ≡ request_of w.words i)

-- if the machine of a caller may be replaced, it may still be replaced after an eviction raises a
-- word that was loaded before
abbrev pub RaisesLeaveRevivable : Setup → (List ℕ → Type 0) → Type 0
RaisesLeaveRevivable S Lawful = EachLoaded S Lawful (λ B w e.
    (i : ℕ) → i < S.callers → MayRevive (remains_of S w.words i) i
    → MayRevive (remains_of S (after_raise S w e).words i) i)
