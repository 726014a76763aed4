-- What follows from the rule of a row.
use Rattle.std.specs.Prelude.{◌≡◌, ◌≤◌, ◌<◌, ◌+◌, ℕ, List, length, map, false}
use Rattle.std.specs.List.{AllByRecursion as Each}
use Rattle.of_cell.specs.declared.word.TheConstants.{PAYLOADS}
use Rattle.of_mem.specs.Meaning.{Meaning}
use Rattle.of_core.specs.Table.{Setup}
use Rattle.of_core.specs.TableMoment.{TableStart}
use Rattle.of_core.specs.Machine.{CallState, idle_machine, begin_call}
use Rattle.of_core.specs.declared.place.Place.TheVariants.{Idle}
use Rattle.of_core.specs.MachineValue.{Machine, machine_setup}
use Rattle.of_row.specs.declared.member.Member.{Member}
use Rattle.of_row.specs.declared.member.Pass.{Pass}
use Rattle.of_row.specs.declared.row.Row.{Row}
use Rattle.of_row.specs.Views.{View, seen_batch}
use Rattle.of_row.specs.Trail.{moment}
use Rattle.of_row.specs.Rule.{KeepsOwn, IsLegalFront, IsRaised, ViewMeetsRule, KeepsAll}
use Rattle.of_row.specs.Rows.{key_of, IsRowMember, RunsOnRow, IsMemberOf, HasNoCall}
use Rattle.of_row.specs.Rows.{number_of_member, calls_of_member}
use Rattle.of_row.specs.Passes.{HasEnrolled}

-- if a view isn't spent and keeps a caller of every number that is taken, it has seen the whole
-- history
abbrev pub SeesWholeHistory : (List ℕ → Type 0) → Setup → Type 0
SeesWholeHistory Lawful S =
    (B : TableStart) (ws : List ℕ) (v : View) (m : ViewMeetsRule S Lawful B ws v)
    → v.spent ≡ false → KeepsAll S ws v → v.seen ≡ map seen_batch (moment S B m.rule.events).batches

-- What a view that isn't spent has seen agrees with each caller that the view keeps (`KeepsOwn`).
-- In the batches that it has seen, each call with this caller's number is one that the caller has
-- begun. These batches also show the outcome of each ended call of the caller.
abbrev pub SeesOwnCalls : (List ℕ → Type 0) → Setup → Type 0
SeesOwnCalls Lawful S =
    (B : TableStart) (ws : List ℕ) (v : View) → ViewMeetsRule S Lawful B ws v
    → v.spent ≡ false → KeepsOwn S B v

-- what a view that isn't spent has seen is a legal history
abbrev pub SeesLegal : (List ℕ → Type 0) → Setup → Type 0
SeesLegal Lawful S =
    (B : TableStart) (ws : List ℕ) (v : View) → ViewMeetsRule S Lawful B ws v
    → v.spent ≡ false → IsLegalFront S B v.seen

-- for each eviction that a view lists, the durable word of the cell is at least the word that the
-- eviction loaded
abbrev pub EvictionsAreRaised : (List ℕ → Type 0) → Type 0
EvictionsAreRaised Lawful =
    (S : Setup) (B : TableStart) (ws : List ℕ) (v : View) → ViewMeetsRule S Lawful B ws v
    → v.spent ≡ false → Each (IsRaised S ws) v.evicted

-- a member without an open call stands for a fresh machine of the member's number that has begun as
-- many calls as the member
abbrev pub MembersStandForFresh : {X : Type 0} → (X → Meaning) → Type 0
MembersStandForFresh {X} meaning =
    (member : Member) (m : Machine X) → HasNoCall member
    → m.call ≡ idle_machine (machine_setup meaning m) (number_of_member member)
    (calls_of_member member)
    → IsMemberOf meaning member m

-- a member that stands for an idle machine has no open call, and has begun as many calls as the
-- machine
abbrev pub IdleMembersHaveNoCall : {X : Type 0} → (X → Meaning) → Type 0
IdleMembersHaveNoCall {X} meaning =
    (member : Member) (m : Machine X) → IsMemberOf meaning member m → m.call.place ≡ Idle
    → HasNoCall member × (calls_of_member member ≡ m.call.made)

-- the number of a member is that of one of its row's callers
abbrev pub MemberInRange : {X : Type 0} → X → Type 0
MemberInRange {X} work =
    (row : Row X) (member : Member) → IsRowMember row member
    → number_of_member member < (key_of row).callers

-- a member that has just enrolled has no open call
abbrev pub NewMembersHaveNoCall : {X : Type 0} → (X → Meaning) → X → Type 0
NewMembersHaveNoCall {X} meaning work =
    (row : Row X) (n : ℕ) (before pass : Pass) (member : Member)
    → HasEnrolled meaning row n before member pass → HasNoCall member

-- if an idle machine for which a member stands begins a call, the member stands for the machine
-- with this call too
abbrev pub BegunMembersStand : {X : Type 0} → (X → Meaning) → X → Type 0
BegunMembersStand {X} meaning work =
    (member : Member) (m now : Machine X) (op : List ℕ) → IsMemberOf meaning member m
    → m.call.place ≡ Idle
    → 1 ≤ length op → length op ≤ (machine_setup meaning m).instrs → m.call.made + 1 < PAYLOADS
    → now ≡ record m { call = begin_call (machine_setup meaning m) m.call op }
    → IsMemberOf meaning member now

-- a machine with the row's work, sizes and limit runs on the row
abbrev pub NewMachinesRun : {X : Type 0} → X → Type 0
NewMachinesRun {X} work =
    (row : Row X) (m : Machine X) → m.work ≡ (key_of row).work → m.callers ≡ (key_of row).callers
    → m.cells ≡ (key_of row).cells → m.limit ≡ (key_of row).limit → RunsOnRow row m

-- a machine that runs on a row still runs on it if only its call has changed
abbrev pub MachinesKeepRunning : {X : Type 0} → X → Type 0
MachinesKeepRunning {X} work =
    (row : Row X) (m now : Machine X) (d : CallState) → RunsOnRow row m
    → now ≡ record m { call = d } → RunsOnRow row now
