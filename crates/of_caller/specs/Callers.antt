-- A caller of a row: what its member and its machine are.
use Rattle.std.specs.Prelude.{◌≡◌, ◌<◌, ℕ}
use Rattle.of_mem.specs.Meaning.{Meaning}
use Rattle.of_core.specs.Machine.{CallState, IsOpen}
use Rattle.of_core.specs.Bound.{bound}
use Rattle.of_core.specs.MachineValue.{machine_setup}
use Rattle.of_core.specs.Turn.{IsIdle}
use Rattle.of_row.specs.Views.{View}
use Rattle.of_row.specs.declared.member.Member.{Member}
use Rattle.of_row.specs.declared.row.Row.{Row}
use Rattle.of_row.specs.Rows.{key_of, IsRowMember, RunsOnRow, IsMemberOf, HasNoCall}
use Rattle.of_row.specs.Rows.{view_of_member, calls_of_member, caller_kept_by}
use Rattle.of_caller.specs.declared.caller.Caller.{Caller}

-- the member with which the caller makes its calls
abbrev pub member_of : {W : Type 0} → Caller W → Member
member_of c = c.member

-- what the caller's member knows
abbrev pub sight_of : {W : Type 0} → Caller W → View
sight_of c = view_of_member (member_of c)

-- how many loads the caller has made that are no step of a call
abbrev pub looks_made_by : {W : Type 0} → Caller W → ℕ
looks_made_by c = (sight_of c).looks

-- the caller's call, as its machine holds it: the open one, or the last one
abbrev pub caller_call : {W : Type 0} → Caller W → CallState
caller_call c = c.machine.call

-- how many calls of the caller's number were begun
abbrev pub calls_begun_by : {W : Type 0} → Caller W → ℕ
calls_begun_by c = (caller_call c).made

-- The caller's member and machine are of the row. The machine is the one that the member keeps, or
-- may take that one's place (`StandsForMachine`). There is room for the writes of a run. An open
-- call has fewer steps than the bound.
pub record IsCaller {W : Type 0} (meaning : W → Meaning) (r : Row W) (c : Caller W) : Type 0 where
  pub row : IsRowMember r (member_of c)
  pub machine : RunsOnRow r c.machine
  pub member : IsMemberOf meaning (member_of c) c.machine
  pub room : c.writes.room ≡ (key_of r).cells
  pub within : IsOpen (caller_call c).place
      → (caller_call c).steps < bound (machine_setup meaning c.machine)

-- the caller's machine is the one that its member keeps: its call, if one is open, has made a step
abbrev pub HoldsKeptMachine : {W : Type 0} → Caller W → Type 0
HoldsKeptMachine c = caller_call c ≡ (caller_kept_by (member_of c)).machine

-- if a caller of some row has no open call, the member m that it leaves has no open call either,
-- and m has made as many calls as the caller's number has begun
abbrev pub LeavesIdleMember : {W : Type 0} → (W → Meaning) → Caller W → Member → Type 0
LeavesIdleMember {W} meaning c m =
    (r : Row W) → IsCaller meaning r c → IsIdle (caller_call c)
    → HasNoCall m × (calls_of_member m ≡ calls_begun_by c)
