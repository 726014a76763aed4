-- A row of a work, the callers that serve it, and a pass that enrols them.
use Rattle.std.specs.Prelude.{◌≡◌, ℕ, ◌+◌, ◌<◌, ◌≤◌, ◌⊎◌, List, [], ◌∷◌, length, map, Option, Some, None}
use Rattle.std.proofs.Common.{get_or}
use mathlib.Core.List.{IsPrefix}
use Rattle.of_cell.specs.Words.{payload_of}
use Rattle.of_cell.specs.Cells.{durable_cells}
use Rattle.of_mem.specs.Meaning.{Meaning}
use Rattle.of_mem.specs.Places.{ticket_cell_at}
use Rattle.of_mem.specs.declared.work.TheConstants.{MOST_INSTRS}
use Rattle.of_core.specs.Machine.{IsOpen, is_idle}
use Rattle.of_core.specs.Bound.{bound}
use Rattle.of_core.specs.Events.{Event}
use Rattle.of_core.specs.Touched.{IsWithinTouched}
use Rattle.of_core.specs.Turn.{IsIdle}
use Rattle.of_row.specs.declared.row.Row.{Row}
use Rattle.of_row.specs.declared.member.Pass.{Pass}
use Rattle.of_row.specs.Rows.{key_of, setup_at, row_start, view_of_pass, IsRowPass, IsFirstPass, KeepsNobody}
use Rattle.of_row.specs.Rule.{IsAsked, open_call_count}
use Rattle.of_row.specs.Views.{KnownCaller, EndedCall, last_caller}
use Rattle.of_caller.specs.declared.caller.Caller.{Caller}
use Rattle.of_caller.specs.Callers.{IsCaller, caller_call, calls_begun_by, sight_of}
use Rattle.of_cells.specs.Times.{calls_ended_in}

-- the numbers of the data cells with which the row started
abbrev pub cells_at_start : {W : Type 0} → (W → Meaning) → Row W → List ℕ
cells_at_start meaning r = map payload_of (row_start meaning r).cells

-- how many calls a caller had made before the row started: the number in its ticket cell
abbrev pub made_before : {W : Type 0} → (W → Meaning) → Row W → ℕ → ℕ
made_before M r n = payload_of (get_or (row_start M r).cells (ticket_cell_at MOST_INSTRS n) 0)

-- how many durable words the row has: one for each of its cells
abbrev pub durable_count : {W : Type 0} → Row W → ℕ
durable_count r = durable_cells (key_of r).callers (key_of r).cells

-- no call on the row makes more steps than this
abbrev pub row_step_bound : {W : Type 0} → (W → Meaning) → Row W → ℕ
row_step_bound meaning r = bound (setup_at meaning r)

-- the ended calls of the caller
abbrev pub ended_of : {W : Type 0} → Caller W → List EndedCall
ended_of c = (last_caller (sight_of c).kept).ended

-- The number of calls that were begun with the caller's number is the sum of three: those from
-- before the row's start, those that have ended since, and the open one, if there is one.
abbrev pub CountsCalls : {W : Type 0} → (W → Meaning) → Row W → ℕ → Caller W → Type 0
CountsCalls meaning r n c =
    calls_begun_by c
    ≡ made_before meaning r n + length (ended_of c)
    + open_call_count (is_idle (caller_call c).place)

-- the events of the row that the caller knows
abbrev pub events_known_to : {W : Type 0} → Caller W → List Event
events_known_to c = (sight_of c).past

-- how many atomic steps the calls of the caller have made on the row, however the calls ended
abbrev pub steps_made_by : {W : Type 0} → Caller W → ℕ
steps_made_by c = (last_caller (sight_of c).kept).turns

-- The count of steps of a caller's calls has risen from `before` to `now`, or has stayed. If it has
-- risen, a call of this operation that had made `made` steps before has kept to a bound on all its
-- steps. This bound depends on how many cells the operations of the work read and write.
abbrev pub RisesByTouch : {W : Type 0} → (W → Meaning) → (W → List ℕ → Type 0) → Row W
    → (op : List ℕ) → (made before now : ℕ) → Type 0
RisesByTouch meaning lawful r op made before now =
    (more : ℕ) → 0 < more → now ≡ before + more
    → IsWithinTouched (setup_at meaning r) (lawful (key_of r).work) op (made + more)

-- if the kept caller has an open call, this call has made a step
abbrev pub HasStartedIfOpen : KnownCaller → Type 0
HasStartedIfOpen x = IsOpen x.machine.place → 0 < x.machine.steps

-- The caller serves the row with this number. It counts its calls, knows that as many of them have
-- ended as it keeps, and an open call that it keeps has made a step.
pub record Serves {W : Type 0} (meaning : W → Meaning) (r : Row W) (n : ℕ) (c : Caller W)
    : Type 0 where
  pub caller : IsCaller meaning r c
  pub number : (caller_call c).caller ≡ n
  pub counts : CountsCalls meaning r n c
  pub told : length (ended_of c)
      ≤ calls_ended_in (setup_at meaning r) (row_start meaning r) (events_known_to c) n
  pub started : HasStartedIfOpen (last_caller (sight_of c).kept)

-- the caller has the same ended and open calls as before, and knows at least as much as before
pub record KnowsMore {W : Type 0} (before now : Caller W) : Type 0 where
  pub call : caller_call now ≡ caller_call before
  pub kept : (sight_of now).kept ≡ (sight_of before).kept
  pub past : IsPrefix (events_known_to before) (events_known_to now)

-- the caller still serves the number that it served
abbrev pub KeepsServing : {W : Type 0} → (W → Meaning) → Row W → (before now : Caller W) → Type 0
KeepsServing meaning r c d = (n : ℕ) → Serves meaning r n c → Serves meaning r n d

-- the caller serves the row with this number, and has begun no call on the row
pub record IsNew {W : Type 0} (meaning : W → Meaning) (r : Row W) (n : ℕ) (c : Caller W)
    : Type 0 where
  pub serves : Serves meaning r n c
  pub none : ended_of c ≡ []
  pub idle : IsIdle (caller_call c)

-- this is the row's first pass, and it has tried to enrol only numbers below `next`
pub record Enrols {W : Type 0} (r : Row W) (next : ℕ) (p : Pass) : Type 0 where
  pub row : IsRowPass r p
  pub first : IsFirstPass p
  pub below : (number : ℕ) → IsAsked number (view_of_pass p).asked → number < next

-- at each index below the count the list has a caller, and P holds of the index and this caller
abbrev pub AllStand : {C : Type 0} → (ℕ → C → Type 0) → ℕ → List (Option C) → Type 0
AllStand {C} P count cs =
    (n : ℕ) → n < count → (c : C) × (get_or cs n None ≡ Some c) × P n c

-- at each index below the count the list has a caller
abbrev pub AllHere : {C : Type 0} → List (Option C) → ℕ → Type 0
AllHere {C} cs count = (n : ℕ) → n < count → (c : C) × (get_or cs n None ≡ Some c)

-- each caller in the list serves the row with the number that is its index
abbrev pub ServeAll : {W : Type 0} → (W → Meaning) → Row W → List (Option (Caller W)) → Type 0
ServeAll {W} meaning r cs =
    (n : ℕ) (c : Caller W) → get_or cs n None ≡ Some c → Serves meaning r n c

-- the list has a caller of this number, and P holds of this caller
abbrev pub KeepsSo : (n : ℕ) → (KnownCaller → Type 0) → List KnownCaller → Type 0
KeepsSo n P [] = ⊥
KeepsSo n P (x ∷ xs) = ((x.machine.caller ≡ n) × P x) ⊎ KeepsSo n P xs

-- the kept caller x is this caller: x has the caller's ended calls, and an open call only if the
-- caller has it open
pub record IsKeptOf {W : Type 0} (c : Caller W) (x : KnownCaller) : Type 0 where
  pub ended : x.ended ≡ ended_of c
  pub open_call : IsOpen x.machine.place → x.machine ≡ caller_call c

-- each caller in the list, at an index below the count, is one of the kept callers: its number and
-- its calls are kept
abbrev pub KeepsThose : {W : Type 0} → List (Option (Caller W)) → (count : ℕ) → List KnownCaller
    → Type 0
KeepsThose {W} cs count xs =
    (n : ℕ) (c : Caller W) → n < count → get_or cs n None ≡ Some c → KeepsSo n (IsKeptOf c) xs

-- the list of events begins with the events that a caller knows, for each caller at an index below
-- the count
abbrev pub KnowsPasts : {W : Type 0} → List (Option (Caller W)) → (count : ℕ) → List Event → Type 0
KnowsPasts {W} cs count es =
    (n : ℕ) (c : Caller W) → n < count → get_or cs n None ≡ Some c → IsPrefix (events_known_to c) es

-- there is no pass, or it is a pass of the row that keeps no caller
abbrev pub IsKnowledge : {W : Type 0} → Row W → Option Pass → Type 0
IsKnowledge r None = Unit {0}
IsKnowledge r (Some p) = IsRowPass r p × KeepsNobody p

-- the events that the pass knows; none if there is no pass
abbrev pub events_in : Option Pass → List Event
events_in None = []
events_in (Some p) = (view_of_pass p).past
