-- The rule of a door: its word says what is in the slot.
use Rattle.std.specs.Prelude.{◌≡◌, ◌≢◌, ℕ, ◌⊎◌, List, [], ◌∷◌, true, false, Option, Some, None}
use mathlib.Core.Option as maybe
use lib.ListN.{get_elem?}
use Rattle.atomic_table.specs.Table.{State, Me, rest}
use Rattle.of_row.specs.declared.member.Member.{Member}
use Rattle.of_row.specs.declared.row.Row.{Row}
use Rattle.of_row.specs.Rows.{number_of_member, IsRowMember, HasNoCall}
use Rattle.of_door.specs.Hands.{HandLog, log_after_exchange, after_store}

-- the member is one of this row, has this number, and has no open call
abbrev pub IsMemberAtDoor : {W : Type 0} → Row W → ℕ → Member → Type 0
IsMemberAtDoor r number m = IsRowMember r m × (number_of_member m ≡ number) × HasNoCall m

-- the member may be in a door of this row, if a row is given
abbrev pub IsMemberAtToldDoor : {W : Type 0} → Option (Row W) → ℕ → Member → Type 0
IsMemberAtToldDoor None number m = Unit {0}
IsMemberAtToldDoor (Some r) number m = IsMemberAtDoor r number m

-- x is what the slot of a door holds whose word is w: no member if w is 0, and a member that may be
-- here if w is 1
abbrev pub SlotHolds : (Member → Type 0) → (w : ℕ) → Option Member → Type 0
SlotHolds May w x = (w ≡ 0 → x ≡ None) × (w ≡ 1 → (m : Member) × (x ≡ Some m) × May m)

-- if the word is 0 or 1, the slot is in the table and holds what the word says; if it is 2, a hand
-- has taken the slot out
abbrev pub SlotMatchesWord : (Member → Type 0) → (w : ℕ) → List (maybe.Option (Option Member))
    → Type 0
SlotMatchesWord May w homes =
    ((w ≡ 0) × (homes ≡ maybe.some None ∷ []))
    ⊎ ((w ≡ 1) × ((m : Member) × May m × (homes ≡ maybe.some (Some m) ∷ [])))
    ⊎ ((w ≡ 2) × (homes ≡ maybe.none ∷ []))

-- The rule: the door has one word, and one slot that matches it. If a hand holds the slot, the word
-- is 2, and no other hand holds it.
pub record DoorMeetsRule (May : Member → Type 0) (s : State (Option Member) HandLog) : Type 0 where
  pub word : ℕ
  pub words : s.words ≡ word ∷ []
  pub home : SlotMatchesWord May word s.homes
  pub out : (j : ℕ) (v : HandLog) → get_elem? s.views j ≡ maybe.some v → v.holds ≡ true → word ≡ 2
  pub one : (j k : ℕ) (v w : HandLog) → get_elem? s.views j ≡ maybe.some v
      → get_elem? s.views k ≡ maybe.some w
      → v.holds ≡ true → w.holds ≡ true → j ≡ k

-- By an exchange of the word `old` for 2, a hand has found n. If n is `old`, the hand has got the
-- slot, which holds what the word `old` says. Otherwise only the hand's log has changed.
abbrev pub TakesSlot : (Member → Type 0) → (old : ℕ) → Me (Option Member) HandLog → (n : ℕ)
    → Me (Option Member) HandLog → Type 0
TakesSlot May old me n after =
    (n ≡ old → (x : Option Member) × SlotHolds May old x
    × (after ≡ (log_after_exchange n true me.0, (0, x) ∷ me.1)))
    × (n ≢ old → after ≡ (log_after_exchange n false me.0, me.1))

-- by storing the word n, the hand has given the slot back
abbrev pub GivesSlotBack : (n : ℕ) → (me after : Me (Option Member) HandLog) → Type 0
GivesSlotBack n me after = after ≡ (after_store n me.0, rest me.1)
