-- A member that has seen nothing since the row's start: what it may know while others have made
-- steps on the row.
use Rattle.std.specs.Prelude.{◌≡◌, ◌<◌, ℕ, List, [], ◌∷◌, false}
use Rattle.std.specs.Int.{bit_at}
use Rattle.atomic_table.specs.Table.{State}
use Rattle.of_core.specs.Table.{Setup}
use Rattle.of_core.specs.TableMoment.{TableStart}
use Rattle.of_row.specs.Views.{View}
use Rattle.of_row.specs.Trail.{HasDoneNothing}
use Rattle.of_row.specs.Rule.{members_of, ViewFits, MeetsRule}
use Rattle.of_row.specs.Turned.{new_known_caller}

-- the view of a member that has the number n and has seen nothing since the row's start
abbrev pub fresh_member_view : Setup → TableStart → ℕ → View
fresh_member_view S B n = record {
  spent = false;
  first = false;
  seen = [];
  asked = [];
  kept = new_known_caller S B n B.seq ∷ [];
  loaded = [];
  evicted = [];
  past = [];
  met = [];
  looks = 0;
}

-- if the number n is taken and caller n has done nothing, a view that keeps caller n and has seen
-- nothing since the row's start fits the rule at the seat of n, whatever other callers have done
abbrev pub FreshMembersFit : (List ℕ → Type 0) → Setup → Type 0
FreshMembersFit Lawful S =
    (B : TableStart) (s : State (Unit {0}) View) (r : MeetsRule S Lawful B s) (n : ℕ)
    → n < S.callers → bit_at (members_of S s.words) n ≡ 1 → HasDoneNothing r.events n
    → ViewFits S B s.words r.events r.home r.chief (r.home n) (fresh_member_view S B n)
