-- What a pass learns when it enrols a caller's number, evicts a cell, learns of all events, or
-- closes the row.
use Rattle.std.specs.Prelude.{◌≡◌, ℕ, List}
use Rattle.std.specs.Int.{bit_at}
use Rattle.of_mem.specs.Meaning.{Meaning}
use Rattle.of_core.specs.Starts.{IsDurable}
use Rattle.of_row.specs.declared.member.Member.{Member}
use Rattle.of_row.specs.declared.member.Pass.{Pass}
use Rattle.of_row.specs.declared.member.Taken.{Taken}
use Rattle.of_row.specs.declared.row.Row.{Row}
use Rattle.of_row.specs.Views.{KnownCaller, View, first_view, seen_seq}
use Rattle.of_row.specs.Trail.{moment}
use Rattle.of_row.specs.Gathered.{HasWholePast, LearnsAll}
use Rattle.of_row.specs.Rule.{HasOwn, IsAsked, ViewMeetsRule, done_before}
use Rattle.of_row.specs.Turned.{after_ask, after_number_given, new_known_caller, last_alone, after_fetch, after_evict}
use Rattle.of_row.specs.Rows.{key_of, setup_at, row_start, view_of_pass, view_of_member}
use Rattle.of_row.specs.Rows.{number_of_member, calls_of_member, IsRowPass, IsRowMember, HasSeenLegal}

-- what is kept of caller n when the pass p has enrolled it: an idle machine, no call on this row
-- yet, and the last sequence that the pass had seen
abbrev pub enrolled_caller : {W : Type 0} → (W → Meaning) → Row W → ℕ → Pass → KnownCaller
enrolled_caller meaning r n p =
    new_known_caller (setup_at meaning r) (row_start meaning r) n
    (seen_seq (row_start meaning r) (view_of_pass p).seen)

-- the pass is the row's first one, and its view is `first_view`
abbrev pub IsFirst : {W : Type 0} → Row W → Pass → Type 0
IsFirst r p = IsRowPass r p × (view_of_pass p ≡ first_view)

-- The number n is taken: its bit is set in the members word that was found. The pass had tried to
-- enrol n before. Now the pass lists this try too, with the word that was found.
abbrev pub NumberIsRefused : {W : Type 0} → Row W → ℕ → (before now : Pass) → Taken → Type 0
NumberIsRefused r n before now taken =
    IsRowPass r now × (bit_at taken.members n ≡ 1) × IsAsked n (view_of_pass before).asked
    × (view_of_pass now ≡ after_ask n taken.members (view_of_pass before))

-- The number n was free in the members word that was found, and `member` has it now. The member has
-- seen what the pass has seen, which is a legal history, and has made no call on this row. The pass
-- lists the try.
pub record HasEnrolled {W : Type 0} (meaning : W → Meaning) (r : Row W) (n : ℕ) (before : Pass)
    (member : Member) (now : Pass) : Type 0 where
  pub at_row : IsRowMember r member × IsRowPass r now
  pub number : number_of_member member ≡ n
  pub made : calls_of_member member ≡ done_before (setup_at meaning r) (row_start meaning r) n
  pub found : ℕ
  pub free : bit_at found n ≡ 0
  pub member_is : view_of_member member
      ≡ last_alone (after_number_given (setup_at meaning r) (row_start meaning r) n found
      (view_of_pass before))
  pub pass_is : view_of_pass now ≡ after_ask n found (view_of_pass before)
  pub own : HasOwn (setup_at meaning r) (row_start meaning r) (view_of_pass before).seen
      (enrolled_caller meaning r n before)
  pub legal : HasSeenLegal meaning r (view_of_pass before)

-- the pass has evicted the cell: it has loaded the cell, and raised the cell's durable word to the
-- word that was found
abbrev pub HasEvicted : ℕ → (before now : Pass) → Type 0
HasEvicted cell before now =
    (n : ℕ) × (view_of_pass now ≡ after_evict (after_fetch cell n (view_of_pass before)))

-- the words and the pass's view meet the row's rule
abbrev pub ClosesWith : {W : Type 0} → (W → Meaning) → (W → List ℕ → Type 0) → Row W → Pass → List ℕ
    → Type 0
ClosesWith meaning lawful r p ws =
    ViewMeetsRule (setup_at meaning r) (lawful (key_of r).work) (row_start meaning r) ws
    (view_of_pass p)

-- the durable row has, cell by cell, the durable words of a table whose words meet the row's rule
-- with the pass's view
pub record ClosesWithDurable {W : Type 0} (meaning : W → Meaning) (lawful : W → List ℕ → Type 0)
    (r : Row W) (p : Pass) (row : List ℕ) : Type 0 where
  pub words : List ℕ
  pub meets : ClosesWith meaning lawful r p words
  pub durable : IsDurable (setup_at meaning r) words row

-- the words that the events of the view's past leave on the row
abbrev pub words_of_past : {W : Type 0} → (W → Meaning) → Row W → View → List ℕ
words_of_past meaning r v = (moment (setup_at meaning r) (row_start meaning r) v.past).words

-- the view's past has all calls and turns of the callers that the view keeps, and all evictions
-- that the view has made
abbrev pub KnowsAllDone : {W : Type 0} → (W → Meaning) → Row W → View → Type 0
KnowsAllDone meaning r v = HasWholePast (setup_at meaning r) (row_start meaning r) v

-- the view v has learnt of all events of the row, and is now the view w
abbrev pub LearnsAllAt : {W : Type 0} → (W → Meaning) → (W → List ℕ → Type 0) → Row W → View → View
    → Type 0
LearnsAllAt meaning lawful r v w =
    LearnsAll (setup_at meaning r) (lawful (key_of r).work) (row_start meaning r) v w

-- the durable row has, cell by cell, the durable words that the view's past leaves
abbrev pub AreDurableOfPast : {W : Type 0} → (W → Meaning) → Row W → View → List ℕ → Type 0
AreDurableOfPast meaning r v row =
    IsDurable (setup_at meaning r) (words_of_past meaning r v) row
