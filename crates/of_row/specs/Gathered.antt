-- The row's first pass, while it keeps a caller of each number that is taken. No one else makes a
-- step then. So the pass may learn of all events, and all words that it loads are those of one
-- moment.
use Rattle.std.specs.Prelude.{◌≡◌, ℕ, ◌<◌, List, [], true, Option, Some, None}
use Rattle.std.specs.List.{AllByRecursion as Each}
use Rattle.std.proofs.Common.{get_or}
use mathlib.Core.List.{IsPrefix}
use Rattle.of_mem.specs.Meaning.{Meaning}
use Rattle.of_core.specs.Table.{Setup, words_before_members}
use Rattle.of_core.specs.TableMoment.{TableStart}
use Rattle.of_row.specs.declared.view.RowKey.{RowKey}
use Rattle.of_row.specs.Views.{View}
use Rattle.of_row.specs.Trail.{moment, IsRunBy}
use Rattle.of_row.specs.Rule.{IsAsked, IsRaised, IsCallerKept, ViewMeetsRule}
use Rattle.of_row.specs.Keys.{key_setup, key_start}

-- for each number below `callers` that the view's pass has tried to enrol, the view keeps a caller
abbrev pub KeepsAsked : (callers : ℕ) → View → Type 0
KeepsAsked callers v = (n : ℕ) → n < callers → IsAsked n v.asked → IsCallerKept n v.kept

-- the view is that of the row's first pass; no eviction of the pass is half done; and the view
-- keeps a caller of each number that the pass has tried to enrol
pub record IsGathered (callers : ℕ) (v : View) : Type 0 where
  pub first : v.first ≡ true
  pub none : v.loaded ≡ []
  pub keeps : KeepsAsked callers v

-- the view w is the view v with a longer past, which begins with the past of v
abbrev pub HasLongerPast : (before now : View) → Type 0
HasLongerPast v w = IsPrefix v.past w.past × (w ≡ record v { past = w.past })

-- The view's past has all calls and turns of the callers that the view keeps, and all evictions
-- that the view has made. In the words to which this past leads, each eviction has raised its
-- cell's durable word.
pub record HasWholePast (S : Setup) (B : TableStart) (v : View) : Type 0 where
  pub runs : Each (IsRunBy S B v.past) v.kept
  pub evicts : v.evicted ≡ (moment S B v.past).loaded
  pub raised : Each (IsRaised S (moment S B v.past).words) v.evicted

-- The view v has learnt of all events of the row, and is w now; its past is whole (`HasWholePast`).
-- The row's words meet the rule with v. Apart from the members word, the words are those that the
-- events in the past of w leave.
pub record LearnsAll (S : Setup) (Lawful : List ℕ → Type 0) (B : TableStart) (v w : View)
    : Type 0 where
  pub learnt : HasLongerPast v w
  pub whole : HasWholePast S B w
  pub words : List ℕ
  pub meets : ViewMeetsRule S Lawful B words v
  pub own : (c : ℕ) → c < words_before_members S
      → get_or words c 0 ≡ get_or (moment S B w.past).words c 0

-- `word` is the word with the index c of the table at the moment that the view's past leaves
abbrev pub IsWordOfPast : Setup → TableStart → View → (c word : ℕ) → Type 0
IsWordOfPast S B v c word = word ≡ get_or (moment S B v.past).words c 0

-- the same for a row that is given by its key: the view v has learnt of all events of this row, and
-- is now the view w
abbrev pub LearnsAllOf : {W : Type 0} → (W → Meaning) → (W → List ℕ → Type 0) → Option (RowKey W)
    → View → View → Type 0
LearnsAllOf meaning lawful None v w = Unit {0}
LearnsAllOf meaning lawful (Some k) v w =
    LearnsAll (key_setup meaning k) (lawful k.work) (key_start meaning k) v w

abbrev pub IsWordOfPastOf : {W : Type 0} → (W → Meaning) → Option (RowKey W) → View → (c word : ℕ)
    → Type 0
IsWordOfPastOf meaning None v c word = Unit {0}
IsWordOfPastOf meaning (Some k) v c word =
    IsWordOfPast (key_setup meaning k) (key_start meaning k) v c word
