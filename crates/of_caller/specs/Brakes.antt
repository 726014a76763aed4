-- By how much a call lowers the steps that its brake has left, and what the brake hears of it.
use Rattle.std.specs.Prelude.{◌≡◌, ℕ, ◌+◌, Option, Some, None, Result, Ok, Err}
use Rattle.std.proofs.Common.{zero, suc}
use Rattle.of_brake.specs.Stops.{HasHeardAnswer, saturating_next}
use Rattle.of_core.specs.declared.place.Outcome.{Outcome}
use Rattle.of_caller.specs.declared.caller.CallErr.{CallErr}
use Rattle.of_caller.specs.declared.caller.CallErr.TheVariants.{Stopped, Spent}

abbrev pub IsStop : Result Outcome CallErr → Type 0
IsStop (Ok o) = ⊥
IsStop (Err (Stopped asked)) = Unit {0}
IsStop (Err (Spent seq)) = ⊥

-- n of the steps left were used up; if there was no limit, there still is none
abbrev pub TakesStepsFrom : (before after : Option ℕ) → (n : ℕ) → Type 0
TakesStepsFrom None after n = after ≡ None
TakesStepsFrom (Some left) after n = (rest : ℕ) × (left ≡ n + rest) × (after ≡ Some rest)

-- if the brake reports its steps left, n of them were used up; whether a brake reports its steps
-- left never changes
abbrev pub TakesSteps : (before after : Option (Option ℕ)) → (n : ℕ) → Type 0
TakesSteps None after n = after ≡ None
TakesSteps (Some left) None n = ⊥
TakesSteps (Some left) (Some rest) n = TakesStepsFrom left rest n

-- the count of steps rose from a to b, and the brake's steps left, if it reports them, fell by the
-- same number
abbrev pub UsesCountedSteps : (before after : Option (Option ℕ)) → (a b : ℕ) → Type 0
UsesCountedSteps before after a b = (n : ℕ) × (b ≡ a + n) × TakesSteps before after n

-- the brake was asked `asked` times and denied the last ask: before these asks it had one step less
-- than that left, so it had a limit
abbrev pub StopsWhenUsedUp : (left : Option ℕ) → (asked : ℕ) → Type 0
StopsWhenUsedUp None asked = ⊥
StopsWhenUsedUp (Some left) asked = asked ≡ left + 1

-- if the brake reports its steps left, it had one less than `asked` before it was asked `asked`
-- times, and denied the last ask
abbrev pub StopsWhenToldUsedUp : (left : Option (Option ℕ)) → (asked : ℕ) → Type 0
StopsWhenToldUsedUp None asked = Unit {0}
StopsWhenToldUsedUp (Some left) asked = StopsWhenUsedUp left asked

-- a call is stopped only when the steps left are used up, if the brake reports them
abbrev pub StopsAt : (left : Option (Option ℕ)) → Result Outcome CallErr → Type 0
StopsAt left (Ok o) = Unit {0}
StopsAt left (Err (Stopped asked)) = StopsWhenToldUsedUp left asked
StopsAt left (Err (Spent seq)) = Unit {0}

-- a brake that counts answers counts one more if the call was answered, and otherwise no more
abbrev pub HearsAnswerOnce : (before after : Option ℕ) → Result Outcome CallErr → Type 0
HearsAnswerOnce before after (Ok o) = HasHeardAnswer before after
HearsAnswerOnce before after (Err e) = after ≡ before

-- the count n after it went up `more` times; it stays at the greatest number of its type
unfoldable pub later : (more : ℕ) → ℕ → ℕ
later zero n = n
later (suc more) n = saturating_next (later more n)

-- a brake that counts how often it is asked was asked `more` times
abbrev pub AskedFor : (before after : Option ℕ) → (more : ℕ) → Type 0
AskedFor None after more = after ≡ None
AskedFor (Some n) after more = after ≡ Some (later more n)

-- a brake that counts how often it is asked was asked b - a times, once for each counted step
abbrev pub AskedForEach : (before after : Option ℕ) → (a b : ℕ) → Type 0
AskedForEach before after a b = (n : ℕ) × (b ≡ a + n) × AskedFor before after n

-- a stopped call asked the brake as often as its error says, and any other call once for each of
-- its steps
abbrev pub AsksOf : (before after : Option ℕ) → (a b : ℕ) → Result Outcome CallErr → Type 0
AsksOf before after a b (Ok o) = AskedForEach before after a b
AsksOf before after a b (Err (Stopped asked)) = AskedFor before after asked
AsksOf before after a b (Err (Spent seq)) = AskedForEach before after a b
