-- The callers of a team before they run, what the pass knows meanwhile, and what it gathers from
-- the lanes. A lane is a caller of the team with its brake, its answers and its ending.
use Rattle.std.specs.Prelude.{◌≡◌, ℕ, ◌+◌, ◌<◌, List, [], ◌∷◌, ◌++◌, map, true}
use Rattle.of_eval.specs.declared.scripts.Scripts.{Scripts}
use Rattle.of_plan.specs.declared.answer.Answer.{Answer}
use Rattle.of_plan.specs.declared.answer.Ending.{Ending}
use Rattle.of_plan.specs.Plan.{Plan}
use Rattle.of_eval.specs.Scripts.{scripts_meaning}
use Rattle.of_row.specs.Views.{View}
use Rattle.of_row.specs.Rule.{IsAsked, done_before}
use Rattle.of_row.specs.Turned.{after_join}
use Rattle.of_row.specs.Rows.{IsRowMember, setup_at, row_start}
use Rattle.of_row.specs.declared.row.Row.{Row}
use Rattle.of_caller.specs.declared.team_caller.TeamCaller.{TeamCaller}
use Rattle.of_caller.specs.Callers.{member_of, sight_of}
use Rattle.of_caller.specs.Lanes.{IsReady}

-- the view of a first pass that has tried to enrol only numbers below n, keeps no caller, and has
-- evicted and loaded nothing
pub record HasSeated (n : ℕ) (v : View) : Type 0 where
  pub first : v.first ≡ true
  pub kept : v.kept ≡ []
  pub evicted : v.evicted ≡ []
  pub loaded : v.loaded ≡ []
  pub below : (m : ℕ) → IsAsked m v.asked → m < n

-- Between the views v and w a pass has evicted these cells, in their order. As before are: whether
-- it is the first pass, which numbers it has tried, and what it keeps of callers. If it had loaded
-- nothing, it still has loaded nothing.
pub record EvictsCells (cells : List ℕ) (v w : View) : Type 0 where
  pub first : w.first ≡ v.first
  pub asked : w.asked ≡ v.asked
  pub kept : w.kept ≡ v.kept
  pub evicted : map (λ e. e.0) w.evicted ≡ map (λ e. e.0) v.evicted ++ cells
  pub loaded : v.loaded ≡ [] → w.loaded ≡ []

-- how many scripts of a caller were done before the row's start
abbrev pub done_at : Row Scripts → ℕ → ℕ
done_at r c = done_before (setup_at scripts_meaning r) (row_start scripts_meaning r) c

module _ {X : Type 0} {Y : X → Type 0} where
  -- the lane is that of caller n, which has made no call; its first script is the first one that
  -- was not done before the row's start
  pub record IsSeat (p : Plan) (r : Row Scripts) (n : ℕ) (a : TeamCaller X Y) : Type 0 where
    pub ready : IsReady p r a
    pub number : a.number ≡ n
    pub first : a.first ≡ done_at r n

  -- the lanes are those of caller n and of the callers after it (`IsSeat`)
  abbrev pub Seated : Plan → Row Scripts → (n : ℕ) → List (TeamCaller X Y) → Type 0
  Seated p r n [] = Unit {0}
  Seated p r n (a ∷ others) = IsSeat p r n a × Seated p r (n + 1) others

  -- the member of the lane's caller is one of the row
  abbrev pub IsAt : Row Scripts → TeamCaller X Y → Type 0
  IsAt r a = IsRowMember r (member_of a.caller)

  -- the view of a pass after the members of these lanes were joined to it
  abbrev pub gathered : View → List (TeamCaller X Y) → View
  gathered v [] = v
  gathered v (a ∷ others) = gathered (after_join v (sight_of a.caller)) others

  -- the answers of these lanes, in order
  abbrev pub answers_in : List (TeamCaller X Y) → List (List Answer)
  answers_in lanes = map (λ a. a.answers.items) lanes

  -- the endings of these lanes, in order
  abbrev pub endings_in : List (TeamCaller X Y) → List Ending
  endings_in lanes = map (λ a. a.ending) lanes
