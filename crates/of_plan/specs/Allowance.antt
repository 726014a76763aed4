-- How many steps a caller may make, and what a report shows of it.
use Rattle.std.specs.Prelude.{◌≡◌, ℕ, ◌+◌, ◌*◌, ◌≤◌, ◌<◌, List, length, take, sum_by, IfSome, Option, Some, All, ◌==◌, if◌then◌else◌}
use Rattle.of_plan.specs.declared.plan.Item.{Item}
use Rattle.of_plan.specs.declared.plan.Item.TheVariants.{Turns, Evict}
use Rattle.of_plan.specs.Plan.{Plan, bound_of}
use Rattle.of_plan.specs.Report.{Entry, stopped, Report, entries_of, caller_line}
use Rattle.of_plan.specs.Legal.{script_of_entry}

-- the fewest steps of an answered call: an announced one stores its words and the announcement, and
-- makes at least four loads; a read makes three
abbrev pub least_steps : Plan → Entry → ℕ
least_steps p e = if e.announced then length (script_of_entry p e) + 5 else 3

-- the entries of a caller's answered calls
abbrev pub answered_of : Report → ℕ → List Entry
answered_of r c = take (caller_line r c).answered (entries_of r c)

-- the report agrees with an allowance of steps for a caller: with this many steps the caller can
-- make its answered calls. None means that there is no limit
pub record KeepsAllowance (p : Plan) (r : Report) (c : ℕ) (allowance : Option ℕ) : Type 0 where
  -- the least steps of its answered calls add up to at most the allowance
  pub adds_up : IfSome allowance (λ n. sum_by (least_steps p) (answered_of r c) ≤ n)
  -- its longest answered call made at most as many steps as the allowance
  pub upto : IfSome allowance (λ n. (caller_line r c).longest ≤ n)
  -- its longest answered call made no fewer than the least steps of any of them
  pub least : All (λ e. least_steps p e ≤ (caller_line r c).longest) (answered_of r c)
  -- if the caller is stopped, it has an allowance, and this is smaller than what its answered calls
  -- and one open call can use: for each answered call the steps of the longest one, and for the
  -- open call the step bound
  pub used_up : (caller_line r c).state ≡ stopped → (n : ℕ) × (allowance ≡ Some n)
      × (n < (caller_line r c).answered * (caller_line r c).longest + bound_of p)

-- how many turns an item gives this caller
abbrev pub turns_in : ℕ → Item → ℕ
turns_in c (Turns d x) = if d == c then x else 0
turns_in c (Evict a) = 0

-- how many turns a plan's schedule gives this caller
abbrev pub turns_for : Plan → ℕ → ℕ
turns_for p c = sum_by (turns_in c) p.schedule
