-- The lines of callers, from what they claim and from how many calls have run since the start.
use Rattle.std.specs.Prelude.{ℕ, ◌-◌, ◌≤◌, ◌<◌, List, length, map, slice_index, slice_index_or}
use Rattle.std.specs.List.{range_with_len}
use Rattle.of_plan.specs.Plan.{Plan, scripts_of}
use Rattle.of_plan.specs.Report.{Line}
use Rattle.of_plan.specs.Legal.{HasOpenCall, HasEndState, LineIsWithinBound}
use Rattle.of_report.specs.declared.report.EndState.TheVariants.{Done}
use Rattle.of_report.specs.Lines.{end_state_value}
use Rattle.of_check.specs.declared.claims.EndClaim.{EndClaim}

-- the line of a caller with this claim and this many entries
abbrev pub claimed_line : ℕ → EndClaim → Line
claimed_line entries e = record {
  state = end_state_value e.state;
  answered = e.answered;
  entries = entries;
  longest = e.longest;
}

-- how many scripts a caller has to do, if `done` says how many of each caller were done before
abbrev pub left_of : Plan → (done : List ℕ) → ℕ → ℕ
left_of p done c = length (scripts_of p c) - slice_index done c

-- the line may be the line of a caller that had this many scripts to do, if the report's last
-- sequence is `seq`
pub record IsEnding (p : Plan) (scripts seq : ℕ) (l : Line) : Type 0 where
  pub open_call : HasOpenCall l.state l.answered l.entries
  pub ended : HasEndState l.state l.answered scripts seq p.limit
  pub within : LineIsWithinBound p l

-- the claim of a caller; without one it is done, with nothing answered
abbrev pub end_at : List EndClaim → ℕ → EndClaim
end_at ends c = slice_index_or ends c (record { state = Done; answered = 0; longest = 0 })

-- The line of a caller by what the text claims. The list `done` says how many scripts of each
-- caller were done at the start, and `counts` how many are done now. The line's number of entries
-- is the difference.
abbrev pub claimed_line_at : (done counts : List ℕ) → List EndClaim → ℕ → Line
claimed_line_at done counts ends c =
    claimed_line (slice_index counts c - slice_index done c) (end_at ends c)

-- each caller has a claim, and may end as it claims; further claims are not looked at
pub record AreEndings (p : Plan) (done : List ℕ) (seq : ℕ) (counts : List ℕ) (ends : List EndClaim)
    : Type 0 where
  pub each_caller : p.callers ≤ length ends
  pub each : (c : ℕ) → c < p.callers
      → IsEnding p (left_of p done c) seq (claimed_line_at done counts ends c)

-- the lines of all callers, as they are claimed; a caller without a claim is done, with nothing
-- answered
abbrev pub claimed_lines : Plan → (done counts : List ℕ) → List EndClaim → List Line
claimed_lines p done counts ends =
    map (claimed_line_at done counts ends) (range_with_len 0 p.callers)
