-- What a cause says of a text that is no legal report of a plan from a start: which line is the
-- first that breaks a rule, and which rule. Above this line the text is that of the report that its
-- claims make.
use Rattle.std.specs.Prelude.{◌≡◌, ◌≢◌, ℕ, ◌+◌, ◌≤◌, ◌<◌, ◌⊎◌, List, length, take, false, All, IsTrue, MatchOption, slice_index_or}
use Rattle.std.specs.declared.vec.Vec.{Vec}
use Rattle.std.specs.Global.{Global}
use Rattle.of_script.specs.Language.{reads_only}
use Rattle.of_plan.specs.Plan.{Plan, scripts_of}
use Rattle.of_plan.specs.Lines.{text_lines}
use Rattle.of_plan.specs.Report.{Report, Line, Start, empty_start}
use Rattle.of_plan.specs.Legal.{HasOpenCall, HasEndState, LineIsWithinBound}
use Rattle.of_report.specs.Report.{report_value}
use Rattle.of_report.specs.ReportText.{report_text}
use Rattle.of_check.specs.declared.claims.CallClaim.{CallClaim}
use Rattle.of_check.specs.declared.claims.EndClaim.{EndClaim}
use Rattle.of_check.specs.declared.cause.EntryRule.{EntryRule}
use Rattle.of_check.specs.declared.cause.EntryRule.TheVariants.{NoCaller, NoScript, Turn, Place, Writes}
use Rattle.of_check.specs.declared.cause.EndRule.{EndRule}
use Rattle.of_check.specs.declared.cause.EndRule.TheVariants.{Missing, Answered, Ending, Steps}
use Rattle.of_check.specs.declared.cause.Cause.{Cause}
use Rattle.of_check.specs.declared.cause.Judgement.{Judgement}
use Rattle.of_check.specs.declared.cause.Judgement.TheVariants.{Legal, Illegal}
use Rattle.of_check.specs.declared.judging.ReplayEnd.{ReplayEnd}
use Rattle.of_check.specs.declared.cause.Cause.TheVariants.{Entry, Caller, Line as LineCause}
use Rattle.of_check.specs.Claims.{call_claims_of_text, end_claims_of_text}
use Rattle.of_check.specs.Replay.{Replay, replay_at_start, index_for, script_for, entries_from, course_end, MayFollowWithin, AllFollow, HasRunCalls}
use Rattle.of_check.specs.Endings.{left_of, IsEnding, claimed_line_at, claimed_lines}
use Rattle.of_check.specs.Verdict.{IsTextOf, IsLegalFrom, IsLegalText}

-- ---- an entry

-- the claimed call breaks this rule, and none of the rules above it in this list
abbrev pub BreaksEntry : EntryRule → Plan → Replay → CallClaim → Type 0
BreaksEntry NoCaller p c q = q.caller < p.callers → ⊥
BreaksEntry NoScript p c q =
    (q.caller < p.callers) × (index_for c q < length (scripts_of p q.caller) → ⊥)
BreaksEntry Turn p c q =
    (q.caller < p.callers) × (index_for c q < length (scripts_of p q.caller))
    × (q.index ≢ index_for c q)
BreaksEntry Place p c q =
    (q.caller < p.callers) × (index_for c q < length (scripts_of p q.caller))
    × (q.index ≡ index_for c q)
    × (MayFollowWithin c.last.announced q.announced c.last q → ⊥)
BreaksEntry Writes p c q =
    (q.caller < p.callers) × (index_for c q < length (scripts_of p q.caller))
    × (q.index ≡ index_for c q)
    × MayFollowWithin c.last.announced q.announced c.last q × (q.announced ≡ false)
    × (All (λ i. IsTrue (reads_only i)) (script_for p c q) → ⊥)

-- the claim of the entry with this index
abbrev pub call_at : List CallClaim → ℕ → CallClaim
call_at calls index = slice_index_or calls index (record {
  seq = 0;
  caller = 0;
  index = 0;
  announced = false;
})

-- the claimed calls before the one with this index may come one after another, and the call with
-- this index breaks the rule
pub record BreaksAt (p : Plan) (s : Start) (calls : List CallClaim) (index : ℕ) (rule : EntryRule)
    : Type 0 where
  pub there : index < length calls
  pub before : AllFollow p (replay_at_start s) (take index calls)
  pub breaks : BreaksEntry rule p (course_end p (replay_at_start s) (take index calls))
      (call_at calls index)

-- The claimed calls were run from the start, one after another. Either all of them have run; or the
-- calls before the first one that breaks a rule have run, and `broken` is this rule.
pub record IsReplayEnd (p : Plan) (s : Start) (calls : List CallClaim) (e : ReplayEnd)
    : Type 0 where
  pub few : e.count ≤ length calls
  pub ran : HasRunCalls p s (take e.count calls) e.replay
  pub rest : MatchOption e.broken (take e.count calls ≡ calls)
      (λ rule. BreaksAt p s calls e.count rule)

-- ---- the line of a caller

-- the line of a caller that had this many scripts to do breaks this rule, and none of the rules
-- above it in this list
abbrev pub BreaksEnd : EndRule → Plan → (scripts seq : ℕ) → Line → Type 0
BreaksEnd Missing p scripts seq l = ⊥
BreaksEnd Answered p scripts seq l = HasOpenCall l.state l.answered l.entries → ⊥
BreaksEnd Ending p scripts seq l =
    HasOpenCall l.state l.answered l.entries
    × (HasEndState l.state l.answered scripts seq p.limit → ⊥)
BreaksEnd Steps p scripts seq l =
    HasOpenCall l.state l.answered l.entries × HasEndState l.state l.answered scripts seq p.limit
    × (LineIsWithinBound p l → ⊥)

-- if the rule is `Missing`, the text has no line for the caller; otherwise the caller's line breaks
-- the rule
abbrev pub BreaksClaim : EndRule → Plan → (done : List ℕ) → (seq : ℕ) → (counts : List ℕ)
    → List EndClaim → (caller : ℕ) → Type 0
BreaksClaim Missing p done seq counts ends caller = length ends ≤ caller
BreaksClaim rule p done seq counts ends caller =
    BreaksEnd rule p (left_of p done caller) seq (claimed_line_at done counts ends caller)

-- the line of this caller breaks the rule, and each caller before it may end as its line claims
pub record BreaksFirst (p : Plan) (done : List ℕ) (seq : ℕ) (counts : List ℕ) (ends : List EndClaim)
    (caller : ℕ) (rule : EndRule) : Type 0 where
  pub there : caller < p.callers
  pub before : (c : ℕ) → c < caller
      → IsEnding p (left_of p done c) seq (claimed_line_at done counts ends c)
  pub breaks : BreaksClaim rule p done seq counts ends caller

-- all claimed calls may come one after another, and this is the first caller whose line breaks a
-- rule
pub record BreaksCaller (p : Plan) (s : Start) (calls : List CallClaim) (ends : List EndClaim)
    (caller : ℕ) (rule : EndRule) : Type 0 where
  pub all : AllFollow p (replay_at_start s) calls
  pub first : (let c = course_end p (replay_at_start s) calls in
      BreaksFirst p s.finished c.last.seq c.counts ends caller rule)

-- ---- the text that claims make

-- the report that claims make: the entries of the claimed calls, the claimed lines of callers, and
-- the sequence and the store after the calls
abbrev pub made_report : Plan → Start → List CallClaim → List EndClaim → Report
made_report p s calls ends = record {
  entries = entries_from p (replay_at_start s) calls;
  callers = claimed_lines p s.finished (course_end p (replay_at_start s) calls).counts ends;
  seq = (course_end p (replay_at_start s) calls).last.seq;
  store = (course_end p (replay_at_start s) calls).store;
}

-- the text of the report that is made of a text's first `count` claimed calls and of its claimed
-- lines of callers
abbrev pub made_text : Plan → Start → (count : ℕ) → (text : List ℕ) → List ℕ
made_text p s count text =
    report_text (made_report p s (take count (call_claims_of_text text)) (end_claims_of_text text))

-- the first `above` lines of the two texts are the same
abbrev pub SameAbove : (one other : List ℕ) → (above : ℕ) → Type 0
SameAbove one other above = take above (text_lines one) ≡ take above (text_lines other)

-- the two texts differ, first at the line with this many lines above it
pub record DifferFirst (one other : List ℕ) (above : ℕ) : Type 0 where
  pub same : SameAbove one other above
  pub differ : SameAbove one other (above + 1) → ⊥

-- `found` is the cause that comes first in the text. It is `cause` if the first `above` lines of
-- the text are the wanted ones; otherwise it is that the text differs from the wanted one at an
-- earlier line.
pub data ComesFirst (text : List ℕ) (wanted : Vec ℕ Global) (above : ℕ) (cause found : Cause)
    : Type 0 where
  Same : SameAbove text wanted.items above → found ≡ cause
      → ComesFirst text wanted above cause found
  Differs : (line : ℕ) → line < above → DifferFirst text wanted.items line
      → found ≡ LineCause line wanted → ComesFirst text wanted above cause found

-- ---- causes

-- The text differs, first at this line, from the text of the report that its claims make. If a
-- claimed call breaks a rule, the report is made of the calls before this call, and the line comes
-- before the line of this call.
pub record DiffersAt (p : Plan) (s : Start) (text wanted : List ℕ) (above : ℕ) : Type 0 where
  pub count : ℕ
  pub follow : AllFollow p (replay_at_start s) (take count (call_claims_of_text text))
  pub text_of : wanted ≡ made_text p s count text
  pub line : DifferFirst text wanted above
  pub rest : (take count (call_claims_of_text text) ≡ call_claims_of_text text)
      ⊎ ((above ≤ count)
      × (AllFollow p (replay_at_start s) (call_claims_of_text text) → ⊥))

-- why the text is no legal report of the plan from the start: the first line that is wrong
abbrev pub IsCauseFrom : Plan → Start → (text : List ℕ) → Cause → Type 0
IsCauseFrom p s text (Entry index rule) =
    BreaksAt p s (call_claims_of_text text) index rule
    × SameAbove text (made_text p s index text) (index + 1)
IsCauseFrom p s text (Caller entries caller rule) =
    (entries ≡ length (call_claims_of_text text))
    × BreaksCaller p s (call_claims_of_text text) (end_claims_of_text text) caller rule
    × SameAbove text (made_text p s entries text) (entries + 1 + caller)
IsCauseFrom p s text (LineCause above wanted) = DiffersAt p s text wanted.items above

-- The judgement is true. If it is `Legal`, the text is the text of this report, which is legal for
-- the plan from the start. If it is `Illegal`, the text is the text of no legal report, for this
-- cause.
abbrev pub IsJudgement : Plan → Start → (text : List ℕ) → Judgement → Type 0
IsJudgement p s text (Legal report) = IsTextOf p s text (report_value report)
IsJudgement p s text (Illegal cause) =
    IsCauseFrom p s text cause × (IsLegalFrom p s text → ⊥)

-- the judgement is true of the text as a report of the plan from the empty start
abbrev pub IsReportJudgement : Plan → (text : List ℕ) → Judgement → Type 0
IsReportJudgement p text (Legal report) = IsLegalText p text
IsReportJudgement p text (Illegal cause) =
    IsCauseFrom p (empty_start p) text cause × (IsLegalText p text → ⊥)
