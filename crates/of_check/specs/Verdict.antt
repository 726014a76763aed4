-- When a text is a legal report of a plan, and what the check answers.
use Rattle.std.specs.Prelude.{◌≡◌, ℕ, ◌≤◌, List}
use Rattle.of_plan.specs.Plan.{Plan}
use Rattle.of_plan.specs.Report.{Report, Start, empty_start}
use Rattle.of_plan.specs.Legal.{IsLegal}
use Rattle.of_report.specs.ReportText.{report_text}
use Rattle.of_check.specs.declared.verdict.Verdict.{Verdict}
use Rattle.of_check.specs.declared.verdict.Verdict.TheVariants.{Legal, Illegal}

-- the text is that of a report which is legal for the plan from the empty start
pub record IsLegalText (p : Plan) (text : List ℕ) : Type 0 where
  pub report : Report
  pub legal : IsLegal p (empty_start p) report
  pub is : text ≡ report_text report

-- the verdict is `Legal` if the text is that of a legal report, and `Illegal` if it isn't
abbrev pub IsVerdict : Plan → List ℕ → Verdict → Type 0
IsVerdict p text Legal = IsLegalText p text
IsVerdict p text Illegal = IsLegalText p text → ⊥

-- the greatest sequence of a report: the greatest number of 32 bits
abbrev pub greatest_seq : ℕ
greatest_seq = 4294967295

-- the text is that of this report, which is legal for the plan from the start and has a sequence of
-- at most 32 bits
pub record IsTextOf (p : Plan) (s : Start) (text : List ℕ) (report : Report) : Type 0 where
  pub legal : IsLegal p s report
  pub in_range : report.seq ≤ greatest_seq
  pub is : text ≡ report_text report

-- the text is that of some report that is legal for the plan from the start
pub record IsLegalFrom (p : Plan) (s : Start) (text : List ℕ) : Type 0 where
  pub report : Report
  pub of_it : IsTextOf p s text report
