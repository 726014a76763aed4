-- A row that starts from an image is one of the plan, and starts where the image does; and what a
-- team leaves of it is an image again.
use Rattle.std.proofs.Common.{◌≡◌, ◌∙◌, ℕ, ◌+◌, ◌<◌, Option, Some, None, List, [], ◌∷◌, sym, subst}
use Rattle.std.specs.Prelude.{All}
use Rattle.std.proofs.lemmas.List.Elements.{All-from_recursion}
use Rattle.of_mem.specs.Places.{base_of}
use Rattle.of_mem.specs.ProgramWork.{memory_of, meaning_of}
use Rattle.of_script.specs.declared.instr.TheConstants.{MOST_INSTRS}
use Rattle.of_eval.specs.Record.{plan_data_cells, IsLawfulRecord}
use Rattle.of_eval.specs.Reported.{ReportsRun}
use Rattle.of_eval.specs.ScriptPrograms.{script_program}
use Rattle.of_eval.specs.Scripts.{StandsForSome, is_success, script_reads}
use Rattle.of_plan.specs.Plan.{Plan}
use Rattle.of_plan.specs.Report.{Start, Report}
use Rattle.of_plan.specs.Ended.{Ended}
use Rattle.of_core.specs.Table.{setup_of}
use Rattle.of_core.specs.TableMoment.{TableStart}
use Rattle.of_core.specs.Starts.{start_from_durable as table_start, IsStartRow}
use Rattle.of_row.specs.Views.{View}
use Rattle.of_caller.specs.Tables.{plan_setup, IsLawfulFor}
use Rattle.of_caller.specs.Restarts.{TeamsRestart}
use Rattle.of_caller.specs.Starts.{StartsAtPlan}
use Rattle.of_caller.specs.Stops.{CallerKeepsStop, KeepStops}
use Rattle.of_caller.specs.Allowances.{KeepsStopAsAllowance, KeepAllowances}
use Rattle.of_caller.specs.Teams.{IsTeamOf, IsHandedBack, TeamsKeepAllowances}
use Rattle.of_report.specs.Image.{Image, IsImage, start_of_image, durable_row}
use Rattle.of_lives.specs.OneHistory.{IsBehind}
use Rattle.of_lives.specs.Restarts.{start_from_row}
use Rattle.of_lives.specs.Continuing.{IsLifeOf, LeavesImage}
use Rattle.of_lives.proofs.OneLife.{lived}
use Rattle.of_lives.specs.Images.{PlanFitsImage}
use Rattle.of_lives.proofs.ImageStarts.{image_begins}
use Rattle.of_lives.proofs.Restarting.{leaves}
use Rattle.of_lives.proofs.LeftImages.{row_durable, left_image}

-- a start row of a table with these sizes, for scripts over so many callers and blocks
abbrev pub RowAt : (callers cells limit many blocks : ℕ) → List ℕ → Type 0
RowAt c n l m b ws =
    IsStartRow (setup_of c n l (meaning_of is_success script_reads (script_program (base_of m MOST_INSTRS) b)))
    (λ (xs : List ℕ). StandsForSome (base_of m MOST_INSTRS) b (memory_of xs)) ws

-- where the sizes are a plan's
pub row_at : (p : Plan) (ws : List ℕ) (c n l m b : ℕ) → c ≡ p.callers → n ≡ plan_data_cells p → l ≡ p.limit → m ≡ p.callers → b ≡ p.blocks → IsStartRow (plan_setup p) (IsLawfulFor p) ws → RowAt c n l m b ws
row_at p ws c n l m b callers cells limit many blocks row =
    subst (λ (x : ℕ). RowAt x n l m b ws) (sym callers)
    (subst (λ (x : ℕ). RowAt p.callers x l m b ws) (sym cells)
    (subst (λ (x : ℕ). RowAt p.callers (plan_data_cells p) x m b ws) (sym limit)
    (subst (λ (x : ℕ). RowAt p.callers (plan_data_cells p) p.limit x b ws) (sym many)
    (subst (λ (x : ℕ). RowAt p.callers (plan_data_cells p) p.limit p.callers x ws) (sym blocks) row))))

-- a table of the plan's sizes that starts from the image's words starts where the image does
pub table_at : (i : Image) (p : Plan) (ws : List ℕ) (c n : ℕ) (B : TableStart) → c ≡ p.callers → n ≡ plan_data_cells p → ws ≡ i.row.words → B ≡ table_start c n ws → B ≡ start_from_row p i.row.words
table_at i p ws c n B callers cells same start = start ∙ (λ j. table_start (callers j) (cells j) (same j))

pub starts_at : (i : Image) (p : Plan) → IsImage MOST_INSTRS i → PlanFitsImage i p → (B : TableStart) → B ≡ start_from_row p i.row.words → StartsAtPlan p (start_of_image i) B
starts_at i p is fits B start = subst (StartsAtPlan p (start_of_image i)) (sym start) (image_begins i p is fits).starts

-- what a life leaves, where a team has handed this back from a table that starts from the image, and the report is the one of each lawful record
pub record Left (i : Image) (p : Plan) (e : Ended) (w : View) (r : Report) : Type 0 where
  pub team : IsLifeOf i p e w r
  pub report : ReportsRun p (start_of_image i) e r
  pub not_again : All (IsBehind (start_of_image i)) r.entries
  pub leaves : (next : Image) × LeavesImage p (start_of_image i) e r next

module _ (i : Image) (p : Plan) (restart : TeamsRestart p) (e : Ended) (w : View) (B : TableStart) (start : B ≡ start_from_row p i.row.words) (handed : IsHandedBack p (start_of_image i) B e w) (r : Report) (is : (q : Report) → IsLawfulRecord p (start_of_image i) e q → r ≡ q) where
  same : handed.report ≡ r
  same = sym (is handed.report handed.reported.lawful)

  reported : ReportsRun p (start_of_image i) e r
  reported = subst (ReportsRun p (start_of_image i) e) same handed.reported

  both : (h : IsHandedBack p (start_of_image i) (start_from_row p i.row.words) e w) × (h.report ≡ r)
  both = subst (λ (C : TableStart). (h : IsHandedBack p (start_of_image i) C e w) × (h.report ≡ r)) start (handed, same)

  leaves_image : (next : Image) × LeavesImage p (start_of_image i) e r next
  leaves_image =
      let found = restart (start_of_image i) B e handed.sight handed.team r reported.lawful (durable_row p e).words (row_durable p e reported.lawful.words) in
      left_image p (start_of_image i) e r reported.lawful.words (leaves p (start_of_image i) r reported.lawful.legal handed.team.starts.each_caller _ found.1 found.0)

  pub left : Left i p e w r
  left = record {
    team = record { handed = both.0; report = both.1 };
    report = reported;
    not_again = All-from_recursion (IsBehind (start_of_image i)) r.entries (lived (start_of_image i) (record { plan = p; report = r }) reported.lawful.legal).behind;
    leaves = leaves_image;
  }

-- callers that keep to their stops keep them as their allowances
module _ (p : Plan) (s : Start) (B : TableStart) (e : Ended) (v : View) (team : IsTeamOf p s B e v) (r : Report) (lawful : IsLawfulRecord p s e r) (allowed : TeamsKeepAllowances p) where
  keep_one : (told : Option (Option ℕ)) (c : ℕ) → c < p.callers → CallerKeepsStop p e c told → KeepsStopAsAllowance told p r c
  keep_one None c lt keeps = tt
  keep_one (Some steps) c lt keeps = allowed s B e v team r lawful c lt keeps

  pub keep_all : {A : Type 0} (told : A → Option (Option ℕ)) (c : ℕ) (bs : List A) → KeepStops told p e c bs → KeepAllowances told p r c bs
  keep_all told c [] keeps = tt
  keep_all told c (b ∷ bs) keeps = (λ lt. keep_one (told b) c lt (keeps.0 lt), keep_all told (c + 1) bs keeps.1)
