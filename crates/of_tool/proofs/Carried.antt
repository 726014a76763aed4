-- What a command makes with what a run has left: what it tells once it is written.
use Rattle.std.proofs.Common.{◌≡◌, ℕ, ◌<◌, List, get_or, Option, None, Some, refl, subst}
use Rattle.of_plan.specs.Plan.{Plan, stop_of}
use Rattle.std.proofs.lemmas.List.{get_or-replicate}
use Rattle.of_plan.specs.Report.{Report, empty_start, stopped, caller_line}
use Rattle.of_plan.specs.Ended.{Ended}
use Rattle.of_plan.specs.Allowance.{KeepsAllowance}
use Rattle.of_plan.specs.Generated.{generated_plan}
use Rattle.of_row.specs.declared.member.Pass.{Pass}
use Rattle.of_tool.specs.declared.command.Command.{Command}
use Rattle.of_tool.specs.declared.command.Command.TheVariants.{Run, Load, Continue}
use Rattle.of_tool.specs.declared.status.TheConstants.{DONE}
use Rattle.of_tool.specs.Commands.{IsLoad, IsPlain, AreWordsOf, AreWordsOfTeam}
use Rattle.of_caller.specs.Allowances.{KeepsStopAsAllowance}
use Rattle.of_caller.specs.InTime.{Mark}
use Rattle.of_tool.specs.Ran.{AllBrakesTell, KeepsPromises, IsRunReport, IsSomeRuns}
use Rattle.of_report.specs.LoadText.{load_text}
use Rattle.of_row.specs.Views.{View}
use Rattle.of_tool.specs.Seen.{Change, StepsLeft, Seen, RecordHolds, IsWritten, view_of}
use Rattle.of_tool.specs.Makes.{Makes}
use Rattle.of_tool.specs.Statuses.{IsAnsweredAndWritten, AnswersWords, Told}
use Rattle.of_tool.specs.Headline.{RunsPlan, LoadsPlan, ContinuesImage, AllDone, IsWholeLoad, IsTopCall}
use Rattle.of_tool.specs.Answer.{HoldsRun, HoldsLoad, HoldsLife, MakesWith, Carries}
use Rattle.of_tool.proofs.CommandLemmas.{same_command}
use Rattle.of_tool.proofs.LoadReports.{done_if, one_text}

-- ---- what the brakes tell of a load

-- where a brake tells, its caller keeps its stop as its allowance
by_told : (told : StepsLeft) (p : Plan) (r : Report) (c : ℕ) → (told ≡ None → ⊥) → KeepsStopAsAllowance told p r c → KeepsAllowance p r c (stop_of p c)
by_told None p r c tells h = absurd (tells refl)
by_told (Some steps) p r c tells h = h

never_stopped : (n m : ℕ) (r : Report) (u : ℕ) → u < n → KeepsAllowance (generated_plan n m) r u (stop_of (generated_plan n m) u) → (caller_line r u).state ≡ stopped → ⊥
never_stopped n m r u lt keeps e =
    let none : stop_of (generated_plan n m) u ≡ None = get_or-replicate n u None None lt in
    let used = (subst (KeepsAllowance (generated_plan n m) r u) none keeps).used_up e in
    absurd (let no = used.1 in cc)

load_whole : (brakes : List StepsLeft) (n m : ℕ) (r : Report) (course : List Mark) (e : Ended) → IsLoad n m → KeepsPromises brakes (generated_plan n m) (empty_start (generated_plan n m)) course e r → IsWholeLoad brakes (generated_plan n m) r
load_whole brakes n m r course e load h =
    let p = generated_plan n m in
    let all_done : AllBrakesTell p brakes → AllDone p r = λ tell u lt. done_if n m load.some load.few load.all r h.history.legal u lt (never_stopped n m r u lt (by_told (get_or brakes u None) p r u (tell u lt) (h.allowances u lt))) in
    record { all_done = all_done; serial = λ tell. one_text n m load.some load.few load.all r h.history.legal (all_done tell) }

pub holds_load : (brakes : List StepsLeft) (n m : ℕ) (p : Plan) (r : Report) (text : List ℕ) (e : Ended) (w : View) → p ≡ generated_plan n m → IsLoad n m → IsRunReport brakes p r e w → text ≡ load_text r → HoldsLoad brakes n m text e w
holds_load brakes n m p r text e w is load run text_is =
    let here : IsRunReport brakes (generated_plan n m) r e w = subst (λ (q : Plan). IsRunReport brakes q r e w) is run in
    record { report = r; run = here; whole = load_whole brakes n m r here.course e load here.promises; text_is = text_is }

-- a report of a run with these brakes is one of some run
pub some_run : {brakes : List StepsLeft} (p : Plan) (r : Report) (e : Ended) (w : View) → IsRunReport brakes p r e w → IsSomeRuns p r
some_run p r e w h = record { left = e; seen = w; course = h.course; history = h.promises.history; real = h.real; table = h.table }

-- ---- beside an answer

module _ (brakes : List StepsLeft) (source : Change) (text : List ℕ) where
  -- a command that runs no callers at once leaves nothing
  pub plain_makes : (c : Command) → IsPlain c → Makes c source text → MakesWith brakes c source text None
  plain_makes Run plain m = absurd plain
  plain_makes (Load n k) plain m = absurd plain
  plain_makes Continue plain m = absurd plain
  plain_makes c plain m = (m, refl)

  -- what is made beside a record
  pub makes : (c : Command) (ran : Option (Ended × Pass)) → MakesWith brakes c source text ran → Makes c source text
  makes Run None h = absurd h
  makes Run (Some r) h = record { plan = h.plan; read = h.read; report = h.report; run = some_run h.plan h.report r.0 (view_of r.1) h.run; text_is = h.text_is }
  makes (Load n k) None h = absurd h
  makes (Load n k) (Some r) h = record { report = h.report; run = some_run (generated_plan n k) h.report r.0 (view_of r.1) h.run; text_is = h.text_is }
  makes Continue None h = absurd h
  makes Continue (Some r) h = let life = h.writes.life in record {
    image = h.image;
    plan = h.plan;
    read = h.read;
    life = record { report = h.writes.report; left = r.0; seen = view_of r.1; course = life.course; history = life.promises.history; goes_on = life.goes_on; real = life.real; table = life.table; text_is = h.writes.text_is };
  }
  makes c ran h = h.0

  module _ (words : List (List ℕ)) (ran : Option (Ended × Pass)) where
    none_but_teams : (c : Command) → AreWordsOf words c → MakesWith brakes c source text ran → (AreWordsOfTeam words → ⊥) → ran ≡ None
    none_but_teams Run is h none_of = absurd (none_of (record { command = Run; are = is; team = λ p. p }))
    none_but_teams (Load n k) is h none_of = absurd (none_of (record { command = Load n k; are = is; team = λ p. p }))
    none_but_teams Continue is h none_of = absurd (none_of (record { command = Continue; are = is; team = λ p. p }))
    none_but_teams c is h none_of = h.1

    pub carries : (c : Command) → AreWordsOf words c → MakesWith brakes c source text ran → Carries brakes words source DONE text ran
    carries c is h = record {
      made = λ d other done. subst (λ (k : Command). MakesWith brakes k source text ran) (same_command words c d is other) h;
      none = λ neither. none_but_teams c is h (λ team. neither (team, refl));
    }

  pub carries_nothing : (words : List (List ℕ)) (status : ℕ) → (status ≡ DONE → ⊥) → Carries brakes words source status text None
  carries_nothing words status failed = record { made = λ c is done. absurd (failed done); none = λ neither. refl }

record_weaker : (ran : Option (Ended × Pass)) {P Q : Ended → View → Type 0} → ((e : Ended) (w : View) → P e w → Q e w) → RecordHolds ran P → RecordHolds ran Q
record_weaker None f h = h
record_weaker (Some r) f h = f r.0 (view_of r.1) h

-- ---- once the text is written

module _ (seen : Seen) where
  abbrev loads_plan : (n m : ℕ) (text : List ℕ) (e : Ended) (w : View) → HoldsLoad seen.brakes n m text e w → IsWritten seen text → LoadsPlan n m seen e
  loads_plan n m text e w h written = record {
    course = h.run.course;
    report = h.report;
    prints = record { written = subst (IsWritten seen) h.text_is written; promises = h.run.promises; whole = h.whole };
    real = h.run.real;
  }

  abbrev runs_plan : (text : List ℕ) (e : Ended) (w : View) → HoldsRun seen.brakes seen.source text e w → IsWritten seen text → RunsPlan seen e
  runs_plan text e w h written = record {
    plan = h.plan;
    course = h.run.course;
    report = h.report;
    prints = record { read = h.read; written = subst (IsWritten seen) h.text_is written; promises = h.run.promises };
    real = h.run.real;
  }

  abbrev continues_image : (text : List ℕ) (e : Ended) (w : View) → HoldsLife seen.brakes seen.source text e w → IsWritten seen text → ContinuesImage seen e
  continues_image text e w h written = record {
    image = h.image;
    plan = h.plan;
    course = h.writes.life.course;
    report = h.writes.report;
    prints = record {
      read = h.read;
      written = subst (IsWritten seen) h.writes.text_is written;
      promises = h.writes.life.promises;
      goes_on = h.writes.life.goes_on;
    };
    real = h.writes.life.real;
  }

  -- an answer that was written
  pub written : (a : IsAnsweredAndWritten seen seen.status) → Carries seen.brakes seen.words seen.source seen.status a.text seen.ran → IsTopCall seen
  written a h = record {
    run = λ is. record_weaker seen.ran (λ e v k. record { runs = runs_plan a.text e v k a.written; table = k.run.table }) (h.made Run is.asked is.done);
    load = λ n m is. record_weaker seen.ran (λ e v k. record { loads = loads_plan n m a.text e v k a.written; table = k.run.table }) (h.made (Load n m) is.asked is.done);
    continued = λ is. record_weaker seen.ran (λ e v k. record { continues = continues_image a.text e v k a.written; table = k.writes.life.table }) (h.made Continue is.asked is.done);
    no_record = h.none;
    answered = Told a;
  }

  -- none was
  pub unwritten : (seen.status ≡ DONE → ⊥) → seen.ran ≡ None → AnswersWords seen seen.status → IsTopCall seen
  unwritten failed none answered = record {
    run = λ is. absurd (failed is.done);
    load = λ n m is. absurd (failed is.done);
    continued = λ is. absurd (failed is.done);
    no_record = λ neither. none;
    answered = answered;
  }
