-- What a team hands back, put together of its lanes and its pass.
use Rattle.std.proofs.Common.{◌≡◌, ℕ, ◌<◌, inl, inr, List, [], ◌∷◌, ◌++◌, length, map, get_or, true, false, sym, ap, ◌∙◌, subst, arith}
use Rattle.std.specs.Int.{bit_at}
use Rattle.std.proofs.lemmas.List.{length-map}
use Rattle.of_eval.specs.declared.scripts.Scripts.{Scripts}
use Rattle.of_eval.specs.Scripts.{LawfulCells, scripts_meaning}
use Rattle.of_plan.specs.declared.answer.Answer.{Answer}
use Rattle.of_plan.specs.declared.answer.Ending.{Ending}
use Rattle.of_plan.specs.declared.answer.Ending.TheVariants.{Done}
use Rattle.of_plan.specs.Plan.{Plan}
use Rattle.of_plan.specs.Report.{Start}
use Rattle.of_plan.specs.Ended.{Ended, answers_of, ending_of}
use Rattle.of_row.specs.Views.{KnownCaller, View}
use Rattle.of_row.specs.Rule.{members_of, IsAsked, ViewMeetsRule, IsCallerKept, KeepsAll}
use Rattle.of_row.specs.Rows.{key_of, setup_at}
use Rattle.of_row.specs.declared.row.Row.{Row}
use Rattle.of_caller.specs.declared.team_caller.TeamCaller.{TeamCaller}
use Rattle.of_caller.specs.Tables.{plan_setup, IsLawfulFor}
use Rattle.of_caller.specs.Starts.{StartsAtPlan}
use Rattle.of_caller.specs.PlanRows.{start_of_row}
use Rattle.of_caller.specs.Teams.{KeepsCaller, KeepsCallerWith, evictions_of, IsTeamOf}
use Rattle.of_caller.specs.Trees.{AllPaired}
use Rattle.of_caller.specs.Lanes.{IsPlanRow, HasRun}
use Rattle.of_caller.specs.Seating.{HasSeated, EvictsCells, Seated, done_at, gathered, answers_in, endings_in}
use Rattle.of_caller.proofs.RowStarts.{meets_for, done_is}
use Rattle.of_caller.proofs.Pairs.{both_length}
use Rattle.of_caller.proofs.Seated.{kept_in, gathered_is, kept_so}

pub is_kept : (c : ℕ) (P : KnownCaller → Type 0) (xs : List KnownCaller) → KeepsCallerWith c P xs → IsCallerKept c xs
is_kept c P [] q = absurd q
is_kept c P (x ∷ xs) (inl q) = inl q.0
is_kept c P (x ∷ xs) (inr q) = inr (is_kept c P xs q)

module _ {X : Type 0} {Y : X → Type 0} (p : Plan) (r : Row Scripts) (row : IsPlanRow p r) (e : Ended) (v0 v1 v : View) (xs ys : List (TeamCaller X Y))
    (seated : HasSeated p.callers v0) (evicts : EvictsCells (evictions_of p) v0 v1) (is : v ≡ gathered v1 ys) (seats : Seated p r 0 xs) (all : length xs ≡ p.callers) (ran : AllPaired (HasRun p r) xs ys)
    (answers : e.answers ≡ answers_in ys) (endings : e.endings ≡ endings_in ys) (closes : ViewMeetsRule (setup_at scripts_meaning r) (LawfulCells (key_of r).work) (start_of_row r) e.words v) (live : v.spent ≡ false) where
  many : length ys ≡ p.callers
  many = both_length (HasRun p r) xs ys ran ∙ all

  meets : ViewMeetsRule (plan_setup p) (IsLawfulFor p) (start_of_row r) e.words v
  meets = meets_for p r row.row (start_of_row r) e.words v closes

  kept_are : v.kept ≡ kept_in ys
  kept_are = ap (λ (z : View). z.kept) is ∙ (gathered_is v1 ys).0 ∙ ap (λ (l : List KnownCaller). l ++ kept_in ys) (evicts.kept ∙ seated.kept)

  -- each caller is kept, with its answers and its ending
  each : (c : ℕ) → c < p.callers → KeepsCallerWith c (KeepsCaller p (done_at r c) c (answers_of e c) (ending_of e c)) v.kept
  each c lt =
      let so = kept_so p r 0 xs ys seats ran c c (omega arith) (omega (arith, lt, many)) in
      subst (λ (l : List KnownCaller). KeepsCallerWith c (KeepsCaller p (done_at r c) c (answers_of e c) (ending_of e c)) l) (sym kept_are)
      (subst (λ (l : List (List Answer)). KeepsCallerWith c (KeepsCaller p (done_at r c) c (get_or l c []) (ending_of e c)) (kept_in ys)) (sym answers)
      (subst (λ (l : List Ending). KeepsCallerWith c (KeepsCaller p (done_at r c) c (get_or (answers_in ys) c []) (get_or l c Done)) (kept_in ys)) (sym endings) so))

  -- the numbers that are taken are those that this pass has asked for, which are the callers'
  keeps_all : KeepsAll (plan_setup p) e.words v
  keeps_all n on =
      let fits = meets.rule.each meets.seat v meets.view live in
      let first : v.first ≡ true = ap (λ (z : View). z.first) is ∙ (gathered_is v1 ys).1 ∙ evicts.first ∙ seated.first in
      let asked = (fits.first first).asked n (ap (λ (ws : List ℕ). bit_at (members_of (plan_setup p) ws) n) meets.words ∙ on) in
      let below = seated.below n (subst (IsAsked n) (ap (λ (z : View). z.asked) is ∙ (gathered_is v1 ys).2 ∙ evicts.asked) asked) in
      is_kept n (KeepsCaller p (done_at r n) n (answers_of e n) (ending_of e n)) v.kept (each n below)

  pub team_ends : (s : Start) → StartsAtPlan p s (start_of_row r) → IsTeamOf p s (start_of_row r) e v
  team_ends s starts = record {
    plan = row.plan;
    starts = starts;
    meets = meets;
    live = live;
    keeps_all = keeps_all;
    first = ap (λ (z : View). z.first) is ∙ (gathered_is v1 ys).1 ∙ evicts.first ∙ seated.first;
    loaded = ap (λ (z : View). z.loaded) is ∙ (gathered_is v1 ys).4 ∙ evicts.loaded seated.loaded;
    evicted = ap (map (λ (f : ℕ × ℕ). f.0)) (ap (λ (z : View). z.evicted) is ∙ (gathered_is v1 ys).3) ∙ (evicts.evicted ∙ ap (λ (l : List (ℕ × ℕ)). map (λ (f : ℕ × ℕ). f.0) l ++ evictions_of p) seated.evicted);
    answers = ap length answers ∙ length-map ys (λ (a : TeamCaller X Y). a.answers.items) ∙ many;
    endings = ap length endings ∙ length-map ys (λ (a : TeamCaller X Y). a.ending) ∙ many;
    each = λ c lt. subst (λ (n : ℕ). KeepsCallerWith c (KeepsCaller p n c (answers_of e c) (ending_of e c)) v.kept) (done_is p r row.row s starts c lt) (each c lt);
  }
