-- A world of a plan's table from a start, and that its calls are the plan's.
use Rattle.std.proofs.Common.{◌≡◌, ℕ, ◌+◌, ◌-◌, ◌≤◌, ◌<◌, List, [], length, get_or, take, drop, refl, ap, ◌∙◌, arith}
use Rattle.std.specs.List.{All, AllByRecursion as Each}
use Rattle.std.proofs.Math.ListN.{get_or-map}
use Rattle.std.proofs.lemmas.List.{length-map, length-take-le, length-drop, get_or-take, get_or-drop}
use Rattle.std.proofs.lemmas.List.Elements.{All-from_recursion}
use Rattle.of_script.specs.declared.instr.Instr.{Instr}
use Rattle.of_script.specs.Language.{IsScript}
use Rattle.of_eval.specs.declared.scripts.Scripts.{Scripts}
use Rattle.of_plan.specs.Plan.{Plan, IsPlan, scripts_of}
use Rattle.of_plan.specs.Report.{Start, finished_of}
use Rattle.of_core.specs.declared.place.Outcome.{Outcome}
use Rattle.of_core.specs.Machine.{Call}
use Rattle.of_core.specs.TableMoment.{Moment, TableStart}
use Rattle.of_caller.specs.Tables.{operation_of}
use Rattle.of_caller.specs.Moments.{script_of_ticket, batch_calls}
use Rattle.of_caller.specs.Runs.{IsMomentOf}

-- the work that a plan's table runs
abbrev pub work_of : (p : Plan) → IsPlan p → Scripts
work_of p is = record { callers = p.callers; blocks = p.blocks; some_callers = is.some_callers; few_callers = omega (arith, is.few_callers); few_blocks = omega (arith, is.few_blocks) }

-- caller i has a script with the ticket t, and these are its words
pub record IsOperation (p : Plan) (i t : ℕ) (op : List ℕ) : Type 0 where
  pub caller : i < p.callers
  pub some : 0 < t
  pub among : t ≤ length (scripts_of p i)
  pub words : op ≡ operation_of (script_of_ticket p i t)
  pub script : IsScript (script_of_ticket p i t)

-- the call is one of a script of its caller
abbrev pub IsCallOf : Plan → Call → Type 0
IsCallOf p c = IsOperation p c.caller c.ticket c.op

module _ (p : Plan) (s : Start) (B : TableStart) (w : Moment) (ops : ℕ → List (List ℕ)) (outs : ℕ → List Outcome) (h : IsMomentOf p s B w ops outs) where
  -- what a caller has begun is its scripts in order
  pub operation_is : (i t : ℕ) (op : List ℕ) → i < p.callers → finished_of s i < t → t ≤ finished_of s i + length (ops i) → op ≡ get_or (ops i) (t - finished_of s i - 1) [] → IsOperation p i t op
  operation_is i t op l some among is =
      let q = h.scripts i l in
      let n = finished_of s i in
      let scripts = scripts_of p i in
      let left : List (List Instr) = drop n scripts in
      let long : length left ≡ length scripts - n = length-drop n scripts in
      let few : q.count ≤ length left = omega (arith, q.few, long) in
      let many : length (ops i) ≡ q.count = ap length q.are ∙ length-map (take q.count left) operation_of ∙ length-take-le q.count left few in
      let at : n + (t - n - 1) ≡ t - 1 = omega (arith, some) in
      let e : get_or (ops i) (t - n - 1) [] ≡ operation_of (script_of_ticket p i t) =
      ap (λ (os : List (List ℕ)). get_or os (t - n - 1) []) q.are ∙ get_or-map operation_of (take q.count left) (t - n - 1) [] ∙ ap operation_of (get_or-take q.count left (t - n - 1) [] (omega (arith, many, some, among)))
      ∙ ap operation_of (get_or-drop n scripts (t - n - 1) []) ∙ ap (λ (x : ℕ). operation_of (get_or scripts x [])) at in
      let each : Each IsScript scripts = All-from_recursion (Each IsScript) p.scripts h.plan.each_script i [] (omega (arith, h.plan.each_caller, l)) in
      record {
        caller = l;
        some = omega (arith, some);
        among = omega (arith, many, among, few, long, some);
        words = is ∙ e;
        script = All-from_recursion IsScript scripts each (t - 1) [] (omega (arith, many, some, among, few, long));
      }

  -- each call of a batch is one of a script of its caller
  pub op_is : (k : ℕ) → B.seq < k → k ≤ B.seq + length w.batches → All (IsCallOf p) (batch_calls B w k)
  op_is k some upto j d l =
      let c = get_or (batch_calls B w k) j d in
      let b = h.sound.begun k some upto j d l in
      let o = (h.calls c.caller b.0).calls k some upto j d l refl in
      operation_is c.caller c.ticket c.op b.0 o.0 o.1 o.2
