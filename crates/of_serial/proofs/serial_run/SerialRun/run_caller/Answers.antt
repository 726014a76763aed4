use Rattle.std.proofs.Common.{◌≡◌, ◌-◌, ◌++◌, List, [], length, take, get_or, map, ap, subst, ◌∙◌, arith}
use Rattle.std.specs.List.{range_with_len}
use Rattle.std.proofs.lemmas.List.{length-take}
use Rattle.std.proofs.lemmas.List.FromFn.{length-map-range_with_len}
use Rattle.of_plan.specs.Plan.{scripts_of}
use Rattle.of_script.specs.declared.instr.Instr.{Instr}
use Rattle.of_plan.specs.Serial.{CallId, called_script, calls_of}
use Rattle.of_serial.specs.SerialRun.{SerialRun, HasComeTo, course_after, after_call, calls_within}
use Rattle.of_serial.proofs.Courses.{one_more_call, next_call, first_calls, read_in_front, take_at_most, length-calls_of}
use Rattle.of_serial.proofs.serial_run.SerialRun.run_caller.Goals as goal

pub run_call-requires-clause-has : goal.run_call-requires-clause-has
run_call-requires-clause-has c = (_, c.loop-index.invariant.runs c.requires.has.0 c.requires.has.1)

pub loop-index-preserved : goal.loop-index-preserved
loop-index-preserved c =
    let p = c.args.plan.now in
    let call : CallId = (c.args.caller, c.loop-index.index) in
    let script : c.index-scripts-index.result ≡ called_script p call =
    read_in_front c.scripts-scripts.result.now c.min-count.result c.loop-index.index c.index-scripts-index.result [] c.index-scripts-index.is
    (omega (arith, length-take c.min-count.result c.scripts-scripts.result.now)) (omega (arith, length-take c.min-count.result c.scripts-scripts.result.now))
    ∙ ap (λ (xs : List (List Instr)). get_or xs c.loop-index.index []) c.scripts-scripts.ensures.value in
    record {
      seq =
          let now = c.loop-index.invariant.runs c.requires.has.0 c.requires.has.1 in
          omega (arith, (c.in_ok-run_call.ensures _ now).seq, now.seq, c.loop-index.invariant.seq);
      runs = λ calls has.
          let before = calls ++ map (λ j. (c.args.caller, j)) (range_with_len 0 c.loop-index.index) in
          let now = c.loop-index.invariant.runs calls has in
          subst (λ (h : SerialRun). HasComeTo c.run_call.new.self h)
          (ap (λ (s : List Instr). after_call (course_after p before) call s) script ∙ one_more_call p before call ∙ next_call p calls c.args.caller c.loop-index.index)
          (c.in_ok-run_call.ensures (course_after p before) now);
    }

front : (c : goal.After-loop-index) → map (λ i. (c.args.caller, i)) (range_with_len 0 c.loop-index.index) ≡ calls_within c.args.plan.now c.args.self.now.seq c.args.caller
front c =
    let xs = c.scripts-scripts.result.now in
    let many : length xs ≡ length (scripts_of c.args.plan.now c.args.caller) = ap length c.scripts-scripts.ensures.value in
    let size : length (take c.min-count.result xs) ≡ c.min-count.result = omega (arith, length-take c.min-count.result xs) in
    first_calls c.args.plan.now c.args.caller c.loop-index.index (omega arith)
    ∙ take_at_most (calls_of c.args.plan.now c.args.caller) (c.args.plan.now.limit - c.args.self.now.seq) c.loop-index.index (omega (arith, length-calls_of c.args.plan.now c.args.caller))

pub returns-clause-count : goal.returns-clause-count
returns-clause-count c =
    let xs = c.scripts-scripts.result.now in
    let size : length (take c.min-count.result xs) ≡ c.min-count.result = omega (arith, length-take c.min-count.result xs) in
    omega (arith, ap length (front c), length-map-range_with_len {X = CallId} (λ i. (c.args.caller, i)) 0 c.loop-index.index)

pub returns-clause-runs : goal.returns-clause-runs
returns-clause-runs c = λ calls has. subst (λ (t : List CallId). HasComeTo c.loop-index.self (course_after c.args.plan.now (calls ++ t))) (front c) (c.loop-index.invariant.runs calls has)
