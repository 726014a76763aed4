use Rattle.std.proofs.Common.{◌≡◌, ◌++◌, List, ℕ, [], ◌∷◌, length, ap, subst, ◌∙◌, sym, refl, arith}
use Rattle.of_plan.specs.Plan.{scripts_of}
use Rattle.of_plan.specs.Serial.{CallId, serial_calls, serial_line}
use Rattle.of_serial.specs.SerialRun.{HasComeTo, course_after, calls_within}
use Rattle.of_serial.proofs.Courses.{run_below, lines_below, one_more_caller, lines_more, report_made}
use Rattle.of_serial.proofs.serial_run.serial.Goals as goal

pub loop-caller-preserved : goal.loop-caller-preserved
loop-caller-preserved c =
    let p = c.args.plan.now in
    let n : ℕ = c.loop-caller.caller in
    let calls : List CallId = run_below p n in
    let seq : c.loop-caller.run.seq ≡ length calls = c.loop-caller.invariant.runs.seq in
    let line : c.line.result ≡ serial_line (length (calls_within p (length calls) n)) (length (scripts_of p n)) =
    c.line.ensures ∙ ap (λ (m : ℕ). serial_line m (length c.scripts.result.now)) (c.in_ok-answered.ensures.count ∙ ap (λ (m : ℕ). length (calls_within p m n)) seq)
    ∙ ap (λ (m : ℕ). serial_line (length (calls_within p (length calls) n)) m) (ap length c.scripts.ensures.value) in
    record {
      within = c.in_ok-answered.ensures.within;
      runs = subst (HasComeTo c.run_caller.new.self)
          (ap (λ (m : ℕ). course_after p (calls ++ calls_within p m n)) seq ∙ ap (course_after p) (one_more_caller p n))
          (c.in_ok-answered.ensures.runs calls c.loop-caller.invariant.runs);
      lines =
          c.in_ok-push.ensures.items
          ∙ (λ i. c.loop-caller.invariant.lines i ++ line i ∷ [])
          ∙ sym (lines_more p n);
    }

pub returns-clause-whole : goal.returns-clause-whole
returns-clause-whole c = c.loop-caller.invariant.runs.whole

pub returns-clause-report : goal.returns-clause-report
returns-clause-report c =
    let p = c.args.plan.now in
    let all : c.loop-caller.caller ≡ p.callers = omega arith in
    let all_ran : HasComeTo c.loop-caller.run (course_after p (serial_calls p)) = subst (λ (n : ℕ). HasComeTo c.loop-caller.run (course_after p (run_below p n))) all c.loop-caller.invariant.runs in
    report_made p c.loop-caller.run
    (record { entries = c.loop-caller.run.entries; callers = c.loop-caller.callers; seq = c.loop-caller.run.seq; store = c.in_ok-store.field-0 })
    all_ran
    (c.loop-caller.invariant.lines ∙ ap (lines_below p) all)
    refl refl (c.in_ok-store.ensures _ all_ran.store)
