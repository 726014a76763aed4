use Rattle.std.proofs.Common.{◌≡◌, ◌∙◌, ◌++◌, [], List, length, get_or, take, drop, map, ap, subst, sym, arith, rules}
use Rattle.std.specs.List.{AllByRecursion as Each}
use Rattle.of_plan.specs.declared.answer.Answer.{Answer}
use Rattle.of_plan.specs.declared.answer.Ending.{Ending}
use Rattle.of_plan.specs.declared.answer.Ending.TheVariants.{Done}
use Rattle.of_plan.specs.Ended.{Ended}
use Rattle.of_caller.specs.declared.team_caller.TeamCaller.{TeamCaller}
use Rattle.of_caller.specs.PlanRows.{start_of_row}
use Rattle.of_caller.specs.Trees.{AllPaired}
use Rattle.of_caller.specs.Lanes.{IsReady, HasRun, KeepsLeft}
use Rattle.of_caller.specs.Seating.{IsAt, gathered, answers_in, endings_in}
use Rattle.of_caller.proofs.Pairs.{both_map, written}
use Rattle.of_caller.proofs.Seated.{seated_ready, ran_at, keep_stops}
use Rattle.of_caller.proofs.TeamEnds.{team_ends}
use Rattle.of_caller.proofs.team_run.team.Goals as goal

pub run_with_evictions-requires-clause-ready : goal.run_with_evictions-requires-clause-ready
run_with_evictions-requires-clause-ready g c κs within =
    subst (Each (IsReady c.args.plan.now c.args.row)) (sym c.as_mut_slice.ensures.value) (seated_ready c.args.plan.now c.args.row 0 c.enrol_all.new.lanes.items c.in_ok-pass.ensures.lanes)

pub gather-pass-requires-clause-lanes : goal.gather-pass-requires-clause-lanes
gather-pass-requires-clause-lanes g c =
    let row = c.args.row in
    let p = c.args.plan.now in
    let xs = c.enrol_all.new.lanes.items in
    let ys = c.run_with_evictions.new.lanes in
    let ran = subst (λ z. AllPaired (HasRun p row) z ys) c.as_mut_slice.ensures.value (both_map _ (HasRun p row) c.as_mut_slice.result.now ys (λ x y q. q.0) c.run_with_evictions.ensures.lanes) in
    let long : c.enrol_all.new.lanes.len ≡ length xs = search rules in
    subst (Each (IsAt row)) (sym (written (HasRun p row) xs ys c.enrol_all.new.lanes.len ran long)) (ran_at p row xs ys ran)

pub returns-clause-handed : goal.returns-clause-handed
returns-clause-handed g c = λ s starts.
    let row = c.args.row in
    let p = c.args.plan.now in
    let xs = c.enrol_all.new.lanes.items in
    let ys = c.run_with_evictions.new.lanes in
    let ran = subst (λ z. AllPaired (HasRun p row) z ys) c.as_mut_slice.ensures.value (both_map _ (HasRun p row) c.as_mut_slice.result.now ys (λ x y q. q.0) c.run_with_evictions.ensures.lanes) in
    let long : c.enrol_all.new.lanes.len ≡ length xs = search rules in
    let same = written (HasRun p row) xs ys c.enrol_all.new.lanes.len ran long in
    let zs = take c.enrol_all.new.lanes.len (ys ++ drop (length ys) xs) in
    let e : Ended = record { answers = map (λ v. v.items) c.gather-pass.new.all.items; endings = c.gather-pass.new.endings.items; words = c.close-words.result.0.items } in
    let v1 = c.run_with_evictions.new.pass.seat.me.0 in
    let v = c.gather-pass.result.seat.me.0 in
    let answers : e.answers ≡ answers_in ys = c.gather-pass.ensures.answers ∙ ap (λ l. map (λ v. v.items) l ++ answers_in zs) c.in_ok-answers.ensures.items ∙ ap answers_in same in
    let endings : e.endings ≡ endings_in ys = c.gather-pass.ensures.endings ∙ ap (λ l. l ++ endings_in zs) c.in_ok-endings.ensures.items ∙ ap endings_in same in
    let team = team_ends p row (record { plan = c.callers-callers.ensures.plan; row = c.requires.row; start = c.requires.start }) e c.in_ok-pass.pass.seat.me.0 v1 v xs ys c.in_ok-pass.ensures.seated c.run_with_evictions.ensures.view
    (c.gather-pass.ensures.view ∙ ap (gathered v1) same) c.in_ok-pass.ensures.lanes c.in_ok-pass.ensures.all ran answers endings c.close-words.ensures.words c.gather-pass.ensures.pass.2 s starts in
    let law = c.teams_are_lawful.ensures.lawful s (start_of_row row) e v team in
    record { sight = v; copy = c.close-words.ensures.view; team = team; report = law.0; reported = law.1; announced = law.2; scheduled = c.teams_are_lawful.ensures.scheduled s (start_of_row row) e v team }

pub returns-clause-stops : goal.returns-clause-stops
returns-clause-stops g c =
    let row = c.args.row in
    let p = c.args.plan.now in
    let xs = c.enrol_all.new.lanes.items in
    let ys = c.run_with_evictions.new.lanes in
    let M = λ (a : TeamCaller _ _). (goal.Brake-dyn g (a.brake.vtable, a.brake.value)).left a.brake.value in
    let ran = subst (λ z. AllPaired (HasRun p row) z ys) c.as_mut_slice.ensures.value (both_map _ (HasRun p row) c.as_mut_slice.result.now ys (λ x y q. q.0) c.run_with_evictions.ensures.lanes) in
    let told = subst (λ z. AllPaired (λ a b. KeepsLeft (M a) b.answers.items b.ending) z ys) c.as_mut_slice.ensures.value (both_map _ (λ a b. KeepsLeft (M a) b.answers.items b.ending) c.as_mut_slice.result.now ys (λ x y q. q.1) c.run_with_evictions.ensures.lanes) in
    let long : c.enrol_all.new.lanes.len ≡ length xs = search rules in
    let same = written (HasRun p row) xs ys c.enrol_all.new.lanes.len ran long in
    let zs = take c.enrol_all.new.lanes.len (ys ++ drop (length ys) xs) in
    let e : Ended = record { answers = map (λ v. v.items) c.gather-pass.new.all.items; endings = c.gather-pass.new.endings.items; words = c.close-words.result.0.items } in
    let answers : e.answers ≡ answers_in ys = c.gather-pass.ensures.answers ∙ ap (λ l. map (λ v. v.items) l ++ answers_in zs) c.in_ok-answers.ensures.items ∙ ap answers_in same in
    let endings : e.endings ≡ endings_in ys = c.gather-pass.ensures.endings ∙ ap (λ l. l ++ endings_in zs) c.in_ok-endings.ensures.items ∙ ap endings_in same in
    keep_stops (λ b. (goal.Brake-dyn g (b.vtable, b.value)).left b.value) M p row e 0 c.args.brakes.items xs ys c.in_ok-pass.ensures.lanes c.in_ok-pass.ensures.armed told (omega (arith, c.in_ok-pass.ensures.all))
    (λ i k is lt.
    let at : k ≡ i = omega (arith, is) in
    (ap (λ (l : List (List Answer)). get_or l k []) answers ∙ ap (λ j. get_or (answers_in ys) j []) at, ap (λ (l : List Ending). get_or l k Done) endings ∙ ap (λ j. get_or (endings_in ys) j Done) at))
