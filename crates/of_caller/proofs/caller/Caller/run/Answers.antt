use Rattle.std.proofs.Common.{◌≡◌, sym, subst, true, false, ◌∙◌}
use Rattle.of_caller.specs.declared.caller.loading.Course.{Course}
use Rattle.of_caller.specs.Callers.{caller_call}
use Rattle.of_caller.specs.Fronts.{front_now}
use Rattle.of_caller.specs.Loading.{Stands}
use Rattle.of_caller.proofs.Loadings.{may_tell, may_read, reads_owed, stands_of, owes_first, some_or_same, some_also, ran_as, has_read, has_lacked}
use Rattle.of_caller.proofs.caller.Caller.run.Goals as goal

pub run_from-requires-clause-may : goal.run_from-requires-clause-may
run_from-requires-clause-may g c =
    let l = c.args.cells.now in
    may_tell g.W.Work.meaning g.W.Work.lawful g.B.Brake.denials g.B.Brake.left g.B.Brake.answers g.B.Brake.asks l.row.now g.O.LoadArgs.front g.K.RunKind.scans l.course l.caller l.brake l.steps c.args.words.now c.work-work.result g.W.Work.size c.requires.told c.requires.goes_on c.requires.caller c.requires.owes c.requires.kind c.requires.fresh c.work-work.ensures c.shape.ensures.work.1 c.requires.words

pub read_from-requires-clause-may : goal.read_from-requires-clause-may
read_from-requires-clause-may g c =
    let l = c.args.cells.now in
    may_read g.W.Work.meaning g.W.Work.lawful g.B.Brake.denials g.B.Brake.left g.B.Brake.answers g.B.Brake.asks l.row.now g.K.RunKind.scans _ _ _ _ _ _ l.caller.now (sym c.in_scan-in_scan.ensures ∙ c.if-in_scan.false)
    (may_tell g.W.Work.meaning g.W.Work.lawful g.B.Brake.denials g.B.Brake.left g.B.Brake.answers g.B.Brake.asks l.row.now g.O.LoadArgs.front g.K.RunKind.scans l.course l.caller l.brake l.steps c.args.words.now c.work-work.result g.W.Work.size c.requires.told c.requires.goes_on c.requires.caller c.requires.owes c.requires.kind c.requires.fresh c.work-work.ensures c.shape.ensures.work.1 c.requires.words)

pub read_from-requires-clause-reads : goal.read_from-requires-clause-reads
read_from-requires-clause-reads g c =
    let l = c.args.cells.now in
    reads_owed g.W.Work.meaning g.W.Work.lawful g.B.Brake.denials g.B.Brake.left g.B.Brake.answers g.B.Brake.asks l.row.now l.caller.now c.args.words.now c.work-work.result c.requires.caller c.requires.owes (c.requires.kind ∙ sym c.in_scan-in_scan.ensures ∙ c.if-in_scan.false) c.work-work.ensures (rw (sym c.in_scan-in_scan.ensures ∙ c.if-in_scan.false) at c.requires.words)

pub returns-then-in_scan-clause-stands : goal.returns-then-in_scan-clause-stands
returns-then-in_scan-clause-stands g c =
    let l = c.args.cells.now in
    let now = c.run_from.new.cells in
    some_or_same l now c.run_from.result _ _
    (λ n. Stands g.W.Work.meaning g.W.Work.lawful g.B.Brake.denials g.B.Brake.left g.B.Brake.answers g.B.Brake.asks l.row.now (front_now g.W.Work.meaning l.row.now g.K.RunKind.scans l.caller l.brake l.steps) n.course n.caller.now n.brake.now n.steps.now)
    (λ _ h. stands_of g.W.Work.meaning g.W.Work.lawful g.B.Brake.denials g.B.Brake.left g.B.Brake.answers g.B.Brake.asks now.row.now g.O.LoadArgs.front (front_now g.W.Work.meaning l.row.now g.K.RunKind.scans l.caller l.brake l.steps) c.requires.told g.K.RunKind.scans now.caller.ghost_name now.brake.ghost_name now.steps.ghost_name now.course now.caller.now now.brake.now now.steps.now (caller_call now.caller.now).known h.goes.knows)
    (subst (λ (x : Course). Stands g.W.Work.meaning g.W.Work.lawful g.B.Brake.denials g.B.Brake.left g.B.Brake.answers g.B.Brake.asks l.row.now (front_now g.W.Work.meaning l.row.now g.K.RunKind.scans l.caller l.brake l.steps) x l.caller.now l.brake.now l.steps.now) (sym c.requires.goes_on) (owes_first g.W.Work.meaning g.W.Work.lawful g.B.Brake.denials g.B.Brake.left g.B.Brake.answers g.B.Brake.asks l.row.now l.caller l.brake l.steps g.K.RunKind.scans c.requires.caller c.requires.owes c.requires.kind))
    c.run_from.ensures.ran c.run_from.ensures.none

pub returns-then-in_scan-clause-ran : goal.returns-then-in_scan-clause-ran
returns-then-in_scan-clause-ran g c = λ goes_on.
    let l = c.args.cells.now in
    let now = c.run_from.new.cells in
    some_also c.run_from.result _ _ (λ r h. ran_as g.W.Work.meaning g.W.Work.lawful g.B.Brake.denials g.B.Brake.left g.B.Brake.answers g.B.Brake.asks now.row.now g.O.LoadArgs.front (front_now g.W.Work.meaning l.row.now g.K.RunKind.scans l.caller l.brake l.steps) c.requires.told g.K.RunKind.scans now.caller.ghost_name now.brake.ghost_name now.steps.ghost_name now.course now.caller.now now.brake.now now.steps.now c.work-work.result c.args.words.now c.work-work.ensures c.requires.words goes_on _ _ _ r h) c.run_from.ensures.ran
