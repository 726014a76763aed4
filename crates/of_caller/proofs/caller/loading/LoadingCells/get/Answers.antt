use Rattle.std.proofs.Common.{◌≡◌, ◌<◌, refl, sym, subst, ◌∙◌, ap, Bool, true, None, Ok, Err}
use Rattle.of_mem.specs.CellMap.{value_for}
use Rattle.of_mem.specs.OnDemand.{RunsOn, read_cell}
use Rattle.of_mem.specs.Part.{Part, ReadsAt, newest_at}
use Rattle.of_core.specs.declared.place.Place.{Place}
use Rattle.of_core.specs.Fit.{is_scanning}
use Rattle.of_core.specs.Machine.{IsOpen}
use Rattle.of_core.specs.MachineValue.{Machine}
use Rattle.of_core.specs.OwedRun.{with_cell_loaded, at_load, run_part, run_batch, load_for}
use Rattle.of_caller.specs.declared.caller.Caller.{Caller}
use Rattle.of_caller.specs.declared.caller.loading.Course.{Course}
use Rattle.of_caller.specs.declared.caller.loading.Course.TheVariants.{HasEnded, WasDenied}
use Rattle.of_caller.specs.Callers.{IsCaller, caller_call}
use Rattle.of_caller.specs.Going.{true_caller, LeadsOn, LeadsToDenial, steps_left}
use Rattle.of_caller.specs.Loading.{StillOwes, Stands, loading, run_cells}
use Rattle.of_caller.proofs.Loadings.{read_own, read_there, newest_under, lacks_now, led_on, loads, stops, tells, only_read, load_open}
use Rattle.of_caller.proofs.caller.loading.LoadingCells.get.Goals as goal

pub returns-in-Some-clause-runs : goal.returns-in-Some-clause-runs
returns-in-Some-clause-runs g c =
    let l = c.args.self.now in
    let k = c.requires.knows in
    let f = k.first in
    tells g.W.Work.meaning g.W.Work.lawful g.B.Brake.denials g.B.Brake.left g.B.Brake.answers g.B.Brake.asks l.row.now g.O.LoadArgs.front f k.told (read_cell c.args.addr) g.K.RunKind.scans l.caller.ghost_name l.brake.ghost_name l.steps.ghost_name l.course l.course l.caller.now l.caller.now l.brake.now l.brake.now l.steps.now l.steps.now _ k.lent
    (read_own g.W.Work.meaning g.W.Work.lawful g.B.Brake.denials g.B.Brake.left g.B.Brake.answers g.B.Brake.asks l.row.now f l.course l.caller.now l.brake.now l.steps.now c.args.addr c.in-Some.value k.knows (sym c.written.ensures ∙ c.in-Some.is))

pub returns-in_default-course : goal.returns-in_default-course
returns-in_default-course g c =
    let l = c.args.self.now in
    let k = c.requires.knows in
    let f = k.first in
    let seen = subst (λ (b : Bool). ReadsAt (run_part b (caller_call l.caller.now)) c.args.addr c.newest_for.result) (c.in_scan-in_scan.ensures ∙ k.lent.kind) c.newest_for.ensures in
    record {
      part = refl;
      runs = tells g.W.Work.meaning g.W.Work.lawful g.B.Brake.denials g.B.Brake.left g.B.Brake.answers g.B.Brake.asks l.row.now g.O.LoadArgs.front f k.told (read_cell c.args.addr) g.K.RunKind.scans l.caller.ghost_name l.brake.ghost_name l.steps.ghost_name l.course l.course l.caller.now l.caller.now l.brake.now l.brake.now l.steps.now l.steps.now _ k.lent
          (read_there g.W.Work.meaning g.W.Work.lawful g.B.Brake.denials g.B.Brake.left g.B.Brake.answers g.B.Brake.asks l.row.now f l.course l.caller.now l.brake.now l.steps.now c.args.addr c.newest_for.result k.knows (sym c.written.ensures ∙ c.in_default.is) seen);
    }

pub newest-requires-clause-owes : goal.newest-requires-clause-owes
newest-requires-clause-owes g c =
    let l = c.args.self.now in
    let k = c.requires.knows in
    let f = k.first in
    let c0 = l.caller.now in
    let owes : StillOwes g.W.Work.meaning g.W.Work.lawful g.B.Brake.denials g.B.Brake.left g.B.Brake.answers g.B.Brake.asks l.row.now f c0 l.brake.now l.steps.now = subst (λ (x : Course). Stands g.W.Work.meaning g.W.Work.lawful g.B.Brake.denials g.B.Brake.left g.B.Brake.answers g.B.Brake.asks l.row.now f x c0 l.brake.now l.steps.now) c.in-GoesOn.is k.knows.0 in
    owes.owes

pub newest-requires-clause-kind : goal.newest-requires-clause-kind
newest-requires-clause-kind g c =
    let l = c.args.self.now in
    let k = c.requires.knows in
    let f = k.first in
    let c0 = l.caller.now in
    let owes : StillOwes g.W.Work.meaning g.W.Work.lawful g.B.Brake.denials g.B.Brake.left g.B.Brake.answers g.B.Brake.asks l.row.now f c0 l.brake.now l.steps.now = subst (λ (x : Course). Stands g.W.Work.meaning g.W.Work.lawful g.B.Brake.denials g.B.Brake.left g.B.Brake.answers g.B.Brake.asks l.row.now f x c0 l.brake.now l.steps.now) c.in-GoesOn.is k.knows.0 in
    owes.kind ∙ sym k.lent.kind ∙ sym c.in_scan-in_scan.ensures

pub returns-in-Ok-clause-runs : goal.returns-in-Ok-clause-runs
returns-in-Ok-clause-runs g c =
    let l = c.args.self.now in
    let k = c.requires.knows in
    let f = k.first in
    let c0 = l.caller.now in
    let owes : StillOwes g.W.Work.meaning g.W.Work.lawful g.B.Brake.denials g.B.Brake.left g.B.Brake.answers g.B.Brake.asks l.row.now f c0 l.brake.now l.steps.now = subst (λ (x : Course). Stands g.W.Work.meaning g.W.Work.lawful g.B.Brake.denials g.B.Brake.left g.B.Brake.answers g.B.Brake.asks l.row.now f x c0 l.brake.now l.steps.now) c.in-GoesOn.is k.knows.0 in
    let seen = subst (λ (b : Bool). ReadsAt (run_part b (caller_call c0)) c.args.addr (Ok c.in-Ok.value)) (c.in_scan-in_scan.ensures ∙ k.lent.kind) (subst (λ (x : _). ReadsAt (run_part c.in_scan-in_scan.result (caller_call c0)) c.args.addr x) c.in-Ok.is c.newest.ensures) in
    tells g.W.Work.meaning g.W.Work.lawful g.B.Brake.denials g.B.Brake.left g.B.Brake.answers g.B.Brake.asks l.row.now g.O.LoadArgs.front f k.told (read_cell c.args.addr) g.K.RunKind.scans l.caller.ghost_name l.brake.ghost_name l.steps.ghost_name l.course l.course l.caller.now l.caller.now l.brake.now l.brake.now l.steps.now l.steps.now _ k.lent
    (read_there g.W.Work.meaning g.W.Work.lawful g.B.Brake.denials g.B.Brake.left g.B.Brake.answers g.B.Brake.asks l.row.now f l.course c0 l.brake.now l.steps.now c.args.addr (Ok c.in-Ok.value) k.knows (sym c.written.ensures ∙ c.in_default.is) seen)

pub lack-place-requires : goal.lack-place-requires
lack-place-requires g c =
    let l = c.args.self.now in
    let k = c.requires.knows in
    let f = k.first in
    let c0 = l.caller.now in
    let owes : StillOwes g.W.Work.meaning g.W.Work.lawful g.B.Brake.denials g.B.Brake.left g.B.Brake.answers g.B.Brake.asks l.row.now f c0 l.brake.now l.steps.now = subst (λ (x : Course). Stands g.W.Work.meaning g.W.Work.lawful g.B.Brake.denials g.B.Brake.left g.B.Brake.answers g.B.Brake.asks l.row.now f x c0 l.brake.now l.steps.now) c.in-GoesOn.is k.knows.0 in
    let none = subst (λ (b : Bool). newest_at (run_part b (caller_call c0)) c.args.addr ≡ None) (c.in_scan-in_scan.ensures ∙ k.lent.kind) c.in-Err.ensures.0 in
    let here = subst (λ (b : Bool). newest_at (run_part b (caller_call c0)) c.args.addr ≡ None) (sym k.lent.kind) none in
    record {
      owes = owes.owes;
      kind = owes.kind ∙ sym k.lent.kind ∙ sym c.in_scan-in_scan.ensures;
      lacks = lacks_now g.W.Work.meaning g.W.Work.lawful g.B.Brake.denials g.B.Brake.left g.B.Brake.answers g.B.Brake.asks l.row.now f c0 l.brake.now l.steps.now c.args.addr owes (c.requires.lacks (newest_under (run_cells g.K.RunKind.scans c0) c.args.addr (sym c.written.ensures ∙ c.in_default.is) ∙ here) f k.told);
    }

pub turn_owing-requires-clause-caller : goal.turn_owing-requires-clause-caller
turn_owing-requires-clause-caller g c =
    let l = c.args.self.now in
    let k = c.requires.knows in
    let f = k.first in
    let c0 = l.caller.now in
    let owes : StillOwes g.W.Work.meaning g.W.Work.lawful g.B.Brake.denials g.B.Brake.left g.B.Brake.answers g.B.Brake.asks l.row.now f c0 l.brake.now l.steps.now = subst (λ (x : Course). Stands g.W.Work.meaning g.W.Work.lawful g.B.Brake.denials g.B.Brake.left g.B.Brake.answers g.B.Brake.asks l.row.now f x c0 l.brake.now l.steps.now) c.in-GoesOn.is k.knows.0 in
    let is : ◌≡◌ {A = Caller g.row.W.Denot} (record { member = c0.member; machine = c.lack-place.new.self; writes = c0.writes }) (true_caller g.W.Work.meaning true c0) = λ i. record { member = c0.member; machine = c.lack-place.ensures.after i; writes = c0.writes } in
    subst (IsCaller g.W.Work.meaning l.row.now) (sym is) owes.led.caller

pub turn_owing-requires-clause-here : goal.turn_owing-requires-clause-here
turn_owing-requires-clause-here g c =
    let l = c.args.self.now in
    let k = c.requires.knows in
    let f = k.first in
    let c0 = l.caller.now in
    let owes : StillOwes g.W.Work.meaning g.W.Work.lawful g.B.Brake.denials g.B.Brake.left g.B.Brake.answers g.B.Brake.asks l.row.now f c0 l.brake.now l.steps.now = subst (λ (x : Course). Stands g.W.Work.meaning g.W.Work.lawful g.B.Brake.denials g.B.Brake.left g.B.Brake.answers g.B.Brake.asks l.row.now f x c0 l.brake.now l.steps.now) c.in-GoesOn.is k.knows.0 in
    c.lack-place.ensures.place ∙ ap (λ (b : Bool). load_for b c.args.addr) (c.in_scan-in_scan.ensures ∙ k.lent.kind ∙ sym owes.kind) ∙ sym (ap (λ (m : Machine g.row.W.Denot). m.call.place) c.lack-place.ensures.load)

pub turn_owing-requires-clause-open : goal.turn_owing-requires-clause-open
turn_owing-requires-clause-open g c =
    let l = c.args.self.now in
    subst IsOpen (sym c.lack-place.ensures.place) (load_open c.in_scan-in_scan.result c.args.addr)

pub returns-in-Ok-Some : goal.returns-in-Ok-Some
returns-in-Ok-Some g c =
    let l = c.args.self.now in
    let k = c.requires.knows in
    let f = k.first in
    let c0 = l.caller.now in
    let owes : StillOwes g.W.Work.meaning g.W.Work.lawful g.B.Brake.denials g.B.Brake.left g.B.Brake.answers g.B.Brake.asks l.row.now f c0 l.brake.now l.steps.now = subst (λ (x : Course). Stands g.W.Work.meaning g.W.Work.lawful g.B.Brake.denials g.B.Brake.left g.B.Brake.answers g.B.Brake.asks l.row.now f x c0 l.brake.now l.steps.now) c.in-GoesOn.is k.knows.0 in
    let now = c.turn_owing.new in
    let lacked : Caller g.row.W.Denot = record { member = c0.member; machine = c.lack-place.new.self; writes = c0.writes } in
    let is : lacked ≡ true_caller g.W.Work.meaning true c0 = λ i. record { member = c0.member; machine = c.lack-place.ensures.after i; writes = c0.writes } in
    let none = subst (λ (b : Bool). newest_at (run_part b (caller_call c0)) c.args.addr ≡ None) (c.in_scan-in_scan.ensures ∙ k.lent.kind) c.in-Err.ensures.0 in
    let own = sym c.written.ensures ∙ c.in_default.is in
    let t = c.in-Ok-Some.ensures in
    let goes = subst (λ (x : Caller g.row.W.Denot). LeadsOn g.W.Work.meaning g.W.Work.lawful g.B.Brake.denials g.B.Brake.left g.B.Brake.answers g.B.Brake.asks l.row.now x l.brake.now l.steps.now (true_caller g.W.Work.meaning true now.self) now.brake now.steps) is (rw c.in-Ok-Some.field-0-is at t.goes) in
    let falls = subst (λ (x : Caller g.row.W.Denot). steps_left g.W.Work.meaning (true_caller g.W.Work.meaning true now.self) < steps_left g.W.Work.meaning x) is (rw c.in-Ok-Some.field-0-is at t.falls) in
    let led = led_on g.W.Work.meaning g.W.Work.lawful g.B.Brake.denials g.B.Brake.left g.B.Brake.answers g.B.Brake.asks l.row.now f (true_caller g.W.Work.meaning true c0) (true_caller g.W.Work.meaning true now.self) l.brake.now now.brake l.steps.now now.steps owes.led (rw c.in-Ok-Some.field-0-is at t.caller) goes falls in
    let loaded = t.loaded g.K.RunKind.scans c.args.addr c.in-Ok-Some.found (c.lack-place.ensures.place ∙ ap (λ (b : Bool). load_for b c.args.addr) c.in_scan-in_scan.ensures) (ap Ok c.in-Ok-Some.field-0-is) ∙ ap (λ (m : Machine g.row.W.Denot). with_cell_loaded g.W.Work.meaning m c.args.addr c.in-Ok-Some.found) c.lack-place.ensures.load in
    record {
      part = only_read g.W.Work.meaning g.W.Work.lawful g.B.Brake.denials g.B.Brake.left g.B.Brake.answers g.B.Brake.asks l.row.now g.K.RunKind.scans c0 now.self (ap (λ (m : Machine g.row.W.Denot). run_batch g.K.RunKind.scans m.call) loaded) t.writes;
      runs = tells g.W.Work.meaning g.W.Work.lawful g.B.Brake.denials g.B.Brake.left g.B.Brake.answers g.B.Brake.asks l.row.now g.O.LoadArgs.front f k.told (read_cell c.args.addr) g.K.RunKind.scans l.caller.ghost_name l.brake.ghost_name l.steps.ghost_name l.course l.course l.caller.now now.self l.brake.now now.brake l.steps.now now.steps _ k.lent
          (subst (λ (x : Course). RunsOn (read_cell c.args.addr) (loading g.W.Work.meaning g.W.Work.lawful g.B.Brake.denials g.B.Brake.left g.B.Brake.answers g.B.Brake.asks l.row.now f x c0 l.brake.now l.steps.now) (loading g.W.Work.meaning g.W.Work.lawful g.B.Brake.denials g.B.Brake.left g.B.Brake.answers g.B.Brake.asks l.row.now f x now.self now.brake now.steps) (Ok c.payload_of.result)) (sym c.in-GoesOn.is) (loads g.W.Work.meaning g.W.Work.lawful g.B.Brake.denials g.B.Brake.left g.B.Brake.answers g.B.Brake.asks l.row.now f c0 now.self l.brake.now now.brake l.steps.now now.steps c.args.addr c.payload_of.result c.in-Ok-Some.found owes own none c.requires.below ((rw c.in-Ok-Some.field-0-is at t.owes) refl) loaded t.writes c.payload_of.ensures led));
    }

pub returns-in-Ok-None : goal.returns-in-Ok-None
returns-in-Ok-None g c =
    let l = c.args.self.now in
    let k = c.requires.knows in
    let f = k.first in
    let c0 = l.caller.now in
    let owes : StillOwes g.W.Work.meaning g.W.Work.lawful g.B.Brake.denials g.B.Brake.left g.B.Brake.answers g.B.Brake.asks l.row.now f c0 l.brake.now l.steps.now = subst (λ (x : Course). Stands g.W.Work.meaning g.W.Work.lawful g.B.Brake.denials g.B.Brake.left g.B.Brake.answers g.B.Brake.asks l.row.now f x c0 l.brake.now l.steps.now) c.in-GoesOn.is k.knows.0 in
    let now = c.turn_owing.new in
    let lacked : Caller g.row.W.Denot = record { member = c0.member; machine = c.lack-place.new.self; writes = c0.writes } in
    let is : lacked ≡ true_caller g.W.Work.meaning true c0 = λ i. record { member = c0.member; machine = c.lack-place.ensures.after i; writes = c0.writes } in
    let none = subst (λ (b : Bool). newest_at (run_part b (caller_call c0)) c.args.addr ≡ None) (c.in_scan-in_scan.ensures ∙ k.lent.kind) c.in-Err.ensures.0 in
    let own = sym c.written.ensures ∙ c.in_default.is in
    let t = c.in-Ok-None.ensures in
    let goes = subst (λ (x : Caller g.row.W.Denot). LeadsOn g.W.Work.meaning g.W.Work.lawful g.B.Brake.denials g.B.Brake.left g.B.Brake.answers g.B.Brake.asks l.row.now x l.brake.now l.steps.now now.self now.brake now.steps) is (rw c.in-Ok-None.field-0-is at t.goes) in
    let falls = subst (λ (x : Caller g.row.W.Denot). steps_left g.W.Work.meaning now.self < steps_left g.W.Work.meaning x) is (rw c.in-Ok-None.field-0-is at t.falls) in
    let led = led_on g.W.Work.meaning g.W.Work.lawful g.B.Brake.denials g.B.Brake.left g.B.Brake.answers g.B.Brake.asks l.row.now f (true_caller g.W.Work.meaning true c0) now.self l.brake.now now.brake l.steps.now now.steps owes.led (rw c.in-Ok-None.field-0-is at t.caller) goes falls in
    let same : run_part g.K.RunKind.scans (caller_call now.self) ≡ run_part g.K.RunKind.scans (caller_call c0) = t.over g.K.RunKind.scans c.args.addr (c.lack-place.ensures.place ∙ ap (λ (b : Bool). load_for b c.args.addr) c.in_scan-in_scan.ensures) (ap Ok c.in-Ok-None.field-0-is) ∙ ap (λ (m : Machine g.row.W.Denot). run_part g.K.RunKind.scans m.call) c.lack-place.ensures.load in
    let seen = subst (λ (b : Bool). run_part b (caller_call now.self) ≡ run_part b (caller_call c0)) k.lent.kind same in
    record {
      part = only_read g.W.Work.meaning g.W.Work.lawful g.B.Brake.denials g.B.Brake.left g.B.Brake.answers g.B.Brake.asks l.row.now g.K.RunKind.scans c0 now.self (ap (λ (p : Part). p.batch) same) t.writes;
      runs = tells g.W.Work.meaning g.W.Work.lawful g.B.Brake.denials g.B.Brake.left g.B.Brake.answers g.B.Brake.asks l.row.now g.O.LoadArgs.front f k.told (read_cell c.args.addr) g.K.RunKind.scans l.caller.ghost_name l.brake.ghost_name l.steps.ghost_name l.course HasEnded l.caller.now now.self l.brake.now now.brake l.steps.now now.steps _ k.lent
          (subst (λ (x : Course). RunsOn (read_cell c.args.addr) (loading g.W.Work.meaning g.W.Work.lawful g.B.Brake.denials g.B.Brake.left g.B.Brake.answers g.B.Brake.asks l.row.now f x c0 l.brake.now l.steps.now) (loading g.W.Work.meaning g.W.Work.lawful g.B.Brake.denials g.B.Brake.left g.B.Brake.answers g.B.Brake.asks l.row.now f HasEnded now.self now.brake now.steps) (Err (record { addr = c.args.addr }))) (sym c.in-GoesOn.is) (stops g.W.Work.meaning g.W.Work.lawful g.B.Brake.denials g.B.Brake.left g.B.Brake.answers g.B.Brake.asks l.row.now f HasEnded c0 now.self l.brake.now now.brake l.steps.now now.steps c.args.addr owes own none seen t.writes led));
    }

pub returns-in-Err-turn_owing : goal.returns-in-Err-turn_owing
returns-in-Err-turn_owing g c =
    let l = c.args.self.now in
    let k = c.requires.knows in
    let f = k.first in
    let c0 = l.caller.now in
    let owes : StillOwes g.W.Work.meaning g.W.Work.lawful g.B.Brake.denials g.B.Brake.left g.B.Brake.answers g.B.Brake.asks l.row.now f c0 l.brake.now l.steps.now = subst (λ (x : Course). Stands g.W.Work.meaning g.W.Work.lawful g.B.Brake.denials g.B.Brake.left g.B.Brake.answers g.B.Brake.asks l.row.now f x c0 l.brake.now l.steps.now) c.in-GoesOn.is k.knows.0 in
    let now = c.turn_owing.new in
    let lacked : Caller g.row.W.Denot = record { member = c0.member; machine = c.lack-place.new.self; writes = c0.writes } in
    let is : lacked ≡ true_caller g.W.Work.meaning true c0 = λ i. record { member = c0.member; machine = c.lack-place.ensures.after i; writes = c0.writes } in
    let none = subst (λ (b : Bool). newest_at (run_part b (caller_call c0)) c.args.addr ≡ None) (c.in_scan-in_scan.ensures ∙ k.lent.kind) c.in-Err.ensures.0 in
    let own = sym c.written.ensures ∙ c.in_default.is in
    let t = c.in-Err-turn_owing.ensures in
    let denied = subst (λ (x : Caller g.row.W.Denot). LeadsToDenial g.W.Work.meaning g.W.Work.lawful g.B.Brake.denials g.B.Brake.left g.B.Brake.answers g.B.Brake.asks l.row.now x l.brake.now l.steps.now now.self now.brake now.steps) is t.denied in
    let same : run_part g.K.RunKind.scans (caller_call now.self) ≡ run_part g.K.RunKind.scans (caller_call c0) = ap (λ (x : Caller g.row.W.Denot). run_part g.K.RunKind.scans (caller_call x)) t.same ∙ ap (λ (m : Machine g.row.W.Denot). run_part g.K.RunKind.scans m.call) c.lack-place.ensures.load in
    let seen = subst (λ (b : Bool). run_part b (caller_call now.self) ≡ run_part b (caller_call c0)) k.lent.kind same in
    record {
      part = only_read g.W.Work.meaning g.W.Work.lawful g.B.Brake.denials g.B.Brake.left g.B.Brake.answers g.B.Brake.asks l.row.now g.K.RunKind.scans c0 now.self (ap (λ (p : Part). p.batch) same) t.writes;
      runs = tells g.W.Work.meaning g.W.Work.lawful g.B.Brake.denials g.B.Brake.left g.B.Brake.answers g.B.Brake.asks l.row.now g.O.LoadArgs.front f k.told (read_cell c.args.addr) g.K.RunKind.scans l.caller.ghost_name l.brake.ghost_name l.steps.ghost_name l.course WasDenied l.caller.now now.self l.brake.now now.brake l.steps.now now.steps _ k.lent
          (subst (λ (x : Course). RunsOn (read_cell c.args.addr) (loading g.W.Work.meaning g.W.Work.lawful g.B.Brake.denials g.B.Brake.left g.B.Brake.answers g.B.Brake.asks l.row.now f x c0 l.brake.now l.steps.now) (loading g.W.Work.meaning g.W.Work.lawful g.B.Brake.denials g.B.Brake.left g.B.Brake.answers g.B.Brake.asks l.row.now f WasDenied now.self now.brake now.steps) (Err (record { addr = c.args.addr }))) (sym c.in-GoesOn.is) (stops g.W.Work.meaning g.W.Work.lawful g.B.Brake.denials g.B.Brake.left g.B.Brake.answers g.B.Brake.asks l.row.now f WasDenied c0 now.self l.brake.now now.brake l.steps.now now.steps c.args.addr owes own none seen t.writes (t.caller, λ c1 b1 s1 h. denied c1 b1 s1 (owes.led.goes c1 b1 s1 h))));
    }
