use Rattle.std.proofs.Common.{◌≡◌, ◌∙◌, ℕ, List, [], Option, Bool, sym, ap, subst}
use Rattle.of_mem.specs.Part.{Part}
use Rattle.of_core.specs.Fit.{is_scanning}
use Rattle.of_core.specs.OwedRun.{with_cell_loaded, run_part}
use Rattle.of_core.proofs.OwedRuns.{is_load, no_load, other_place, same_try, same_script}
use Rattle.of_core.proofs.machine.Machine.take_owing.Goals as goal

pub returns-in-TryRequest-clause-kind : goal.returns-in-TryRequest-clause-kind
returns-in-TryRequest-clause-kind g c = λ q. c.take_request.ensures.kind q ∙ sym (ap is_scanning c.in-TryRequest.is)

pub returns-in-TryRequest-clause-loaded : goal.returns-in-TryRequest-clause-loaded
returns-in-TryRequest-clause-loaded g c = λ _ b a e. other_place c.args.place b a (ap is_load c.in-TryRequest.is) e

pub returns-in-TryRequest-clause-over : goal.returns-in-TryRequest-clause-over
returns-in-TryRequest-clause-over g c = λ _ b a e. other_place c.args.place b a (ap is_load c.in-TryRequest.is) e

pub returns-in-LoadScript-clause-kind : goal.returns-in-LoadScript-clause-kind
returns-in-LoadScript-clause-kind g c = λ q. c.take_script_word.ensures.kind q ∙ sym (ap is_scanning c.in-LoadScript.is)

pub returns-in-LoadScript-clause-loaded : goal.returns-in-LoadScript-clause-loaded
returns-in-LoadScript-clause-loaded g c = λ _ b a e. other_place c.args.place b a (ap is_load c.in-LoadScript.is) e

pub returns-in-LoadScript-clause-over : goal.returns-in-LoadScript-clause-over
returns-in-LoadScript-clause-over g c = λ _ b a e. other_place c.args.place b a (ap is_load c.in-LoadScript.is) e

pub returns-in-TryCell-clause-kind : goal.returns-in-TryCell-clause-kind
returns-in-TryCell-clause-kind g c = λ q. c.take_cell.ensures.kind q ∙ sym (ap is_scanning c.in-TryCell.is)

pub returns-in-TryCell-clause-loaded : goal.returns-in-TryCell-clause-loaded
returns-in-TryCell-clause-loaded g c = λ q b a e.
    let h = same_try b c.in-TryCell.addr a (sym c.in-TryCell.is ∙ e) in
    c.take_cell.ensures.loaded q ∙ ap (λ (x : ℕ). with_cell_loaded g.W.Work.meaning c.args.self.now x c.args.found) h.1

pub returns-in-TryCell-clause-over : goal.returns-in-TryCell-clause-over
returns-in-TryCell-clause-over g c = λ q b a e.
    let h = same_try b c.in-TryCell.addr a (sym c.in-TryCell.is ∙ e) in
    subst (λ (x : Bool). run_part x c.take_cell.new.self.call ≡ run_part x c.args.self.now.call) (sym h.0)
    (ap (λ (k : List (Option ℕ)). record { known = k; batch = []; script = [] }) (c.take_cell.ensures.over q))

pub returns-in-LoadCell-clause-kind : goal.returns-in-LoadCell-clause-kind
returns-in-LoadCell-clause-kind g c = λ q. c.take_scanned_cell.ensures.kind q ∙ sym (ap is_scanning c.in-LoadCell.is)

pub returns-in-LoadCell-clause-loaded : goal.returns-in-LoadCell-clause-loaded
returns-in-LoadCell-clause-loaded g c = λ q b a e.
    let h = same_script b c.in-LoadCell.addr a (sym c.in-LoadCell.is ∙ e) in
    c.take_scanned_cell.ensures.loaded q ∙ ap (λ (x : ℕ). with_cell_loaded g.W.Work.meaning c.args.self.now x c.args.found) h.1

pub returns-in-LoadCell-clause-over : goal.returns-in-LoadCell-clause-over
returns-in-LoadCell-clause-over g c = λ q b a e.
    let h = same_script b c.in-LoadCell.addr a (sym c.in-LoadCell.is ∙ e) in
    subst (λ (x : Bool). run_part x c.take_scanned_cell.new.self.call ≡ run_part x c.args.self.now.call) (sym h.0) (c.take_scanned_cell.ensures.over q)

pub returns-in_default-clause-over : goal.returns-in_default-clause-over
returns-in_default-clause-over g c = λ _ b a e. no_load c.args.place b a (c.in_default.not-TryCell a) (c.in_default.not-LoadCell a) e
