use Rattle.std.proofs.Common.{◌≡◌, ◌+◌, ◌<◌, refl, sym, ◌∙◌, arith}
use Rattle.of_mem.specs.Meaning.{IsSoundMeaning}
use Rattle.of_core.specs.declared.place.Place.TheVariants.{RaiseOld, TryCurrent, TryRequest, TryCell, LoadCurrent, CopyLog, LookAgain, LoadAnnouncement, LoadTicket, LoadScript, LoadCell, RaiseClosed}
use Rattle.of_core.specs.Table.{Setup, setup_of, first_operation_cell}
use Rattle.of_core.specs.MachineValue.{machine_setup}
use Rattle.of_core.proofs.Puts.{sound_at}
use Rattle.of_core.proofs.Allows.{few_steps, request_words, cell_words, try_current_owner, try_current_upto, try_agrees, load_current_owner, load_current_upto, copy_count, store_few, look_words, look_log, announced_small, announced_some, heard_some, ticket_unnamed, script_many, script_some, script_agrees, cell_agrees, closed_words}
use Rattle.of_core.proofs.machine.Machine.take_at.Goals as goal

pub after_try_current-requires-clause-owner : goal.after_try_current-requires-clause-owner
after_try_current-requires-clause-owner g c =
    let place : c.args.self.now.call.place ≡ TryCurrent = sym c.requires.here ∙ c.in-TryCurrent.is in
    rw (← c.self.view_is) at (try_current_owner (machine_setup g.W.Work.meaning c.args.self.now) (g.W.Work.lawful c.args.self.now.work) c.args.self.now.call c.args.found c.requires.good place)

pub after_try_current-requires-clause-upto : goal.after_try_current-requires-clause-upto
after_try_current-requires-clause-upto g c =
    let place : c.args.self.now.call.place ≡ TryCurrent = sym c.requires.here ∙ c.in-TryCurrent.is in
    rw (← c.self.view_is) at (try_current_upto (machine_setup g.W.Work.meaning c.args.self.now) (g.W.Work.lawful c.args.self.now.work) c.args.self.now.call c.args.found c.requires.good place)

pub after_try_cell-requires-clause-agrees : goal.after_try_cell-requires-clause-agrees
after_try_cell-requires-clause-agrees g c =
    let place : c.args.self.now.call.place ≡ TryCell c.in-TryCell.addr = sym c.requires.here ∙ c.in-TryCell.is in
    rw (← c.self.view_is) at (try_agrees (machine_setup g.W.Work.meaning c.args.self.now) (g.W.Work.lawful c.args.self.now.work) c.args.self.now.call c.args.found c.requires.good c.in-TryCell.addr place)

pub after_load_current-requires-clause-owner : goal.after_load_current-requires-clause-owner
after_load_current-requires-clause-owner g c =
    let place : c.args.self.now.call.place ≡ LoadCurrent = sym c.requires.here ∙ c.in-LoadCurrent.is in
    rw (← c.self.view_is) at (load_current_owner (machine_setup g.W.Work.meaning c.args.self.now) (g.W.Work.lawful c.args.self.now.work) c.args.self.now.call c.args.found c.requires.good place)

pub after_load_current-requires-clause-upto : goal.after_load_current-requires-clause-upto
after_load_current-requires-clause-upto g c =
    let place : c.args.self.now.call.place ≡ LoadCurrent = sym c.requires.here ∙ c.in-LoadCurrent.is in
    rw (← c.self.view_is) at (load_current_upto (machine_setup g.W.Work.meaning c.args.self.now) (g.W.Work.lawful c.args.self.now.work) c.args.self.now.call c.args.found c.requires.good place)

pub after_copy_log-requires-clause-count : goal.after_copy_log-requires-clause-count
after_copy_log-requires-clause-count g c =
    let place : c.args.self.now.call.place ≡ CopyLog c.in-CopyLog.at = sym c.requires.here ∙ c.in-CopyLog.is in
    rw (← c.self.view_is) at (copy_count (machine_setup g.W.Work.meaning c.args.self.now) (g.W.Work.lawful c.args.self.now.work) c.args.self.now.call c.args.found c.requires.good c.in-CopyLog.at place)

pub after_raise_old-requires-clause-few : goal.after_raise_old-requires-clause-few
after_raise_old-requires-clause-few g c =
    let place : c.args.self.now.call.place ≡ RaiseOld = sym c.requires.here ∙ c.in-RaiseOld.is in
    rw (← c.self.view_is) at (store_few (machine_setup g.W.Work.meaning c.args.self.now) (g.W.Work.lawful c.args.self.now.work) c.args.self.now.call c.args.found c.requires.good place)

pub after_look_again-requires-clause-some : goal.after_look_again-requires-clause-some
after_look_again-requires-clause-some g c =
    let place : c.args.self.now.call.place ≡ LookAgain = sym c.requires.here ∙ c.in-LookAgain.is in
    rw (← c.self.view_is) at (look_words (machine_setup g.W.Work.meaning c.args.self.now) (g.W.Work.lawful c.args.self.now.work) c.args.self.now.call c.args.found c.requires.good place)

pub after_look_again-requires-clause-copied : goal.after_look_again-requires-clause-copied
after_look_again-requires-clause-copied g c =
    let place : c.args.self.now.call.place ≡ LookAgain = sym c.requires.here ∙ c.in-LookAgain.is in
    rw (← c.self.view_is) at (look_log (machine_setup g.W.Work.meaning c.args.self.now) (g.W.Work.lawful c.args.self.now.work) c.args.self.now.call c.args.found c.requires.good place)

pub after_load_announcement-requires-clause-small : goal.after_load_announcement-requires-clause-small
after_load_announcement-requires-clause-small g c =
    let place : c.args.self.now.call.place ≡ LoadAnnouncement = sym c.requires.here ∙ c.in-LoadAnnouncement.is in
    announced_small (machine_setup g.W.Work.meaning c.args.self.now) (g.W.Work.lawful c.args.self.now.work) c.args.self.now.call c.args.found c.requires.good place

pub after_load_announcement-requires-clause-some : goal.after_load_announcement-requires-clause-some
after_load_announcement-requires-clause-some g c =
    let place : c.args.self.now.call.place ≡ LoadAnnouncement = sym c.requires.here ∙ c.in-LoadAnnouncement.is in
    announced_some (machine_setup g.W.Work.meaning c.args.self.now) (g.W.Work.lawful c.args.self.now.work) c.args.self.now.call c.args.found c.requires.good place

pub after_load_announcement-requires-clause-unnamed : goal.after_load_announcement-requires-clause-unnamed
after_load_announcement-requires-clause-unnamed g c =
    let place : c.args.self.now.call.place ≡ LoadAnnouncement = sym c.requires.here ∙ c.in-LoadAnnouncement.is in
    rw (← c.self.view_is) at (ticket_unnamed (machine_setup g.W.Work.meaning c.args.self.now) (g.W.Work.lawful c.args.self.now.work) c.args.self.now.call c.args.found c.requires.good place)

pub after_load_script-requires-clause-agrees : goal.after_load_script-requires-clause-agrees
after_load_script-requires-clause-agrees g c =
    let place : c.args.self.now.call.place ≡ LoadScript c.in-LoadScript.at = sym c.requires.here ∙ c.in-LoadScript.is in
    let laws = g.met.W.Work in
    let now = c.args.self.now in
    let S : Setup = machine_setup g.W.Work.meaning now in
    let f = c.self.invariant.fit in
    let inner : Setup = setup_of c.self.inside.shape.callers c.self.inside.shape.cells c.self.inside.limit (g.W.Work.meaning c.self.inside.work) in
    let sound : IsSoundMeaning S.meaning (g.W.Work.lawful now.work) (first_operation_cell S) S.cells = rw (← c.self.view_is) (sound_at inner (g.W.Work.meaning c.self.inside.work) (g.W.Work.lawful c.self.inside.work) _ _ f.callers f.cells refl (laws.sound c.self.inside.work)) in
    rw (← c.self.view_is) at (script_agrees (machine_setup g.W.Work.meaning c.args.self.now) (g.W.Work.lawful c.args.self.now.work) c.args.self.now.call c.args.found c.requires.good sound c.in-LoadScript.at place)

pub after_load_cell-requires-clause-agrees : goal.after_load_cell-requires-clause-agrees
after_load_cell-requires-clause-agrees g c =
    let place : c.args.self.now.call.place ≡ LoadCell c.in-LoadCell.addr = sym c.requires.here ∙ c.in-LoadCell.is in
    let laws = g.met.W.Work in
    let now = c.args.self.now in
    let S : Setup = machine_setup g.W.Work.meaning now in
    let f = c.self.invariant.fit in
    let inner : Setup = setup_of c.self.inside.shape.callers c.self.inside.shape.cells c.self.inside.limit (g.W.Work.meaning c.self.inside.work) in
    let sound : IsSoundMeaning S.meaning (g.W.Work.lawful now.work) (first_operation_cell S) S.cells = rw (← c.self.view_is) (sound_at inner (g.W.Work.meaning c.self.inside.work) (g.W.Work.lawful c.self.inside.work) _ _ f.callers f.cells refl (laws.sound c.self.inside.work)) in
    rw (← c.self.view_is) at (cell_agrees (machine_setup g.W.Work.meaning c.args.self.now) (g.W.Work.lawful c.args.self.now.work) c.args.self.now.call c.args.found c.requires.good sound c.in-LoadCell.addr place)

pub after_raise_closed-requires : goal.after_raise_closed-requires
after_raise_closed-requires g c =
    let place : c.args.self.now.call.place ≡ RaiseClosed = sym c.requires.here ∙ c.in-RaiseClosed.is in
    record { some = rw (← c.self.view_is) at (closed_words (machine_setup g.W.Work.meaning c.args.self.now) (g.W.Work.lawful c.args.self.now.work) c.args.self.now.call c.args.found c.requires.good place) }

pub overflow_add-self : goal.overflow_add-self
overflow_add-self g c =
    let b = c.self.inside in
    let few : b.steps + 1 < 18446744073709551616 = few_steps b.shape.callers b.shape.cells b.limit (g.W.Work.meaning b.work) (g.W.Work.lawful b.work) _ c.args.found b.shape.few_callers b.shape.few_cells (rw (← c.self.view_is) at c.requires.good) in
    search arith

pub after_try_request-requires : goal.after_try_request-requires
after_try_request-requires g c =
    let place : c.args.self.now.call.place ≡ TryRequest = sym c.requires.here ∙ c.in-TryRequest.is in
    record { some = rw (← c.self.view_is) at (request_words (machine_setup g.W.Work.meaning c.args.self.now) (g.W.Work.lawful c.args.self.now.work) c.args.self.now.call c.args.found c.requires.good place) }

pub after_try_cell-requires-clause-some : goal.after_try_cell-requires-clause-some
after_try_cell-requires-clause-some g c =
    let place : c.args.self.now.call.place ≡ TryCell c.in-TryCell.addr = sym c.requires.here ∙ c.in-TryCell.is in
    rw (← c.self.view_is) at (cell_words (machine_setup g.W.Work.meaning c.args.self.now) (g.W.Work.lawful c.args.self.now.work) c.args.self.now.call c.args.found c.requires.good c.in-TryCell.addr place)

pub after_load_ticket-requires-clause-some : goal.after_load_ticket-requires-clause-some
after_load_ticket-requires-clause-some g c =
    let place : c.args.self.now.call.place ≡ LoadTicket = sym c.requires.here ∙ c.in-LoadTicket.is in
    rw (← c.self.view_is) at (heard_some (machine_setup g.W.Work.meaning c.args.self.now) (g.W.Work.lawful c.args.self.now.work) c.args.self.now.call c.args.found c.requires.good place)

pub after_load_script-requires-clause-many : goal.after_load_script-requires-clause-many
after_load_script-requires-clause-many g c =
    let place : c.args.self.now.call.place ≡ LoadScript c.in-LoadScript.at = sym c.requires.here ∙ c.in-LoadScript.is in
    rw (← c.self.view_is) at (script_many (machine_setup g.W.Work.meaning c.args.self.now) (g.W.Work.lawful c.args.self.now.work) c.args.self.now.call c.args.found c.requires.good c.in-LoadScript.at place)

pub after_load_cell-requires-clause-some : goal.after_load_cell-requires-clause-some
after_load_cell-requires-clause-some g c =
    let place : c.args.self.now.call.place ≡ LoadCell c.in-LoadCell.addr = sym c.requires.here ∙ c.in-LoadCell.is in
    rw (← c.self.view_is) at (script_some (machine_setup g.W.Work.meaning c.args.self.now) (g.W.Work.lawful c.args.self.now.work) c.args.self.now.call c.args.found c.requires.good c.in-LoadCell.addr place)
