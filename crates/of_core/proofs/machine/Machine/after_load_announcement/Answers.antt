use Rattle.std.proofs.Common.{◌+◌, ◌≡◌, ◌*◌, Some, None, get_or, ◌∙◌, sym, refl}
use Rattle.of_mem.specs.declared.work.TheConstants.{MOST_INSTRS}
use Rattle.of_mem.specs.CellMap.{value_for}
use Rattle.of_core.specs.declared.place.Place.TheVariants.{LoadAnnouncement}
use Rattle.of_core.proofs.Puts.{newest_known}
use Rattle.of_core.proofs.machine.Machine.after_load_announcement.Goals as goal

pub returns-in-Ok : goal.returns-in-Ok
returns-in-Ok g c =
    let at : c.self.inside.place ≡ LoadAnnouncement = rw (← c.self.view_is) at c.requires.at in
    let batch : c.self.inside.part.batch ≡ c.self.inside.log.entries = c.self.invariant.room.scanning (rw at refl) in
    let unnamed : value_for c.self.inside.log.entries (c.self.inside.scan * (MOST_INSTRS + 2)) ≡ None = rw (← c.self.view_is) at c.requires.unnamed in
    let none : value_for c.self.inside.part.batch (c.self.inside.scan * (MOST_INSTRS + 2)) ≡ None = rw batch unnamed in
    let known : get_or c.self.inside.part.known (c.self.inside.scan * (MOST_INSTRS + 2)) None ≡ Some c.in-Ok.ticket = sym (newest_known c.self.inside.part (c.self.inside.scan * (MOST_INSTRS + 2)) c.self.invariant.room.empty none) ∙ rw (← c.part.ensures) c.in-Ok.ensures in
    rw (← c.self.view_is, known, ← c.seq_of.ensures) c.weigh.ensures

pub returns-in-Err : goal.returns-in-Err
returns-in-Err g c =
    let at : c.self.inside.place ≡ LoadAnnouncement = rw (← c.self.view_is) at c.requires.at in
    let batch : c.self.inside.part.batch ≡ c.self.inside.log.entries = c.self.invariant.room.scanning (rw at refl) in
    let unnamed : value_for c.self.inside.log.entries (c.self.inside.scan * (MOST_INSTRS + 2)) ≡ None = rw (← c.self.view_is) at c.requires.unnamed in
    let none : value_for c.self.inside.part.batch (c.self.inside.scan * (MOST_INSTRS + 2)) ≡ None = rw batch unnamed in
    let known : get_or c.self.inside.part.known (c.self.inside.scan * (MOST_INSTRS + 2)) None ≡ None = sym (newest_known c.self.inside.part (c.self.inside.scan * (MOST_INSTRS + 2)) c.self.invariant.room.empty none) ∙ rw (← c.part.ensures) c.in-Err.ensures.0 in
    rw (← c.self.view_is, known) refl
