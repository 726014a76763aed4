use Rattle.std.proofs.Common.{◌≡◌, ◌<◌, [], ap, ◌∙◌, sym, refl}
use Rattle.of_mem.specs.Part.{Part}
use Rattle.of_mem.specs.Meaning.{IsSoundMeaning, Needs}
use Rattle.of_core.specs.Table.{Setup, setup_of, first_operation_cell}
use Rattle.of_core.proofs.Puts.{sound_at, needs_cell, no_case}
use Rattle.of_core.proofs.machine.Machine.read_on.Goals as goal

pub run-requires-clause-agrees : goal.run-requires-clause-agrees
run-requires-clause-agrees g c =
    let batch : c.self.inside.part.batch ≡ [] = c.self.invariant.room.reading (rw (← c.self.view_is) at c.requires.reading) in
    let a = rw (← c.self.view_is) at c.requires.agrees in
    (a.0, a.1 ∙ sym c.self.invariant.fit.cells, a.2, rw batch a.3)

pub invariant_of-self-in-Err : goal.invariant_of-self-in-Err
invariant_of-self-in-Err g c =
    let laws = g.met.W.Work in
    let i = c.self.invariant in
    let M = g.W.Work.meaning c.self.inside.work in
    let S : Setup = setup_of c.self.inside.shape.callers c.self.inside.shape.cells c.self.inside.limit M in
    let L = g.W.Work.lawful c.self.inside.work in
    let sound : IsSoundMeaning M L (first_operation_cell S) S.cells = sound_at S M L _ _ i.fit.callers i.fit.cells refl (laws.sound c.self.inside.work) in
    let before : c.self.inside.part.batch ≡ [] = i.room.reading (rw (← c.self.view_is) at c.requires.reading) in
    let a = rw (← c.self.view_is) at c.requires.agrees in
    let walked : M.walk c.self.inside.part.known c.self.inside.op.items ≡ Needs c.in-Err.need.addr = rw (before, c.as_slice.ensures.value) at c.in-Err.ensures.walk.0 in
    let here : c.in-Err.need.addr < c.self.inside.shape.cells = needs_cell S L sound c.self.inside.part.known c.self.inside.op.items a.0 a.1 a.2 a.3 _ walked in
    let known : c.run.new.part.known ≡ c.self.inside.part.known = ap (λ (p : Part). p.known) c.run.ensures.part in
    let batch : c.run.new.part.batch ≡ [] = ap (λ (p : Part). p.batch) c.run.ensures.part ∙ before in
    record {
      instrs = i.instrs;
      durable = i.durable;
      own_log = i.own_log;
      fit = record { callers = i.fit.callers; cells = i.fit.cells; own_in = i.fit.own_in; limit = i.fit.limit; caller = i.fit.caller; owner = i.fit.owner; upto = i.fit.upto; words = i.fit.words; script = i.fit.script; known = rw known i.fit.known; place = here };
      room = record { log = i.room.log; op = i.room.op; scripts_in = i.room.scripts_in; copy = i.room.copy; calls = i.room.calls; scanning = no_case; reading = λ e. batch; empty = c.in-Err.ensures.walk.1 };
    }
