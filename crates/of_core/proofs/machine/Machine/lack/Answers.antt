use Rattle.std.proofs.Common.{◌≡◌, ◌<◌, ◌∙◌, Bool, refl, sym, subst}
use Rattle.of_mem.specs.Part.{overlaid}
use Rattle.of_mem.specs.Meaning.{IsSoundMeaning}
use Rattle.of_core.specs.Table.{Setup, setup_of, first_operation_cell}
use Rattle.of_core.specs.Fit.{is_scanning}
use Rattle.of_core.specs.OwedRun.{run_batch, owed_words}
use Rattle.of_core.proofs.Puts.{sound_at, needs_cell}
use Rattle.of_core.proofs.OwedRuns.{lacked, load_fits, still_scanning, still_reading}
use Rattle.of_core.specs.Inside.{machine_value}
use Rattle.of_core.proofs.machine.Machine.lack.Goals as goal

pub returns-clause-load : goal.returns-clause-load
returns-clause-load g c =
    let kind = sym (rw (← c.self.view_is) at c.requires.kind) in
    rw (← c.self.view_is) (rw (c.load_place-place.ensures, kind) refl)

pub returns-clause-after : goal.returns-clause-after
returns-clause-after g c =
    let kind = sym (rw (← c.self.view_is) at c.requires.kind) in
    let lacks = rw (← c.self.view_is) at c.requires.lacks in
    rw (← c.self.view_is) (rw (c.load_place-place.ensures, kind) (lacked g.W.Work.meaning (machine_value c.self.inside) c.args.addr lacks))

pub invariant_of-self : goal.invariant_of-self
invariant_of-self g c =
    let i = c.self.invariant in
    let b = c.self.inside in
    let d = (machine_value b).call in
    let kind = sym (rw (← c.self.view_is) at c.requires.kind) in
    let o = rw (← c.self.view_is) at c.requires.owes in
    let a = o.knows in
    let at : b.place ≡ _ = o.at_load.1 in
    let laws = g.met.W.Work in
    let M = g.W.Work.meaning b.work in
    let S : Setup = setup_of b.shape.callers b.shape.cells b.limit M in
    let L = g.W.Work.lawful b.work in
    let sound : IsSoundMeaning M L (first_operation_cell S) S.cells = sound_at S M L _ _ i.fit.callers i.fit.cells refl (laws.sound b.work) in
    let here : c.args.addr < b.shape.cells = needs_cell S L sound (overlaid d.known (run_batch (is_scanning b.place) d)) (owed_words (is_scanning b.place) d) a.0 a.1 a.2 a.3 c.args.addr (rw (← c.self.view_is) at c.requires.lacks) in
    rw (c.load_place-place.ensures, kind) (record {
      instrs = i.instrs;
      durable = i.durable;
      own_log = i.own_log;
      fit = record {
        callers = i.fit.callers;
        cells = i.fit.cells;
        own_in = i.fit.own_in;
        limit = i.fit.limit;
        caller = i.fit.caller;
        owner = i.fit.owner;
        upto = i.fit.upto;
        words = i.fit.words;
        script = i.fit.script;
        known = i.fit.known;
        place = load_fits S d b.place (is_scanning b.place) o.at_load.0 c.args.addr o.at_load.1 here i.fit.place;
      };
      room = record {
        log = i.room.log;
        op = i.room.op;
        scripts_in = i.room.scripts_in;
        copy = i.room.copy;
        calls = i.room.calls;
        scanning = still_scanning b.place (is_scanning b.place) o.at_load.0 c.args.addr o.at_load.1 i.room.scanning;
        reading = still_reading b.place (is_scanning b.place) o.at_load.0 c.args.addr o.at_load.1 i.room.reading;
        empty = i.room.empty;
      };
    })
