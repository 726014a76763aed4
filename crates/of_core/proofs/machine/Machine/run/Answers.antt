use Rattle.std.proofs.Common.{◌+◌, ◌≡◌, ℕ, ◌<◌, ◌*◌, List, [], ◌∷◌, ◌++◌, length, map, Option, ap, ◌∙◌, sym, refl, arith}
use Rattle.of_cell.specs.declared.word.TheConstants.{PAYLOADS}
use Rattle.of_cell.specs.Words.{seq_of}
use Rattle.of_mem.specs.declared.work.TheConstants.{MOST_INSTRS}
use Rattle.of_mem.specs.CellMap.{put_all}
use Rattle.of_mem.specs.Part.{Part, overlaid}
use Rattle.of_mem.specs.Meaning.{IsSoundMeaning, Needs, Gives}
use Rattle.of_mem.specs.declared.work.RawReply.{RawReply}
use Rattle.of_mem.specs.WriteSet.{WriteSet}
use Rattle.of_core.specs.Table.{Setup, setup_of, first_operation_cell, ticket_cell}
use Rattle.of_core.specs.Machine.{own_cells}
use Rattle.of_core.specs.Inside.{call_value}
use Rattle.of_core.proofs.Puts.{sound_at, needs_cell, no_case, own_behind}
use Rattle.of_core.proofs.machine.Machine.run.Goals as goal

pub run-requires-clause-agrees : goal.run-requires-clause-agrees
run-requires-clause-agrees g c =
    let i = c.self.invariant in
    let known : List (Option ℕ) = c.self.inside.part.known in
    let log : List (ℕ × ℕ) = c.self.inside.log.entries in
    let before : c.self.inside.part.batch ≡ log = i.room.scanning (rw (← c.self.view_is) at c.requires.scanning) in
    let all : overlaid known c.self.inside.part.batch ≡ overlaid known log = ap (overlaid known) before in
    let a = rw (← c.self.view_is) at c.requires.agrees in
    (a.0, a.1 ∙ sym i.fit.cells, a.2, rw all a.3)

pub invariant_of-self-in-Err : goal.invariant_of-self-in-Err
invariant_of-self-in-Err g c =
    let i = c.self.invariant in
    let known : List (Option ℕ) = c.self.inside.part.known in
    let log : List (ℕ × ℕ) = c.self.inside.log.entries in
    let before : c.self.inside.part.batch ≡ log = i.room.scanning (rw (← c.self.view_is) at c.requires.scanning) in
    let all : overlaid known c.self.inside.part.batch ≡ overlaid known log = ap (overlaid known) before in
    let a = rw (← c.self.view_is) at c.requires.agrees in
    let laws = g.met.W.Work in
    let M = g.W.Work.meaning c.self.inside.work in
    let S : Setup = setup_of c.self.inside.shape.callers c.self.inside.shape.cells c.self.inside.limit M in
    let L = g.W.Work.lawful c.self.inside.work in
    let sound : IsSoundMeaning M L (first_operation_cell S) S.cells = sound_at S M L _ _ c.self.invariant.fit.callers c.self.invariant.fit.cells refl (laws.sound c.self.inside.work) in
    let walked : M.walk (overlaid known log) c.self.inside.script.items ≡ Needs c.in-Err.need.addr = rw (all, c.as_slice.ensures.value) at c.in-Err.ensures.walk.0 in
    let here : c.in-Err.need.addr < c.self.inside.shape.cells = needs_cell S L sound (overlaid known log) c.self.inside.script.items a.0 a.1 a.2 a.3 _ walked in
    let same : c.run.new.part.known ≡ known = ap (λ (p : Part). p.known) c.run.ensures.part in
    let batch : c.run.new.part.batch ≡ log = ap (λ (p : Part). p.batch) c.run.ensures.part ∙ before in
    let s = rw (← c.self.view_is) at c.requires.scan in
    record {
      instrs = i.instrs;
      durable = i.durable;
      own_log = i.own_log;
      fit = record {
        callers = i.fit.callers;
        cells = i.fit.cells;
        own_in = i.fit.own_in;
        limit = i.fit.limit;
        caller = i.fit.caller;
        owner = i.fit.owner;
        upto = i.fit.upto;
        words = i.fit.words;
        script = i.fit.script;
        known = rw same i.fit.known;
        place = (record { scan = s.scan; few = s.few; under = s.under }, here);
      };
      room = record { log = i.room.log; op = i.room.op; scripts_in = i.room.scripts_in; copy = i.room.copy; calls = i.room.calls; scanning = λ e. batch; reading = no_case; empty = c.in-Err.ensures.walk.1 };
    }

pub returns-in-Ok : goal.returns-in-Ok
returns-in-Ok g c =
    let i = c.self.invariant in
    let known : List (Option ℕ) = c.self.inside.part.known in
    let log : List (ℕ × ℕ) = c.self.inside.log.entries in
    let before : c.self.inside.part.batch ≡ log = i.room.scanning (rw (← c.self.view_is) at c.requires.scanning) in
    let all : overlaid known c.self.inside.part.batch ≡ overlaid known log = ap (overlaid known) before in
    let a = rw (← c.self.view_is) at c.requires.agrees in
    let laws = g.met.W.Work in
    let M = g.W.Work.meaning c.self.inside.work in
    let S : Setup = setup_of c.self.inside.shape.callers c.self.inside.shape.cells c.self.inside.limit M in
    let L = g.W.Work.lawful c.self.inside.work in
    let sound : IsSoundMeaning M L (first_operation_cell S) S.cells = sound_at S M L _ _ c.self.invariant.fit.callers c.self.invariant.fit.cells refl (laws.sound c.self.inside.work) in
    let es : List (ℕ × ℕ) = c.run.new.part.script in
    let r : RawReply = c.run.new.out in
    let script : List ℕ = c.self.inside.script.items in
    let scan : ℕ = c.self.inside.scan in
    let ticket : ℕ = seq_of c.self.inside.heard in
    let s = rw (← c.self.view_is) at c.requires.scan in
    let walked : M.walk (overlaid known log) script ≡ Gives es r = rw (all, c.as_slice.ensures.value) at c.in-Ok.ensures.walk in
    let number : c.seq_of-ticket.result ≡ ticket = c.seq_of-ticket.ensures in
    let words : c.len-words.result ≡ length script = c.len-words.ensures ∙ c.self.inside.script.ok.0 in
    let small : ticket < PAYLOADS = rw (← number) (omega arith) in
    let own : c.put_own.new.part.script ≡ es ++ own_cells (ticket_cell S scan) ticket (length script) r =
    c.put_own.ensures.script ∙ ap (λ (t : ℕ). put_all es (own_cells (scan * (MOST_INSTRS + 2)) t c.len-words.result r)) number ∙ ap (λ (n : ℕ). put_all es (own_cells (scan * (MOST_INSTRS + 2)) ticket n r)) words
    ∙ own_behind S L sound (overlaid known log) script a.0 a.1 a.2 a.3 scan ticket es r s.scan i.fit.script small i.fit.own_in walked
    in
    let entries : c.hand_to_log.new.log.entries ≡ put_all log (es ++ own_cells (ticket_cell S scan) ticket (length script) r) = ap (λ (p : WriteSet). p.entries) c.hand_to_log.ensures.log ∙ ap (put_all log) own in
    let same : c.hand_to_log.new.part.known ≡ known = ap (λ (p : Part). p.known) c.hand_to_log.ensures.part ∙ c.put_own.ensures.known ∙ ap (λ (p : Part). p.known) c.run.ensures.part in
    let op : c.as_slice-op.result.now ≡ script = c.as_slice-op.ensures.value in
    let calls : map call_value c.add_call.new.calls.items ≡ map call_value c.self.inside.calls.items ++ record { caller = scan; ticket = ticket; op = script; raw = r } ∷ [] = c.add_call.ensures.calls ∙ rw (op, number) refl in
    rw (← c.self.view_is, walked) (rw (c.place_behind-self-inside.ensures, c.newer_raw-self-inside.ensures, same, entries, calls) refl)

pub returns-in-Err : goal.returns-in-Err
returns-in-Err g c =
    let i = c.self.invariant in
    let known : List (Option ℕ) = c.self.inside.part.known in
    let log : List (ℕ × ℕ) = c.self.inside.log.entries in
    let before : c.self.inside.part.batch ≡ log = i.room.scanning (rw (← c.self.view_is) at c.requires.scanning) in
    let all : overlaid known c.self.inside.part.batch ≡ overlaid known log = ap (overlaid known) before in
    let a = rw (← c.self.view_is) at c.requires.agrees in
    let M = g.W.Work.meaning c.self.inside.work in
    let walked : M.walk (overlaid known log) c.self.inside.script.items ≡ Needs c.in-Err.need.addr = rw (all, c.as_slice.ensures.value) at c.in-Err.ensures.walk.0 in
    let same : c.run.new.part.known ≡ known = ap (λ (p : Part). p.known) c.run.ensures.part in
    rw (← c.self.view_is, walked) (rw same refl)
