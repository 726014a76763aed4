use Rattle.std.proofs.Common.{◌+◌, ◌≡◌, ℕ, ◌<◌, ◌*◌, List, [], ◌∷◌, ◌++◌, length, map, Option, ap, ◌∙◌, sym, refl, arith}
use Rattle.of_cell.specs.declared.word.TheConstants.{PAYLOADS}
use Rattle.of_cell.specs.Words.{seq_of}
use Rattle.of_mem.specs.declared.work.TheConstants.{MOST_INSTRS}
use Rattle.of_mem.specs.CellMap.{put_all}
use Rattle.of_mem.specs.Part.{Part, overlaid}
use Rattle.of_mem.specs.Meaning.{IsSoundMeaning, Gives}
use Rattle.of_mem.specs.declared.work.RawReply.{RawReply}
use Rattle.of_mem.specs.WriteSet.{WriteSet}
use Rattle.of_core.specs.Table.{Setup, setup_of, first_operation_cell, ticket_cell}
use Rattle.of_core.specs.Machine.{own_cells}
use Rattle.of_core.specs.Inside.{call_value}
use Rattle.of_core.proofs.Puts.{sound_at, own_behind}
use Rattle.of_core.proofs.machine.Machine.add_run.Goals as goal

pub returns : goal.returns
returns g c =
    let i = c.self.invariant in
    let known : List (Option ℕ) = c.self.inside.part.known in
    let log : List (ℕ × ℕ) = c.self.inside.log.entries in
    let a = rw (← c.self.view_is) at c.requires.agrees in
    let laws = g.met.W.Work in
    let M = g.W.Work.meaning c.self.inside.work in
    let S : Setup = setup_of c.self.inside.shape.callers c.self.inside.shape.cells c.self.inside.limit M in
    let L = g.W.Work.lawful c.self.inside.work in
    let sound : IsSoundMeaning M L (first_operation_cell S) S.cells = sound_at S M L _ _ c.self.invariant.fit.callers c.self.invariant.fit.cells refl (laws.sound c.self.inside.work) in
    let es : List (ℕ × ℕ) = c.args.writes.now.entries in
    let r : RawReply = c.args.raw.now in
    let script : List ℕ = c.self.inside.script.items in
    let scan : ℕ = c.self.inside.scan in
    let ticket : ℕ = seq_of c.self.inside.heard in
    let s = rw (← c.self.view_is) at c.requires.scan in
    let walked : M.walk (overlaid known log) script ≡ Gives es r = rw (← c.self.view_is) at c.requires.gives in
    let number : c.seq_of-ticket.result ≡ ticket = c.seq_of-ticket.ensures in
    let words : c.len-words.result ≡ length script = c.len-words.ensures ∙ c.self.inside.script.ok.0 in
    let small : ticket < PAYLOADS = rw (← number) (omega arith) in
    let wrote : c.put_writes.new.part.script ≡ es = ap (λ (p : Part). p.script) c.put_writes.ensures in
    let own : c.put_own.new.part.script ≡ es ++ own_cells (ticket_cell S scan) ticket (length script) r =
    c.put_own.ensures.script ∙ ap (λ (ds : List (ℕ × ℕ)). put_all ds (own_cells (scan * (MOST_INSTRS + 2)) c.seq_of-ticket.result c.len-words.result r)) wrote
    ∙ ap (λ (t : ℕ). put_all es (own_cells (scan * (MOST_INSTRS + 2)) t c.len-words.result r)) number ∙ ap (λ (n : ℕ). put_all es (own_cells (scan * (MOST_INSTRS + 2)) ticket n r)) words
    ∙ own_behind S L sound (overlaid known log) script a.0 a.1 a.2 a.3 scan ticket es r s.scan i.fit.script small i.fit.own_in walked
    in
    let entries : c.hand_to_log.new.log.entries ≡ put_all log (es ++ own_cells (ticket_cell S scan) ticket (length script) r) = ap (λ (p : WriteSet). p.entries) c.hand_to_log.ensures.log ∙ ap (put_all log) own in
    let same : c.hand_to_log.new.part.known ≡ known = ap (λ (p : Part). p.known) c.hand_to_log.ensures.part ∙ c.put_own.ensures.known ∙ ap (λ (p : Part). p.known) c.put_writes.ensures in
    let op : c.as_slice-op.result.now ≡ script = c.as_slice-op.ensures.value in
    let calls : map call_value c.add_call.new.calls.items ≡ map call_value c.self.inside.calls.items ++ record { caller = scan; ticket = ticket; op = script; raw = r } ∷ [] = c.add_call.ensures.calls ∙ rw (op, number) refl in
    rw (← c.self.view_is, walked) (rw (c.place_behind-self-inside.ensures, c.newer_raw-self-inside.ensures, same, entries, calls) refl)
