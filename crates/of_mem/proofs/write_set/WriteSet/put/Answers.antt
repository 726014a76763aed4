use Rattle.std.proofs.Common.{◌≡◌, ℕ, List, sym, ◌∙◌, ap, get_or, arith}
use Rattle.std.proofs.lemmas.List.{get_or_default}
use Rattle.of_mem.specs.CellMap.{put_pair, IsEntryFor}
use Rattle.of_mem.specs.Chains.{pairs_of}
use Rattle.of_mem.specs.WriteSet.{WriteSet}
use Rattle.of_mem.proofs.WriteSets.{put-absent}
use Rattle.of_mem.proofs.Chains.{no_entry, entries_size}
use Rattle.of_mem.proofs.Listed.{put-found, pairs_changed, entry_changed}
use Rattle.of_mem.proofs.write_set.WriteSet.put.Goals as goal

pub invariant_of-self : goal.invariant_of-self
invariant_of-self c =
    let es = c.self.inside.entries.items in
    let entries : pairs_of es ≡ c.args.self.now.entries = ap (λ (w : WriteSet). w.entries) (c.self.view_is ∙ c.in-Some.ensures.entries) in
    let f : IsEntryFor (pairs_of es) c.args.addr c.in-Some.place = rw entries c.in-Some.ensures.place in
    let same : c.index_mut.result.now ≡ get_or es c.in-Some.place no_entry = c.index_mut.ensures.value ∙ get_or_default es c.in-Some.place c.index_mut.result.now no_entry (omega (arith, f.0, entries_size es)) in
    entry_changed _ _ es _ _ _ c.args.value c.self.invariant _ f c.index_mut.result.now same

pub returns-in-Some : goal.returns-in-Some
returns-in-Some c =
    let es = c.self.inside.entries.items in
    let entries : pairs_of es ≡ c.args.self.now.entries = ap (λ (w : WriteSet). w.entries) (c.self.view_is ∙ c.in-Some.ensures.entries) in
    let f : IsEntryFor (pairs_of es) c.args.addr c.in-Some.place = rw entries c.in-Some.ensures.place in
    let same : c.index_mut.result.now ≡ get_or es c.in-Some.place no_entry = c.index_mut.ensures.value ∙ get_or_default es c.in-Some.place c.index_mut.result.now no_entry (omega (arith, f.0, entries_size es)) in
    ap (λ (ps : List (ℕ × ℕ)). record { room = c.self.inside.room; entries = ps }) (pairs_changed _ _ es _ _ _ c.args.value c.self.invariant _ f c.index_mut.result.now same ∙ sym (put-found _ _ _ _ _ _ c.self.invariant _ _ f c.args.value))
    ∙ ap (λ (w : WriteSet). record { room = w.room; entries = put_pair w.entries c.args.addr c.args.value }) (c.self.view_is ∙ c.in-Some.ensures.entries)

pub returns-in_default : goal.returns-in_default
returns-in_default c =
    c.in_default.ensures.entries
    ∙ ap (λ (es : List (ℕ × ℕ)). record { room = c.args.self.now.room; entries = es }) (sym (put-absent _ _ c.args.value c.in_default.ensures.place))
