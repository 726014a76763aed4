use Rattle.std.proofs.Common.{◌≡◌, ◌<◌, length, get_or, ◌∙◌, ap, arith}
use Rattle.std.proofs.lemmas.List.{get_or_default}
use Rattle.of_mem.specs.declared.index.Entry.{Entry}
use Rattle.of_mem.specs.Chains.{pairs_of}
use Rattle.of_mem.specs.WriteSet.{WriteSet}
use Rattle.of_mem.proofs.Chains.{no_entry, entries_size, address_is}
use Rattle.of_mem.proofs.write_set.WriteSet.entry.Goals as goal

pub returns-clause-below : goal.returns-clause-below
returns-clause-below c =
    let es = c.self.inside.entries.items in
    let here : c.args.i < length (pairs_of es) = omega (arith, c.requires, ap (λ (w : WriteSet). length w.entries) c.self.view_is) in
    let same : c.index.result.now ≡ get_or es c.args.i no_entry = c.index.ensures ∙ get_or_default es c.args.i c.index.result.now no_entry (omega (arith, here, entries_size es)) in
    omega (arith, c.self.invariant.below c.args.i here, address_is es c.args.i, ap (λ (e : Entry). e.pair.0) same, ap (λ (w : WriteSet). w.room) c.self.view_is)
