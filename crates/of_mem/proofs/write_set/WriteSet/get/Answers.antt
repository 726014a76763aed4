use Rattle.std.proofs.Common.{ℕ, Some, ap, sym, ◌∙◌, arith}
use Rattle.std.proofs.lemmas.List.{get_or_default}
use Rattle.of_mem.specs.declared.index.Entry.{Entry}
use Rattle.of_mem.specs.CellMap.{IsEntryFor}
use Rattle.of_mem.specs.Chains.{pairs_of}
use Rattle.of_mem.proofs.Chains.{no_entry, entries_size, pair_is}
use Rattle.of_mem.proofs.write_set.WriteSet.get.Goals as goal
use Rattle.of_mem.proofs.WriteSets.{value_at-absent}
use Rattle.of_mem.proofs.Listed.{value_at-found}

pub returns-in_err-place : goal.returns-in_err-place
returns-in_err-place c = rw c.from_residual.ensures (sym (value_at-absent _ _ c.in_err-place.ensures.place))

pub returns : goal.returns
returns c =
    let es = c.self.inside.entries.items in
    let f : IsEntryFor (pairs_of es) c.args.addr c.in_ok-place.place = rw (← c.self.view_is) at c.in_ok-place.ensures.place in
    rw (← c.self.view_is)
    (ap (λ (e : Entry). Some e.pair.1) (c.index.ensures ∙ get_or_default es c.in_ok-place.place c.index.result.now no_entry (omega (arith, f.0, entries_size es)))
    ∙ ap (λ (p : ℕ × ℕ). Some p.1) (sym (pair_is es c.in_ok-place.place))
    ∙ sym (value_at-found _ _ _ _ _ _ c.self.invariant _ _ f))
