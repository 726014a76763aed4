use Rattle.std.proofs.Common.{◌≡◌, ℕ, ◌<◌, ◌+◌, List, length, ap, arith}
use Rattle.of_mem.specs.CellMap.{IsAbsent}
use Rattle.of_mem.specs.WriteSet.{WriteSet}
use Rattle.of_mem.specs.Chains.{pairs_of}
use Rattle.of_mem.proofs.Chains.{entries_size}
use Rattle.of_mem.proofs.Listed.{is_write_set, room_left, pairs_with, entry_written}
use Rattle.of_mem.proofs.write_set.WriteSet.enter.Goals as goal

pub returns-in-Some-clause-map : goal.returns-in-Some-clause-map
returns-in-Some-clause-map c = rw (← c.self.view_is) (is_write_set _ _ _ _ _ _ c.self.invariant)

pub returns-in-None-clause-map : goal.returns-in-None-clause-map
returns-in-None-clause-map c = rw (← c.self.view_is) (is_write_set _ _ _ _ _ _ c.self.invariant)

pub returns-in-None-clause-entries : goal.returns-in-None-clause-entries
returns-in-None-clause-entries c =
    let es = c.self.inside.entries.items in
    rw (c.push_reserved.ensures.items, ← c.self.view_is)
    (ap (λ (ps : List (ℕ × ℕ)). record { room = c.self.inside.room; entries = ps }) (pairs_with _ _ es _ _ c.args.addr c.args.value c.self.invariant c.front-last.result))

pub push_reserved-requires : goal.push_reserved-requires
push_reserved-requires c =
    let es = c.self.inside.entries.items in
    let absent : IsAbsent (pairs_of es) c.args.addr = rw c.deref-3.ensures.value at c.in-None.ensures in
    let inside : c.args.addr < c.self.inside.room = omega (arith, ap (λ (p : WriteSet). p.room) c.self.view_is, c.requires) in
    omega (arith, room_left c.self.inside.room (pairs_of es) c.args.addr c.self.invariant.below c.self.invariant.once absent inside, entries_size es, c.self.invariant.spare, c.self.inside.entries.ok.0)

pub overflow_cast-len : goal.overflow_cast-len
overflow_cast-len c =
    let es = c.self.inside.entries.items in
    let absent : IsAbsent (pairs_of es) c.args.addr = rw c.deref-3.ensures.value at c.in-None.ensures in
    let inside : c.args.addr < c.self.inside.room = omega (arith, ap (λ (p : WriteSet). p.room) c.self.view_is, c.requires) in
    omega (arith, room_left c.self.inside.room (pairs_of es) c.args.addr c.self.invariant.below c.self.invariant.once absent inside, entries_size es, c.self.invariant.fits, c.len.ensures, c.push_reserved.ensures.len, c.self.inside.entries.ok.0)

pub invariant_of-self : goal.invariant_of-self
invariant_of-self c =
    let es = c.self.inside.entries.items in
    let absent : IsAbsent (pairs_of es) c.args.addr = rw c.deref-3.ensures.value at c.in-None.ensures in
    let inside : c.args.addr < c.self.inside.room = omega (arith, ap (λ (p : WriteSet). p.room) c.self.view_is, c.requires) in
    let len : c.len.result ≡ length (pairs_of es) + 1 = omega (arith, c.len.ensures, c.push_reserved.ensures.len, c.self.inside.entries.ok.0, entries_size es) in
    rw (len, c.push_reserved.ensures.items)
    (entry_written _ _ es _ _ c.args.addr c.args.value c.self.invariant absent inside (omega arith) _ (omega (arith, c.push_reserved.ensures.capacity)) c.front-last.result (rw c.deref-2.ensures.value at c.front-last.ensures))
