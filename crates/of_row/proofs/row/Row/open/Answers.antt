use Rattle.std.proofs.Common.{◌≡◌, ℕ, List, [], refl, sym, ap, ◌∙◌, subst, arith}
use Rattle.atomic_table.specs.Table.{opening}
use Rattle.of_cell.specs.declared.shape.Shape.{Shape}
use Rattle.of_cell.specs.Cells.{table_words}
use Rattle.of_mem.specs.declared.work.TheConstants.{MOST_INSTRS}
use Rattle.of_core.specs.Table.{Setup, setup_of}
use Rattle.of_row.specs.Views.{first_view}
use Rattle.of_row.specs.Rule.{MeetsRule}
use Rattle.of_row.specs.RowLaws.{RowLaws}
use Rattle.of_row.specs.Keys.{start_of_words, key_start, AreTickets}
use Rattle.of_row.proofs.RowLaws.{at_key}
use Rattle.of_row.proofs.Opens.{opens_start, starts_as}
use Rattle.of_row.proofs.row.Row.open.Goals as goal

pub of_words-requires : goal.of_words-requires
of_words-requires g c =
    let a = c.args in
    let S : Setup = setup_of a.shape.callers a.shape.cells a.limit (g.W.Work.meaning a.work) in
    let laws : RowLaws S (g.W.Work.lawful a.work) = at_key g.W.Work.meaning g.W.Work.lawful (g.W.Work.many a.work) (g.W.Work.size a.work) a.limit a.shape.callers a.shape.cells a.limit a.work a.work c.requires.callers c.requires.cells refl refl RowLaws c.protocol.ensures in (
      (c.requires.callers, c.requires.cells),
      subst (λ (z : List ℕ × List ℕ). MeetsRule S (g.W.Work.lawful a.work) (start_of_words S z.0) (opening z.1 [] first_view)) (λ i. (sym (ap (λ v. v.items) c.of.ensures) i, sym c.as_slice.ensures.value i)) (opens_start S (g.W.Work.lawful a.work) laws a.words.items c.requires.words),
    )

pub returns-clause-start : goal.returns-clause-start
returns-clause-start g c =
    let a = c.args in
    let S : Setup = setup_of a.shape.callers a.shape.cells a.limit (g.W.Work.meaning a.work) in
    let laws : RowLaws S (g.W.Work.lawful a.work) = at_key g.W.Work.meaning g.W.Work.lawful (g.W.Work.many a.work) (g.W.Work.size a.work) a.limit a.shape.callers a.shape.cells a.limit a.work a.work c.requires.callers c.requires.cells refl refl RowLaws c.protocol.ensures in
    λ B may is. ap (λ k. key_start g.W.Work.meaning k) c.in_ok-table.ensures.5 ∙ (ap (λ v. start_of_words S v.items) c.of.ensures ∙ starts_as S (g.W.Work.lawful a.work) laws a.words.items B may is)

pub invariant_of-row-clause-holds_all : goal.invariant_of-row-clause-holds_all
invariant_of-row-clause-holds_all g c =
    let shape = c.new-sizes.ensures.shape in
    let count : table_words c.new-sizes.result.shape.callers MOST_INSTRS c.new-sizes.result.shape.cells ≡ c.words.result = (λ i. table_words (shape i).callers (sym c.requires.instrs i) (shape i).cells) ∙ sym c.words.ensures in
    let room = c.in_ok-room.ensures.capacity in
    omega (arith, count, room)

pub invariant_of-row-clause-first : goal.invariant_of-row-clause-first
invariant_of-row-clause-first g c =
    let key = c.in_ok-table.ensures.5 in
    let callers = ap (λ (s : Shape). s.callers) c.new-sizes.ensures.shape ∙ sym (ap (λ k. k.callers) key) in
    let words = c.deref.ensures.value ∙ (sym (ap (λ v. v.items) c.of.ensures) ∙ sym (ap (λ k. k.start.value.items) key)) in
    subst (λ (z : ℕ × List ℕ). AreTickets z.0 z.1 c.in_ok-tickets.tickets.items) (λ i. (callers i, words i)) c.in_ok-tickets.ensures
