use Rattle.std.proofs.Common.{◌≡◌, ℕ, ◌<◌, List, [], ◌∷◌, get_or, set, max, arith, ◌∙◌, refl, length-set}
use Rattle.of_core.specs.Table.{Setup, setup_of, cell_count, durable_at}
use Rattle.of_core.specs.Bank.{bank_value}
use Rattle.of_core.specs.Moment.{Bank}
use Rattle.of_core.specs.Events.{Raises}
use Rattle.std.proofs.lemmas.List.{get_or_read}
use Rattle.of_core.proofs.Benches.{raises, raised_after, carry}
use Rattle.of_core.proofs.bank.Bank.evict.Goals as goal

pub invariant_of-self : goal.invariant_of-self
invariant_of-self g c =
    let b = c.self.inside in
    let inv = c.self.invariant in
    let S : Setup = setup_of b.shape.callers b.shape.cells b.limit (g.W.Work.meaning b.work) in
    let ws : List ℕ = b.words.items in
    let low : c.args.cell < cell_count S = rw (← c.self.view_is) at c.requires in
    let place : c.durable_word-durable.result ≡ durable_at S c.args.cell = c.durable_word-durable.ensures.value in
    let before : c.index.result.now ≡ get_or ws c.durable_word-durable.result 0 = get_or_read ws _ _ (omega (arith, inv.room)) c.index.ensures 0 in
    let now : c.index-2.result.now ≡ get_or ws c.args.cell 0 = get_or_read ws _ _ (omega (arith, inv.room)) c.index-2.ensures 0 in
    let word : set ws c.durable_word-durable.result c.max.result ≡ set ws (durable_at S c.args.cell) (max (get_or ws (durable_at S c.args.cell) 0) (get_or ws c.args.cell 0)) = rw (c.max.ensures, before, now, place) refl in
    record {
      callers = inv.callers;
      instrs = inv.instrs;
      cells = inv.cells;
      limit = inv.limit;
      room = length-set ws _ _ ∙ inv.room;
      members = inv.members;
      alike = inv.alike;
      reached = rw word (raises S _ _ _ _ inv.reached c.args.cell low);
    }

pub returns : goal.returns
returns g c =
    let b = c.self.inside in
    let inv = c.self.invariant in
    let S : Setup = setup_of b.shape.callers b.shape.cells b.limit (g.W.Work.meaning b.work) in
    let ws : List ℕ = b.words.items in
    let low : c.args.cell < cell_count S = rw (← c.self.view_is) at c.requires in
    let place : c.durable_word-durable.result ≡ durable_at S c.args.cell = c.durable_word-durable.ensures.value in
    let before : c.index.result.now ≡ get_or ws c.durable_word-durable.result 0 = get_or_read ws _ _ (omega (arith, inv.room)) c.index.ensures 0 in
    let now : c.index-2.result.now ≡ get_or ws c.args.cell 0 = get_or_read ws _ _ (omega (arith, inv.room)) c.index-2.ensures 0 in
    let word : set ws c.durable_word-durable.result c.max.result ≡ set ws (durable_at S c.args.cell) (max (get_or ws (durable_at S c.args.cell) 0) (get_or ws c.args.cell 0)) = rw (c.max.ensures, before, now, place) refl in
    let old : Bank _ = bank_value b in
    carry g.W.Work.meaning _ old _ (Raises c.args.cell ∷ []) c.self.view_is (raised_after g.W.Work.meaning old c.args.cell _ word)
