use Rattle.std.proofs.Common.{arith, ap, subst}
use Rattle.std.specs.Mem.Slots.{slots_items}
use Rattle.atomic_table.specs.Table.{Final, Seen}
use Rattle.of_row.specs.Views.{View}
use Rattle.of_row.specs.Rule.{MeetsRule}
use Rattle.of_row.specs.Keys.{FitsWork, key_setup, key_start}
use Rattle.of_row.proofs.Fixed.{splits_with}
use Rattle.of_row.proofs.Moves.{copies}
use Rattle.of_row.proofs.Closes.{closes}
use Rattle.of_row.proofs.row.Row.end.Goals as goal

pub split_seat-seat-requires : goal.split_seat-seat-requires
split_seat-seat-requires g c = (c.requires.0, omega (arith, c.args.self.words_is), splits_with _ _ _ _ _ _ (copies _ _ _ _ _ c.requires.2))

pub returns-clause-words : goal.returns-clause-words
returns-clause-words g c =
    let key = c.args.self.table.shared.key in
    let cut = c.split_seat-seat.ensures in
    closes (FitsWork g.W.Work.many g.W.Work.size key) (key_setup g.W.Work.meaning key) (g.W.Work.lawful key.work) (key_start g.W.Work.meaning key) _ c.args.pass.seat.me.0 _ _
    (subst (λ (z : View). Final (Seen (λ s. FitsWork g.W.Work.many g.W.Work.size key × MeetsRule (key_setup g.W.Work.meaning key) (g.W.Work.lawful key.work) (key_start g.W.Work.meaning key) s) c.split_seat-seat.new.seat.id z) (slots_items c.close_with.result.words) (slots_items c.close_with.result.slots)) (ap (λ m. m.0) cut.2) c.close_with.ensures.values.2)
