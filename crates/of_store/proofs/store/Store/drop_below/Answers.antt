use Rattle.std.proofs.Common.{◌-◌, sym, ap, ◌∙◌, arith}
use Rattle.of_script.specs.declared.instr.Instr.TheVariants.{DropBelow}
use Rattle.of_store.specs.Store.{Store, instr_effect}
use Rattle.of_store.specs.Inside.{store_value}
use Rattle.of_store.proofs.Maps.{len_is}
use Rattle.of_store.proofs.Ordered.{entries_left}
use Rattle.of_store.proofs.Effects.{drop_effect}
use Rattle.of_store.proofs.Keeps.{left_stored}
use Rattle.of_store.proofs.store.Store.drop_below.Goals as goal

pub overflow_cast-dropped : goal.overflow_cast-dropped
overflow_cast-dropped c =
    omega (arith, c.len-before.ensures.len, len_is c.self.inside.keys.entries c.len-before.ensures.ordered, c.self.invariant.state.kept, c.self.invariant.state.room)

pub overflow_sub-self : goal.overflow_sub-self
overflow_sub-self c =
    omega (arith, c.len-before.ensures.len, len_is c.self.inside.keys.entries c.len-before.ensures.ordered, c.self.invariant.used)

pub invariant_of-self-2 : goal.invariant_of-self-2
invariant_of-self-2 c =
    let old = len_is c.self.inside.keys.entries c.len-before.ensures.ordered in
    let new = len_is c.in_ok-self-inside.field-0.entries c.len.ensures.ordered in
    let left = entries_left c.args.key c.self.inside.keys.entries c.in_ok-self-inside.field-0.entries c.in_ok-self-inside.ensures.from in
    let r = left_stored (store_value c.self.inside) _ c.args.key c.self.inside.used (c.self.inside.used - (c.len-before.result - c.len.result)) c.self.invariant.state c.self.invariant.used left
    (omega (arith, old, new, c.len-before.ensures.len, c.len.ensures.len, c.in_ok-self-inside.ensures.len, c.self.invariant.used)) in
    record { state = r.state; used = r.used }

pub returns-clause-effect : goal.returns-clause-effect
returns-clause-effect c =
    let old = len_is c.self.inside.keys.entries c.len-before.ensures.ordered in
    let new = len_is c.in_ok-self-inside.field-0.entries c.len.ensures.ordered in
    let left = entries_left c.args.key c.self.inside.keys.entries c.in_ok-self-inside.field-0.entries c.in_ok-self-inside.ensures.from in
    ap (λ (s : Store). instr_effect s (DropBelow c.args.key)) (sym c.self.view_is)
    ∙ drop_effect (store_value c.self.inside) _ c.args.key (c.len-before.result - c.len.result) (omega (arith, c.if-self-gt-MOST_ORDERED_BLOCKS.false)) left (omega (arith, old, new, c.len-before.ensures.len, c.len.ensures.len))
