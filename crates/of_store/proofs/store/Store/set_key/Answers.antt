use Rattle.std.proofs.Common.{refl, sym, ap, ◌∙◌, arith, is_some}
use Rattle.std.specs.FinMap as fm
use Rattle.of_store.specs.Store.{Store, with_key}
use Rattle.of_store.specs.Inside.{store_value}
use Rattle.of_store.proofs.Maps.{get_is, one_put}
use Rattle.of_store.proofs.Kept.{some_grown}
use Rattle.of_store.proofs.Keeps.{put_stored}
use Rattle.of_store.proofs.Changes.{key_there}
use Rattle.of_store.proofs.store.Store.set_key.Goals as goal

pub invariant_of-self : goal.invariant_of-self
invariant_of-self c =
    let is = get_is c.self.inside.keys.entries c.args.k in
    let there = ap (λ (s : Store). is_some (fm.get s.keys c.args.k)) c.self.view_is ∙ c.requires.there in
    let some = ap is_some (sym is) ∙ there in
    let updates = key_there c.insert.result _ _ some c.insert.ensures.absent c.insert.ensures.updates in
    let put = one_put c.self.inside.keys.entries c.insert.new.self.entries c.args.k c.args.v updates.0 in
    let r = put_stored (store_value c.self.inside) _ c.args.k c.args.v c.self.inside.used c.self.inside.used _ c.self.invariant.state c.self.invariant.used c.requires.small refl put (omega (arith, some_grown (fm.get (store_value c.self.inside).keys c.args.k) there)) (omega (arith, c.self.invariant.used, c.self.invariant.state.kept)) in
    record { state = r.state; used = r.used }

pub returns : goal.returns
returns c =
    let is = get_is c.self.inside.keys.entries c.args.k in
    let there = ap (λ (s : Store). is_some (fm.get s.keys c.args.k)) c.self.view_is ∙ c.requires.there in
    let some = ap is_some (sym is) ∙ there in
    let updates = key_there c.insert.result _ _ some c.insert.ensures.absent c.insert.ensures.updates in
    let put = one_put c.self.inside.keys.entries c.insert.new.self.entries c.args.k c.args.v updates.0 in
    ap (λ (m : fm.FinMap _ _). record (store_value c.self.inside) { keys = m }) put ∙ ap (λ (s : Store). with_key s c.args.k c.args.v) c.self.view_is
