use Rattle.std.proofs.Common.{◌-◌, ◌<◌, ◌≡◌, ℕ, List, length, get_or, set, take, sym, ap, ◌∙◌, arith}
use Rattle.std.proofs.lemmas.List.{length-map, map-set, length-take-le}
use Rattle.of_store.specs.Store.{Store, queue}
use Rattle.of_store.specs.Inside.{store_value}
use Rattle.of_store.proofs.Copies.{at_queue}
use Rattle.of_store.proofs.Keeps.{queue_stored}
use Rattle.of_store.proofs.Changes.{small_front}
use Rattle.of_store.proofs.Kept.{queue_within}
use Rattle.std.specs.declared.collections.VecDeque.{VecDeque}
use Rattle.std.proofs.Common.{Global}
use Rattle.of_store.proofs.store.Store.unpush.Goals as goal

pub invariant_of-self : goal.invariant_of-self
invariant_of-self c =
    let len : c.args.q < length c.self.inside.queues = omega (arith, c.self.invariant.state.queues, length-map c.self.inside.queues (λ (x : VecDeque ℕ Global). x.items)) in
    let at = ap (λ (x : VecDeque ℕ Global). x.items) (sym c.index-self-q.is) ∙ at_queue (λ (x : VecDeque ℕ Global). x.items) c.self.inside.queues c.args.q c.index-self-q.result c.index-self-q.is len in
    let s = store_value c.self.inside in
    let d = get_or c.self.inside.queues c.args.q c.index-self-q.result in
    let ok : d.len ≡ length d.items = omega (arith, d.ok) in
    let items = c.pop_back.ensures.rest ∙ ap (λ (n : ℕ). take (n - 1) d.items) ok ∙ ap (λ (xs : List ℕ). take (length xs - 1) xs) at in
    let some = ap (λ (t : Store). length (queue t c.args.q)) c.self.view_is in
    let r = queue_stored s _ c.args.q c.self.inside.used (c.self.inside.used - 1) (take (length (queue s c.args.q) - 1) (queue s c.args.q)) c.self.invariant.state c.self.invariant.used (omega arith)
    (map-set (λ (x : VecDeque ℕ Global). x.items) c.self.inside.queues c.args.q c.pop_back.new.self ∙ ap (set s.queues c.args.q) items)
    (small_front (queue s c.args.q) (length (queue s c.args.q) - 1) (c.self.invariant.state.small_items c.args.q))
    (omega (arith, some, c.requires.some, queue_within s c.args.q (omega (arith, c.self.invariant.state.queues)), c.self.invariant.used, length-take-le (length (queue s c.args.q) - 1) (queue s c.args.q) (omega arith)))
    (omega (arith, c.self.invariant.used, c.self.invariant.state.kept)) in
    record { state = r.state; used = r.used }
