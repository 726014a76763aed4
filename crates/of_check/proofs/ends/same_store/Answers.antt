use Rattle.std.proofs.Common.{◌≡◌, ℕ, List, refl, sym, ap, ◌∙◌, arith}
use Rattle.std.specs.FinMap.{from_entries}
use Rattle.std.specs.Ordering.{nat_cmp}
use Rattle.std.proofs.lemmas.Map.Lookups.{btree_map_eq-Decides}
use Rattle.std.proofs.lemmas.Bool.Decides.{Decides-eqb}
use Rattle.of_store.specs.Store.{Store}
use Rattle.of_check.proofs.Verdicts.{same_bytes}
use Rattle.of_check.proofs.Stores.{apart, together, same_entries, same_state}
use Rattle.of_check.proofs.ends.same_store.Goals as goal

pub returns-then-ne-2 : goal.returns-then-ne-2
returns-then-ne-2 c =
    let m = c.map-keys.result.now in
    let n = c.map-others.result.now in (
      λ is. absurd (cc (is)),
      λ same. absurd (apart _ c.ne-2.result (m.entries ≡ n.entries) c.ne-2.ensures (btree_map_eq-Decides Decides-eqb Decides-eqb m n _ refl) c.if-ne-2.true
          (same_entries m.entries n.entries c.args.one.now.keys c.args.other.now.keys c.in_order.ensures c.in_order-2.ensures c.map-keys.ensures c.map-others.ensures (ap (λ (s : Store). s.keys) same))),
    )

pub returns : goal.returns
returns c =
    let m = c.map-keys.result.now in
    let n = c.map-others.result.now in
    let entries : m.entries ≡ n.entries = together _ c.ne-2.result (m.entries ≡ n.entries) c.ne-2.ensures (btree_map_eq-Decides Decides-eqb Decides-eqb m n _ refl) c.if-ne-2.false in
    let keys = sym c.map-keys.ensures ∙ ap (λ (es : List (ℕ × ℕ)). from_entries {R = nat_cmp} es) entries ∙ c.map-others.ensures in
    let registers = sym c.registers.ensures.value ∙ same_bytes c.registers.result.now c.registers-2.result.now c.ne.result c.ne.ensures c.if-ne.false ∙ c.registers-2.ensures.value in
    let room = sym c.room.ensures.value ∙ (let e : c.room.result ≡ c.room-2.result = omega (arith, c.if-room.false) in e) ∙ c.room-2.ensures.value in
    let same = same_state c.args.one.now c.args.other.now c.room.ensures.fits c.room-2.ensures.fits room registers keys (λ q lt. c.loop-queue.invariant q (omega (arith, lt, c.loop-queue-test.false))) in
    (λ is. same, λ e. refl)
