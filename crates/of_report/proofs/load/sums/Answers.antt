use Rattle.std.proofs.Common.{rules, ◌≡◌, ◌<◌, ℕ, List, Some, length, map, sym, ap, ◌∙◌, arith}
use Rattle.std.specs.Prelude.{sum_by}
use Rattle.std.specs.List.{slice_get}
use Rattle.std.specs.FinMap.{FinMap, entries, len, len-entries}
use Rattle.std.specs.Ordering.{nat_cmp}
use Rattle.std.specs.Map.Iter.{deref_pair}
use Rattle.std.proofs.lemmas.Map.Iter.{iter_turn, iter_end}
use Rattle.of_store.proofs.Maps.{entries_is}
use Rattle.of_report.proofs.load.sums.Goals as goal

-- there are no more turns than keys, and their number fits a word of 32 bits
pub overflow_add-sum : goal.overflow_add-sum
overflow_add-sum c =
    let turn : (length c.loop-value.yielded < length c.map-value-items.result.now.entries) × (slice_get c.map-value-items.result.now.entries (length c.loop-value.yielded) ≡ Some (deref_pair (c.in-Some.field-0-0, c.in-Some.value))) = search (rules, iter_turn) in
    let all = ap (λ (m : FinMap nat_cmp ℕ). entries m) (sym c.map-value-items.ensures) ∙ entries_is c.map-value-items.result.now.entries c.into_iter-value-iterator.ensures.into_iter_gives.5 in
    let count : len c.args.store.now.keys ≡ length c.map-value-items.result.now.entries = len-entries c.args.store.now.keys ∙ ap length all in
    omega (arith, turn.0, count, c.keys-keys.ensures, c.loop-value.invariant.bound)

-- what was added up are the numbers of the finite map
pub returns-clause-values : goal.returns-clause-values
returns-clause-values c =
    let given : map deref_pair c.loop-value.yielded ≡ c.map-value-items.result.now.entries = search (rules, iter_end) in
    let all = given ∙ sym (entries_is c.map-value-items.result.now.entries c.into_iter-value-iterator.ensures.into_iter_gives.5) ∙ ap (λ (m : FinMap nat_cmp ℕ). entries m) c.map-value-items.ensures in
    c.loop-value.invariant.sum ∙ ap (λ (es : List (ℕ × ℕ)). sum_by (λ e. e.1) es) all
