-- What tests of equality tell of two stores.
use Rattle.std.proofs.Common.{◌≡◌, ℕ, ◌<◌, Bool, true, false, not, List, [], Decides, refl, sym, ap, ◌∙◌, arith}
use Rattle.std.specs.FinMap.{FinMap, entries, from_entries}
use Rattle.std.specs.Ordering.{nat_cmp}
use Rattle.std.specs.List.Sorted.{IsStrictlySortedBy}
use Rattle.std.specs.Map.{keys_of}
use Rattle.std.proofs.lemmas.List.{ext_get_or}
use Rattle.of_store.specs.Store.{Store, IsState, queue}
use Rattle.of_store.proofs.Maps.{entries_is}

pub apart : (b r : Bool) (P : Type 0) → r ≡ not b → Decides b P → r ≡ true → P → ⊥
apart b r P is decides so p = absurd (let e = sym so ∙ is ∙ ap not (decides.1 p) in cc)

pub together : (b r : Bool) (P : Type 0) → r ≡ not b → Decides b P → r ≡ false → P
together b r P is decides so = decides.0 (turned b (sym is ∙ so))
  where
    turned : (t : Bool) → not t ≡ false → t ≡ true
    turned true e = refl
    turned false e = absurd cc

-- a finite map has one list of entries in order
pub same_entries : (es fs : List (ℕ × ℕ)) (m n : FinMap nat_cmp ℕ) → IsStrictlySortedBy nat_cmp (keys_of es) → IsStrictlySortedBy nat_cmp (keys_of fs) → from_entries es ≡ m → from_entries fs ≡ n → m ≡ n → es ≡ fs
same_entries es fs m n one other is are same =
    sym (entries_is es one) ∙ ap (λ (k : FinMap nat_cmp ℕ). entries k) (is ∙ same ∙ sym are) ∙ entries_is fs other

pub same_state : (s t : Store) → IsState s → IsState t → s.room ≡ t.room → s.registers ≡ t.registers → s.keys ≡ t.keys → ((q : ℕ) → q < 4 → queue s q ≡ queue t q) → s ≡ t
same_state s t one other room registers keys each =
    let queues : s.queues ≡ t.queues = ext_get_or [] s.queues t.queues (one.queues ∙ sym other.queues) (λ q lt. each q (omega (arith, lt, one.queues))) in
    λ i. record { registers = registers i; keys = keys i; queues = queues i; room = room i }
