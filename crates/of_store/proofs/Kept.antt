-- How many keys and items a store keeps, after each change.
use Rattle.std.proofs.Common.{◌≡◌, ℕ, ◌+◌, ◌<◌, ◌≤◌, List, [], ◌++◌, length, inl, inr, Option, Some, None, is_some, true, false, refl, ap, ◌∙◌, arith}
use Rattle.std.specs.FinMap as fm
use Rattle.std.proofs.lemmas.Bool.Decides.{eqb_tells}
use Rattle.std.specs.FinMap.{len-insert, len-empty, len-remove, empty_of_len, get-empty}
use Rattle.std.specs.Ordering.{nat_cmp}
use Rattle.std.specs.Cmp.{nat_cmp_total}
use Rattle.std.specs.Option.{option_to_list}
use Rattle.std.proofs.lemmas.List.Sums.{sum_by-set}
use Rattle.of_store.specs.Store.{Store, queue, stored_count, with_key, without_key, with_queue, empty_store}

-- how many things more, or fewer
abbrev pub grown : Option ℕ → ℕ
grown None = 1
grown (Some v) = 0

abbrev pub fewer : Option ℕ → ℕ
fewer None = 0
fewer (Some v) = 1

len_put : (m : fm.FinMap nat_cmp ℕ) (k v : ℕ) (before : Option ℕ) → fm.get m k ≡ before → fm.len (fm.insert m k v) ≡ fm.len m + grown before
len_put m k v None e = len-insert nat_cmp_total m k v ∙ rw e (omega arith)
len_put m k v (Some w) e = len-insert nat_cmp_total m k v ∙ rw e (omega arith)

some_there : (m : fm.FinMap nat_cmp ℕ) (k w : ℕ) → fm.get m k ≡ Some w → fm.len m ≡ 0 → ⊥
some_there m k w e none = let gone = ap (λ (n : fm.FinMap nat_cmp ℕ). fm.get n k) (empty_of_len m none) ∙ get-empty nat_cmp k in cc

len_removed : (m : fm.FinMap nat_cmp ℕ) (k : ℕ) (before : Option ℕ) → fm.get m k ≡ before → fm.len (fm.remove m k) + fewer before ≡ fm.len m
len_removed m k None e = let h = len-remove nat_cmp_total m k in let g = rw e at h in omega (arith, g)
len_removed m k (Some w) e = let h = len-remove nat_cmp_total m k in let g = rw e at h in let some = some_there m k w e in elim (eqb_tells (fm.len m) 0) [ inl p ↦ absurd (some p.1) | inr p ↦ (let not_none = p.1 in omega (arith, g, not_none)) ]

pub kept_put : (s : Store) (k v : ℕ) (before : Option ℕ) → fm.get s.keys k ≡ before → stored_count (with_key s k v) ≡ stored_count s + grown before
kept_put s k v before e = omega (arith, len_put s.keys k v before e)

pub kept_removed : (s : Store) (k : ℕ) (before : Option ℕ) → fm.get s.keys k ≡ before → stored_count (without_key s k) + fewer before ≡ stored_count s
kept_removed s k before e = omega (arith, len_removed s.keys k before e)

pub kept_queue : (s : Store) (q : ℕ) (items : List ℕ) → q < length s.queues → stored_count (with_queue s q items) + length (queue s q) ≡ stored_count s + length items
kept_queue s q items lt = omega (arith, sum_by-set length s.queues q items [] lt)

-- a queue's items are among what is kept
pub queue_within : (s : Store) (q : ℕ) → q < length s.queues → length (queue s q) ≤ stored_count s
queue_within s q lt = omega (arith, kept_queue s q [] lt)

pub kept_empty : (room : ℕ) → stored_count (empty_store room) ≡ 0
kept_empty room = ap (λ (n : ℕ). n + 0) (len-empty nat_cmp ℕ)

-- ---- how many, for each answer

pub some_fewer : (o : Option ℕ) → is_some o ≡ true → fewer o ≡ 1
some_fewer None e = absurd cc
some_fewer (Some v) e = refl

pub none_fewer : (o : Option ℕ) → is_some o ≡ false → fewer o ≡ 0
none_fewer None e = refl
none_fewer (Some v) e = absurd cc

pub some_grown : (o : Option ℕ) → is_some o ≡ true → grown o ≡ 0
some_grown None e = absurd cc
some_grown (Some v) e = refl

pub option_length : (o : Option ℕ) (items : List ℕ) → length (option_to_list o ++ items) ≡ fewer o + length items
option_length None items = omega arith
option_length (Some v) items = omega arith
