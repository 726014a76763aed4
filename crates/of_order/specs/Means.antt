-- What the calls on keys in their order answer, and what dropping keys does to a store.
use Rattle.std.specs.Prelude.{ℕ, ◌-◌, nat_le, find, Option}
use Rattle.std.specs.Ordering.{nat_cmp}
use Rattle.std.specs.FinMap as fin
use Rattle.of_mem.specs.Stores.{CellStore}

-- the least key of the map that is at least `low`; None if there is none
abbrev pub least_from : fin.FinMap nat_cmp ℕ → ℕ → Option ℕ
least_from m low = find (λ k. nat_le low k) (fin.keys m)

-- the map with only the keys that are at least `low`
abbrev pub keys_from : fin.FinMap nat_cmp ℕ → ℕ → fin.FinMap nat_cmp ℕ
keys_from m low = fin.retain_keys m (λ k. nat_le low k)

-- the store without its keys below `low`
abbrev pub after_drop : ℕ → CellStore → CellStore
after_drop low s = record s { map = keys_from s.map low }

-- how many keys of the store are below `low`
abbrev pub dropped_count : ℕ → CellStore → ℕ
dropped_count low s = fin.len s.map - fin.len (keys_from s.map low)
