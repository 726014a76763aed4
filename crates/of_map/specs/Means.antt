-- What the calls of the map do to the store for which the cells stand.
use Rattle.std.specs.Prelude.{◌≡◌, ℕ, Result, IfOk, Bool, true, false, ltb, Option, Some, None}
use Rattle.std.specs.FinMap as fin
use Rattle.of_mem.specs.declared.part.Need.{Need}
use Rattle.of_mem.specs.declared.plot.Plot.{Plot}
use Rattle.of_mem.specs.Numbers.{IsNumber}
use Rattle.of_mem.specs.Part.{Part}
use Rattle.of_mem.specs.Stores.{CellStore, thing_count}
use Rattle.of_mem.specs.Calls.{ActsOnStore}
use Rattle.of_map.specs.declared.answers.Put.{Put}
use Rattle.of_map.specs.declared.answers.Put.TheVariants.{Full, New, Over}

-- the key and the value are numbers of scripts and stores, below 2 ^ 31
abbrev pub IsPair : ℕ → ℕ → Type 0
IsPair key v = IsNumber key × IsNumber v

abbrev pub with_put : CellStore → ℕ → ℕ → CellStore
with_put s key v = record s { map = fin.insert s.map key v }

-- The answer of a put. It is `Over w` if the key had the value w, `New` if the key was absent and
-- there is room, and `Full` if the key was absent and there is no room.
abbrev pub put_answer : Option ℕ → Bool → Put
put_answer (Some w) room = Over w
put_answer None true = New
put_answer None false = Full

abbrev pub put_store : CellStore → ℕ → ℕ → Option ℕ → Bool → CellStore
put_store s key v (Some w) room = with_put s key v
put_store s key v None true = with_put s key v
put_store s key v None false = s

-- what a put at this key answers, in the store s with this many blocks
abbrev pub answer_of_put : ℕ → ℕ → CellStore → Put
answer_of_put blocks key s = put_answer (fin.get s.map key) (ltb (thing_count s) blocks)

-- the store after a put of value v at this key, in the store s with this many blocks
abbrev pub after_put : ℕ → ℕ → ℕ → CellStore → CellStore
after_put blocks key v s = put_store s key v (fin.get s.map key) (ltb (thing_count s) blocks)

-- If the call answered, it put value v at the key, or found no room. If it found no room, it
-- answered `Full` and wrote nothing.
pub record PutsValue (plot : Plot) (before after : Part) (key v : ℕ) (result : Result Put Need)
    : Type 0 where
  pub acts : ActsOnStore plot before after result
      (answer_of_put plot.blocks key) (after_put plot.blocks key v)
  pub full : IfOk result (λ r. r ≡ Full → after ≡ before)

-- the store after a `del` of this key
abbrev pub after_del : ℕ → CellStore → CellStore
after_del key s = record s { map = fin.remove s.map key }
