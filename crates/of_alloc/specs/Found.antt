-- Which block of a bucket holds a key, and which cell points to that block.
use Rattle.std.specs.Prelude.{◌≡◌, ℕ, List, ◌∷◌, ◌++◌, Some}
use Rattle.of_mem.specs.Stores.{first_at, second_at, cell_after, value_in}

-- In the list `l`, block b holds the key, and `at` is the cell that points to b. The value of the
-- key is in b too.
pub record HasKeyBlock (o : ℕ) (m : ℕ → ℕ) (key cell : ℕ) (l : List ℕ) (at b : ℕ) : Type 0 where
  pub before : List ℕ
  pub behind : List ℕ
  pub split : l ≡ before ++ b ∷ behind
  pub place : at ≡ cell_after o cell before
  pub same : m (first_at o b) ≡ key
  pub value : value_in o m key l ≡ Some (m (second_at o b))
