-- What a hand on a door knows.
use Rattle.std.specs.Prelude.{ℕ, List, [], ◌∷◌, ◌++◌, Bool, false}

pub record HandLog : Type 0 where
  -- the words that the hand's exchanges found, and those that it stored, in order
  pub found : List ℕ
  pub stored : List ℕ
  -- whether the hand holds the slot
  pub holds : Bool

abbrev pub no_exchange : HandLog
no_exchange = record { found = []; stored = []; holds = false }

-- the log after an exchange that has found the word n, and has got the slot or not
abbrev pub log_after_exchange : ℕ → Bool → HandLog → HandLog
log_after_exchange n got v = record { found = v.found ++ n ∷ []; stored = v.stored; holds = got }

-- the log after a store of the word n, by which the slot went back
abbrev pub after_store : ℕ → HandLog → HandLog
after_store n v = record { found = v.found; stored = v.stored ++ n ∷ []; holds = false }
