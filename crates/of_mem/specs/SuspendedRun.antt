-- What a work keeps of an operation whose run stopped because a cell was not known.
use Rattle.std.specs.Prelude.{◌≡◌, ℕ, List, [], Option, None}
use Rattle.std.proofs.Common.{replicate}
use Rattle.of_mem.specs.declared.work.TheConstants.{MOST_INSTRS}

pub record SuspendedRun : Type 0 where
  -- the work's number of callers and of blocks
  pub callers : ℕ
  pub blocks : ℕ
  -- the words of the operation; none if nothing is kept
  pub words : List ℕ
  -- how many words have run, what each of them answered, and what all of them wrote
  pub done : ℕ
  pub values : List (Option ℕ)
  pub writes : List (ℕ × ℕ)
  -- how many cells there are: addresses are below this
  pub room : ℕ
  -- the key for which the next word looks first, if a key was kept
  pub sought : Option ℕ

-- what is kept of an operation before any of its words has run
abbrev pub begin_run : ℕ → ℕ → ℕ → List ℕ → SuspendedRun
begin_run room callers blocks words = record {
  callers = callers;
  blocks = blocks;
  words = words;
  done = 0;
  values = replicate MOST_INSTRS None;
  writes = [];
  room = room;
  sought = None;
}

-- what there is if no operation is kept
abbrev pub nothing_suspended : ℕ → SuspendedRun
nothing_suspended room = begin_run room 0 0 []

-- what is kept is of an operation with the words ws, by a work with c callers and b blocks
pub record IsSuspensionOf (k : SuspendedRun) (c b : ℕ) (ws : List ℕ) : Type 0 where
  pub callers : k.callers ≡ c
  pub blocks : k.blocks ≡ b
  pub words : k.words ≡ ws
