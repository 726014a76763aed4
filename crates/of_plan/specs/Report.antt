-- What the lines of a report hold, and where a run starts.
use Rattle.std.specs.Prelude.{ℕ, Bool, List, filter, replicate, slice_index, slice_index_or, ◌==◌}
use Rattle.of_store.specs.Store.{Store, Reply, empty_store}
use Rattle.of_plan.specs.Plan.{Plan}

-- A call in the history: the script with this index (from 0) of a caller, the call's sequence,
-- whether it was announced, and its reply. All calls of one batch have the same sequence; so have
-- the reads of the state that the batch leaves.
pub record Entry : Type 0 where
  pub seq : ℕ
  pub caller : ℕ
  pub index : ℕ
  pub announced : Bool
  pub reply : Reply

-- how a caller ended: with all scripts answered, stopped before that, or with no sequence left
pub data EndState : Type 0 where
  done : EndState
  stopped : EndState
  spent : EndState

-- how a caller ended, how many calls of it were answered, how many entries it has, and how many
-- steps its longest answered call made
pub record Line : Type 0 where
  pub state : EndState
  pub answered : ℕ
  pub entries : ℕ
  pub longest : ℕ

-- a report: the history, how each caller ended, the recovered sequence and the recovered store
pub record Report : Type 0 where
  pub entries : List Entry
  pub callers : List Line
  pub seq : ℕ
  pub store : Store

-- where a run starts: a store, a sequence, and for each caller how many of its scripts are done
pub record Start : Type 0 where
  pub store : Store
  pub seq : ℕ
  pub finished : List ℕ

-- the start with an empty store, sequence 0 and no script done
abbrev pub empty_start : Plan → Start
empty_start p = record { store = empty_store p.blocks; seq = 0; finished = replicate p.callers 0 }

-- the entries of a caller, in the order of the list
abbrev pub entries_of : Report → ℕ → List Entry
entries_of r c = filter (λ e. e.caller == c) r.entries

-- the line that `caller_line` gives for a caller that has none
abbrev pub no_line : Line
no_line = record { state = done; answered = 0; entries = 0; longest = 0 }

-- the line of a caller
abbrev pub caller_line : Report → ℕ → Line
caller_line r c = slice_index_or r.callers c no_line

-- how many scripts of a caller are done at the start
abbrev pub finished_of : Start → ℕ → ℕ
finished_of s c = slice_index s.finished c
