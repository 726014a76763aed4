-- What contracts see of a bank's fields, and what it keeps.
use Rattle.std.specs.Prelude.{◌≡◌, ◌≤◌, ℕ, List, length}
use Rattle.of_cell.specs.declared.word.TheConstants.{GREATEST_LIMIT}
use Rattle.of_mem.specs.Meaning.{Meaning}
use Rattle.of_mem.specs.declared.work.TheConstants.{MOST_INSTRS}
use Rattle.of_core.specs.declared.bank.Bank.TheInside.{Inside}
use Rattle.of_core.specs.Table.{setup_of}
use Rattle.of_core.specs.Starts.{start_from_durable}
use Rattle.of_core.specs.Moment.{Bank, IsReached, RunSameWork, call_states, table_word_count}

-- a bank as contracts see it: its work, its sizes, its start, its words and its machines
abbrev pub bank_value : {W : Type 0} → Inside W → Bank W
bank_value b = record {
  work = b.work;
  callers = b.shape.callers;
  cells = b.shape.cells;
  limit = b.limit;
  start = start_from_durable b.shape.callers b.shape.cells b.first.value.items;
  words = b.words.items;
  machines = call_states b.machines.items;
}

-- the sizes of the bank fit one another, and its words and machines are those of a moment that some
-- schedule leaves
pub record IsBank {W : Type 0} (many size : W → ℕ) (meaning : W → Meaning)
    (lawful : W → List ℕ → Type 0) (b : Inside W) : Type 0 where
  pub callers : many b.work ≡ b.shape.callers
  pub instrs : b.shape.instrs ≡ MOST_INSTRS
  pub cells : size b.work ≡ b.shape.cells
  pub limit : b.limit ≤ GREATEST_LIMIT
  pub room : length b.words.items
      ≡ table_word_count (setup_of b.shape.callers b.shape.cells b.limit (meaning b.work))
  pub members : length b.machines.items ≡ b.shape.callers
  pub alike : RunSameWork b.work b.shape.callers b.shape.cells b.limit b.machines.items
  pub reached : IsReached (setup_of b.shape.callers b.shape.cells b.limit (meaning b.work))
      (lawful b.work) (start_from_durable b.shape.callers b.shape.cells b.first.value.items)
      b.words.items (call_states b.machines.items)
