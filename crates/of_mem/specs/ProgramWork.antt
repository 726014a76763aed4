-- Works whose operations are programs.
use Rattle.std.specs.Prelude.{◌≡◌, ℕ, ◌<◌, ◌≤◌, ◌⊎◌, Bool, true, false, cond, List, [], length, Option}
use Rattle.std.specs.List.{All}
use Rattle.std.proofs.Common.{get_or}
use Rattle.of_mem.specs.declared.work.RawReply.{RawReply}
use Rattle.of_mem.specs.declared.work.TheConstants.{MOST_INSTRS, FEW_DATA_CELLS, MOST_WRITES, LEAST_ABORT}
use Rattle.of_mem.specs.Numbers.{FitsCell}
use Rattle.of_mem.specs.Part.{Part}
use Rattle.of_mem.specs.Programs.{Program, RunEnd, Lacks, Ends, run_program, program_answer, memory_after, program_writes, StaysBetween, StaysFrom, OnlyReads}
use Rattle.of_mem.specs.Meaning.{Meaning, WalkEnd, Needs, Gives, with_writes_in, is_marked}

-- the list of cells as a function from addresses to numbers, with 0 past its end
abbrev pub memory_of : List ℕ → ℕ → ℕ
memory_of xs a = get_or xs a 0

-- the partial memory with these known cells and no writes
abbrev pub fresh_part : List (Option ℕ) → Part
fresh_part known = record { known = known; batch = []; script = [] }

-- The end of a walk, made of the end of a program's run. If `keeps` answers false for the reply,
-- the writes are dropped.
abbrev pub walk_of_run : (RawReply → Bool) → RunEnd RawReply → WalkEnd
walk_of_run keeps (Lacks a) = Needs a
walk_of_run keeps (Ends r q) = Gives (cond (keeps r) q.script []) r

-- The meaning of a work whose operations are programs. `keeps` says which replies are a success,
-- and `reads` says which operations are known to write nothing.
abbrev pub meaning_of : (RawReply → Bool) → (List ℕ → Bool) → (List ℕ → Program RawReply) → Meaning
meaning_of keeps reads program = record {
  cells = λ xs op. cond (keeps (program_answer (program op) (memory_of xs)))
      (with_writes_in xs (program_writes (program op) (memory_of xs))) xs;
  reply = λ xs op. program_answer (program op) (memory_of xs);
  walk = λ known op. walk_of_run keeps (run_program (program op) (fresh_part known));
  reads_only = reads;
}

-- A reply that fits the operation `op`. Its shape and numbers fit into cells. The shape marks a
-- number only for an instruction of a script that was not aborted, and each number that is not
-- marked is 0.
pub record IsReplyTo (op : List ℕ) (r : RawReply) : Type 0 where
  pub shape : FitsCell r.shape
  pub values : All FitsCell r.values
  pub marks : (j : ℕ) → j < MOST_INSTRS → is_marked r.shape j ≡ true
      → (r.shape < LEAST_ABORT) × (j < length op) × (j < length r.values)
  pub rest : (j : ℕ) → j < MOST_INSTRS → is_marked r.shape j ≡ false → get_or r.values j 0 ≡ 0

-- The rules that a work's programs keep. The work has `size` data cells, its operations use the
-- cells from `low` on, and `lawful` says which memories are lawful.
pub record AreSound (keeps : RawReply → Bool) (reads : List ℕ → Bool)
    (program : List ℕ → Program RawReply) (lawful : (ℕ → ℕ) → Type 0) (low size : ℕ)
    : Type 0 where
  pub zeros : (m : ℕ → ℕ) → ((a : ℕ) → m a ≡ 0) → lawful m
  pub leads : (m : ℕ → ℕ) (op : List ℕ) → lawful m
      → keeps (program_answer (program op) m) ≡ true → lawful (memory_after (program op) m)
  -- whether a memory is lawful doesn't depend on the cells below `low`
  pub lawful_from : (m n : ℕ → ℕ) → ((a : ℕ) → low ≤ a → m a ≡ n a) → lawful m → lawful n
  pub stays : (op : List ℕ) → StaysFrom low (program op)
  pub inside : (m : ℕ → ℕ) (op : List ℕ) → lawful m → StaysBetween low size (program op) m
  -- with more than FEW_DATA_CELLS cells, an operation makes at most MOST_WRITES writes
  pub few : (m : ℕ → ℕ) (op : List ℕ) → lawful m
      → (size ≤ FEW_DATA_CELLS) ⊎ (length (program_writes (program op) m) ≤ MOST_WRITES)
  pub replies : (m : ℕ → ℕ) (op : List ℕ) → lawful m → IsReplyTo op (program_answer (program op) m)
  pub reads_only : (op : List ℕ) → reads op ≡ true → OnlyReads (program op)
