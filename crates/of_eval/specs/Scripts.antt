-- Scripts as a work: which cells are lawful, and what an operation means.
use Rattle.std.specs.Prelude.{ℕ, Bool, true, false, ◌&&◌, List, [], ◌∷◌, length, nat_lt, nat_le, Option, Some, None}
use Rattle.of_mem.specs.declared.work.RawReply.{RawReply}
use Rattle.of_mem.specs.declared.work.TheConstants.{MOST_INSTRS, LEAST_ABORT}
use Rattle.of_mem.specs.Places.{base_of, cells_at}
use Rattle.of_mem.specs.Meaning.{Meaning}
use Rattle.of_mem.specs.ProgramWork.{memory_of, meaning_of}
use Rattle.of_script.specs.declared.instr.Instr.{Instr}
use Rattle.of_script.specs.Language.{reads_only}
use Rattle.of_script.specs.Reading.{instr_at}
use Rattle.of_store.specs.Store.{Store}
use Rattle.of_eval.specs.declared.scripts.Scripts.{Scripts}
use Rattle.of_eval.specs.Stored.{IsStored}
use Rattle.of_eval.specs.ScriptPrograms.{script_program}

-- the address of the first cell of the store, after the callers' own cells
abbrev pub store_at : Scripts → ℕ
store_at w = base_of w.callers MOST_INSTRS

abbrev pub scripts_data_cells : Scripts → ℕ
scripts_data_cells w = cells_at (store_at w) w.blocks

-- the memory m stands for some store, from cell o on
abbrev pub StandsForSome : ℕ → ℕ → (ℕ → ℕ) → Type 0
StandsForSome o blocks m = (s : Store) × IsStored o blocks m s

abbrev pub LawfulCells : Scripts → List ℕ → Type 0
LawfulCells w xs = StandsForSome (store_at w) w.blocks (memory_of xs)

-- the reply is not an abort
abbrev pub is_success : RawReply → Bool
is_success r = nat_lt r.shape LEAST_ABORT

abbrev pub instr_reads : Option Instr → Bool
instr_reads None = false
instr_reads (Some i) = reads_only i

abbrev pub words_read : List ℕ → Bool
words_read [] = true
words_read (w ∷ ws) = instr_reads (instr_at w) && words_read ws

-- the words are 1 to MOST_INSTRS words of instructions that leave every store as it is
abbrev pub script_reads : List ℕ → Bool
script_reads op = nat_le 1 (length op) && (nat_le (length op) MOST_INSTRS && words_read op)

-- the meaning of scripts as a work: each operation runs the program of its words
abbrev pub scripts_meaning : Scripts → Meaning
scripts_meaning w = meaning_of is_success script_reads (script_program (store_at w) w.blocks)
