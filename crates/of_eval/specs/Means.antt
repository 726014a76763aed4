-- What operations on cells that stand for a store do to the store.
use Rattle.std.specs.Prelude.{◌≡◌, ℕ, ◌≤◌, List, length, map}
use Rattle.of_mem.specs.ProgramWork.{memory_of}
use Rattle.of_script.specs.declared.instr.Instr.{Instr}
use Rattle.of_script.specs.declared.instr.TheConstants.{MOST_INSTRS}
use Rattle.of_script.specs.Language.{IsScript, instr_word}
use Rattle.of_store.specs.Store.{Store, run}
use Rattle.of_eval.specs.declared.scripts.Scripts.{Scripts}
use Rattle.of_eval.specs.Shapes.{reply_cells}
use Rattle.of_eval.specs.Stored.{IsStored}
use Rattle.of_eval.specs.Words.{run_words, reply_to}
use Rattle.of_eval.specs.Scripts.{store_at, scripts_data_cells, scripts_meaning}

-- After the operation `op` on the cells xs, the cells stand for the store that the words of `op`
-- leave of s. The operation's reply is the reply of these words.
pub record DoesOperation (w : Scripts) (xs op : List ℕ) (s : Store) : Type 0 where
  pub cells : IsStored (store_at w) w.blocks (memory_of ((scripts_meaning w).cells xs op))
      (run_words s op).0
  pub reply : (scripts_meaning w).reply xs op
      ≡ reply_cells (reply_to (length op) (run_words s op).1)

-- if cells of the work stand for a store, every operation of at most `MOST_INSTRS` words does to
-- the store what its words do
abbrev pub MeansWords : Scripts → Type 0
MeansWords w =
    (xs op : List ℕ) (s : Store) → length xs ≡ scripts_data_cells w → length op ≤ MOST_INSTRS
    → IsStored (store_at w) w.blocks (memory_of xs) s → DoesOperation w xs op s

-- running the words of a script on a store is the same as running the script
abbrev pub WordsMeanScript : Type 0
WordsMeanScript =
    (s : Store) (script : List Instr) → IsScript script
    → run_words s (map instr_word script) ≡ run s script
