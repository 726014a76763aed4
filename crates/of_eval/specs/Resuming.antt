-- What is kept of a script whose run stopped because a cell was not known. The two lemmas at the
-- end are laws of `impl MaySuspend for Scripts`, which may cite specs/ alone.
use Rattle.std.specs.Prelude.{◌≡◌, ℕ, ◌≤◌, ◌<◌, List, [], length, take, drop, Option, Some, None}
use Rattle.std.proofs.Common.{get_or, arith, ap}
use Rattle.of_mem.specs.declared.work.TheConstants.{MOST_INSTRS}
use Rattle.of_mem.specs.Part.{Part, Extends, learn}
use Rattle.of_mem.specs.Places.{base_of}
use Rattle.of_mem.specs.Programs.{Lacks, run_program, IsPartOf}
use Rattle.of_mem.specs.SuspendedRun.{SuspendedRun}
use Rattle.of_mem.proofs.Extended.{extends_learnt}
use Rattle.of_map.specs.MapPrograms.{seek_program}
use Rattle.of_store.specs.Replies.{IsSmall}
use Rattle.of_eval.specs.ScriptPrograms.{word_program, words_program}
use Rattle.of_eval.specs.Scripts.{StandsForSome}

-- the partial memory with these known cells, and these writes of batch and script
abbrev pub part_with : List (Option ℕ) → List (ℕ × ℕ) → List (ℕ × ℕ) → Part
part_with known batch script = record { known = known; batch = batch; script = script }

-- the partial memory agrees with some memory that stands for a store
abbrev pub IsOfStore : ℕ → ℕ → Part → Type 0
IsOfStore o blocks p = (m : ℕ → ℕ) × StandsForSome o blocks m × IsPartOf p m

-- wherever the walk to this key stops because a cell is not known, a run of the word w stops for
-- the same cell
abbrev pub LooksFor : ℕ → ℕ → ℕ → ℕ → Type 0
LooksFor o blocks w key =
    (p : Part) (a : ℕ) → run_program (seek_program o blocks key) p ≡ Lacks a
    → run_program (word_program o blocks w) p ≡ Lacks a

-- The script may go on from what is kept, however many more cells become known: a run from its
-- first word is the same as a run of the words that have not run yet, with the answers and writes
-- that are kept.
pub record MayResume (o blocks : ℕ) (k : SuspendedRun) (p : Part) : Type 0 where
  pub runs : (more : List (Option ℕ)) → Extends more p.known
      → run_program (words_program o blocks (length k.words) [] k.words) (part_with more p.batch [])
      ≡ run_program
      (words_program o blocks (length k.words) (take k.done k.values) (drop k.done k.words))
      (part_with more p.batch k.writes)
  pub stands : (more : List (Option ℕ)) → Extends more p.known
      → IsOfStore o blocks (part_with more p.batch [])
      → IsOfStore o blocks (part_with more p.batch k.writes)
  -- at least one word has not run yet
  pub left : k.done < length k.words
  pub width : length k.values ≡ MOST_INSTRS
  pub past : (i : ℕ) → k.done ≤ i → get_or k.values i None ≡ None
  pub small : (i : ℕ) → IsSmall (get_or k.values i None)
  -- the next word looks first for the key that is kept
  pub looks : (key : ℕ) → k.sought ≡ Some key → LooksFor o blocks (get_or k.words k.done 0) key

-- if a script is kept, it may go on from what is kept, on the cells of the work that kept it
abbrev pub HoldsScript : SuspendedRun → Part → Type 0
HoldsScript k p = 1 ≤ length k.words → MayResume (base_of k.callers MOST_INSTRS) k.blocks k p

pub holds_nothing : (k : SuspendedRun) (p : Part) → k.words ≡ [] → HoldsScript k p
holds_nothing k p e l = absurd (omega (arith, l, ap length e))

pub holds_learnt : (k : SuspendedRun) (p : Part) (a v : ℕ) → get_or p.known a None ≡ None
    → HoldsScript k p → HoldsScript k (learn p a v)
holds_learnt k p a v none h l =
    let g = h l in
    record {
      runs = λ more e. g.runs more (extends_learnt more p.known a v none e);
      stands = λ more e. g.stands more (extends_learnt more p.known a v none e);
      left = g.left;
      width = g.width;
      past = g.past;
      small = g.small;
      looks = g.looks;
    }
