-- What recovery finds at any moment of a row of scripts holds a reply to each caller's last call, whatever the words of its
-- operation: a word that is no instruction aborts, and an abort is a reply.
use Rattle.std.proofs.Common.{◌≡◌, ℕ, zero, suc, ◌≤◌, ◌<◌, inl, inr, Ok, Err, List, [], ◌∷◌, length, get_or, sym, subst, ◌∙◌, arith}
use Rattle.std.specs.List.{All, AllByRecursion as Each}
use Rattle.std.proofs.lemmas.List.Elements.{recursion_from_All}
use Rattle.std.proofs.lemmas.List.FromFn.{fill_by_all}
use Rattle.of_mem.specs.Meaning.{Meaning}
use Rattle.of_mem.specs.ProgramWork.{memory_of}
use Rattle.of_mem.specs.declared.work.RawReply.{RawReply}
use Rattle.of_script.specs.declared.instr.Reply.{Reply as RustReply}
use Rattle.of_script.specs.declared.instr.TheConstants.{MOST_INSTRS}
use Rattle.of_store.specs.Store.{Store, ScriptOutcome, run_result}
use Rattle.of_eval.specs.declared.scripts.Scripts.{Scripts}
use Rattle.of_eval.specs.Scripts.{scripts_data_cells, scripts_meaning, LawfulCells}
use Rattle.of_eval.specs.Shapes.{IsHeldBy}
use Rattle.of_eval.specs.Words.{run_words, words_outcome}
use Rattle.of_eval.specs.ScriptRuns.{AnswerInRange, words_answer}
use Rattle.of_eval.specs.SoundScripts.{scripts_sound}
use Rattle.of_eval.specs.Lawful.{reply_in, reply_number, OwnCellsAreSound}
use Rattle.of_eval.proofs.Meanings.{means_words}
use Rattle.of_plan.specs.Plan.{Plan}
use Rattle.of_core.specs.Linear.{Sequences}
use Rattle.of_core.specs.Machine.{Call, no_call}
use Rattle.of_core.specs.History.{CallsHaveReplies, SameWhereMarked}
use Rattle.of_caller.proofs.StoresHeld.{FitsIn, has_reply}
use Rattle.of_caller.proofs.StoresRecovered.{stand_same}
use Rattle.of_core.specs.Table.{Setup}
use Rattle.of_core.specs.TableMoment.{TableStart}
use Rattle.of_row.specs.Rule.{done_before}
use Rattle.of_row.specs.Rows.{key_of, setup_at, row_start}
use Rattle.of_cells.specs.declared.memory.CellMemory.{CellMemory}
use Rattle.of_cells.specs.Looking.{WasSoMeanwhile, HoldLast}
use Rattle.of_cells.specs.Moments.{numbers_found, numbers_of}
use Rattle.of_cells.specs.Saving.{OwnCellsStay, own_ticket}
use Rattle.of_cells.specs.Saving as generic
use Rattle.of_memory.specs.declared.memory.Memory.{Memory}
use Rattle.of_memory.specs.Laws.{setup_with}
use Rattle.of_memory.specs.Memories.{IsMemory, callers_of, row_of}
use Rattle.of_memory.proofs.Leading.{holds_same}
use Rattle.of_memory.proofs.Saving.{within}

-- a plan of these sizes: what is known of replies on its table is known of these
abbrev sizes : Scripts → Plan
sizes w = record { callers = w.callers; blocks = w.blocks; limit = 1; scripts = []; stops = []; schedule = [] }

-- an operation has as many words as it may have
abbrev pub HasSize : Call → Type 0
HasSize c = (1 ≤ length c.op) × (length c.op ≤ MOST_INSTRS)

fits : (ws : List ℕ) (s : Store) (x : ScriptOutcome) → AnswerInRange ws x → FitsIn (length ws) (run_result s x).1
fits ws s (Ok e) h = h
fits ws s (Err p) h = h

-- the raw reply is the one in the own cells
pub raw_is : (cells : List ℕ) (n ticket : ℕ) (raw : RawReply) → HoldLast cells n ticket raw → raw ≡ reply_in MOST_INSTRS (memory_of cells) n
raw_is cells n ticket raw h =
    let values = fill_by_all (reply_number MOST_INSTRS (memory_of cells) n) raw.values MOST_INSTRS 0 h.long (λ k l. h.numbers k (omega (arith, l)) ∙ within k MOST_INSTRS _ (omega (arith, l))) in
    λ i. record { shape = h.shape i; values = values i }

module _ (w : Scripts) where
  abbrev M : Meaning
  M = scripts_meaning w

  -- what an operation answers on lawful cells is a reply
  one_held : (ys op : List ℕ) → length ys ≡ scripts_data_cells w → LawfulCells w ys → 1 ≤ length op → length op ≤ MOST_INSTRS → (raw : RawReply) → SameWhereMarked (setup_with w 1) raw (M.reply ys op) → (r : RustReply) × IsHeldBy raw r
  one_held ys op size lawful some few raw same =
      let s : Store = lawful.0 in
      let does = means_words w ys op s size few lawful.1 in
      let held = has_reply (sizes w) raw (length op) (run_words s op).1 some few (fits op s (words_outcome s op) (words_answer op s lawful.1.state)) (subst (SameWhereMarked (setup_with w 1) raw) does.reply same) in
      (held.0, held.1)

  -- so is what each call of a serial history answers
  call_held : (ys : List ℕ) → length ys ≡ scripts_data_cells w → LawfulCells w ys → (cs : List Call) → CallsHaveReplies M ys cs → Each HasSize cs → (k : ℕ) → k < length cs → (raw : RawReply) → SameWhereMarked (setup_with w 1) raw (get_or cs k no_call).raw → (r : RustReply) × IsHeldBy raw r
  call_held ys size lawful [] serial sized k l raw same = absurd (omega (arith, l))
  call_held ys size lawful (c ∷ cs) serial sized zero l raw same = one_held ys c.op size lawful sized.0.0 sized.0.1 raw (subst (SameWhereMarked (setup_with w 1) raw) (sym serial.0) same)
  call_held ys size lawful (c ∷ cs) serial sized (suc k) l raw same = call_held (M.cells ys c.op) ((scripts_sound w).keeps_length ys c.op size) ((scripts_sound w).leads ys c.op size lawful) cs serial.1 sized.1 k (omega (arith, l)) raw same

  module _ (callers : ℕ) (made : ℕ → ℕ) (xs now : List ℕ) (size : length xs ≡ scripts_data_cells w) (lawful : LawfulCells w xs) (h : List Call) (q : Sequences) (led : generic.HistoryLeads M callers made xs now h q) (sized : All HasSize h)
      (n : ℕ) (low : n < callers) (keeps : own_ticket now n ≡ made n → OwnCellsStay xs now n) (before : OwnCellsAreSound MOST_INSTRS (memory_of xs) n) where
    sound_so : generic.TellLast now h n (made n) → OwnCellsAreSound MOST_INSTRS (memory_of now) n
    sound_so (inl same) = stand_same (memory_of now) (memory_of xs) n (λ a own. keeps same a own.0 own.1) before
    sound_so (inr l) =
        let c : Call = get_or h l.0 no_call in
        let later : made c.caller < c.ticket = led.later l.0 no_call l.1 in
        let held = call_held xs size lawful h led.serial (recursion_from_All HasSize h sized) l.0 l.1 (reply_in MOST_INSTRS (memory_of now) n) (holds_same w now n c l.4) in
        record {
          none = λ none. absurd (omega (arith, later, l.3, none));
          some = λ not. record { reply = held.0; held = held.1; few = held.1.0.few };
        }

    -- the own cells of each caller hold a reply to its last call
    pub now_sound : OwnCellsAreSound MOST_INSTRS (memory_of now) n
    now_sound = sound_so (led.last n low)

-- what was so meanwhile, if something follows from it
pub so_too : (P Q : List ℕ → Type 0) (m k : CellMemory Scripts) → WasSoMeanwhile scripts_meaning LawfulCells P m k → ((cells : List ℕ) → P cells → Q cells) → WasSoMeanwhile scripts_meaning LawfulCells Q m k
so_too P Q m k f follows = record {
  state = f.state;
  rule = f.rule;
  since = f.since;
  now = f.now;
  words = f.words;
  durable = f.durable;
  found = follows _ f.found;
  history = f.history;
}

-- in a memory of scripts, what recovery finds meanwhile holds a reply to each caller's last call
pub asked_sound : (m : Memory) → IsMemory m → (k : CellMemory Scripts) (P : List ℕ → Type 0) (f : WasSoMeanwhile scripts_meaning LawfulCells P m.cells k) (n : ℕ) → n < callers_of m
    → OwnCellsAreSound MOST_INSTRS (memory_of (numbers_found (key_of (row_of m)).callers (key_of (row_of m)).cells f.words)) n
asked_sound m is k P f n low =
    let key = key_of (row_of m) in
    let S : Setup = setup_at scripts_meaning (row_of m) in
    let B : TableStart = row_start scripts_meaning (row_of m) in
    now_sound key.work key.callers (done_before S B) (numbers_of B) (numbers_found key.callers key.cells f.words) is.row.size (is.row.store, is.row.stands) f.history.history f.history.sequences f.history.leads f.history.sized n low (f.history.own n low) (is.row.replies n (omega (arith, low, is.row.callers)))
