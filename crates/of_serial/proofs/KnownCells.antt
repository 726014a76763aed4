-- Cells that are all known, and what a run leaves of them.
use Rattle.std.proofs.Common.{◌≡◌, ◌≢◌, ℕ, zero, suc, ◌+◌, ◌*◌, ◌<◌, ◌≤◌, ◌==◌, Bool, true, false, if◌then◌else◌, Option, Some, None, List, [], ◌∷◌, ◌++◌, length, get_or, set, map, take, replicate, refl, sym, ◌∙◌, ap, subst, arith}
use Rattle.std.proofs.lemmas.Bool.Decides.{nat_tests}
use Rattle.std.proofs.lemmas.Option.{none-some}
use Rattle.std.proofs.Math.Seq.{take-append_seam}
use Rattle.std.proofs.lemmas.List.{set-set, set_comm, map-set, map-append, length-map, length-replicate, get_or-set_other, take_all, take_more}
use Rattle.of_mem.specs.declared.work.RawReply.{RawReply}
use Rattle.of_mem.specs.CellMap.{value_for, put_pair, put_all}
use Rattle.of_mem.specs.Part.{Part, newest_at, newer_of, overlaid}
use Rattle.of_mem.specs.Places.{ticket_cell_at, shape_at}
use Rattle.of_mem.specs.Meaning.{WalkEnd, Needs, Gives, Agrees, WalkFits, IsFinishedWalk, with_writes_in}
use Rattle.of_mem.specs.ProgramWork.{memory_of}
use Rattle.of_mem.proofs.Overlaid.{over_length, over_at}
use Rattle.of_mem.proofs.Writes.{written_length}
use Rattle.of_mem.proofs.Lists.{zero_at}
use Rattle.of_script.specs.declared.instr.Instr.{Instr}
use Rattle.of_script.specs.declared.instr.Reply.{Reply as RustReply}
use Rattle.of_script.specs.declared.instr.TheConstants.{MOST_INSTRS}
use Rattle.of_script.specs.Language.{IsScript, instr_word}
use Rattle.of_store.specs.Store.{Store, Reply, empty_store, run}
use Rattle.of_store.specs.Replies.{reply_value_of}
use Rattle.of_eval.specs.declared.scripts.Scripts.{Scripts}
use Rattle.of_eval.specs.Stored.{IsStored}
use Rattle.of_eval.specs.Shapes.{IsHeldBy}
use Rattle.of_eval.specs.Words.{run_words, reply_to}
use Rattle.of_eval.specs.Scripts.{store_at, scripts_data_cells, LawfulCells, scripts_meaning}
use Rattle.of_eval.specs.SoundScripts.{scripts_sound, empty_is_stored}
use Rattle.of_eval.specs.Means.{DoesOperation}
use Rattle.of_eval.specs.Lawful.{OwnCellsAreSound, DataCellsStandFor}
use Rattle.of_eval.proofs.Meanings.{means_words, words_mean_script}
use Rattle.of_serial.specs.declared.serial_run.cells.Cells.{Cells}
use Rattle.of_serial.specs.SerialRun.{CellsHoldStore}
use Rattle.of_serial.proofs.HeldReplies.{held_reply, said_reply}

-- the batch's last write counts
over_put : (known : List (Option ℕ)) (es : List (ℕ × ℕ)) (a v : ℕ) → overlaid known (put_pair es a v) ≡ set (overlaid known es) a (Some v)
over_put known [] a v = refl
over_put known (e ∷ es) a v = go (e.0 == a) refl (over_put known es a v)
  where
    go : (t : Bool) → (e.0 == a) ≡ t → overlaid known (put_pair es a v) ≡ set (overlaid known es) a (Some v) → overlaid known (if t then (a, v) ∷ es else e ∷ put_pair es a v) ≡ set (set (overlaid known es) e.0 (Some e.1)) a (Some v)
    go true p again = let s : e.0 ≡ a = grind (arith, nat_tests) in rw s (sym (set-set (overlaid known es) a (Some e.1) (Some v)))
    go false p again = let n : a ≢ e.0 = grind (arith, nat_tests) in ap (λ (l : List (Option ℕ)). set l e.0 (Some e.1)) again ∙ set_comm (overlaid known es) a e.0 (Some v) (Some e.1) n

-- cells that are all known stay so where the batch takes over writes
over_written : (known : List (Option ℕ)) (batch : List (ℕ × ℕ)) (xs : List ℕ) (es : List (ℕ × ℕ)) → overlaid known batch ≡ map Some xs → overlaid known (put_all batch es) ≡ map Some (with_writes_in xs es)
over_written known batch xs [] h = h
over_written known batch xs (e ∷ es) h = over_written known (put_pair batch e.0 e.1) (set xs e.0 e.1) es (over_put known batch e.0 e.1 ∙ ap (λ (l : List (Option ℕ)). set l e.0 (Some e.1)) h ∙ sym (map-set Some xs e.0 e.1))

known_is : (xs : List ℕ) (a v : ℕ) → get_or (map Some xs) a None ≡ Some v → get_or xs a 0 ≡ v
known_is [] a v e = absurd (none-some v e)
known_is (x ∷ xs) zero v e = cc
known_is (x ∷ xs) (suc a) v e = known_is xs a v e

is_known : (xs : List ℕ) (a : ℕ) → a < length xs → get_or (map Some xs) a None ≡ Some (get_or xs a 0)
is_known [] a l = absurd (omega arith)
is_known (x ∷ xs) zero l = refl
is_known (x ∷ xs) (suc a) l = is_known xs a (omega arith)

-- the words of a script, without what fills them up
pub script_words : (script : List Instr) (words filled : List ℕ) (n : ℕ) → n ≡ length script → words ≡ map instr_word script ++ filled → take n words ≡ map instr_word script
script_words script words filled n many e =
    ap (λ (k : ℕ). take k words) (many ∙ sym (length-map script instr_word)) ∙ ap (take (length (map instr_word script))) e ∙ take-append_seam (map instr_word script) filled

-- a cell before all that were written
not_written : (low a : ℕ) (xs : List ℕ) (es : List (ℕ × ℕ)) → a < low → ((k : ℕ) → k < length es → low ≤ (get_or es k (0, 0)).0) → memory_of (with_writes_in xs es) a ≡ memory_of xs a
not_written low a xs [] l h = refl
not_written low a xs (e ∷ es) l h = not_written low a (set xs e.0 e.1) es l (λ k m. h (suc k) (omega arith)) ∙ get_or-set_other xs e.0 a e.1 0 (let first : low ≤ e.0 = h 0 (omega arith) in omega arith)

zeros_known : (n : ℕ) → replicate {A = Option ℕ} n (Some 0) ≡ map Some (replicate {A = ℕ} n 0)
zeros_known zero = refl
zeros_known (suc n) = ap (λ (l : List (Option ℕ)). Some 0 ∷ l) (zeros_known n)

-- cells that are all known to be 0 hold the empty store
pub zeros_hold : (w : Scripts) (p : Part) (n : ℕ) → n ≡ scripts_data_cells w → length p.known ≡ scripts_data_cells w → take n p.known ≡ replicate n (Some 0) → p.batch ≡ [] → p.script ≡ [] → CellsHoldStore (record { scripts = w; part = p }) (empty_store w.blocks)
zeros_hold w p n all width zeros no_batch no_script = record {
  numbers = replicate n 0;
  size = length-replicate n 0 ∙ all;
  known = ap (overlaid p.known) no_batch ∙ sym (take_all n p.known (omega arith)) ∙ zeros ∙ zeros_known n;
  nothing_written = no_script;
  not_called = λ a l. zero_at n a;
  stored = empty_is_stored (store_at w) w.blocks w.few_blocks (memory_of (replicate n 0)) (zero_at n);
}

same_numbers : (xs ys : List ℕ) → map {B = Option ℕ} Some xs ≡ map Some ys → xs ≡ ys
same_numbers [] [] e = refl
same_numbers [] (y ∷ ys) e = absurd cc
same_numbers (x ∷ xs) [] e = absurd cc
same_numbers (x ∷ xs) (y ∷ ys) e =
    let rest : map {B = Option ℕ} Some xs ≡ map Some ys = cc in
    let again : xs ≡ ys = same_numbers xs ys rest in
    cc

module _ (c : Cells) (s : Store) (h : CellsHoldStore c s) where
  abbrev w : Scripts
  w = c.scripts

  abbrev all : List (Option ℕ)
  all = overlaid c.part.known c.part.batch

  pub width : length c.part.known ≡ scripts_data_cells c.scripts
  width = sym (over_length c.part.known c.part.batch) ∙ ap length h.known ∙ length-map h.numbers Some ∙ h.size

  -- what a cell holds
  pub newest_is : (a : ℕ) → a < scripts_data_cells c.scripts → newest_at c.part a ≡ get_or (overlaid c.part.known c.part.batch) a None
  unfolding newest_at
  newest_is a l =
      ap (λ (es : List (ℕ × ℕ)). newer_of (value_for es a) (newer_of (value_for c.part.batch a) (get_or c.part.known a None))) h.nothing_written
      ∙ sym (over_at c.part.known c.part.batch a (omega (arith, width, l)))

  known_at : (a : ℕ) → a < scripts_data_cells w → get_or all a None ≡ Some (get_or h.numbers a 0)
  known_at a l = ap (λ (l : List (Option ℕ)). get_or l a None) h.known ∙ is_known h.numbers a (omega (arith, h.size, l))

  -- each cell can be read
  pub can_be_read : (a : ℕ) → a < scripts_data_cells c.scripts → newest_at c.part a ≡ None → ⊥
  can_be_read a l e = none-some _ (sym e ∙ newest_is a l ∙ known_at a l)

  -- one cell more is read
  pub read_more : (n v : ℕ) (read later : List ℕ) → n < scripts_data_cells c.scripts → map Some read ≡ take n (overlaid c.part.known c.part.batch) → newest_at c.part n ≡ Some v → later ≡ read ++ v ∷ []
      → map Some later ≡ take (n + 1) (overlaid c.part.known c.part.batch)
  read_more n v read later l e is last =
      ap (map Some) last ∙ map-append Some read (v ∷ []) ∙ (λ i. e i ++ (sym is ∙ newest_is n l) i ∷ [])
      ∙ sym (take_more all n None (omega (arith, over_length c.part.known c.part.batch, width, l)))

  -- all cells are read
  pub all_read : (n : ℕ) (read : List ℕ) → scripts_data_cells c.scripts ≤ n → map Some read ≡ take n (overlaid c.part.known c.part.batch) → read ≡ h.numbers
  all_read n read l e = same_numbers read h.numbers (e ∙ take_all n all (omega (arith, over_length c.part.known c.part.batch, width, l)) ∙ h.known)

  own : (a : ℕ) → a < w.callers → OwnCellsAreSound MOST_INSTRS (memory_of h.numbers) a
  own a l = record {
    none = λ e. h.not_called (shape_at MOST_INSTRS a) (omega (arith, l));
    some = λ n. absurd (n (h.not_called (ticket_cell_at MOST_INSTRS a) (omega (arith, l))));
  }

  -- the cells stand for the store, those of the callers included
  pub stands_for : (callers instrs blocks : ℕ) (xs : List ℕ) → callers ≡ c.scripts.callers → instrs ≡ MOST_INSTRS → blocks ≡ c.scripts.blocks → xs ≡ h.numbers → DataCellsStandFor callers instrs blocks (memory_of xs) s
  stands_for callers instrs blocks xs e f g is = rw (e, f, g, is) (record { own = own; stored = h.stored })

  agrees : Agrees all h.numbers
  agrees a v e = known_is h.numbers a v (sym (ap (λ (l : List (Option ℕ)). get_or l a None) h.known) ∙ e)

  -- what a run asks of its part of memory
  pub asked : (xs : List ℕ) × (length xs ≡ scripts_data_cells c.scripts) × LawfulCells c.scripts xs × Agrees (overlaid c.part.known c.part.batch) xs
  asked = (h.numbers, h.size, (s, h.stored), agrees)

  module _ (op : List ℕ) where
    abbrev FitsAs : WalkEnd → Type 0
    FitsAs = WalkFits (scripts_meaning w) (w.callers * (MOST_INSTRS + 2)) (scripts_data_cells w) all h.numbers op

    fits : FitsAs ((scripts_meaning w).walk all op)
    fits = (scripts_sound w).walks all h.numbers op h.size (s, h.stored) agrees

    -- no run needs a cell
    pub nothing_needed : (a : ℕ) → (scripts_meaning c.scripts).walk (overlaid c.part.known c.part.batch) op ≡ Needs a → ⊥
    nothing_needed a e =
        let f = subst FitsAs e fits in
        none-some _ (sym f.2 ∙ known_at a f.1)

    module _ (script : List Instr) (is : IsScript script) (words : op ≡ map instr_word script) (es : List (ℕ × ℕ)) (r : RawReply) (gives : (scripts_meaning c.scripts).walk (overlaid c.part.known c.part.batch) op ≡ Gives es r) where
      finishes : IsFinishedWalk (scripts_meaning w) (w.callers * (MOST_INSTRS + 2)) (scripts_data_cells w) h.numbers op es r
      finishes = subst FitsAs gives fits

      many : length op ≡ length script
      many = ap length words ∙ length-map script instr_word

      does : DoesOperation w h.numbers op s
      does = means_words w h.numbers op s h.size (omega (arith, many, is.few)) h.stored

      means : run_words s op ≡ run s script
      means = ap (run_words s) words ∙ words_mean_script s script is

      -- the cells that are kept hold the store after the script
      pub kept_holds : CellsHoldStore (record c { part = record { known = c.part.known; batch = put_all c.part.batch es; script = [] } }) (run s script).0
      kept_holds = record {
        numbers = with_writes_in h.numbers es;
        size = written_length h.numbers es ∙ h.size;
        known = over_written c.part.known c.part.batch h.numbers es h.known;
        nothing_written = refl;
        not_called = λ a l. not_written (store_at w) a h.numbers es l (λ k m. (finishes.inside k (0, 0) m).0) ∙ h.not_called a l;
        stored = subst (λ (xs : List ℕ). IsStored (store_at w) w.blocks (memory_of xs) (run s script).0) finishes.cells
            (subst (λ (x : Store × Reply). IsStored (store_at w) w.blocks (memory_of ((scripts_meaning w).cells h.numbers op)) x.0) means does.cells);
      }

      -- the reply of the script
      pub reply : RustReply
      reply = reply_to (length op) (run_words s op).1

      pub reply_held : IsHeldBy r reply
      unfolding reply
      reply_held = subst (λ (raw : RawReply). IsHeldBy raw (reply_to (length op) (run_words s op).1)) (sym does.reply ∙ finishes.reply) (held_reply s h.stored.state op (omega (arith, many, is.some)) (omega (arith, many, is.few)))

      pub reply_says : reply_value_of reply ≡ (run s script).1
      unfolding reply
      reply_says = said_reply s h.stored.state op ∙ ap (λ (x : Store × Reply). x.1) means
