-- The words of a script, one by one, on cells that it asks for.
use Rattle.std.proofs.Common.{◌≡◌, ℕ, zero, suc, ◌+◌, ◌*◌, ◌^◌, ◌<◌, ◌≤◌, refl, sym, ◌∙◌, ap, subst, arith, Option, Some, None, Ok, Err, true, List, [], ◌∷◌, length, map, get_or, set, take, drop, replicate, length-set}
use Rattle.std.proofs.lemmas.List.{set-get_or, map-set}
use Rattle.of_mem.specs.declared.part.Need.{Need}
use Rattle.of_mem.specs.declared.plot.Plot.{Plot}
use Rattle.of_mem.specs.declared.work.RawReply.{RawReply}
use Rattle.of_mem.specs.Part.{Part}
use Rattle.of_mem.specs.Plots.{base}
use Rattle.of_mem.specs.Programs.{Program, Done, then_do}
use Rattle.of_mem.specs.Calls.{HasStore}
use Rattle.of_mem.specs.OnDemand.{Running, Always, MayRun, RunsOn}
use Rattle.of_mem.proofs.OnDemand.{ComesTo, comes_first, comes_as, comes_past, comes_out, comes_may, may_first, always_second, runs_done, lacks_first}
use Rattle.of_script.specs.declared.instr.TheConstants.{MOST_INSTRS}
use Rattle.of_script.specs.declared.instr.Cause.{Cause}
use Rattle.of_script.specs.Reading.{instr_at}
use Rattle.of_script.proofs.Numbers.{both}
use Rattle.of_store.specs.Store.{Aborted}
use Rattle.of_store.proofs.Values.{none_left}
use Rattle.of_eval.specs.Calls.{script, run_word}
use Rattle.of_eval.specs.ScriptPrograms.{InstrResult, words_program}
use Rattle.of_eval.specs.Scripts.{is_success, instr_reads, words_read}
use Rattle.of_eval.specs.Stored.{cell_store, HasState}
use Rattle.of_eval.specs.Shapes.{mark_bit, mask_of, reply_cells}
use Rattle.of_eval.specs.Words.{reply_to}
use Rattle.of_eval.proofs.Noted.{number}
use Rattle.of_eval.proofs.Overlay.{answered_succeeds}
use Rattle.of_eval.proofs.Walks.{script_words, next_word, one_word, words_more, word_aborts, words_over, word_leaves}

-- each of the words only reads
pub word_reads_at : (op : List ℕ) (i : ℕ) → words_read op ≡ true → i < length op → instr_reads (instr_at (get_or op i 0)) ≡ true
word_reads_at [] i h l = absurd (omega (arith, l))
word_reads_at (w ∷ ws) zero h l = (both (instr_reads (instr_at w)) (words_read ws) h).0
word_reads_at (w ∷ ws) (suc i) h l = word_reads_at ws i (both (instr_reads (instr_at w)) (words_read ws) h).1 (omega (arith, l))

-- one mark more
pub marks_more : (vs : List (Option ℕ)) (i : ℕ) (v : Option ℕ) → i < length vs → get_or vs i None ≡ None → mask_of (set vs i v) ≡ mask_of vs + mark_bit v * 2 ^ i
marks_more [] i v l none = absurd (omega (arith, l))
marks_more (x ∷ vs) zero v l none = let here : mark_bit x ≡ 0 = ap mark_bit none in omega (arith, here)
marks_more (x ∷ vs) (suc i) v l none =
    let again : mask_of (set vs i v) ≡ mask_of vs + mark_bit v * 2 ^ i = marks_more vs i v (omega (arith, l)) none in
    rw again (grind arith)

-- The first i words have answered; the shape and the numbers are those of a reply with their
-- answers. The script goes on at the next word.
pub record HasAnswered (plot : Plot) (op : List ℕ) (i : ℕ) (b c : Running) (shape : ℕ) (values : List ℕ) : Type 0 where
  pub answers : List (Option ℕ)
  pub width : length answers ≡ MOST_INSTRS
  pub past : (k : ℕ) → i ≤ k → get_or answers k None ≡ None
  pub marks : shape ≡ mask_of answers + length op * 2 ^ 16
  pub numbers : values ≡ map number answers
  pub came : ComesTo (script plot op) (words_program (base plot) plot.blocks (length op) (take i answers) (drop i op)) b c

-- no word has run yet
pub none_answered : (plot : Plot) (op : List ℕ) (b : Running) → b.may_know b.part.known → length op ≤ MOST_INSTRS → HasAnswered plot op 0 b b (length op * 2 ^ 16) (replicate MOST_INSTRS 0)
none_answered plot op b knows few = record {
  answers = replicate MOST_INSTRS None;
  width = refl;
  past = λ k l. none_there MOST_INSTRS k;
  marks = omega arith;
  numbers = refl;
  came = comes_as (script plot op) (script plot op) (words_program (base plot) plot.blocks (length op) [] op) b b (script_words (base plot) plot.blocks op few) (comes_first (script plot op) b knows);
}
  where
    none_there : (n i : ℕ) → get_or {A = Option ℕ} (replicate n None) i None ≡ None
    none_there zero i = refl
    none_there (suc n) zero = refl
    none_there (suc n) (suc i) = none_there n i

module _ (plot : Plot) (op : List ℕ) (few : length op ≤ MOST_INSTRS) (b c : Running) (i shape : ℕ) (values : List ℕ) (l : i < length op) (a : HasAnswered plot op i b c shape values) where
  abbrev word : Program InstrResult
  word = run_word plot (get_or op i 0)

  abbrev next : InstrResult → Program RawReply
  next = next_word (base plot) plot.blocks (length op) op i a.answers

  at_word : ComesTo (script plot op) (then_do word next) b c
  at_word = comes_as (script plot op) (words_program (base plot) plot.blocks (length op) (take i a.answers) (drop i op)) (then_do word next) b c (one_word (base plot) plot.blocks (length op) op i l a.answers) a.came

  -- the next word may run
  pub may_word : (P Q : Part → Type 0) → MayRun (script plot op) P b → Always Q c → MayRun word Q c
  may_word P Q h always = may_first word next Q Q c (λ p k. k) (comes_may (script plot op) (then_do word next) P Q b c h at_word always)

  there : i < length a.answers
  there = omega (arith, l, few, a.width)

  module _ (d : Running) where
    past_word : (x : InstrResult) → RunsOn word c d (Ok x) → ComesTo (script plot op) (next x) b d
    past_word x r = comes_past (script plot op) word next b c d x at_word r

    one_more : (v : Option ℕ) → RunsOn word c d (Ok (Ok v)) → ComesTo (script plot op) (words_program (base plot) plot.blocks (length op) (take (i + 1) (set a.answers i v)) (drop (i + 1) op)) b d
    one_more v r = comes_as (script plot op) (next (Ok v)) (words_program (base plot) plot.blocks (length op) (take (i + 1) (set a.answers i v)) (drop (i + 1) op)) b d (words_more (base plot) plot.blocks (length op) op i a.answers v there) (past_word (Ok v) r)

    -- a word that answered a number
    pub number_answered : (n : ℕ) (bit : ℕ) → bit ≡ 2 ^ i → RunsOn word c d (Ok (Ok (Some n))) → HasAnswered plot op (i + 1) b d (shape + bit) (set values i n)
    number_answered n bit is r =
        let none : get_or a.answers i None ≡ None = a.past i (omega arith) in
        let more : mask_of (set a.answers i (Some n)) ≡ mask_of a.answers + 1 * 2 ^ i = marks_more a.answers i (Some n) there none in
        record {
          answers = set a.answers i (Some n);
          width = length-set a.answers i (Some n) ∙ a.width;
          past = none_left a.answers i (Some n) a.past;
          marks = omega (arith, a.marks, more, is);
          numbers = ap (λ (xs : List ℕ). set xs i n) a.numbers ∙ sym (map-set number a.answers i (Some n));
          came = one_more (Some n) r;
        }

    -- a word that answered none
    pub none_answered_at : RunsOn word c d (Ok (Ok None)) → HasAnswered plot op (i + 1) b d shape values
    none_answered_at r =
        let as_it_was : set a.answers i None ≡ a.answers = ap (λ (v : Option ℕ). set a.answers i v) (sym (a.past i (omega arith))) ∙ set-get_or a.answers i None in
        record {
          answers = a.answers;
          width = a.width;
          past = λ k m. a.past k (omega (arith, m));
          marks = a.marks;
          numbers = a.numbers;
          came = subst (λ (vs : List (Option ℕ)). ComesTo (script plot op) (words_program (base plot) plot.blocks (length op) (take (i + 1) vs) (drop (i + 1) op)) b d) as_it_was (one_more None r);
        }

    -- a word that aborted
    pub word_aborted : (cause : Cause) → RunsOn word c d (Ok (Err cause)) → RunsOn (script plot op) b d (Ok (reply_cells (reply_to (length op) (Aborted i cause))))
    word_aborted cause r =
        let reply = reply_cells (reply_to (length op) (Aborted i cause)) in
        comes_out (script plot op) (Done reply) b d d (Ok reply) (comes_as (script plot op) (next (Err cause)) (Done reply) b d (word_aborts (base plot) plot.blocks (length op) op i a.answers cause (omega (arith, there))) (past_word (Err cause) r)) (runs_done d reply r.goes.knows)

    -- a word that lacked a cell
    pub word_lacked : (need : Need) → RunsOn word c d (Err need) → RunsOn (script plot op) b d (Err need)
    word_lacked need r = comes_out (script plot op) (then_do word next) b c d (Err need) at_word (lacks_first word next c d need r)

    -- what it leaves stands for a store
    pub state_behind : (v : Option ℕ) → Always (λ p. HasState plot p) c → RunsOn word c d (Ok (Ok v)) → Always (λ p. HasState plot p) d
    state_behind v always r = always_second word (λ p. HasState plot p) (λ p. HasState plot p) c d (Ok v) (λ p q k e.
        let s = (word_leaves (base plot) plot.blocks plot.few_blocks (get_or op i 0) p q v (k.memory, (k.state, k.stored), k.part) e.walk).0 in
        record { fits = ap length e.known ∙ k.fits; memory = s.0; state = s.1.0; part = s.2; stored = s.1.1 }) always r

-- a state of scripts is a store of cells
pub state_store : (plot : Plot) (p : Part) → HasState plot p → HasStore plot p
state_store plot p h = record { fits = h.fits; memory = h.memory; store = cell_store h.state; part = h.part; stands = h.stored.stands }

-- all words have answered
module _ (plot : Plot) (op : List ℕ) (few : length op ≤ MOST_INSTRS) (b c : Running) (i shape : ℕ) (values : List ℕ) (end : i ≡ length op) (a : HasAnswered plot op i b c shape values) where
  abbrev reply : RawReply
  reply = record { shape = shape; values = values }

  zeroed : mask_of a.answers + length op * 2 ^ 16 + 0 ≡ shape
  zeroed = omega (arith, a.marks)

  is_reply : reply_cells (record { len = length op; values = a.answers; abort = None }) ≡ reply
  is_reply j = record { shape = zeroed j; values = sym a.numbers j }

  pub all_answered : RunsOn (script plot op) b c (Ok reply)
  all_answered = comes_out (script plot op) (Done reply) b c c (Ok reply) (comes_as (script plot op) (words_program (base plot) plot.blocks (length op) (take i a.answers) (drop i op)) (Done reply) b c
      (words_over (base plot) plot.blocks (length op) op i a.answers (sym end) (omega (arith, end)) a.width few a.past ∙ ap (λ (r : RawReply). Done r) is_reply) a.came) (runs_done c reply a.came.goes.knows)

  pub all_succeed : is_success reply ≡ true
  all_succeed = ap is_success (sym is_reply) ∙ answered_succeeds (length op) a.answers few a.width
