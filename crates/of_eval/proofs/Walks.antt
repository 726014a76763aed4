-- The walk of an operation's words, one by one.
use Rattle.std.proofs.Common.{◌≡◌, ℕ, ◌+◌, ◌-◌, ◌<◌, ◌≤◌, refl, sym, ◌∙◌, ap, subst, arith, Option, None, Ok, Err, List, [], ◌∷◌, ◌++◌, length, get_or, set, take, drop, replicate, length-drop, take-append-drop, drop_of_length-le}
use Rattle.std.proofs.lemmas.List.{drop_more, take_more_set, take_all, get_or-drop, length-take-le}
use Rattle.of_mem.specs.declared.work.RawReply.{RawReply}
use Rattle.of_mem.specs.Part.{Part}
use Rattle.of_mem.specs.Places.{cells_at}
use Rattle.of_mem.specs.declared.plot.TheConstants.{MOST_BLOCKS}
use Rattle.of_mem.specs.Programs.{Program, Done, Lacks, Ends, then_do, run_program, program_answer, memory_after}
use Rattle.of_mem.proofs.Runs.{Ended, run_ended, run_then_gives, run_then_needs}
use Rattle.of_script.specs.declared.instr.TheConstants.{MOST_INSTRS}
use Rattle.of_script.specs.declared.instr.Cause.{Cause}
use Rattle.of_script.specs.Reading.{instr_at}
use Rattle.of_store.specs.Store.{InstrEffect, Aborted}
use Rattle.of_store.specs.Replies.{IsSmall}
use Rattle.of_store.proofs.Keeps.{Leaves}
use Rattle.of_store.proofs.Values.{value_of}
use Rattle.of_eval.specs.Shapes.{reply_cells}
use Rattle.of_eval.specs.Resuming.{IsOfStore}
use Rattle.of_eval.specs.Words.{word_effect, reply_to}
use Rattle.of_eval.specs.ScriptPrograms.{InstrResult, word_program, go_on, words_program, script_program}
use Rattle.of_eval.specs.Instructions.{GivesEffect}
use Rattle.of_eval.specs.ScriptRuns.{word_acts, instr_leaves, instr_small}
use Rattle.of_eval.proofs.Unpacked.{nones}

module _ (o blocks : ℕ) where
  pub script_words : (op : List ℕ) → length op ≤ MOST_INSTRS → script_program o blocks op ≡ words_program o blocks (length op) [] op
  script_words op few = ap (λ (ws : List ℕ). words_program o blocks (length ws) [] ws) (take_all MOST_INSTRS op few)

  pub script_is : (op : List ℕ) (p : Part) → length op ≤ MOST_INSTRS → run_program (script_program o blocks op) p ≡ run_program (words_program o blocks (length op) [] op) p
  script_is op p few = ap (λ (f : Program RawReply). run_program f p) (script_words op few)

  -- what becomes of the answer of word i
  abbrev pub next_word : ℕ → List ℕ → ℕ → List (Option ℕ) → InstrResult → Program RawReply
  next_word n op i vs = go_on n (take i vs) (λ v. words_program o blocks n (take i vs ++ v ∷ []) (drop (i + 1) op))

  pub one_word : (n : ℕ) (op : List ℕ) (i : ℕ) → i < length op → (vs : List (Option ℕ)) → words_program o blocks n (take i vs) (drop i op) ≡ then_do (word_program o blocks (get_or op i 0)) (next_word n op i vs)
  one_word n op i l vs = ap (λ (ws : List ℕ). words_program o blocks n (take i vs) ws) (drop_more op i 0 l)

  pub words_more : (n : ℕ) (op : List ℕ) (i : ℕ) (vs : List (Option ℕ)) (v : Option ℕ) → i < length vs → next_word n op i vs (Ok v) ≡ words_program o blocks n (take (i + 1) (set vs i v)) (drop (i + 1) op)
  words_more n op i vs v k = ap (λ (d : List (Option ℕ)). words_program o blocks n d (drop (i + 1) op)) (sym (take_more_set vs i v k))

  pub word_aborts : (n : ℕ) (op : List ℕ) (i : ℕ) (vs : List (Option ℕ)) (cause : Cause) → i ≤ length vs → next_word n op i vs (Err cause) ≡ Done (reply_cells (reply_to n (Aborted i cause)))
  word_aborts n op i vs cause k = ap (λ (x : ℕ). Done (reply_cells (reply_to n (Aborted x cause)))) (length-take-le i vs k)

  module _ (n : ℕ) (op : List ℕ) (i : ℕ) (l : i < length op) (vs : List (Option ℕ)) (p q : Part) where
    opened : run_program (words_program o blocks n (take i vs) (drop i op)) p ≡ run_program (then_do (word_program o blocks (get_or op i 0)) (next_word n op i vs)) p
    opened = ap (λ (f : Program RawReply). run_program f p) (one_word n op i l vs)

    pub ran_more : (v : Option ℕ) → i < length vs → run_program (word_program o blocks (get_or op i 0)) p ≡ Ends (Ok v) q → run_program (words_program o blocks n (take i vs) (drop i op)) p ≡ run_program (words_program o blocks n (take (i + 1) (set vs i v)) (drop (i + 1) op)) q
    ran_more v k e = opened ∙ run_then_gives (word_program o blocks (get_or op i 0)) (next_word n op i vs) p q (Ok v) e ∙ ap (λ (f : Program RawReply). run_program f q) (words_more n op i vs v k)

    pub ran_aborts : (cause : Cause) → i ≤ length vs → run_program (word_program o blocks (get_or op i 0)) p ≡ Ends (Err cause) q → run_program (words_program o blocks n (take i vs) (drop i op)) p ≡ Ends (reply_cells (reply_to n (Aborted i cause))) q
    ran_aborts cause k e = opened ∙ run_then_gives (word_program o blocks (get_or op i 0)) (next_word n op i vs) p q (Err cause) e ∙ ap (λ (f : Program RawReply). run_program f q) (word_aborts n op i vs cause k)

    pub ran_lacks : (a : ℕ) → run_program (word_program o blocks (get_or op i 0)) p ≡ Lacks a → run_program (words_program o blocks n (take i vs) (drop i op)) p ≡ Lacks a
    ran_lacks a e = opened ∙ run_then_needs (word_program o blocks (get_or op i 0)) (next_word n op i vs) p a e

module _ (o blocks : ℕ) (few : blocks ≤ MOST_BLOCKS) (w : ℕ) (p q : Part) (v : Option ℕ) where
  by_effect : (m : ℕ → ℕ) (e : InstrEffect) → GivesEffect o blocks e (program_answer (word_program o blocks w) m) (memory_after (word_program o blocks w) m) → Leaves e → IsSmall (value_of e) → Ended (word_program o blocks w) p m (Ok v) q → IsOfStore o blocks q × IsSmall v
  by_effect m (Ok x) g l k d =
      let same : v ≡ x.1 = (let both : ◌≡◌ {A = InstrResult} (Ok v) (Ok x.1) = d.answers ∙ g.0 in cc) in
      ((memory_after (word_program o blocks w) m, (x.0, record { state = l; stands = g.1 }), d.part), subst IsSmall (sym same) k)
  by_effect m (Err cause) g l k d = absurd (let both : ◌≡◌ {A = InstrResult} (Ok v) (Err cause) = d.answers ∙ g in cc)

  -- what a word leaves stands for a store, and its value is a number of one
  pub word_leaves : IsOfStore o blocks p → run_program (word_program o blocks w) p ≡ Ends (Ok v) q → IsOfStore o blocks q × IsSmall v
  word_leaves h e =
      let a = word_acts o blocks few h.0 h.1.0 h.1.1 w (instr_at w) refl in
      by_effect h.0 (word_effect h.1.0 w) a.1 (instr_leaves h.1.0 w (instr_at w) refl h.1.1.state) (instr_small h.1.0 w (instr_at w) refl h.1.1.state)
      (run_ended o (cells_at o blocks) (word_program o blocks w) p q h.0 (Ok v) h.2 a.0 e)

-- values with none from place n on are the first n values, filled up
filled : (vs : List (Option ℕ)) (n : ℕ) → length vs ≡ MOST_INSTRS → n ≤ MOST_INSTRS → ((k : ℕ) → n ≤ k → get_or vs k None ≡ None) → take n vs ++ replicate (MOST_INSTRS - length (take n vs)) None ≡ vs
filled vs n e l past =
    let rest : drop n vs ≡ replicate (length (drop n vs)) None = nones (drop n vs) (λ i. get_or-drop n vs i None ∙ past (n + i) (omega arith)) in
    let many : length (drop n vs) ≡ MOST_INSTRS - length (take n vs) = omega (arith, length-drop n vs, length-take-le n vs (omega (arith, e, l)), e) in
    ap (λ (k : ℕ). take n vs ++ replicate k None) (sym many) ∙ ap (λ (ws : List (Option ℕ)). take n vs ++ ws) (sym rest) ∙ take-append-drop n vs

-- all words answered
pub words_over : (o blocks n : ℕ) (op : List ℕ) (i : ℕ) (vs : List (Option ℕ)) → n ≡ i → length op ≤ i → length vs ≡ MOST_INSTRS → n ≤ MOST_INSTRS → ((k : ℕ) → i ≤ k → get_or vs k None ≡ None)
    → words_program o blocks n (take i vs) (drop i op) ≡ Done (reply_cells (record { len = n; values = vs; abort = None }))
words_over o blocks n op i vs is l w few past =
    let none : drop i op ≡ [] = drop_of_length-le op l in
    ap (λ (ws : List ℕ). words_program o blocks n (take i vs) ws) none ∙ ap (λ (xs : List (Option ℕ)). Done (reply_cells (record { len = n; values = xs; abort = None }))) (filled vs i w (omega (arith, is, few)) past)

pub ran_ends : (o blocks n : ℕ) (op : List ℕ) (i : ℕ) (vs : List (Option ℕ)) (p : Part) → n ≡ i → length op ≤ i → length vs ≡ MOST_INSTRS → n ≤ MOST_INSTRS → ((k : ℕ) → i ≤ k → get_or vs k None ≡ None)
    → run_program (words_program o blocks n (take i vs) (drop i op)) p ≡ Ends (reply_cells (record { len = n; values = vs; abort = None })) p
ran_ends o blocks n op i vs p is l w few past = ap (λ (f : Program RawReply). run_program f p) (words_over o blocks n op i vs is l w few past)
