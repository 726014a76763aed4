-- The words of an operation do to cells that stand for a store what they do to the store. These
-- lemmas are in specs/, not in proofs/, since `impl Work for Scripts` cites laws that are proved
-- with them.
use Rattle.std.proofs.Common.{◌≡◌, ℕ, suc, ◌+◌, ◌<◌, ◌≤◌, refl, sym, ◌∙◌, ap, subst, arith, Option, Some, None, Ok, Err, List, [], ◌∷◌, ◌++◌, length, length-append}
use Rattle.std.specs.List.{AllByRecursion as Each}
use Rattle.std.proofs.lemmas.List.{append_assoc, append-nil}
use Rattle.of_mem.specs.declared.plot.TheConstants.{MOST_BLOCKS}
use Rattle.of_mem.specs.declared.work.RawReply.{RawReply}
use Rattle.of_mem.specs.Places.{cells_at}
use Rattle.of_mem.specs.Programs.{Program, program_answer, memory_after, StaysBetween, then_do}
use Rattle.of_mem.proofs.Runs.{answer_then, after_then, inside_then}
use Rattle.of_script.specs.declared.instr.Instr.{Instr}
use Rattle.of_script.specs.Reading.{instr_at}
use Rattle.of_script.proofs.WordLaws.{instr_at_takes}
use Rattle.of_store.specs.Store.{Store, IsState, InstrEffect, ScriptOutcome, with_answer_first, then_outcome, Reply, Answered, Aborted}
use Rattle.of_store.specs.Replies.{IsSmall}
use Rattle.of_store.proofs.Keeps.{Leaves, effect_leaves}
use Rattle.of_store.proofs.Values.{value_of, effect_small}
use Rattle.of_eval.specs.Shapes.{reply_cells}
use Rattle.of_eval.specs.Stored.{IsStored}
use Rattle.of_eval.specs.Words.{effect_of, word_effect, words_outcome, reply_to}
use Rattle.of_eval.specs.ScriptPrograms.{InstrResult, word_program, program_of, go_on, words_program}
use Rattle.of_eval.specs.Instructions.{GivesEffect, HasEffect, instr_acts}

-- the reply to a whole script, from the answers `done` of its first words and the outcome of the
-- others
abbrev pub reply_behind : List (Option ℕ) → ScriptOutcome → Reply
reply_behind done (Ok e) = Answered (done ++ e.1)
reply_behind done (Err p) = Aborted (length done + p.0) p.1

-- the memory n stands for the store of the outcome; after an abort, n may be anything
abbrev pub LeadsToOutcome : ℕ → ℕ → ScriptOutcome → (ℕ → ℕ) → Type 0
LeadsToOutcome o blocks (Ok e) n = IsStored o blocks n e.0
LeadsToOutcome o blocks (Err p) n = Unit {0}

-- After the answers `done`, the program f has the outcome x on the memory m: it uses only cells of
-- the store, it gives the reply of x, and its memory stands for the store of x.
pub record DoesOutcome (o blocks n : ℕ) (f : Program RawReply) (m : ℕ → ℕ) (done : List (Option ℕ))
    (x : ScriptOutcome) : Type 0 where
  pub inside : StaysBetween o (cells_at o blocks) f m
  pub reply : program_answer f m ≡ reply_cells (reply_to n (reply_behind done x))
  pub leads : LeadsToOutcome o blocks x (memory_after f m)

behind_more : (done : List (Option ℕ)) (v : Option ℕ) (x : ScriptOutcome)
    → reply_behind (done ++ v ∷ []) x ≡ reply_behind done (with_answer_first v x)
behind_more done v (Ok e) = ap Answered (append_assoc done (v ∷ []) e.1)
behind_more done v (Err p) =
    ap (λ (k : ℕ). Aborted k p.1) (omega (arith, length-append done (v ∷ [])))

leads_more : (o blocks : ℕ) (v : Option ℕ) (x : ScriptOutcome) (m : ℕ → ℕ)
    → LeadsToOutcome o blocks x m → LeadsToOutcome o blocks (with_answer_first v x) m
leads_more o blocks v (Ok e) m h = h
leads_more o blocks v (Err p) m h = tt

runs_more : (o blocks n : ℕ) (f : Program RawReply) (m : ℕ → ℕ) (done : List (Option ℕ))
    (v : Option ℕ) (x : ScriptOutcome) → DoesOutcome o blocks n f m (done ++ v ∷ []) x
    → DoesOutcome o blocks n f m done (with_answer_first v x)
runs_more o blocks n f m done v x h = record {
  inside = h.inside;
  reply = h.reply ∙ ap (λ (r : Reply). reply_cells (reply_to n r)) (behind_more done v x);
  leads = leads_more o blocks v x (memory_after f m) h.leads;
}

runs_then : (o blocks n : ℕ) (f : Program InstrResult) (g : InstrResult → Program RawReply)
    (m : ℕ → ℕ) (done : List (Option ℕ)) (x : ScriptOutcome)
    → StaysBetween o (cells_at o blocks) f m
    → DoesOutcome o blocks n (g (program_answer f m)) (memory_after f m) done x
    → DoesOutcome o blocks n (then_do f g) m done x
runs_then o blocks n f g m done x i h = record {
  inside = inside_then o (cells_at o blocks) f g m i h.inside;
  reply = answer_then f g m ∙ h.reply;
  leads = subst (LeadsToOutcome o blocks x) (sym (after_then f g m)) h.leads;
}

-- words have their outcome if the first word has its effect and the words after it have their
-- outcome
first_word_does : (o blocks n : ℕ) (further : Option ℕ → Program RawReply)
    (others : Store → ScriptOutcome) (done : List (Option ℕ)) (m : ℕ → ℕ) (r : InstrResult)
    (e : InstrEffect) → GivesEffect o blocks e r m → Leaves e
    → ((t : Store) (v : Option ℕ) → IsStored o blocks m t
    → DoesOutcome o blocks n (further v) m (done ++ v ∷ []) (others t))
    → DoesOutcome o blocks n (go_on n done further r) m done (then_outcome e others)
first_word_does o blocks n further others done m r (Ok x) k l again =
    subst
    (λ (y : InstrResult).
    DoesOutcome o blocks n (go_on n done further y) m done (with_answer_first x.1 (others x.0)))
    (sym k.0)
    (runs_more o blocks n (further x.1) m done x.1 (others x.0)
    (again x.0 x.1 (record { state = l; stands = k.1 })))
first_word_does o blocks n further others done m r (Err cause) k l again =
    subst
    (λ (y : InstrResult). DoesOutcome o blocks n (go_on n done further y) m done (Err (0, cause)))
    (sym k)
    (record {
      inside = tt;
      reply = ap (λ (p : ℕ). reply_cells (reply_to n (Aborted p cause))) (omega arith);
      leads = tt;
    })

pub instr_leaves : (s : Store) (w : ℕ) (i : Option Instr) → instr_at w ≡ i → IsState s
    → Leaves (effect_of s i)
instr_leaves s w None e h = tt
instr_leaves s w (Some i) e h = effect_leaves s i h (instr_at_takes w i e).range

module _ (o blocks : ℕ) (few : blocks ≤ MOST_BLOCKS) where
  pub word_acts : (m : ℕ → ℕ) (s : Store) → IsStored o blocks m s → (w : ℕ) (i : Option Instr)
      → instr_at w ≡ i → HasEffect o blocks m (program_of o blocks i) (effect_of s i)
  word_acts m s h w None e = (tt, refl)
  word_acts m s h w (Some i) e = instr_acts o blocks few m s h i (instr_at_takes w i e).range

  pub words_run : (n : ℕ) (ws : List ℕ) (done : List (Option ℕ)) (m : ℕ → ℕ) (s : Store)
      → IsStored o blocks m s
      → DoesOutcome o blocks n (words_program o blocks n done ws) m done (words_outcome s ws)
  words_run n [] done m s h = record {
    inside = tt;
    reply =
        ap (λ (vs : List (Option ℕ)). reply_cells (reply_to n (Answered vs)))
        (sym (append-nil done));
    leads = h;
  }
  words_run n (w ∷ ws) done m s h =
      let a = word_acts m s h w (instr_at w) refl in
      let l = instr_leaves s w (instr_at w) refl h.state in
      runs_then o blocks n (word_program o blocks w)
      (go_on n done (λ v. words_program o blocks n (done ++ v ∷ []) ws)) m done
      (then_outcome (word_effect s w) (λ t. words_outcome t ws)) a.0
      (first_word_does o blocks n (λ v. words_program o blocks n (done ++ v ∷ []) ws)
      (λ t. words_outcome t ws) done (memory_after (word_program o blocks w) m)
      (program_answer (word_program o blocks w) m) (word_effect s w) a.1 l
      (λ t v k. words_run n ws (done ++ v ∷ []) (memory_after (word_program o blocks w) m) t k))

-- The outcome fits these words. If it is Ok, it has one answer for each word, and each answer is
-- None or a number in range. If it is an abort, it names the index of one of the words.
abbrev pub AnswerInRange : List ℕ → ScriptOutcome → Type 0
AnswerInRange ws (Ok e) = (length e.1 ≡ length ws) × Each IsSmall e.1
AnswerInRange ws (Err p) = p.0 < length ws

answers_more : (w : ℕ) (ws : List ℕ) (v : Option ℕ) (x : ScriptOutcome) → IsSmall v
    → AnswerInRange ws x → AnswerInRange (w ∷ ws) (with_answer_first v x)
answers_more w ws v (Ok e) k h = (ap suc h.0, (k, h.1))
answers_more w ws v (Err p) k h = omega (arith, h)

first_answers : (w : ℕ) (ws : List ℕ) (e : InstrEffect) (others : Store → ScriptOutcome) → Leaves e
    → IsSmall (value_of e) → ((t : Store) → IsState t → AnswerInRange ws (others t))
    → AnswerInRange (w ∷ ws) (then_outcome e others)
first_answers w ws (Ok x) others l k again = answers_more w ws x.1 (others x.0) k (again x.0 l)
first_answers w ws (Err cause) others l k again = omega arith

pub instr_small : (s : Store) (w : ℕ) (i : Option Instr) → instr_at w ≡ i → IsState s
    → IsSmall (value_of (effect_of s i))
instr_small s w None e h = tt
instr_small s w (Some i) e h = effect_small s i h (instr_at_takes w i e).range

pub words_answer : (ws : List ℕ) (s : Store) → IsState s → AnswerInRange ws (words_outcome s ws)
words_answer [] s h = (refl, tt)
words_answer (w ∷ ws) s h =
    first_answers w ws (word_effect s w) (λ t. words_outcome t ws)
    (instr_leaves s w (instr_at w) refl h) (instr_small s w (instr_at w) refl h)
    (λ t k. words_answer ws t k)
