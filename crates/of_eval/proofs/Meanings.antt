-- What operations mean, by the outcome of their words.
use Rattle.std.proofs.Common.{◌≡◌, ℕ, ◌-◌, ◌<◌, ◌≤◌, Bool, true, false, cond, refl, sym, ◌∙◌, ap, subst, arith, Option, None, Ok, Err, List, [], ◌∷◌, ◌++◌, length, map, take, replicate}
use Rattle.std.specs.List.{AllByRecursion as Each}
use Rattle.std.proofs.lemmas.Bool.{lt-ltb, le-ltb}
use Rattle.std.proofs.lemmas.List.{take_all}
use Rattle.of_mem.specs.declared.work.RawReply.{RawReply}
use Rattle.of_mem.specs.Programs.{Program, program_answer, program_writes}
use Rattle.of_mem.specs.Meaning.{with_writes_in}
use Rattle.of_mem.specs.ProgramWork.{memory_of}
use Rattle.of_mem.proofs.Sounds.{memory-written}
use Rattle.of_script.specs.declared.instr.TheConstants.{MOST_INSTRS}
use Rattle.of_script.specs.declared.instr.Instr.{Instr}
use Rattle.of_script.specs.Language.{IsInstrInRange, instr_word}
use Rattle.of_script.proofs.WordLaws.{instr_at_again}
use Rattle.of_store.specs.Store.{Store, ScriptOutcome, outcome_of_script, run_result, then_outcome, instr_effect, Aborted}
use Rattle.of_eval.specs.declared.scripts.Scripts.{Scripts}
use Rattle.of_eval.specs.Shapes.{reply_cells, mask_of}
use Rattle.of_eval.specs.ShapeLaws.{code_some}
use Rattle.of_eval.specs.Stored.{IsStored}
use Rattle.of_eval.specs.Words.{effect_of, words_outcome, run_words, reply_to}
use Rattle.of_eval.specs.ScriptPrograms.{words_program}
use Rattle.of_eval.specs.Scripts.{store_at, scripts_data_cells, is_success}
use Rattle.of_eval.specs.ScriptRuns.{DoesOutcome, AnswerInRange, reply_behind, words_run, words_answer}
use Rattle.of_eval.specs.MaskLaws.{full_width, mask_all}
use Rattle.of_eval.specs.Means.{DoesOperation, MeansWords, WordsMeanScript}

script_outcome : (s : Store) (is : List Instr) → Each IsInstrInRange is → words_outcome s (map instr_word is) ≡ outcome_of_script s is
script_outcome s [] h = refl
script_outcome s (i ∷ is) h =
    ap (λ (o : Option Instr). then_outcome (effect_of s o) (λ t. words_outcome t (map instr_word is))) (instr_at_again i h.0)
    ∙ ap (then_outcome (instr_effect s i)) (λ j t. script_outcome t is h.1 j)

pub words_mean_script : WordsMeanScript
words_mean_script s script h = ap (run_result s) (script_outcome s script h.in_range)

abbrev pub is_done : ScriptOutcome → Bool
is_done (Ok e) = true
is_done (Err p) = false

-- a reply with values is a success, and an abort is none
pub outcome_success : (n : ℕ) (ws : List ℕ) (x : ScriptOutcome) → n ≤ MOST_INSTRS → length ws ≤ MOST_INSTRS → AnswerInRange ws x → is_success (reply_cells (reply_to n (reply_behind [] x))) ≡ is_done x
outcome_success n ws (Ok e) few l h =
    let vs = e.1 ++ replicate (MOST_INSTRS - length e.1) None in
    let small : mask_of vs < 65536 = mask_all vs (full_width e.1 (omega (arith, l, h.0))) in
    lt-ltb _ _ (omega (arith, small, few))
outcome_success n ws (Err p) few l h = let c = code_some p.1 in le-ltb _ _ (omega (arith, c.0))

module _ (w : Scripts) (xs op : List ℕ) (s : Store) (size : length xs ≡ scripts_data_cells w) (few : length op ≤ MOST_INSTRS) (h : IsStored (store_at w) w.blocks (memory_of xs) s) where
  abbrev program : Program RawReply
  program = words_program (store_at w) w.blocks (length op) [] op

  ran : DoesOutcome (store_at w) w.blocks (length op) program (memory_of xs) [] (words_outcome s op)
  ran = words_run (store_at w) w.blocks w.few_blocks (length op) op [] (memory_of xs) s h

  left : (x : ScriptOutcome) → AnswerInRange op x → DoesOutcome (store_at w) w.blocks (length op) program (memory_of xs) [] x
      → IsStored (store_at w) w.blocks (memory_of (cond (is_success (program_answer program (memory_of xs))) (with_writes_in xs (program_writes program (memory_of xs))) xs)) (run_result s x).0 × (program_answer program (memory_of xs) ≡ reply_cells (reply_to (length op) (run_result s x).1))
  left (Ok e) a r =
      let k : is_success (program_answer program (memory_of xs)) ≡ true = ap is_success r.reply ∙ outcome_success (length op) op (Ok e) few few a in
      (rw k (subst (λ (m : ℕ → ℕ). IsStored (store_at w) w.blocks m e.0) (sym (memory-written (store_at w) (scripts_data_cells w) program xs size r.inside)) r.leads), r.reply)
  left (Err p) a r =
      let k : is_success (program_answer program (memory_of xs)) ≡ false = ap is_success r.reply ∙ outcome_success (length op) op (Err p) few few a in
      (rw k h, r.reply ∙ ap (λ (q : ℕ). reply_cells (reply_to (length op) (Aborted q p.1))) (omega arith))

  does : DoesOperation w xs op s
  does =
      let all : take MOST_INSTRS op ≡ op = take_all MOST_INSTRS op few in
      let g = left (words_outcome s op) (words_answer op s h.state) ran in
      let both = subst (λ (ws : List ℕ). IsStored (store_at w) w.blocks (memory_of (cond (is_success (program_answer (words_program (store_at w) w.blocks (length ws) [] ws) (memory_of xs))) (with_writes_in xs (program_writes (words_program (store_at w) w.blocks (length ws) [] ws) (memory_of xs))) xs)) (run_words s op).0 × (program_answer (words_program (store_at w) w.blocks (length ws) [] ws) (memory_of xs) ≡ reply_cells (reply_to (length op) (run_words s op).1))) (sym all) g in
      record { cells = both.0; reply = both.1 }

pub means_words : (w : Scripts) → MeansWords w
means_words w xs op s size few h = does w xs op s size few h
