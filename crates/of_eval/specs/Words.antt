-- What the words of an operation do to a store. The words of a script do what the script does, and
-- a word that is no instruction aborts the script.
use Rattle.std.specs.Prelude.{ℕ, ◌≤◌, ◌-◌, List, [], ◌∷◌, ◌++◌, length, replicate, Option, Some, None, Ok, Err}
use Rattle.of_script.specs.declared.instr.Instr.{Instr}
use Rattle.of_script.specs.declared.instr.Cause.TheVariants.{BadOp}
use Rattle.of_script.specs.declared.instr.Reply.{Reply as RustReply}
use Rattle.of_script.specs.declared.instr.TheConstants.{MOST_INSTRS}
use Rattle.of_script.specs.Reading.{instr_at}
use Rattle.of_store.specs.Store.{Store, InstrEffect, instr_effect, ScriptOutcome, then_outcome, run_result, Reply, Answered, Aborted}

-- an operation has 1 to MOST_INSTRS words
pub record IsOperation (op : List ℕ) : Type 0 where
  pub some : 1 ≤ length op
  pub few : length op ≤ MOST_INSTRS

abbrev pub effect_of : Store → Option Instr → InstrEffect
effect_of s None = Err BadOp
effect_of s (Some i) = instr_effect s i

abbrev pub word_effect : Store → ℕ → InstrEffect
word_effect s w = effect_of s (instr_at w)

-- the outcome of running the words in order
abbrev pub words_outcome : Store → List ℕ → ScriptOutcome
words_outcome s [] = Ok (s, [])
words_outcome s (w ∷ ws) = then_outcome (word_effect s w) (λ t. words_outcome t ws)

-- the store after an operation with these words, and the reply; after an abort the store is as
-- before
abbrev pub run_words : Store → List ℕ → Store × Reply
run_words s ws = run_result s (words_outcome s ws)

-- the reply to a script of n instructions, as a value of the Rust type
abbrev pub reply_to : ℕ → Reply → RustReply
reply_to n (Answered vs) = record {
  len = n;
  values = vs ++ replicate (MOST_INSTRS - length vs) None;
  abort = None;
}
reply_to n (Aborted place cause) = record {
  len = n;
  values = replicate MOST_INSTRS None;
  abort = Some (record { place = place; cause = cause });
}
