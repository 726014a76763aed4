-- Steps of one call, one after the other, on the words of a table.
use Rattle.std.specs.Prelude.{ℕ, zero, suc, ◌<◌, List}
use Rattle.of_core.specs.Table.{Setup}
use Rattle.of_core.specs.Machine.{CallState}
use Rattle.of_core.specs.Steps.{want, take_word, word_found, words_after}
use Rattle.of_core.specs.MachineValue.{Machine}
use Rattle.of_core.specs.Meets.{MayTake}
use Rattle.of_core.specs.Turn.{IsIdle}

-- a call, and the words of the table that it is made on
pub record CallOnTable : Type 0 where
  pub call : CallState
  pub words : List ℕ

-- the call and the words after the call's next step
abbrev pub after_own_step : Setup → CallOnTable → CallOnTable
after_own_step S x = record {
  call = take_word S x.call (word_found S x.words x.call);
  words = words_after (want S x.call) x.words;
}

-- the call and the words after n steps of the call
abbrev pub after_own_steps : Setup → ℕ → CallOnTable → CallOnTable
after_own_steps S zero x = x
after_own_steps S (suc n) x = after_own_step S (after_own_steps S n x)

-- after any number of its own steps, the call may take the word that its next step finds
abbrev pub MayGoOn : Setup → (List ℕ → Type 0) → CallOnTable → Type 0
MayGoOn S Lawful x =
    (k : ℕ) → let y = after_own_steps S k x in MayTake S Lawful y.call (word_found S y.words y.call)

-- the call is open before each of its first n steps
abbrev pub IsOpenBefore : Setup → ℕ → CallOnTable → Type 0
IsOpenBefore S n x = (k : ℕ) → k < n → IsIdle (after_own_steps S k x).call → ⊥

-- the call of a machine, on these words
abbrev pub call_on : {X : Type 0} → Machine X → List ℕ → CallOnTable
call_on m ws = record { call = m.call; words = ws }
