-- What entries and the lines of callers claim, and how claims are read from a text: entries from
-- its second line on, as long as lines can be read as entries, and then the lines of callers.
use Rattle.std.specs.Prelude.{◌≡◌, ℕ, ◌+◌, Bool, true, false, List, [], ◌∷◌, length, drop, if◌then◌else◌, codes, Option, Some, None}
use denote.Ref.{Bor}
use Rattle.std.specs.Str.{bytes_eq}
use Rattle.of_script.specs.Text.{text_words}
use Rattle.of_script.specs.Reading.{◌>>=◌, next_number}
use Rattle.of_plan.specs.Lines.{text_lines}
use Rattle.of_report.specs.declared.report.EndState.{EndState as TheState}
use Rattle.of_report.specs.declared.report.EndState.TheVariants.{Done, Stopped, Spent}
use Rattle.of_plan.specs.Report.{Entry, EndState, done, stopped, spent, Line}
use Rattle.of_check.specs.declared.claims.CallClaim.{CallClaim}
use Rattle.of_check.specs.declared.claims.EndClaim.{EndClaim}

-- what an entry claims: all that it says, except its reply
abbrev pub call_claim : Entry → CallClaim
call_claim e = record {
  seq = e.seq;
  caller = e.caller;
  index = e.index;
  announced = e.announced;
}

-- how a caller ended, as the code has it
abbrev pub code_end_state : EndState → TheState
code_end_state done = Done
code_end_state stopped = Stopped
code_end_state spent = Spent

-- what the line of a caller claims: all that it says, except the number of entries
abbrev pub end_claim : Line → EndClaim
end_claim l = record { state = code_end_state l.state; answered = l.answered; longest = l.longest }

-- ---- reading

-- the first word, and the others
abbrev pub first_and_other_words : List (List ℕ) → Option (List ℕ × List (List ℕ))
first_and_other_words [] = None
first_and_other_words (w ∷ ws) = Some (w, ws)

-- whether a call was announced, by the word `run` or `read`; None for any other word
abbrev pub kind_named : List ℕ → Option Bool
kind_named name =
    if bytes_eq name (codes "run") then Some true
    else if bytes_eq name (codes "read") then Some false
    else None

-- how a caller ended, by the word for it; None for any other word
abbrev pub state_named : List ℕ → Option TheState
state_named name =
    if bytes_eq name (codes "done") then Some Done
    else if bytes_eq name (codes "stopped") then Some Stopped
    else if bytes_eq name (codes "spent") then Some Spent
    else None

-- the claim of an entry in the words after `entry`: sequence, caller, index and kind
abbrev pub call_in : List (List ℕ) → Option CallClaim
call_in ws = do
  seq ← next_number 4294967295 ws
  caller ← next_number 4294967295 seq.1
  index ← next_number 4294967295 caller.1
  kind ← first_and_other_words index.1
  announced ← kind_named kind.0
  Some (record { seq = seq.0; caller = caller.0; index = index.0; announced = announced })

-- the claim of a caller in the words after `caller`: its number, its state, its answered calls, its
-- entries, and the steps of its longest call
abbrev pub end_in : List (List ℕ) → Option EndClaim
end_in ws = do
  caller ← first_and_other_words ws
  state ← first_and_other_words caller.1
  named ← state_named state.0
  answered ← next_number 4294967295 state.1
  entries ← first_and_other_words answered.1
  longest ← next_number 4294967295 entries.1
  Some (record { state = named; answered = answered.0; longest = longest.0 })

-- the claim in the words of a line, if the line is an entry
abbrev pub call_of_line : List (List ℕ) → Option CallClaim
call_of_line ws = do
  name ← first_and_other_words ws
  if bytes_eq name.0 (codes "entry") then call_in name.1 else None

-- the claim in the words of a line, if the line is a caller's
abbrev pub end_of_line : List (List ℕ) → Option EndClaim
end_of_line ws = do
  name ← first_and_other_words ws
  if bytes_eq name.0 (codes "caller") then end_in name.1 else None

-- the list `xs` with the result of reading one line in front; if the line could not be read, the
-- empty list
abbrev pub onto_read : {X : Type 0} → Option X → List X → List X
onto_read None xs = []
onto_read (Some x) xs = x ∷ xs

-- what is read of lines, up to the first that cannot be read
abbrev pub read_lines : {X : Type 0} → (List (List ℕ) → Option X) → List (List ℕ) → List X
read_lines read [] = []
read_lines read (l ∷ ls) = onto_read (read (text_words l)) (read_lines read ls)

-- the lines of the rest of a text; none if there is no rest
abbrev pub lines_of : Option (Bor (List ℕ)) → List (List ℕ)
lines_of None = []
lines_of (Some rest) = text_lines rest.now

-- the lines `ls` begin with lines of which `xs` were read; `rest` are the lines after these
pub record HasReadLines {X : Type 0} (read : List (List ℕ) → Option X) (ls : List (List ℕ))
    (xs : List X) (rest : List (List ℕ)) : Type 0 where
  pub found : xs ≡ read_lines read ls
  pub left : rest ≡ drop (length xs) ls

-- the claims of a text's entries, from its second line on
abbrev pub call_claims_of_text : List ℕ → List CallClaim
call_claims_of_text text = read_lines call_of_line (drop 1 (text_lines text))

-- the claims of a text's lines of callers, which come after its entries
abbrev pub end_claims_of_text : List ℕ → List EndClaim
end_claims_of_text text =
    read_lines end_of_line (drop (length (call_claims_of_text text) + 1) (text_lines text))
