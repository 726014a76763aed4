-- The calls of one caller in a history, and what their replies say.
use Rattle.std.specs.Prelude.{ℕ, ◌+◌, ◌==◌, List, [], ◌∷◌, map, if◌then◌else◌}
use Rattle.of_script.specs.declared.instr.Instr.{Instr}
use Rattle.of_store.specs.Store.{Reply, Answered, Aborted}
use Rattle.of_memory.specs.History.{HistoryEntry, End, Replied, Spent, Lost, Made}

-- a script, and its reply
abbrev pub Call : Type 0
Call = List Instr × Reply

abbrev pub scripts_in : List Call → List (List Instr)
scripts_in cs = map (λ c. c.0) cs

-- the calls of caller n in the history, in the order of the history
abbrev pub calls_of : ℕ → List HistoryEntry → List Call
calls_of n [] = []
calls_of n (e ∷ h) = if e.caller == n then (e.script, e.reply) ∷ calls_of n h else calls_of n h

-- 1 if the transfer with this reply has moved its amount, and otherwise 0
abbrev pub was_made : Reply → ℕ
was_made (Answered values) = 1
was_made (Aborted place cause) = 0

abbrev pub made_in : List Call → ℕ
made_in [] = 0
made_in (c ∷ cs) = was_made c.1 + made_in cs

-- 1 if the transfer with this reply has changed nothing, and otherwise 0
abbrev pub was_aborted : Reply → ℕ
was_aborted (Answered values) = 0
was_aborted (Aborted place cause) = 1

abbrev pub aborted_in : List Call → ℕ
aborted_in [] = 0
aborted_in (c ∷ cs) = was_aborted c.1 + aborted_in cs

-- the list `cs` with a script and its reply in front, if the script was answered
abbrev pub with_end : List Instr → End → List Call → List Call
with_end script (Replied r seq steps announced) cs = (script, r) ∷ cs
with_end script (Spent seq) cs = cs
with_end script (Lost seq) cs = cs

abbrev pub replied_in : List Made → List Call
replied_in [] = []
replied_in (m ∷ ms) = with_end m.script m.ended (replied_in ms)

-- the call was answered or spent, and wasn't lost with its machine
abbrev pub IsNotLost : End → Type 0
IsNotLost (Replied r seq steps announced) = Unit {0}
IsNotLost (Spent seq) = Unit {0}
IsNotLost (Lost seq) = ⊥
