-- What a caller keeps of its calls, as calls of scripts.
use Rattle.std.specs.Prelude.{◌≡◌, ℕ, List, [], ◌∷◌, map}
use Rattle.std.specs.List.{All}
use Rattle.of_mem.specs.declared.work.RawReply.{RawReply}
use Rattle.of_script.specs.declared.instr.Instr.{Instr}
use Rattle.of_script.specs.declared.instr.Reply.{Reply as RustReply}
use Rattle.of_script.specs.Language.{IsScript, instr_word}
use Rattle.of_store.specs.Store.{Reply}
use Rattle.of_store.specs.Replies.{reply_value_of}
use Rattle.of_eval.specs.Shapes.{IsHeldBy}
use Rattle.of_core.specs.declared.place.Outcome.{Outcome}
use Rattle.of_core.specs.declared.place.Outcome.TheVariants.{Answered, Spent as Over, Lost as Gone}
use Rattle.of_core.specs.Machine.{IsOpen}
use Rattle.of_row.specs.Views.{EndedCall, KnownCaller}
use Rattle.of_memory.specs.History.{End, Replied, Spent, Lost, Made}

-- the words are those of a script
abbrev pub IsScriptOperation : List ℕ → Type 0
IsScriptOperation op = (script : List Instr) × IsScript script × (op ≡ map instr_word script)

-- P holds of the script that has these words, if there is one; there is never another
abbrev pub HoldsOfScript : List ℕ → (List Instr → Type 0) → Type 0
HoldsOfScript words P =
    (script : List Instr) → IsScript script → map instr_word script ≡ words → P script

-- the raw reply holds a reply of the code that stands for this reply
abbrev pub HoldsResponse : RawReply → Reply → Type 0
HoldsResponse raw response = (r : RustReply) × IsHeldBy raw r × (reply_value_of r ≡ response)

-- the outcome of a call and its end say the same: the call has this reply, this sequence, these
-- steps, and was announced or not; or it was spent; or it was lost
abbrev pub EndsAs : Outcome → End → Type 0
EndsAs (Answered s announced raw steps) (Replied r t n a) =
    HoldsResponse raw r × (s ≡ t) × (steps ≡ n) × (announced ≡ a)
EndsAs (Answered s announced raw steps) (Spent t) = ⊥
EndsAs (Answered s announced raw steps) (Lost t) = ⊥
EndsAs (Over s) (Replied r t n a) = ⊥
EndsAs (Over s) (Spent t) = s ≡ t
EndsAs (Over s) (Lost t) = ⊥
EndsAs (Gone s) (Replied r t n a) = ⊥
EndsAs (Gone s) (Spent t) = ⊥
EndsAs (Gone s) (Lost t) = s ≡ t

-- the ended call, as a caller keeps it, is this call of a script
pub record IsMade (e : EndedCall) (m : Made) : Type 0 where
  pub script : IsScript m.script
  pub words : e.op ≡ map instr_word m.script
  pub ended : EndsAs e.outcome m.ended

-- the ended calls, as a caller keeps them, are these calls of scripts, in order
abbrev pub AreMade : List EndedCall → List Made → Type 0
AreMade [] [] = Unit {0}
AreMade [] (m ∷ ms) = ⊥
AreMade (e ∷ es) [] = ⊥
AreMade (e ∷ es) (m ∷ ms) = IsMade e m × AreMade es ms

-- each of these ended calls is a call of a script
abbrev pub AreOfScripts : List EndedCall → Type 0
AreOfScripts es = All (λ (e : EndedCall). IsScriptOperation e.op) es

-- each ended call of the kept caller is a call of a script, and so is its open call
pub record RunsScripts (x : KnownCaller) : Type 0 where
  pub ended : AreOfScripts x.ended
  pub open_call : IsOpen x.machine.place → IsScriptOperation x.machine.op
