-- What the result of a call of a script says.
use Rattle.std.specs.Prelude.{◌≡◌, List, [], ◌∷◌, ◌++◌, Result, Ok, Err}
use Rattle.of_mem.specs.declared.work.RawReply.{RawReply}
use Rattle.of_script.specs.declared.instr.Instr.{Instr}
use Rattle.of_store.specs.Replies.{reply_value_of}
use Rattle.of_eval.specs.Shapes.{IsHeldBy}
use Rattle.of_plan.specs.declared.answer.Answer.{Answer}
use Rattle.of_cells.specs.declared.answer.RawAnswer.{RawAnswer}
use Rattle.of_cells.specs.declared.error.RunError.{RunError}
use Rattle.of_cells.specs.declared.error.RunError.TheVariants.{Stopped, Spent as NoneLeft, InCall, NoCall, NoTicket}
use Rattle.of_cells.specs.Called as generic
use Rattle.of_memory.specs.History.{Made, Replied, Spent}

-- an empty raw reply: shape 0, and no numbers
abbrev pub no_reply : RawReply
no_reply = record { shape = 0; values = [] }

-- the result of a script's call as the result of a call of cells, but without the reply: an answer
-- keeps its sequence, its steps and whether it was announced; an error stays as it is
abbrev pub without_reply : Result Answer RunError → Result RawAnswer RunError
without_reply (Ok a) =
    Ok (record { seq = a.seq; announced = a.announced; raw = no_reply; steps = a.steps })
without_reply (Err e) = Err e

-- the answer says the same as the raw answer, and has the reply that the raw answer holds
pub record TellsRaw (raw : RawAnswer) (a : Answer) : Type 0 where
  pub seq : a.seq ≡ raw.seq
  pub announced : a.announced ≡ raw.announced
  pub steps : a.steps ≡ raw.steps
  pub reply : IsHeldBy raw.raw a.reply

-- the result of a script's call says the same as the raw result: it is an answer that tells the raw
-- one, or the same error
abbrev pub IsTyped : Result RawAnswer RunError → Result Answer RunError → Type 0
IsTyped (Ok raw) (Ok a) = TellsRaw raw a
IsTyped (Ok raw) (Err e) = ⊥
IsTyped (Err e) (Ok a) = ⊥
IsTyped (Err e) (Err f) = e ≡ f

-- P holds of each result of a script's call that says the same as the raw result
abbrev pub HoldsOfTyped : Result RawAnswer RunError → (Result Answer RunError → Type 0) → Type 0
HoldsOfTyped raw P = (a : Result Answer RunError) → IsTyped raw a → P a

-- some result of a script's call says the same as the raw result: the raw reply of an answer holds
-- some reply of a script
abbrev pub HasTyped : Result RawAnswer RunError → Type 0
HasTyped raw = (a : Result Answer RunError) × IsTyped raw a

-- the ended call of this script with this answer
abbrev pub answered_call : List Instr → Answer → Made
answered_call script a =
    record { script = script; ended = Replied (reply_value_of a.reply) a.seq a.steps a.announced }

-- The list of a caller's ended calls after a call of this script has had this result. If the call
-- was answered or spent, it is added at the end; otherwise the list stays as it is.
abbrev pub made_with : List Instr → Result Answer RunError → List Made → List Made
made_with script (Ok a) ms = ms ++ answered_call script a ∷ []
made_with script (Err (Stopped asked)) ms = ms
made_with script (Err (NoneLeft seq)) ms = ms ++ record { script = script; ended = Spent seq } ∷ []
made_with script (Err InCall) ms = ms
made_with script (Err NoCall) ms = ms
made_with script (Err NoTicket) ms = ms

-- by this result the call has made a step: it was answered or spent, or it was stopped after its
-- brake was asked more than once
abbrev pub HasStarted : Result Answer RunError → Type 0
HasStarted result = generic.HasStarted (without_reply result)

-- if the call was refused (`InCall`, `NoCall` or `NoTicket`), nothing has changed
abbrev pub LeavesAsItWas : {A : Type 0} → Result Answer RunError → (before now : A) → Type 0
LeavesAsItWas result before now = generic.LeavesAsItWas (without_reply result) before now
