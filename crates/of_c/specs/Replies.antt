-- How a reply is shown to C, and how a call's answer is: the reply with its sequence, its steps,
-- and whether the call was announced.
use Rattle.std.specs.Prelude.{◌≡◌, ℕ, ◌<◌, Bool, true, false, List, Option, Some, None, slice_index_or}
use Rattle.of_script.specs.declared.instr.TheConstants.{MOST_INSTRS}
use Rattle.of_script.specs.declared.instr.Reply.{Reply}
use Rattle.of_script.specs.declared.instr.Abort.{Abort}
use Rattle.of_script.specs.declared.instr.Cause.{Cause}
use Rattle.of_script.specs.declared.instr.Cause.TheVariants.{Overflow, Short, NoRoom, Differs, BadOp}
use Rattle.of_plan.specs.declared.answer.Answer.{Answer}
use Rattle.of_c.specs.declared.reply.CReply.{CReply}

-- 1 if there is a number, 0 if there is none
abbrev pub given_flag : Option ℕ → ℕ
given_flag None = 0
given_flag (Some value) = 1

-- the number, or 0 if there is none
abbrev pub given_number : Option ℕ → ℕ
given_number None = 0
given_number (Some value) = value

-- the number by which C knows this cause
abbrev pub cause_number : Cause → ℕ
cause_number Overflow = 1
cause_number Short = 2
cause_number NoRoom = 3
cause_number Differs = 4
cause_number BadOp = 5

-- 1 for true, 0 for false
abbrev pub flag_number : Bool → ℕ
flag_number true = 1
flag_number false = 0

-- these numbers are the place and the cause of the abort; the cause is 0 if there is no abort
abbrev pub ShowsAbort : Option Abort → (place cause : ℕ) → Type 0
ShowsAbort None place cause = cause ≡ 0
ShowsAbort (Some a) place cause = (place ≡ a.place) × (cause ≡ cause_number a.cause)

-- the number shown at each place is what `give` makes of the value at that place
abbrev pub ShowsEach : (Option ℕ → ℕ) → (values : List (Option ℕ)) → (shown : List ℕ) → Type 0
ShowsEach give values shown =
    (i : ℕ) (d : Option ℕ) (e : ℕ) → i < MOST_INSTRS
    → slice_index_or shown i e ≡ give (slice_index_or values i d)

-- the reply for C shows what a script answered
pub record ShowsReply (reply : Reply) (r : CReply) : Type 0 where
  pub len : r.len ≡ reply.len
  pub given : ShowsEach given_flag reply.values r.given
  pub values : ShowsEach given_number reply.values r.values
  pub abort : ShowsAbort reply.abort r.place r.cause

-- in the reply for C, the sequence, the steps and the flag `announced` are as they were
pub record LeavesSeqAndSteps (before now : CReply) : Type 0 where
  pub seq : now.seq ≡ before.seq
  pub announced : now.announced ≡ before.announced
  pub steps : now.steps ≡ before.steps

-- the reply for C shows the answer of a call
pub record ShowsAnswer (a : Answer) (r : CReply) : Type 0 where
  pub reply : ShowsReply a.reply r
  pub seq : r.seq ≡ a.seq
  pub announced : r.announced ≡ flag_number a.announced
  pub ticket : r.ticket ≡ 0
  pub steps : r.steps ≡ a.steps
