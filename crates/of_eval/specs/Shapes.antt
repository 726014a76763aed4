-- Replies as cells hold them: a shape, and a number for each answer.
use Rattle.std.specs.Prelude.{◌≡◌, ℕ, ◌+◌, ◌*◌, ◌^◌, ◌≤◌, List, [], ◌∷◌, length, map, slice_index, slice_index_or, Option, Some, None}
use Rattle.std.specs.Option.{unwrap_or}
use Rattle.of_script.specs.declared.instr.Reply.{Reply}
use Rattle.of_script.specs.declared.instr.Abort.{Abort}
use Rattle.of_script.specs.declared.instr.Cause.{Cause}
use Rattle.of_script.specs.declared.instr.Cause.TheVariants.{Overflow, Short, NoRoom, Differs, BadOp}
use Rattle.of_script.specs.declared.instr.TheConstants.{MOST_INSTRS}
use Rattle.of_store.specs.Replies.{IsReplyOfScript}
use Rattle.of_mem.specs.declared.work.RawReply.{RawReply}

-- the reply fits a script of 1 to MOST_INSTRS instructions
pub record IsWhole (r : Reply) : Type 0 where
  pub some : 1 ≤ r.len
  pub few : r.len ≤ MOST_INSTRS
  pub width : length r.values ≡ MOST_INSTRS
  pub fits : IsReplyOfScript r.len r

-- the mark of one answer: 1 if it is a number, 0 if not
abbrev pub mark_bit : Option ℕ → ℕ
mark_bit None = 0
mark_bit (Some v) = 1

-- the marks of all answers as one number: bit j is 1 if answer j is a number
abbrev pub mask_of : List (Option ℕ) → ℕ
mask_of [] = 0
mask_of (v ∷ vs) = mark_bit v + 2 * mask_of vs

-- the code of an abort's cause in a shape; 0 there means that the script was not aborted
abbrev pub code_of : Cause → ℕ
code_of Overflow = 1
code_of Short = 2
code_of NoRoom = 3
code_of Differs = 4
code_of BadOp = 5

-- what an abort adds to the shape: the index of the instruction and the code of the cause
abbrev pub abort_part : Option Abort → ℕ
abort_part None = 0
abort_part (Some a) = a.place * 2 ^ 21 + code_of a.cause * 2 ^ 26

-- the shape of a reply: which answers are numbers, how many instructions there are, and the index
-- and the cause of an abort
abbrev pub shape_of : Reply → ℕ
shape_of r = mask_of r.values + r.len * 2 ^ 16 + abort_part r.abort

-- the reply as it is written into cells: its shape and its numbers, with 0 for an answer that is no
-- number
abbrev pub reply_cells : Reply → RawReply
reply_cells r = record { shape = shape_of r; values = map (λ v. unwrap_or v 0) r.values }

-- The cells `raw` hold the reply r. For an answer that is no number they may hold anything.
pub record IsLaidOut (raw : RawReply) (r : Reply) : Type 0 where
  pub shape : raw.shape ≡ shape_of r
  pub numbers : (i v : ℕ) → slice_index_or r.values i None ≡ Some v → slice_index raw.values i ≡ v

-- r is a whole reply, and the cells hold it
abbrev pub IsHeldBy : RawReply → Reply → Type 0
IsHeldBy raw r = IsWhole r × IsLaidOut raw r
