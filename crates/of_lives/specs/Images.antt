-- Which plans can go on from an image, and which replies the callers' own cells in an image hold.
use Rattle.std.specs.Prelude.{◌≡◌, ℕ, ◌≤◌}
use Rattle.of_script.specs.declared.instr.Reply.{Reply}
use Rattle.of_script.specs.declared.instr.TheConstants.{MOST_INSTRS}
use Rattle.of_eval.specs.Shapes.{IsHeldBy}
use Rattle.of_eval.specs.Lawful.{reply_in}
use Rattle.of_plan.specs.Plan.{Plan}
use Rattle.of_report.specs.Image.{Image, image_number, start_of_image}
use Rattle.of_caller.specs.PlanRows.{HasScripts}

-- the plan can go on from the image: it has the image's numbers of callers and blocks, its limit
-- isn't below the image's sequence, and each caller has at least the scripts that the image counts
-- as done
pub record PlanFitsImage (i : Image) (p : Plan) : Type 0 where
  pub callers : p.callers ≡ i.row.callers
  pub blocks : p.blocks ≡ i.row.blocks
  pub limit : i.seq ≤ p.limit
  pub scripts : HasScripts p (start_of_image i)

-- the caller's own cells in the image hold this reply
abbrev pub CallerHoldsReply : Image → (caller : ℕ) → Reply → Type 0
CallerHoldsReply i c r = IsHeldBy (reply_in MOST_INSTRS (image_number i) c) r
