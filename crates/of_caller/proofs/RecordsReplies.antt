-- The raw reply of each answered call of a plan is that of some reply.
use Rattle.std.proofs.Common.{◌≡◌, ℕ, get_or, refl, Bool, true, false}
use Rattle.of_mem.specs.declared.work.RawReply.{RawReply}
use Rattle.of_script.specs.declared.instr.Reply.{Reply}
use Rattle.of_eval.specs.Shapes.{IsHeldBy}
use Rattle.of_plan.specs.Plan.{Plan}
use Rattle.of_plan.specs.Report.{Start}
use Rattle.of_core.specs.declared.place.Outcome.{Outcome}
use Rattle.of_core.specs.declared.place.Outcome.TheVariants.{Answered, Spent, Lost}
use Rattle.of_core.specs.TableMoment.{Moment, TableStart}
use Rattle.of_core.specs.Calls.{no_outcome}
use Rattle.of_caller.specs.Ends.{OutcomeHoldsReply}
use Rattle.of_caller.specs.Runs.{RepliesAreHeld}
use Rattle.of_caller.proofs.Stores.{IsHeldAt, outcome_held}

reply_at : (p : Plan) (s : Start) (B : TableStart) (w : Moment) (i t k : ℕ) (raw : RawReply) (announced : Bool) → IsHeldAt p s B w i t k raw announced → (r : Reply) × IsHeldBy raw r
reply_at p s B w i t k raw true h = (h.reply.0, h.reply.1)
reply_at p s B w i t k raw false h = (h.reply.0, h.reply.1)

pub replies_are_held : RepliesAreHeld
replies_are_held p s B w ops outs h c x lt among = go (get_or (outs c) x no_outcome) refl
  where
    go : (o : Outcome) → get_or (outs c) x no_outcome ≡ o → OutcomeHoldsReply o
    go (Spent k) is = tt
    go (Lost k) is = tt
    go (Answered k announced raw steps) is = reply_at p s B w c _ k raw announced (outcome_held p s B w ops outs h c x k steps raw lt among announced is)
