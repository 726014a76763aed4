use Rattle.of_play.proofs.Joined.{four_written}
use Rattle.of_play.proofs.trace_line.put_parts.Goals as goal

pub returns : goal.returns
returns c = four_written c.put_reply_part.result _ _ _ _ _ _ _ _ _ c.in_ok-put_help.ensures c.in_ok-put_did.ensures c.in_ok-put_left.ensures c.put_reply_part.ensures
