use Rattle.of_play.proofs.Joined.{four_written}
use Rattle.of_play.proofs.trace_parts.put_lost.Goals as goal

pub returns : goal.returns
returns c = four_written c.put_pair-2.result _ _ _ _ _ _ _ _ _ c.in_ok-push_str.ensures.bytes c.in_ok-put_pair.ensures c.in_ok-push_str-2.ensures.bytes c.put_pair-2.ensures
