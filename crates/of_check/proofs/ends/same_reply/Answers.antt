use Rattle.of_check.proofs.Replies.{answered_same}
use Rattle.of_check.proofs.ends.same_reply.Goals as goal

pub returns-in-None-None : goal.returns-in-None-None
returns-in-None-None c =
    answered_same c.args.one.now c.args.other.now c.values.result.now c.values-in-None-None.result.now c.eq.result c.in-None-None.is-0 c.in-None-None.is-1 c.values.ensures c.values-in-None-None.ensures c.eq.ensures
