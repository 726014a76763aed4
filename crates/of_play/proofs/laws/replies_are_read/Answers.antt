use Rattle.of_play.proofs.TraceLaws.{reply_read}
use Rattle.of_play.proofs.laws.replies_are_read.Goals as goal

pub returns : goal.returns
returns c = reply_read
