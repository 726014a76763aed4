use Rattle.std.proofs.Common.{sym, ◌∙◌, arith}
use Rattle.of_recover.proofs.Partly.{nothing_open, left_open, closed}
use Rattle.of_recover.proofs.recovery.recover_partly.Goals as goal

pub returns-else-is_open : goal.returns-else-is_open
returns-else-is_open c = nothing_open _ _ c.args.durable.now c.args.most (sym c.is_open.ensures ∙ c.if-is_open.false)

pub returns-then-left-gt0 : goal.returns-then-left-gt0
returns-then-left-gt0 c =
    rw (c.request.ensures.value, c.pack.ensures, c.payload_of-owner.ensures, c.seq_of-seq.ensures, c.cur.ensures.value)
    (closed _ _ c.args.durable.now c.args.most c.replay_log-left.new.durable (sym c.is_open.ensures ∙ c.if-is_open.true) (omega (arith, c.replay_log-left.ensures.left)) c.replay_log-left.ensures.row)

pub returns-else-left-gt0 : goal.returns-else-left-gt0
returns-else-left-gt0 c =
    left_open _ _ c.args.durable.now c.args.most c.replay_log-left.new.durable (sym c.is_open.ensures ∙ c.if-is_open.true) (omega (arith, c.replay_log-left.ensures.left)) c.replay_log-left.ensures.row
