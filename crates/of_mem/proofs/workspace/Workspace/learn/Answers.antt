use Rattle.std.proofs.Common.{Some, sym, ◌∙◌}
use Rattle.std.proofs.lemmas.List.{length-set}
use Rattle.of_mem.proofs.Unread.{unknown_there}
use Rattle.of_mem.proofs.workspace.Workspace.learn.Goals as goal

pub invariant_of-self-else-meet : goal.invariant_of-self-else-meet
invariant_of-self-else-meet g c =
    let same = sym (length-set c.self.inside.part.known c.args.addr (Some c.args.value)) in
    rw c.if-meet.ensures.learnt (g.W.MaySuspend.learns _ _ _ _ (unknown_there _ (sym c.if-meet.ensures.before)) c.self.invariant.0, c.self.invariant.1 ∙ same)
