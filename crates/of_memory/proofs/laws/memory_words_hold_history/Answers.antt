use Rattle.std.proofs.Common.{ℕ, subst}
use Rattle.of_eval.specs.declared.scripts.Scripts.{Scripts}
use Rattle.of_memory.specs.Moments.{WordsHoldHistory}
use Rattle.of_memory.proofs.AnyMoment.{memory_holds}
use Rattle.of_memory.proofs.laws.memory_words_hold_history.Goals as goal

pub returns : goal.returns
returns c =
    let law = subst (λ (k : Scripts × ℕ). WordsHoldHistory k.0 k.1) (λ i. (c.scripts.ensures i, c.limit.ensures i)) c.words_hold_history.ensures in
    memory_holds c.args.memory.now c.requires law
