use Rattle.std.proofs.Common.{ℕ, List, ap, arith, ◌∙◌}
use Rattle.of_recover.specs.Writes.{words_after_writes}
use Rattle.of_recover.proofs.AnewPartly.{next_anew, at_most}
use Rattle.of_recover.proofs.renumbering.renumber_partly.Goals as goal

pub loop-made-preserved : goal.loop-made-preserved
loop-made-preserved c = next_anew _ _ c.args.durable.now c.loop-made.made c.loop-made.durable c.renumbered_word.result (omega arith) c.loop-made.invariant c.renumbered_word.ensures

pub returns : goal.returns
returns c = c.loop-made.invariant ∙ ap (λ (x : List (ℕ × ℕ)). words_after_writes x c.args.durable.now) (at_most _ _ c.args.durable.now c.args.most c.loop-made.made (omega arith))
