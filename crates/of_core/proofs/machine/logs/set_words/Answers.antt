use Rattle.std.proofs.Common.{◌∙◌, ℕ, List, [], ◌∷◌, ◌++◌, ap, sym, arith, get_or}
use Rattle.std.proofs.lemmas.List.{take_more, take_all}
use Rattle.of_core.proofs.machine.logs.set_words.Goals as goal

pub loop-i-preserved : goal.loop-i-preserved
loop-i-preserved c =
    let h = c.loop-i.invariant in
    record {
      words = c.push_reserved.ensures.items ∙ ap (λ (ws : List ℕ). ws ++ get_or c.args.words.now c.loop-i.i 0 ∷ []) h.words ∙ sym (take_more c.args.words.now c.loop-i.i 0 c.loop-i-test.true);
      fits = omega (arith, h.fits, c.push_reserved.ensures.capacity);
      room = c.push_reserved.ensures.capacity ∙ h.room;
    }

pub returns-clause-words : goal.returns-clause-words
returns-clause-words c = c.loop-i.invariant.words ∙ take_all c.loop-i.i c.args.words.now (omega (arith, c.loop-i-test.false))
