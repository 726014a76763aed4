use Rattle.std.proofs.Common.{◌≡◌, ◌<◌, ℕ, length, take, arith, ap, refl}
use Rattle.std.proofs.lemmas.List.{length-take-le}
use Rattle.of_mem.specs.declared.work.TheConstants.{MOST_INSTRS}
use Rattle.of_mem.proofs.Filled.{filled_more}
use Rattle.of_mem.proofs.suspended_run.SuspendedRun.advance.Goals as goal

pub returns : goal.returns
returns c =
    let n : ℕ = c.self.inside.done in
    let words : take c.self.inside.count c.self.inside.words ≡ c.args.self.now.words = ap (λ k. k.words) c.self.view_is in
    let done : n ≡ c.args.self.now.done = ap (λ k. k.done) c.self.view_is in
    let more : n < MOST_INSTRS = omega (arith, done, ap length words, c.requires.more, length-take-le c.self.inside.count c.self.inside.words (omega (arith, c.self.told, c.self.invariant.1)), c.self.invariant.1) in
    rw (← c.self.view_is, c.copy_script.ensures.entries, c.copy_script.ensures.room, filled_more MOST_INSTRS n c.self.inside.values c.args.value more (omega (arith, more, c.self.invariant.3))) refl
