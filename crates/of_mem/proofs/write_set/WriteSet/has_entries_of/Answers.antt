use Rattle.std.proofs.Common.{refl, arith}
use Rattle.std.proofs.lemmas.List.{ext_get_or}
use Rattle.of_mem.proofs.write_set.WriteSet.has_entries_of.Goals as goal

pub returns : goal.returns
returns c = (
  λ _. ext_get_or (0, 0) c.args.self.now.entries c.args.other.now.entries (omega (arith, c.len.ensures.value, c.len-2.ensures.value, c.if-len.false)) (λ k l. c.loop-place.invariant.same k (omega (arith, l, c.len-place-end.ensures.value, c.loop-place-test.false))),
  λ _. refl,
)
