use Rattle.std.proofs.Common.{◌≡◌, ◌≤◌, ◌<◌, Option, Some, ◌≢◌, ℕ, ◌+◌, ◌*◌, ◌^◌, ◌%◌, length, take, get_or, refl, sym, ◌∙◌, ap, arith, length-set, None, is_some}
use Rattle.std.proofs.lemmas.List.{take_more, take_more_set, get_or-set_other}
use Rattle.of_eval.specs.Shapes.{mask_of, abort_part}
use Rattle.of_eval.proofs.Masks.{mask_taken, bit_small, with_number, with_none, mask_all}
use Rattle.of_eval.proofs.Noted.{number, noted_more, noted_all}
use Rattle.of_eval.proofs.reply.reply_cells.Goals as goal
use Rattle.of_eval.proofs.reply.reply_cells.Goals.{in-Some, in_default}

pub overflow_add-shape-in-Some : goal.overflow_add-shape-in-Some
overflow_add-shape-in-Some c =
    let below : c.loop-i.i < 16 = omega (arith, c.loop-i-test.true, c.requires.few) in
    omega (arith, c.loop-i.invariant.shape, mask_taken c.args.reply.now.values c.loop-i.i, bit_small c.loop-i.i below, c.abort_part.ensures.value, c.abort_part.ensures.small, c.requires.few)

missing : (o : Option ℕ) → ((x : ℕ) → o ≡ Some x → ⊥) → o ≡ None
missing None h = refl
missing (Some v) h = absurd (h v refl)

pub loop-i-preserved : goal.loop-i-preserved
loop-i-preserved c =
    let h = c.loop-i.invariant in
    let i : ℕ = c.loop-i.i in
    let below : i < 16 = omega (arith, c.loop-i-test.true, c.requires.few) in
    let there : i < length c.args.reply.now.values = omega (arith, below, c.requires.width) in
    let here : i < length c.loop-i.values = omega (arith, below, h.width) in
    elim c.match-reply-i.branch [
      | in-Some w ↦ record {
        shape = (let m : mask_of (take i c.args.reply.now.values) + 1 * 2 ^ i % 4294967296 ≡ mask_of (take (i + 1) c.args.reply.now.values) = with_number c.args.reply.now.values i there below (ap is_some w.in-Some.is) in omega (arith, m, w.shape-is, h.shape));
        numbers = rw w.values-is (noted_more c.loop-i.values _ c.args.reply.now.values i w.in-Some.value there (take_more_set c.loop-i.values i w.in-Some.value here) (sym (ap number w.in-Some.is)) h.numbers);
        width = rw w.values-is (length-set c.loop-i.values i w.in-Some.value ∙ h.width);
        rest = λ k l. rw w.values-is (let other : k ≢ i = omega (arith, l) in get_or-set_other c.loop-i.values i k w.in-Some.value 0 other ∙ h.rest k (omega (arith, l)));
      }
      | in_default w ↦ (
          let none : get_or c.args.reply.now.values i None ≡ None = missing _ w.in_default.not-Some in
          record {
            shape = (let m : mask_of (take i c.args.reply.now.values) ≡ mask_of (take (i + 1) c.args.reply.now.values) = with_none c.args.reply.now.values i there (ap is_some none) in omega (arith, m, w.shape-is, h.shape));
            numbers = rw w.values-is (noted_more c.loop-i.values c.loop-i.values c.args.reply.now.values i (get_or c.loop-i.values i 0) there (take_more c.loop-i.values i 0 here) (h.rest i (omega arith) ∙ sym (ap number none)) h.numbers);
            width = rw w.values-is h.width;
            rest = λ k l. rw w.values-is (h.rest k (omega (arith, l)));
          })
    ]

pub returns : goal.returns
returns c =
    let end : c.loop-i.i ≡ c.args.reply.now.len = omega (arith, c.loop-i.auto.i-end, c.loop-i-test.false) in
    let past : (k : ℕ) → c.loop-i.i ≤ k → get_or c.args.reply.now.values k None ≡ None = λ k l. c.requires.fits.past k (omega (arith, end, l)) in
    let shape = c.loop-i.invariant.shape ∙ ap (λ (m : ℕ). m + c.args.reply.now.len * 65536 + abort_part c.args.reply.now.abort) (mask_all c.args.reply.now.values c.loop-i.i past) in
    let numbers = noted_all c.loop-i.values c.args.reply.now.values c.loop-i.i (c.loop-i.invariant.width ∙ sym c.requires.width) c.loop-i.invariant.numbers c.loop-i.invariant.rest past in
    λ j. record { shape = shape j; values = numbers j }
