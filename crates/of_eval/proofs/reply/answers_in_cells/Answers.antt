use Rattle.std.proofs.Common.{◌≡◌, ◌≤◌, ◌<◌, List, Option, Some, ◌≢◌, ℕ, ◌+◌, ◌*◌, ◌^◌, ◌%◌, length, take, get_or, set, sym, ◌∙◌, ap, arith, length-set, None, is_some}
use Rattle.std.proofs.lemmas.List.{take_more, take_more_set, get_or-set_other}
use Rattle.of_store.proofs.Values.{none_left}
use Rattle.of_eval.specs.Shapes.{mask_of}
use Rattle.of_eval.proofs.Masks.{mask_taken, bit_small, with_number, with_none, mask_all}
use Rattle.of_eval.proofs.Noted.{number, noted_more, noted_all}
use Rattle.of_eval.proofs.reply.answers_in_cells.Goals as goal
use Rattle.of_eval.proofs.reply.answers_in_cells.Goals.{in-Some, in_default}

pub overflow_add-out : goal.overflow_add-out
overflow_add-out c =
    let vs : List (Option ℕ) = set c.args.kept.now.values c.args.kept.now.done c.args.last in
    let below : c.loop-i.i < 16 = omega (arith, c.loop-i-test.true, c.done-len.ensures.value, c.requires.few) in
    omega (arith, c.loop-i.invariant.shape, mask_taken vs c.loop-i.i, bit_small c.loop-i.i below, c.requires.few)

pub loop-i-preserved : goal.loop-i-preserved
loop-i-preserved c =
    let h = c.loop-i.invariant in
    let i : ℕ = c.loop-i.i in
    let vs : List (Option ℕ) = set c.args.kept.now.values c.args.kept.now.done c.args.last in
    let wide : length vs ≡ 16 = length-set c.args.kept.now.values c.args.kept.now.done c.args.last ∙ c.requires.width in
    let below : i < 16 = omega (arith, c.loop-i-test.true, c.done-len.ensures.value, c.requires.few) in
    let there : i < length vs = omega (arith, below, wide) in
    let here : i < length c.loop-i.out.values = omega (arith, below, h.width) in
    elim c.match-answer_at.branch [
      | in-Some w ↦ (
          let at : get_or vs i None ≡ Some w.in-Some.value = sym c.answer_at.ensures ∙ w.in-Some.is in
          let m : mask_of (take i vs) + 1 * 2 ^ i % 4294967296 ≡ mask_of (take (i + 1) vs) = with_number vs i there below (ap is_some at) in
          rw w.out-is (record {
            shape = omega (arith, m, h.shape);
            numbers = noted_more c.loop-i.out.values _ vs i w.in-Some.value there (take_more_set c.loop-i.out.values i w.in-Some.value here) (sym (ap number at)) h.numbers;
            width = length-set c.loop-i.out.values i w.in-Some.value ∙ h.width;
            rest = λ k l. let other : k ≢ i = omega (arith, l) in get_or-set_other c.loop-i.out.values i k w.in-Some.value 0 other ∙ h.rest k (omega (arith, l));
          }))
      | in_default w ↦ (
          let none : get_or vs i None ≡ None = sym c.answer_at.ensures ∙ w.in_default.is in
          let m : mask_of (take i vs) ≡ mask_of (take (i + 1) vs) = with_none vs i there (ap is_some none) in
          rw w.out-is (record {
            shape = omega (arith, m, h.shape);
            numbers = noted_more c.loop-i.out.values c.loop-i.out.values vs i (get_or c.loop-i.out.values i 0) there (take_more c.loop-i.out.values i 0 here) (h.rest i (omega arith) ∙ sym (ap number none)) h.numbers;
            width = h.width;
            rest = λ k l. h.rest k (omega (arith, l));
          }))
    ]

pub returns : goal.returns
returns c =
    let vs : List (Option ℕ) = set c.args.kept.now.values c.args.kept.now.done c.args.last in
    let wide : length vs ≡ 16 = length-set c.args.kept.now.values c.args.kept.now.done c.args.last ∙ c.requires.width in
    let end : c.loop-i.i ≡ c.args.kept.now.done + 1 = omega (arith, c.loop-i.auto.i-end, c.loop-i-test.false, c.done-len.ensures.value) in
    let past : (k : ℕ) → c.loop-i.i ≤ k → get_or vs k None ≡ None = λ k l. none_left c.args.kept.now.values c.args.kept.now.done c.args.last c.requires.past k (omega (arith, end, l)) in
    let marks : mask_of (take c.loop-i.i vs) ≡ mask_of vs = mask_all vs c.loop-i.i past in
    let shape : c.loop-i.out.shape ≡ mask_of vs + (c.args.kept.now.done + 1) * 65536 + 0 = omega (arith, c.loop-i.invariant.shape, marks) in
    let numbers = noted_all c.loop-i.out.values vs c.loop-i.i (c.loop-i.invariant.width ∙ sym wide) c.loop-i.invariant.numbers c.loop-i.invariant.rest past in
    λ j. record { shape = shape j; values = numbers j }
