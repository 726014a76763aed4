use Rattle.std.proofs.Common.{◌≡◌, ◌<◌, ◌%◌, ◌==◌, ℕ, length, get_or, sym, ◌∙◌, ap, subst, arith, length-set, Some, None, true, false}
use Rattle.std.specs.Bool.{then_some}
use Rattle.std.proofs.lemmas.Bool.Decides.{nat_tests}
use Rattle.std.proofs.lemmas.List.{take_more, take_more_set, get_or_default}
use Rattle.of_store.specs.Replies.{IsSmall}
use Rattle.of_store.proofs.Values.{small_values, none_left}
use Rattle.of_eval.proofs.Masks.{marked_step, marked_end, marked_there, marked_length, marks_left, no_marks}
use Rattle.of_eval.proofs.reply.marked_values.Goals as goal
use Rattle.of_eval.proofs.reply.marked_values.Goals.{then-rest-eq1+else-cells-i-gt-GREATEST, else-rest-eq1}

pub returns-then-cells-i-gt-GREATEST : goal.returns-then-cells-i-gt-GREATEST
returns-then-cells-i-gt-GREATEST c = λ h.
    let below : c.loop-i.i < 16 = omega (arith, c.loop-i-test.true, c.requires.few) in
    let there = marked_there c.args.mask c.loop-i.rest c.args.cells.now c.loop-i.values c.loop-i.i (omega (arith, below, c.told-cells)) (omega (arith, below, c.loop-i.invariant.width)) c.if-rest-eq1.true c.loop-i.invariant.read in
    let small = subst IsSmall there (h c.loop-i.i None (omega (arith, below, c.told-cells, marked_length c.args.mask c.args.cells.now))) in
    omega (arith, small, c.if-cells-i-gt-GREATEST.true)

pub loop-i-preserved : goal.loop-i-preserved
loop-i-preserved c =
    let h = c.loop-i.invariant in
    let i : ℕ = c.loop-i.i in
    let below : i < 16 = omega (arith, c.loop-i-test.true, c.requires.few) in
    let cell : i < length c.args.cells.now = omega (arith, below, c.told-cells) in
    let here : i < length c.loop-i.values = omega (arith, below, h.width) in
    let left = marks_left c.loop-i.rest c.args.len i c.loop-i-test.true h.rest in
    elim c.if-rest-eq1.branch [
      | then-rest-eq1+else-cells-i-gt-GREATEST w ↦ (
          let odd : c.loop-i.rest % 2 ≡ 1 = w.if-rest-eq1.true in
          let test : (c.loop-i.rest % 2 == 1) ≡ true = grind (arith, nat_tests) in
          rw w.values-is (record {
            read = marked_step c.args.mask c.loop-i.rest c.args.cells.now c.loop-i.values _ i (Some (get_or c.args.cells.now i 0)) cell (take_more_set c.loop-i.values i _ here) (sym (ap (λ t. then_some t (get_or c.args.cells.now i 0)) test)) h.read;
            rest = left;
            width = length-set c.loop-i.values i _ ∙ h.width;
            past = none_left c.loop-i.values i _ h.past;
            small = small_values c.loop-i.values i (Some (get_or c.args.cells.now i 0)) h.small w.if-cells-i-gt-GREATEST.false;
          }))
      | else-rest-eq1 w ↦ (
          let even : (c.loop-i.rest % 2 == 1) ≡ false = grind (arith, nat_tests, w.if-rest-eq1.false) in
          rw w.values-is (record {
            read = marked_step c.args.mask c.loop-i.rest c.args.cells.now c.loop-i.values _ i (get_or c.loop-i.values i None) cell (take_more c.loop-i.values i None here) (h.past i (omega arith) ∙ sym (ap (λ t. then_some t (get_or c.args.cells.now i 0)) even)) h.read;
            rest = left;
            width = h.width;
            past = λ k l. h.past k (omega (arith, l));
            small = h.small;
          }))
    ]

pub returns : goal.returns
returns c = (
  marked_end c.args.mask c.loop-i.rest c.args.cells.now c.loop-i.values c.loop-i.i (c.loop-i.invariant.width ∙ sym c.told-cells) (no_marks c.loop-i.rest c.args.len c.loop-i.i c.loop-i-test.false c.loop-i.invariant.rest) c.loop-i.invariant.past c.loop-i.invariant.read,
  λ k d l. subst IsSmall (get_or_default c.loop-i.values k None d l) (c.loop-i.invariant.small k),
)
