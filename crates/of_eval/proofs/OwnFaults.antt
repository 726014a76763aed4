-- A caller's own cells with a fault hold no reply, and their first fault is one.
use Rattle.std.proofs.Common.{◌≡◌, ℕ, ◌<◌, ◌≤◌, inl, inr, true, List, get_or, refl, sym, ◌∙◌, ap, subst, arith, Option, Some, None, is_some}
use Rattle.std.proofs.lemmas.Bool.{cases_lt, false≢true}
use Rattle.std.proofs.lemmas.List.{length-replicate}
use Rattle.of_mem.specs.Places.{shape_at, reply_at}
use Rattle.of_mem.specs.Numbers.{IsNumber}
use Rattle.of_mem.proofs.Lists.{zero_at}
use Rattle.of_script.specs.declared.instr.TheConstants.{MOST_INSTRS}
use Rattle.of_script.specs.Language.{greatest}
use Rattle.of_script.specs.declared.instr.Reply.{Reply}
use Rattle.of_store.specs.Replies.{IsSmall}
use Rattle.of_eval.specs.Lawful.{OwnCellsHoldReply, OwnCellsAreSound}
use Rattle.of_eval.specs.Faults.{IsShapeOf, HasNumber, OwnFault, shape_alone}
use Rattle.of_eval.specs.Faults.OwnFault.{Left, NoShape, GreatReply}
use Rattle.of_eval.proofs.Unpacked.{len_is, values_are}
use Rattle.of_eval.proofs.OwnCells.{filled_at, filled_marks, renumbered, with_numbers, whole_with, shape_with, number_at}

-- two replies of one shape have numbers at the same places
same_numbers : (instrs shape : ℕ) (r s : Reply) → IsShapeOf instrs shape r → IsShapeOf instrs shape s → (r.len ≡ s.len) × ((j : ℕ) → HasNumber r j → HasNumber s j)
same_numbers instrs shape r s h g =
    let e : r.values ≡ s.values = sym (values_are (shape_alone shape) r h.held (length-replicate {A = ℕ} MOST_INSTRS 0)) ∙ values_are (shape_alone shape) s g.held (length-replicate {A = ℕ} MOST_INSTRS 0) in
    (sym (len_is (shape_alone shape) r h.held) ∙ len_is (shape_alone shape) s g.held, λ j k. ap (λ (vs : List (Option ℕ)). is_some (get_or vs j None)) (sym e) ∙ k)

-- the shape of a reply that the cells hold
shape_held : (instrs : ℕ) (m : ℕ → ℕ) (c : ℕ) (h : OwnCellsHoldReply instrs m c) → IsShapeOf instrs (m (shape_at instrs c)) (with_numbers h.reply (λ _. 0))
shape_held instrs m c h =
    let small : (i : ℕ) → i < h.reply.len → HasNumber h.reply i → 0 ≤ greatest = λ i l k. omega arith in
    record {
      held = (
        whole_with h.reply (λ _. 0) h.held.0 small,
        record {
          shape = h.held.1.shape ∙ sym (shape_with h.reply (λ _. 0) h.held.0 small);
          numbers = λ i v e. zero_at MOST_INSTRS i ∙ zero_is (get_or h.reply.values i None) v (sym (filled_at 0 (λ _. 0) h.reply.values i) ∙ e);
        },
      );
      few = h.few;
    }
  where
    zero_is : (x : Option ℕ) (v : ℕ) → renumbered x 0 ≡ Some v → 0 ≡ v
    zero_is None v e = absurd (false≢true (ap is_some e))
    zero_is (Some w) v e = cc

-- a number of a reply that the cells hold
number_held : (instrs : ℕ) (m : ℕ → ℕ) (c : ℕ) (h : OwnCellsHoldReply instrs m c) (r : Reply) → IsShapeOf instrs (m (shape_at instrs c)) r → (j : ℕ) → j < r.len → HasNumber r j → IsNumber (m (reply_at instrs c j))
number_held instrs m c h r g j l k =
    let s = same_numbers instrs (m (shape_at instrs c)) r (with_numbers h.reply (λ _. 0)) g (shape_held instrs m c h) in
    go (get_or h.reply.values j None) refl (sym (filled_marks (λ _. 0) h.reply.values j) ∙ s.1 j k) (omega (arith, s.0, l, h.held.0.few)) (omega (arith, s.0, l, h.few))
  where
    go : (x : Option ℕ) → get_or h.reply.values j None ≡ x → is_some (get_or h.reply.values j None) ≡ true → j < MOST_INSTRS → j < instrs → IsNumber (m (reply_at instrs c j))
    go None e q a b = absurd (false≢true (ap is_some (sym e) ∙ q))
    go (Some v) e q a b =
        let is : m (reply_at instrs c j) ≡ v = sym (number_at instrs m c j a b) ∙ h.held.1.numbers j v e in
        let small : v ≤ greatest = subst IsSmall e (h.held.0.fits.small j) in
        omega (arith, is, small)

pub own_excludes : (instrs : ℕ) (m : ℕ → ℕ) (c cell : ℕ) → OwnCellsAreSound instrs m c → OwnFault instrs m c cell → ⊥
own_excludes instrs m c cell h (Left t s e) = s (h.none t)
own_excludes instrs m c cell h (NoShape t n e) = let k = h.some t in n (with_numbers k.reply (λ _. 0)) (shape_held instrs m c k)
own_excludes instrs m c cell h (GreatReply t r g j l k before bad e) = bad (number_held instrs m c (h.some t) r g j l k)

pub own_same : (instrs : ℕ) (m : ℕ → ℕ) (c a b : ℕ) → OwnFault instrs m c a → OwnFault instrs m c b → a ≡ b
own_same instrs m c a b (Left t s e) (Left u v f) = e ∙ sym f
own_same instrs m c a b (Left t s e) (NoShape u n f) = e ∙ sym f
own_same instrs m c a b (Left t s e) (GreatReply u r g j l k before bad f) = absurd (u t)
own_same instrs m c a b (NoShape t n e) (Left u v f) = e ∙ sym f
own_same instrs m c a b (NoShape t n e) (NoShape u o f) = e ∙ sym f
own_same instrs m c a b (NoShape t n e) (GreatReply u r g j l k before bad f) = absurd (n r g)
own_same instrs m c a b (GreatReply t r g j l k before bad e) (Left u v f) = absurd (t u)
own_same instrs m c a b (GreatReply t r g j l k before bad e) (NoShape u n f) = absurd (n r g)
own_same instrs m c a b (GreatReply t r g j l k before bad e) (GreatReply u s h i o p before' bad' f) =
    let there = same_numbers instrs (m (shape_at instrs c)) r s g h in
    let back = same_numbers instrs (m (shape_at instrs c)) s r h g in
    elim (cases_lt i j) [
      | inl q ↦ absurd (bad' (before i q (back.1 i p)))
      | inr q ↦ elim (cases_lt j i) [
        | inl o ↦ absurd (bad (before' j o (there.1 j k)))
        | inr o ↦ (let is : j ≡ i = omega arith in e ∙ ap (reply_at instrs c) is ∙ sym f)
      ]
    ]
