-- The parts of a shape, and the only reply that cells may hold.
use Rattle.std.proofs.Common.{◌≡◌, ℕ, zero, suc, ◌+◌, ◌*◌, ◌<◌, ◌≤◌, ◌/◌, ◌%◌, ◌^◌, List, [], ◌∷◌, length, get_or, replicate, inl, inr, Option, Some, None, refl, sym, ◌∙◌, ap, subst, arith}
use Rattle.std.specs.Prelude.{MatchOption, ◌≢◌}
use Rattle.std.specs.List.{All}
use Rattle.std.proofs.lemmas.Bool.{cases_lt}
use Rattle.std.proofs.lemmas.List.{get_or_past, get_or_default}
use Rattle.of_store.specs.Replies.{IsSmall}
use Rattle.of_script.specs.declared.instr.TheConstants.{MOST_INSTRS}
use Rattle.of_script.specs.declared.instr.Reply.{Reply}
use Rattle.of_script.specs.declared.instr.Abort.{Abort}
use Rattle.of_script.specs.declared.instr.Cause.{Cause}
use Rattle.of_script.specs.declared.instr.Cause.TheVariants.{Overflow, Short, NoRoom, Differs, BadOp}
use Rattle.of_mem.specs.declared.work.RawReply.{RawReply}
use Rattle.of_eval.specs.Shapes.{IsHeldBy, mask_of, code_of, abort_part}
use Rattle.of_eval.specs.Reading.{marked_in}
use Rattle.of_eval.specs.ShapeLaws.{mask_width, mask_below, code_some}
use Rattle.of_eval.proofs.Masks.{mask_marked, marked_again, marked_are, marked_past, marked_length, below_all}

-- four numbers that were put together
pub record Parts (s m n p c : ℕ) : Type 0 where
  pub marks : s % 2 ^ 16 ≡ m
  pub len : s / 2 ^ 16 % 32 ≡ n
  pub place : s / 2 ^ 21 % 32 ≡ p
  pub code : s / 2 ^ 26 ≡ c

apart : (s m n p c : ℕ) → s ≡ m + n * 2 ^ 16 + (p * 2 ^ 21 + c * 2 ^ 26) → m < 65536 → n < 32 → p < 32 → Parts s m n p c
apart s m n p c e a b d = record { marks = omega arith; len = omega arith; place = omega arith; code = omega arith }

abbrev pub place_in : Option Abort → ℕ
place_in None = 0
place_in (Some a) = a.place

abbrev pub code_in : Option Abort → ℕ
code_in None = 0
code_in (Some a) = code_of a.cause

pub code_injective : (c d : Cause) → code_of c ≡ code_of d → c ≡ d
code_injective Overflow Overflow e = refl
code_injective Short Short e = refl
code_injective NoRoom NoRoom e = refl
code_injective Differs Differs e = refl
code_injective BadOp BadOp e = refl
code_injective Overflow Short e = absurd (omega arith)
code_injective Overflow NoRoom e = absurd (omega arith)
code_injective Overflow Differs e = absurd (omega arith)
code_injective Overflow BadOp e = absurd (omega arith)
code_injective Short Overflow e = absurd (omega arith)
code_injective Short NoRoom e = absurd (omega arith)
code_injective Short Differs e = absurd (omega arith)
code_injective Short BadOp e = absurd (omega arith)
code_injective NoRoom Overflow e = absurd (omega arith)
code_injective NoRoom Short e = absurd (omega arith)
code_injective NoRoom Differs e = absurd (omega arith)
code_injective NoRoom BadOp e = absurd (omega arith)
code_injective Differs Overflow e = absurd (omega arith)
code_injective Differs Short e = absurd (omega arith)
code_injective Differs NoRoom e = absurd (omega arith)
code_injective Differs BadOp e = absurd (omega arith)
code_injective BadOp Overflow e = absurd (omega arith)
code_injective BadOp Short e = absurd (omega arith)
code_injective BadOp NoRoom e = absurd (omega arith)
code_injective BadOp Differs e = absurd (omega arith)

pub nones : (vs : List (Option ℕ)) → ((i : ℕ) → get_or vs i None ≡ None) → vs ≡ replicate (length vs) None
nones [] h = refl
nones (v ∷ vs) h = let first : v ≡ None = h 0 in let rest : vs ≡ replicate (length vs) None = nones vs (λ i. h (suc i)) in cc

reply_is : (l : ℕ) (vs : List (Option ℕ)) (a : Option Abort) (r : Reply) → l ≡ r.len → vs ≡ r.values → a ≡ r.abort → ◌≡◌ {A = Reply} (record { len = l; values = vs; abort = a }) r
reply_is l vs a r e f g = λ i. record { len = e i; values = f i; abort = g i }

module _ (raw : RawReply) (r : Reply) (h : IsHeldBy raw r) where
  marks_small : mask_of r.values < 65536
  marks_small = let k : mask_of r.values < 2 ^ length r.values = mask_width r.values in let e : mask_of r.values < 2 ^ MOST_INSTRS = subst (λ (n : ℕ). mask_of r.values < 2 ^ n) h.0.width k in omega (arith, e)

  parts_with : (o : Option Abort) → r.abort ≡ o → Parts raw.shape (mask_of r.values) r.len (place_in o) (code_in o)
  parts_with None e = apart raw.shape (mask_of r.values) r.len 0 0 (h.1.shape ∙ ap (λ (x : Option Abort). mask_of r.values + r.len * 2 ^ 16 + abort_part x) e) marks_small (omega (arith, h.0.few)) (omega arith)
  parts_with (Some a) e =
      let fits = rw e at h.0.fits.aborted in
      apart raw.shape (mask_of r.values) r.len a.place (code_of a.cause) (h.1.shape ∙ ap (λ (x : Option Abort). mask_of r.values + r.len * 2 ^ 16 + abort_part x) e) marks_small (omega (arith, h.0.few)) (omega (arith, fits.0, h.0.few))

  pub parts : Parts raw.shape (mask_of r.values) r.len (place_in r.abort) (code_in r.abort)
  parts = parts_with r.abort refl

  pub len_is : raw.shape / 2 ^ 16 % 32 ≡ r.len
  len_is = parts.len

  pub len_in : (1 ≤ raw.shape / 2 ^ 16 % 32) × (raw.shape / 2 ^ 16 % 32 ≤ MOST_INSTRS)
  len_in = (omega (arith, parts.len, h.0.some), omega (arith, parts.len, h.0.few))

  -- the numbers are those that the marks say
  pub values_are : length raw.values ≡ MOST_INSTRS → marked_in (raw.shape % 2 ^ 16) raw.values ≡ r.values
  values_are e = rw (parts.marks) (marked_again r.values raw.values (h.0.width ∙ sym e) h.1.numbers)

  pub small_values : All IsSmall r.values
  small_values i d l = subst IsSmall (get_or_default r.values i None d l) (h.0.fits.small i)

  pub marks_below : raw.shape % 2 ^ 16 < 2 ^ r.len
  marks_below = rw (parts.marks) (mask_below r.values r.len h.0.fits.past)

  no_abort : raw.shape < 2 ^ 21 → (o : Option Abort) → r.abort ≡ o → o ≡ None
  no_abort small None e = refl
  no_abort small (Some a) e = let k = code_some a.cause in let c : raw.shape / 2 ^ 26 ≡ code_of a.cause = (parts_with (Some a) e).code in absurd (omega (arith, k.0, c, small))

  -- the only reply with no abort
  pub answered_is : length raw.values ≡ MOST_INSTRS → raw.shape < 2 ^ 21 → (l : ℕ) → l ≡ raw.shape / 2 ^ 16 % 32 → (vs : List (Option ℕ)) → vs ≡ marked_in (raw.shape % 2 ^ 16) raw.values → ◌≡◌ {A = Option Reply} (Some (record { len = l; values = vs; abort = None })) (Some r)
  answered_is w small l e vs is = ap Some (reply_is l vs None r (e ∙ len_is) (is ∙ values_are w) (sym (no_abort small r.abort refl)))

  an_abort : 2 ^ 21 ≤ raw.shape → (o : Option Abort) → r.abort ≡ o → (a : Abort) × (o ≡ Some a) × Parts raw.shape (mask_of r.values) r.len a.place (code_of a.cause) × (a.place < r.len) × ((i : ℕ) → get_or r.values i None ≡ None)
  an_abort large None e = let p = parts_with None e in absurd (omega (arith, h.1.shape, ap (λ (x : Option Abort). mask_of r.values + r.len * 2 ^ 16 + abort_part x) e, marks_small, h.0.few, large))
  an_abort large (Some a) e = let fits = rw e at h.0.fits.aborted in (a, refl, parts_with (Some a) e, fits.0, fits.1)

  -- the abort of a reply that has one
  pub abort_of : 2 ^ 21 ≤ raw.shape → (a : Abort) × (r.abort ≡ Some a) × Parts raw.shape (mask_of r.values) r.len a.place (code_of a.cause) × (a.place < r.len) × ((i : ℕ) → get_or r.values i None ≡ None)
  abort_of large = an_abort large r.abort refl

  pub none_marked : 2 ^ 21 ≤ raw.shape → raw.shape % 2 ^ 16 ≡ 0
  none_marked large = let a = abort_of large in parts.marks ∙ ap mask_of (nones r.values a.4) ∙ zeros (length r.values)
    where
      zeros : (n : ℕ) → mask_of (replicate n None) ≡ 0
      zeros zero = refl
      zeros (suc n) = let e : mask_of (replicate n None) ≡ 0 = zeros n in omega (arith, e)

  -- what the shape tells of an abort is the reply's
  pub told_is : 2 ^ 21 ≤ raw.shape → (o : Option Abort) → MatchOption o ((c : Cause) → code_of c ≢ raw.shape / 2 ^ 26) (λ b. (b.place ≡ raw.shape / 2 ^ 21 % 32) × (code_of b.cause ≡ raw.shape / 2 ^ 26)) → o ≡ r.abort
  told_is large None none = let a = abort_of large in absurd (none a.0.cause (sym a.2.code))
  told_is large (Some b) told =
      let a = abort_of large in
      let place : b.place ≡ a.0.place = told.0 ∙ a.2.place in
      let cause : b.cause ≡ a.0.cause = code_injective b.cause a.0.cause (told.1 ∙ a.2.code) in
      (λ i. Some (record { place = place i; cause = cause i })) ∙ sym a.1

  -- the only reply with this abort
  pub aborted_is : 2 ^ 21 ≤ raw.shape → (l : ℕ) (b : Abort) → l ≡ raw.shape / 2 ^ 16 % 32 → (b.place ≡ raw.shape / 2 ^ 21 % 32) × (code_of b.cause ≡ raw.shape / 2 ^ 26) → ◌≡◌ {A = Option Reply} (Some (record { len = l; values = replicate MOST_INSTRS None; abort = Some b })) (Some r)
  aborted_is large l b e told =
      let a = abort_of large in
      ap Some (reply_is l (replicate MOST_INSTRS None) (Some b) r (e ∙ len_is) (ap (λ (n : ℕ). replicate n None) (sym h.0.width) ∙ sym (nones r.values a.4)) (told_is large (Some b) told))

-- what the marks say is a reply with no abort
pub answered_holds : (raw : RawReply) (l : ℕ) (vs : List (Option ℕ)) → length raw.values ≡ MOST_INSTRS → 1 ≤ l → l ≤ MOST_INSTRS → l ≡ raw.shape / 2 ^ 16 % 32 → raw.shape < 2 ^ 21 → vs ≡ marked_in (raw.shape % 2 ^ 16) raw.values
    → raw.shape % 2 ^ 16 < 2 ^ l → All IsSmall vs → IsHeldBy raw (record { len = l; values = vs; abort = None })
answered_holds raw l vs w some few e small is below each = (
  record {
    some = some;
    few = few;
    width = ap length is ∙ marked_length (raw.shape % 2 ^ 16) raw.values ∙ w;
    fits = record {
      len = refl;
      small = λ i. elim (cases_lt i (length vs)) [
        | inl k ↦ each i None k
        | inr k ↦ subst IsSmall (sym (get_or_past vs i None k)) tt
      ];
      past = λ i k. ap (λ (ws : List (Option ℕ)). get_or ws i None) is ∙ marked_past (raw.shape % 2 ^ 16) raw.values l i below k;
      aborted = tt;
    };
  },
  record {
    shape = (let m : mask_of vs ≡ raw.shape % 2 ^ 16 = ap mask_of is ∙ mask_marked (raw.shape % 2 ^ 16) raw.values (rw w (below_all (raw.shape % 2 ^ 16) l few below)) in omega (arith, m, e, small));
    numbers = λ i v k. marked_are (raw.shape % 2 ^ 16) raw.values i v (ap (λ (ws : List (Option ℕ)). get_or ws i None) (sym is) ∙ k);
  },
)
