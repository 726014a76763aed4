-- The reply that a caller's own cells hold, by its shape and its numbers.
use Rattle.std.proofs.Common.{◌≡◌, ℕ, zero, suc, ◌+◌, ◌*◌, ◌^◌, ◌<◌, ◌≤◌, inl, inr, Bool, List, [], ◌∷◌, length, map, get_or, refl, sym, ◌∙◌, ap, subst, arith, Option, Some, None, IfSome, is_some, if◌then◌else◌}
use Rattle.std.specs.List.{range_with_len}
use Rattle.std.proofs.lemmas.Bool.{cases_lt, lt-ltb, false≢true}
use Rattle.std.proofs.lemmas.List.FromFn.{get_or-map-range_with_len}
use Rattle.of_mem.specs.Places.{shape_at, reply_at}
use Rattle.of_mem.specs.declared.plot.Plot.{Plot}
use Rattle.of_mem.specs.ProgramWork.{memory_of}
use Rattle.of_mem.specs.Numbers.{IsNumber}
use Rattle.of_eval.specs.declared.lawful_cells.LawErr.{LawErr}
use Rattle.of_eval.specs.declared.lawful_cells.LawErr.TheVariants.{Memory, Unlawful}
use Rattle.of_eval.specs.Walking.{NamesFault}
use Rattle.of_eval.specs.Faults.IsFirstFault.{Own}
use Rattle.of_script.specs.declared.instr.TheConstants.{MOST_INSTRS}
use Rattle.of_script.specs.Language.{greatest}
use Rattle.of_script.specs.declared.instr.Reply.{Reply}
use Rattle.of_script.specs.declared.instr.Abort.{Abort}
use Rattle.of_store.specs.Replies.{IsSmall}
use Rattle.of_eval.specs.Shapes.{IsWhole, mask_of, shape_of, abort_part}
use Rattle.of_eval.specs.Lawful.{reply_number, OwnCellsHoldReply, OwnCellsAreSound}
use Rattle.of_eval.specs.Faults.{IsShapeOf, HasNumber, OwnFault, NamesCellWith}

-- another number at a place that has one
abbrev pub renumbered : Option ℕ → ℕ → Option ℕ
renumbered None x = None
renumbered (Some v) x = Some x

-- other numbers at the places that have one
abbrev pub filled : ℕ → (ℕ → ℕ) → List (Option ℕ) → List (Option ℕ)
filled i f [] = []
filled i f (v ∷ vs) = renumbered v (f i) ∷ filled (suc i) f vs

filled_mask : (i : ℕ) (f : ℕ → ℕ) (vs : List (Option ℕ)) → mask_of (filled i f vs) ≡ mask_of vs
filled_mask i f [] = refl
filled_mask i f (None ∷ vs) = ap (λ n. 0 + 2 * n) (filled_mask (suc i) f vs)
filled_mask i f (Some v ∷ vs) = ap (λ n. 1 + 2 * n) (filled_mask (suc i) f vs)

filled_width : (i : ℕ) (f : ℕ → ℕ) (vs : List (Option ℕ)) → length (filled i f vs) ≡ length vs
filled_width i f [] = refl
filled_width i f (v ∷ vs) = ap suc (filled_width (suc i) f vs)

pub filled_at : (i : ℕ) (f : ℕ → ℕ) (vs : List (Option ℕ)) (k : ℕ) → get_or (filled i f vs) k None ≡ renumbered (get_or vs k None) (f (i + k))
filled_at i f [] k = refl
filled_at i f (v ∷ vs) zero = ap (λ n. renumbered v (f n)) (omega arith)
filled_at i f (v ∷ vs) (suc k) = filled_at (suc i) f vs k ∙ ap (λ n. renumbered (get_or vs k None) (f n)) (omega arith)

-- the reply with other numbers
abbrev pub with_numbers : Reply → (ℕ → ℕ) → Reply
with_numbers r f = record r { values = filled 0 f r.values }

none_filled : (f : ℕ → ℕ) (vs : List (Option ℕ)) (k : ℕ) → get_or vs k None ≡ None → get_or (filled 0 f vs) k None ≡ None
none_filled f vs k e = filled_at 0 f vs k ∙ ap (λ (v : Option ℕ). renumbered v (f (0 + k))) e

-- whether there is a number does not change
pub filled_marks : (f : ℕ → ℕ) (vs : List (Option ℕ)) (k : ℕ) → is_some (get_or (filled 0 f vs) k None) ≡ is_some (get_or vs k None)
filled_marks f vs k = ap is_some (filled_at 0 f vs k) ∙ kept (get_or vs k None)
  where
    kept : (v : Option ℕ) → is_some (renumbered v (f (0 + k))) ≡ is_some v
    kept None = refl
    kept (Some v) = refl

module _ (r : Reply) (f : ℕ → ℕ) (h : IsWhole r) (small : (i : ℕ) → i < r.len → HasNumber r i → f i ≤ greatest) where
  small_at : (i : ℕ) → IsSmall (get_or (filled 0 f r.values) i None)
  small_at i = subst IsSmall (sym (filled_at 0 f r.values i)) (go (get_or r.values i None) refl)
    where
      go : (v : Option ℕ) → get_or r.values i None ≡ v → IsSmall (renumbered v (f (0 + i)))
      go None e = tt
      go (Some v) e = elim (cases_lt i r.len) [
        | inl l ↦ (let k : 0 + i ≡ i = omega arith in subst (λ (n : ℕ). f n ≤ greatest) (sym k) (small i l (ap is_some e)))
        | inr l ↦ absurd (false≢true (ap is_some (sym (h.fits.past i l) ∙ e)))
      ]

  aborted_in : (a : Option Abort) → IfSome a (λ x. (x.place < r.len) × ((i : ℕ) → get_or r.values i None ≡ None)) → IfSome a (λ x. (x.place < r.len) × ((i : ℕ) → get_or (filled 0 f r.values) i None ≡ None))
  aborted_in None k = tt
  aborted_in (Some a) k = (k.0, λ i. none_filled f r.values i (k.1 i))

  pub whole_with : IsWhole (with_numbers r f)
  whole_with = record {
    some = h.some;
    few = h.few;
    width = filled_width 0 f r.values ∙ h.width;
    fits = record {
      len = h.fits.len;
      small = small_at;
      past = λ i l. none_filled f r.values i (h.fits.past i l);
      aborted = aborted_in r.abort h.fits.aborted;
    };
  }

  pub shape_with : shape_of (with_numbers r f) ≡ shape_of r
  shape_with = ap (λ n. n + r.len * 2 ^ 16 + abort_part r.abort) (filled_mask 0 f r.values)

-- a number of the cells
pub number_at : (instrs : ℕ) (m : ℕ → ℕ) (c i : ℕ) → i < MOST_INSTRS → i < instrs → get_or (map (reply_number instrs m c) (range_with_len 0 MOST_INSTRS)) i 0 ≡ m (reply_at instrs c i)
number_at instrs m c i l k = get_or-map-range_with_len (reply_number instrs m c) 0 MOST_INSTRS i i 0 l (omega arith) ∙ ap (λ (t : Bool). if t then m (reply_at instrs c i) else 0) (lt-ltb i instrs k)

-- a shape whose numbers are all small is that of a reply that the cells hold
pub numbers_hold : (instrs : ℕ) (m : ℕ → ℕ) (c : ℕ) (r : Reply) → IsShapeOf instrs (m (shape_at instrs c)) r → ((i : ℕ) → i < r.len → HasNumber r i → IsNumber (m (reply_at instrs c i))) → OwnCellsHoldReply instrs m c
numbers_hold instrs m c r h small =
    let f : ℕ → ℕ = λ i. m (reply_at instrs c i) in
    let fits : (i : ℕ) → i < r.len → HasNumber r i → m (reply_at instrs c i) ≤ greatest = λ i l k. omega (arith, small i l k) in
    record {
      reply = with_numbers r (λ i. m (reply_at instrs c i));
      held = (
        whole_with r (λ i. m (reply_at instrs c i)) h.held.0 fits,
        record {
          shape = h.held.1.shape ∙ sym (shape_with r (λ i. m (reply_at instrs c i)) h.held.0 fits);
          numbers = λ i v e. numbers i v e;
        },
      );
      few = h.few;
    }
  where
    numbers : (i v : ℕ) → get_or (filled 0 (λ j. m (reply_at instrs c j)) r.values) i None ≡ Some v → get_or (map (reply_number instrs m c) (range_with_len 0 MOST_INSTRS)) i 0 ≡ v
    numbers i v e = elim (cases_lt i r.len) [
      | inl l ↦ number_at instrs m c i (omega (arith, h.held.0.few)) (omega (arith, h.few)) ∙ go (get_or r.values i None) (sym (filled_at 0 (λ j. m (reply_at instrs c j)) r.values i) ∙ e)
      | inr l ↦ absurd (false≢true (ap is_some (sym (none_filled (λ j. m (reply_at instrs c j)) r.values i (h.held.0.fits.past i l)) ∙ e)))
    ]
      where
        go : (w : Option ℕ) → renumbered w (m (reply_at instrs c (0 + i))) ≡ Some v → m (reply_at instrs c i) ≡ v
        go None q = absurd (false≢true (ap is_some q))
        go (Some w) q = let k : 0 + i ≡ i = omega arith in let p : m (reply_at instrs c (0 + i)) ≡ v = cc in ap (λ n. m (reply_at instrs c n)) (sym k) ∙ p

-- the first fault of a caller's cells, where those of the callers before are sound
pub own_names : (p : Plot) (cells : List ℕ) (c : ℕ) (e : LawErr) → c < p.callers → ((d : ℕ) → d < c → OwnCellsAreSound p.instrs (memory_of cells) d) → NamesCellWith (OwnFault p.instrs (memory_of cells) c) e → NamesFault p cells e
own_names p cells c Memory l h f = tt
own_names p cells c (Unlawful cell) l h f = Own c l h f
