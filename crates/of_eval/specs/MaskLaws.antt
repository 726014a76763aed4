-- The reply to a script's words keeps the rules for replies of a work: it fits into cells, and it
-- marks only places of its own instructions. These lemmas are in specs/, not in proofs/, since
-- `impl Work for Scripts` cites laws that are proved with them.
use Rattle.std.proofs.Common.{◌≡◌, ℕ, zero, suc, ◌+◌, ◌-◌, ◌*◌, ◌<◌, ◌≤◌, ◌/◌, ◌%◌, ◌^◌, ◌==◌, true, false, refl, sym, ◌∙◌, ap, subst, arith, Option, Some, None, Ok, Err, List, [], ◌∷◌, ◌++◌, length, get_or, map, replicate, length-append}
use Rattle.std.specs.List.{AllByRecursion as Each}
use Rattle.std.specs.Option.{unwrap_or}
use Rattle.std.proofs.Math.Nat.{div-div-eq-div-mul}
use Rattle.std.proofs.lemmas.Bool.{false≢true}
use Rattle.std.proofs.lemmas.Bool.Decides.{nat_tests}
use Rattle.std.proofs.lemmas.List.{length-map, length-replicate}
use Rattle.of_mem.specs.Numbers.{FitsCell}
use Rattle.of_mem.specs.Meaning.{is_marked}
use Rattle.of_mem.specs.ProgramWork.{IsReplyTo}
use Rattle.of_mem.proofs.Writes.{all_each}
use Rattle.of_store.specs.Store.{ScriptOutcome, Aborted}
use Rattle.of_store.specs.Replies.{IsSmall}
use Rattle.of_eval.specs.Shapes.{mark_bit, mask_of, code_of, reply_cells, shape_of}
use Rattle.of_eval.specs.Words.{reply_to}
use Rattle.of_eval.specs.ShapeLaws.{mark_small, mask_width}
use Rattle.of_eval.specs.ShapeLaws.{code_some}
use Rattle.of_eval.specs.ScriptRuns.{reply_behind, AnswerInRange}
use Rattle.of_script.specs.declared.instr.TheConstants.{MOST_INSTRS}

power_doubles : (x k : ℕ) → x * 2 ^ suc k ≡ 2 * (x * 2 ^ k)
power_doubles x k = let p : 2 ^ suc k ≡ 2 * 2 ^ k = grind arith in rw p (grind arith)

-- a mark is the bit at its place, whatever stands above the marks
bit_of : (vs : List (Option ℕ)) (x k j : ℕ) → j < k
    → (mask_of vs + x * 2 ^ k) / 2 ^ j % 2 ≡ mark_bit (get_or vs j None)
bit_of vs x zero j l = absurd (omega arith)
bit_of [] x (suc k) zero l = let e = power_doubles x k in rw e (omega arith)
bit_of (v ∷ vs) x (suc k) zero l =
    let e = power_doubles x k in let s = mark_small v in rw e (omega (arith, s))
bit_of [] x (suc k) (suc j) l =
    let e = power_doubles x k in
    let f : 2 ^ suc j ≡ 2 * 2 ^ j = grind arith in
    let half : (0 + x * 2 ^ suc k) / 2 ≡ 0 + x * 2 ^ k = rw e (omega arith) in
    ap (λ (d : ℕ). (0 + x * 2 ^ suc k) / d % 2) f
    ∙ ap (λ (q : ℕ). q % 2) (sym (div-div-eq-div-mul (0 + x * 2 ^ suc k) 2 (2 ^ j)))
    ∙ ap (λ (q : ℕ). q / 2 ^ j % 2) half ∙ bit_of [] x k j (omega arith)
bit_of (v ∷ vs) x (suc k) (suc j) l =
    let e = power_doubles x k in
    let f : 2 ^ suc j ≡ 2 * 2 ^ j = grind arith in
    let s = mark_small v in
    let half : (mask_of (v ∷ vs) + x * 2 ^ suc k) / 2 ≡ mask_of vs + x * 2 ^ k =
    rw e (omega (arith, s)) in
    ap (λ (d : ℕ). (mask_of (v ∷ vs) + x * 2 ^ suc k) / d % 2) f
    ∙ ap (λ (q : ℕ). q % 2) (sym (div-div-eq-div-mul (mask_of (v ∷ vs) + x * 2 ^ suc k) 2 (2 ^ j)))
    ∙ ap (λ (q : ℕ). q / 2 ^ j % 2) half ∙ bit_of vs x k j (omega arith)

-- a marked place has a number
marked_has : (vs : List (Option ℕ)) (shape x : ℕ) → shape ≡ mask_of vs + x * 2 ^ MOST_INSTRS
    → (j : ℕ) → j < MOST_INSTRS → is_marked shape j ≡ true → mark_bit (get_or vs j None) ≡ 1
unfolding is_marked
marked_has vs shape x e j l h =
    let b : shape / 2 ^ j % 2 ≡ mark_bit (get_or vs j None) =
    ap (λ (q : ℕ). q / 2 ^ j % 2) e ∙ bit_of vs x MOST_INSTRS j l in
    let k : shape / 2 ^ j % 2 ≡ 1 = grind (arith, nat_tests) in
    sym b ∙ k

none_of : (o : Option ℕ) → (mark_bit o ≡ 1 → ⊥) → o ≡ None
none_of None h = refl
none_of (Some v) h = absurd (h refl)

-- an unmarked place has none
unmarked_none : (vs : List (Option ℕ)) (shape x : ℕ) → shape ≡ mask_of vs + x * 2 ^ MOST_INSTRS
    → (j : ℕ) → j < MOST_INSTRS → is_marked shape j ≡ false → get_or vs j None ≡ None
unfolding is_marked
unmarked_none vs shape x e j l h =
    let b : shape / 2 ^ j % 2 ≡ mark_bit (get_or vs j None) =
    ap (λ (q : ℕ). q / 2 ^ j % 2) e ∙ bit_of vs x MOST_INSTRS j l in
    none_of (get_or vs j None)
    (λ (m : mark_bit (get_or vs j None) ≡ 1).
    let k : shape / 2 ^ j % 2 ≡ 1 = b ∙ m in unmarked (shape / 2 ^ j % 2) k h)
  where
    unmarked : (n : ℕ) → n ≡ 1 → (n == 1) ≡ false → ⊥
    unmarked n is not =
        let k : (n == 1) ≡ true = grind (arith, nat_tests) in false≢true (sym not ∙ k)

zero_there : (vs : List (Option ℕ)) (j : ℕ) → get_or vs j None ≡ None
    → get_or (map (λ v. unwrap_or v 0) vs) j 0 ≡ 0
zero_there [] j e = refl
zero_there (v ∷ vs) zero e = ap (λ (o : Option ℕ). unwrap_or o 0) e
zero_there (v ∷ vs) (suc j) e = zero_there vs j e

none_past : (vs : List (Option ℕ)) (k j : ℕ) → mark_bit (get_or (vs ++ replicate k None) j None) ≡ 1
    → j < length vs
none_past (v ∷ vs) k zero h = omega arith
none_past (v ∷ vs) k (suc j) h = let r : j < length vs = none_past vs k j h in omega (arith, r)
none_past [] zero j h = absurd (omega (arith, h))
none_past [] (suc k) zero h = absurd (omega (arith, h))
none_past [] (suc k) (suc j) h = absurd (let r : j < 0 = none_past [] k j h in omega (arith, r))

word_small : (v : Option ℕ) → IsSmall v → FitsCell (unwrap_or v 0)
word_small None h = omega arith
word_small (Some v) h = omega (arith, h)

words_small : (vs : List (Option ℕ)) (k : ℕ) → Each IsSmall vs
    → Each FitsCell (map (λ v. unwrap_or v 0) (vs ++ replicate k None))
words_small [] zero h = tt
words_small [] (suc k) h = (omega arith, words_small [] k tt)
words_small (v ∷ vs) k h = (word_small v h.0, words_small vs k h.1)

pub full_width : (vs : List (Option ℕ)) → length vs ≤ MOST_INSTRS
    → length (vs ++ replicate (MOST_INSTRS - length vs) None) ≡ MOST_INSTRS
full_width vs l =
    length-append vs (replicate (MOST_INSTRS - length vs) None)
    ∙ ap (λ (n : ℕ). length vs + n) (length-replicate (MOST_INSTRS - length vs) None)
    ∙ omega (arith, l)

pub mask_all : (vs : List (Option ℕ)) → length vs ≡ MOST_INSTRS → mask_of vs < 2 ^ MOST_INSTRS
mask_all vs e =
    let k : mask_of vs < 2 ^ length vs = mask_width vs in
    let q : mask_of vs < 2 ^ MOST_INSTRS = subst (λ (n : ℕ). mask_of vs < 2 ^ n) e k in
    omega (arith, q)

-- a reply to the words ws is also a reply to an operation with at least as many words
pub reply_fits : (op ws : List ℕ) (x : ScriptOutcome) → length ws ≤ MOST_INSTRS
    → length ws ≤ length op → AnswerInRange ws x
    → IsReplyTo op (reply_cells (reply_to (length ws) (reply_behind [] x)))
reply_fits op ws (Ok e) few part h =
    let vs = e.1 ++ replicate (MOST_INSTRS - length e.1) None in
    let wide : length vs ≡ MOST_INSTRS = full_width e.1 (omega (arith, few, h.0)) in
    let small : mask_of vs < 2 ^ MOST_INSTRS = mask_all vs wide in
    let answered : (j : ℕ) → j < MOST_INSTRS
    → is_marked (mask_of vs + length ws * 2 ^ 16 + 0) j ≡ true → j < length e.1 =
    λ j l m. none_past e.1 (MOST_INSTRS - length e.1) j
    (marked_has vs (mask_of vs + length ws * 2 ^ 16 + 0) (length ws) (omega arith) j l m) in
    record {
      shape = omega (arith, small, few);
      values =
          all_each FitsCell (map (λ v. unwrap_or v 0) vs)
          (words_small e.1 (MOST_INSTRS - length e.1) h.1);
      marks =
          λ j l m. (
            omega (arith, small, few),
            omega (arith, part, h.0, answered j l m),
            omega (
              arith,
              length-map vs (λ (v : Option ℕ). unwrap_or v 0),
              wide,
              few,
              h.0,
              answered j l m,
            ),
          );
      rest =
          λ j l m. zero_there vs j
          (unmarked_none vs (mask_of vs + length ws * 2 ^ 16 + 0) (length ws) (omega arith) j
          l m);
    }
reply_fits op ws (Err p) few part h =
    let code = code_some p.1 in
    record {
      shape = omega (arith, h, few, code.1);
      values =
          all_each FitsCell (map (λ v. unwrap_or v 0) (replicate MOST_INSTRS None))
          (words_small [] MOST_INSTRS tt);
      marks =
          λ j l m. absurd
          (let r : j < 0 =
          none_past [] MOST_INSTRS j
          (marked_has (replicate MOST_INSTRS None)
          (shape_of (reply_to (length ws) (Aborted (0 + p.0) p.1)))
          (length ws + p.0 * 32 + code_of p.1 * 1024) (omega arith) j l m) in
          omega (arith, r));
      rest =
          λ j l m. zero_there (replicate MOST_INSTRS None) j
          (unmarked_none (replicate MOST_INSTRS None)
          (shape_of (reply_to (length ws) (Aborted (0 + p.0) p.1)))
          (length ws + p.0 * 32 + code_of p.1 * 1024) (omega arith) j l m);
    }
