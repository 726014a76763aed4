-- Bounds for the parts of a shape. These lemmas are in specs/, not in proofs/, since `impl Work for
-- Scripts` cites laws that are proved with them.
use Rattle.std.proofs.Common.{◌≡◌, ℕ, zero, suc, ◌<◌, ◌≤◌, ◌^◌, List, [], ◌∷◌, length, get_or, Option, Some, None, refl, arith}
use Rattle.of_script.specs.declared.instr.Cause.{Cause}
use Rattle.of_script.specs.declared.instr.Cause.TheVariants.{Overflow, Short, NoRoom, Differs, BadOp}
use Rattle.of_eval.specs.Shapes.{mark_bit, mask_of, code_of}

pub mark_small : (v : Option ℕ) → mark_bit v ≤ 1
mark_small None = omega arith
mark_small (Some v) = omega arith

-- if no place from n on has a number, the mask is below 2 ^ n
pub mask_below : (vs : List (Option ℕ)) (n : ℕ) → ((i : ℕ) → n ≤ i → get_or vs i None ≡ None)
    → mask_of vs < 2 ^ n
mask_below [] zero h = omega arith
mask_below [] (suc n) h = let again : 0 < 2 ^ n = mask_below [] n (λ i l. refl) in grind arith
mask_below (v ∷ vs) zero h =
    let here : v ≡ None = h 0 (omega arith) in
    let again : mask_of vs < 1 = mask_below vs 0 (λ i l. h (suc i) (omega arith)) in
    rw here (omega (arith, again))
mask_below (v ∷ vs) (suc n) h =
    let again : mask_of vs < 2 ^ n = mask_below vs n (λ i l. h (suc i) (omega arith)) in
    let small : mark_bit v ≤ 1 = mark_small v in
    grind arith

pub mask_width : (vs : List (Option ℕ)) → mask_of vs < 2 ^ length vs
mask_width vs = mask_below vs (length vs) (λ i l. past vs i l)
  where
    past : (vs : List (Option ℕ)) (i : ℕ) → length vs ≤ i → get_or vs i None ≡ None
    past [] i l = refl
    past (v ∷ vs) zero l = absurd (omega arith)
    past (v ∷ vs) (suc i) l = past vs i (omega arith)

pub code_some : (c : Cause) → (1 ≤ code_of c) × (code_of c ≤ 5)
code_some Overflow = (omega arith, omega arith)
code_some Short = (omega arith, omega arith)
code_some NoRoom = (omega arith, omega arith)
code_some Differs = (omega arith, omega arith)
code_some BadOp = (omega arith, omega arith)
