-- What a mask says of the numbers that it marks, both ways.
use Rattle.std.proofs.Common.{◌≡◌, ℕ, zero, suc, ◌+◌, ◌*◌, ◌<◌, ◌≤◌, ◌≢◌, ◌/◌, ◌%◌, ◌^◌, ◌==◌, true, false, Bool, List, [], ◌∷◌, ◌++◌, length, get_or, take, drop, Option, Some, None, is_some, refl, sym, ◌∙◌, ap, subst, arith, ◌-◌, length-drop, take-append-drop}
use Rattle.std.proofs.lemmas.Bool.Decides.{nat_tests}
use Rattle.std.proofs.Math.Pow.{pow_mono}
use Rattle.std.proofs.Math.Seq.{get_or-append_seam}
use Rattle.std.proofs.lemmas.Bool.{false≢true}
use Rattle.std.proofs.lemmas.List.{append_assoc, take_more, drop_more, get_or-drop, length-take-le}
use Rattle.std.specs.Bool.{then_some}
use Rattle.of_script.specs.declared.instr.TheConstants.{MOST_INSTRS}
use Rattle.of_eval.specs.Shapes.{mark_bit, mask_of}
use Rattle.of_eval.specs.Reading.{marked_in}
use Rattle.of_eval.specs.ShapeLaws.{mask_below}

half_below : (m n : ℕ) → m < 2 ^ suc n → m / 2 < 2 ^ n
half_below m n l = grind arith

mask_push : (vs : List (Option ℕ)) (v : Option ℕ) → mask_of (vs ++ v ∷ []) ≡ mask_of vs + mark_bit v * 2 ^ length vs
mask_push [] v = omega arith
mask_push (x ∷ vs) v = let again : mask_of (vs ++ v ∷ []) ≡ mask_of vs + mark_bit v * 2 ^ length vs = mask_push vs v in rw again (grind arith)

-- the marks of one value more
pub mask_more : (vs : List (Option ℕ)) (i : ℕ) → i < length vs → mask_of (take (i + 1) vs) ≡ mask_of (take i vs) + mark_bit (get_or vs i None) * 2 ^ i
mask_more vs i l = ap mask_of (take_more vs i None l) ∙ mask_push (take i vs) (get_or vs i None) ∙ ap (λ (n : ℕ). mask_of (take i vs) + mark_bit (get_or vs i None) * 2 ^ n) (length-take-le i vs (omega arith))

half_marked : (mask c : ℕ) (cs : List ℕ) → mask_of (marked_in (mask / 2) cs) ≡ mask / 2 → (t : Bool) → (mask % 2 == 1) ≡ t → mark_bit (then_some t c) + 2 * mask_of (marked_in (mask / 2) cs) ≡ mask
half_marked mask c cs again true e = let odd : mask % 2 ≡ 1 = grind (arith, nat_tests) in omega (arith, odd, again)
half_marked mask c cs again false e = let even : mask % 2 ≢ 1 = grind (arith, nat_tests) in omega (arith, even, again)

-- the numbers that a mask marks have that mask
pub mask_marked : (mask : ℕ) (cs : List ℕ) → mask < 2 ^ length cs → mask_of (marked_in mask cs) ≡ mask
mask_marked mask [] l = omega arith
mask_marked mask (c ∷ cs) l = half_marked mask c cs (mask_marked (mask / 2) cs (half_below mask (length cs) l)) (mask % 2 == 1) refl

-- a value at a place, where there is one, is this function's
abbrev pub AreOf : (ℕ → ℕ) → List (Option ℕ) → Type 0
AreOf f vs = (i v : ℕ) → get_or vs i None ≡ Some v → f i ≡ v

-- they are numbers of the cells
pub marked_are : (mask : ℕ) (cs : List ℕ) → AreOf (λ i. get_or cs i 0) (marked_in mask cs)
marked_are mask [] i v e = absurd cc
marked_are mask (c ∷ cs) zero v e = go (mask % 2 == 1) e
  where
    go : (t : Bool) → then_some t c ≡ Some v → c ≡ v
    go true k = cc
    go false k = absurd cc
marked_are mask (c ∷ cs) (suc i) v e = marked_are (mask / 2) cs i v e

pub marked_length : (mask : ℕ) (cs : List ℕ) → length (marked_in mask cs) ≡ length cs
marked_length mask [] = refl
marked_length mask (c ∷ cs) = ap suc (marked_length (mask / 2) cs)

-- numbers of the cells are those that their mask marks
pub marked_again : (vs : List (Option ℕ)) (cs : List ℕ) → length vs ≡ length cs → AreOf (λ i. get_or cs i 0) vs → marked_in (mask_of vs) cs ≡ vs
marked_again [] [] e h = refl
marked_again [] (c ∷ cs) e h = absurd (omega arith)
marked_again (v ∷ vs) [] e h = absurd (omega arith)
marked_again (v ∷ vs) (c ∷ cs) e h = go (marked_again vs cs (omega arith) (λ i. h (suc i))) v (h 0)
  where
    go : marked_in (mask_of vs) cs ≡ vs → (x : Option ℕ) → ((w : ℕ) → x ≡ Some w → c ≡ w) → marked_in (mark_bit x + 2 * mask_of vs) (c ∷ cs) ≡ x ∷ vs
    go again None k =
        let half : (0 + 2 * mask_of vs) / 2 ≡ mask_of vs = omega arith in
        let even : ((0 + 2 * mask_of vs) % 2 == 1) ≡ false = (let e : (0 + 2 * mask_of vs) % 2 ≡ 0 = omega arith in grind (arith, nat_tests)) in
        rw (half, even, again) refl
    go again (Some w) k =
        let half : (1 + 2 * mask_of vs) / 2 ≡ mask_of vs = omega arith in
        let odd : ((1 + 2 * mask_of vs) % 2 == 1) ≡ true = (let e : (1 + 2 * mask_of vs) % 2 ≡ 1 = omega arith in grind (arith, nat_tests)) in
        let same : c ≡ w = k w refl in
        rw (half, odd, again, same) refl

-- a mask below a bit marks no number from its place on
pub marked_past : (mask : ℕ) (cs : List ℕ) (n i : ℕ) → mask < 2 ^ n → n ≤ i → get_or (marked_in mask cs) i None ≡ None
marked_past mask [] n i l k = refl
marked_past mask (c ∷ cs) zero zero l k = let e : mask ≡ 0 = omega (arith, l) in rw e refl
marked_past mask (c ∷ cs) (suc n) zero l k = absurd (omega arith)
marked_past mask (c ∷ cs) zero (suc i) l k = marked_past (mask / 2) cs 0 i (omega (arith, l)) (omega arith)
marked_past mask (c ∷ cs) (suc n) (suc i) l k = marked_past (mask / 2) cs n i (half_below mask n l) (omega arith)

-- one mark more is read
pub marked_more : (mask : ℕ) (cs : List ℕ) (i : ℕ) → i < length cs → marked_in mask (drop i cs) ≡ then_some (mask % 2 == 1) (get_or cs i 0) ∷ marked_in (mask / 2) (drop (i + 1) cs)
marked_more mask cs i l = ap (marked_in mask) (drop_more cs i 0 l)

-- the masks of the first values are small
pub mask_taken : (vs : List (Option ℕ)) (i : ℕ) → mask_of (take i vs) < 2 ^ i
mask_taken vs i = mask_below (take i vs) i (past vs i)
  where
    past : (vs : List (Option ℕ)) (n i : ℕ) → n ≤ i → get_or (take n vs) i None ≡ None
    past vs zero i l = refl
    past [] (suc n) i l = refl
    past (v ∷ vs) (suc n) zero l = absurd (omega arith)
    past (v ∷ vs) (suc n) (suc i) l = past vs n i (omega arith)

-- one mark more is read, and the value noted
pub marked_step : (mask rest : ℕ) (cs : List ℕ) (vs ws : List (Option ℕ)) (i : ℕ) (x : Option ℕ) → i < length cs → take (i + 1) ws ≡ take i vs ++ x ∷ [] → x ≡ then_some (rest % 2 == 1) (get_or cs i 0)
    → take i vs ++ marked_in rest (drop i cs) ≡ marked_in mask cs → take (i + 1) ws ++ marked_in (rest / 2) (drop (i + 1) cs) ≡ marked_in mask cs
marked_step mask rest cs vs ws i x c w e h =
    ap (λ (us : List (Option ℕ)). us ++ marked_in (rest / 2) (drop (i + 1) cs)) w
    ∙ append_assoc (take i vs) (x ∷ []) (marked_in (rest / 2) (drop (i + 1) cs))
    ∙ ap (λ (y : Option ℕ). take i vs ++ y ∷ marked_in (rest / 2) (drop (i + 1) cs)) e
    ∙ sym (ap (λ (us : List (Option ℕ)). take i vs ++ us) (marked_more rest cs i c))
    ∙ h

-- fewer marks are left
pub marks_left : (rest n i : ℕ) → i < n → rest < 2 ^ (n - i) → rest / 2 < 2 ^ (n - (i + 1))
marks_left rest n i l h = let one : n - i ≡ suc (n - (i + 1)) = omega arith in half_below rest (n - (i + 1)) (subst (λ (k : ℕ). rest < 2 ^ k) one h)

pub no_marks : (rest n i : ℕ) → n ≤ i → rest < 2 ^ (n - i) → rest ≡ 0
no_marks rest n i l h = let none : n - i ≡ 0 = omega arith in let small : rest < 2 ^ 0 = subst (λ (k : ℕ). rest < 2 ^ k) none h in omega (arith, small)

unmarked : (vs : List (Option ℕ)) (cs : List ℕ) → length vs ≡ length cs → ((k : ℕ) → get_or vs k None ≡ None) → vs ≡ marked_in 0 cs
unmarked [] [] e h = refl
unmarked [] (c ∷ cs) e h = absurd (omega arith)
unmarked (v ∷ vs) [] e h = absurd (omega arith)
unmarked (v ∷ vs) (c ∷ cs) e h = let here : v ≡ None = h 0 in let rest : vs ≡ marked_in 0 cs = unmarked vs cs (omega arith) (λ k. h (suc k)) in λ j. here j ∷ rest j

-- no mark is left, and no value is noted from there on
pub marked_end : (mask rest : ℕ) (cs : List ℕ) (vs : List (Option ℕ)) (i : ℕ) → length vs ≡ length cs → rest ≡ 0 → ((k : ℕ) → i ≤ k → get_or vs k None ≡ None) → take i vs ++ marked_in rest (drop i cs) ≡ marked_in mask cs → vs ≡ marked_in mask cs
marked_end mask rest cs vs i w none past h =
    let many : length (drop i vs) ≡ length (drop i cs) = omega (arith, length-drop i vs, length-drop i cs, w) in
    let last : drop i vs ≡ marked_in 0 (drop i cs) = unmarked (drop i vs) (drop i cs) many (λ k. get_or-drop i vs k None ∙ past (i + k) (omega arith)) in
    sym (take-append-drop i vs) ∙ ap (λ (us : List (Option ℕ)). take i vs ++ us) (last ∙ ap (λ (m : ℕ). marked_in m (drop i cs)) (sym none)) ∙ h

-- the number at a mark is among those that are marked
pub marked_there : (mask rest : ℕ) (cs : List ℕ) (vs : List (Option ℕ)) (i : ℕ) → i < length cs → i < length vs → rest % 2 ≡ 1 → take i vs ++ marked_in rest (drop i cs) ≡ marked_in mask cs → get_or (marked_in mask cs) i None ≡ Some (get_or cs i 0)
marked_there mask rest cs vs i c l odd h =
    let test : (rest % 2 == 1) ≡ true = grind (arith, nat_tests) in
    let at : length (take i vs) ≡ i = length-take-le i vs (omega arith) in
    let all : take i vs ++ then_some (rest % 2 == 1) (get_or cs i 0) ∷ marked_in (rest / 2) (drop (i + 1) cs) ≡ marked_in mask cs = sym (ap (λ (us : List (Option ℕ)). take i vs ++ us) (marked_more rest cs i c)) ∙ h in
    ap (λ (us : List (Option ℕ)). get_or us i None) (sym all)
    ∙ ap (λ (k : ℕ). get_or (take i vs ++ then_some (rest % 2 == 1) (get_or cs i 0) ∷ marked_in (rest / 2) (drop (i + 1) cs)) k None) (sym at)
    ∙ get_or-append_seam (take i vs) (then_some (rest % 2 == 1) (get_or cs i 0)) (marked_in (rest / 2) (drop (i + 1) cs)) None
    ∙ ap (λ (t : Bool). then_some t (get_or cs i 0)) test

pub bit_small : (i : ℕ) → i < MOST_INSTRS → 2 ^ i ≤ 32768
bit_small i l = let k : 2 ^ i ≤ 2 ^ 15 = pow_mono {i = i} {j = 15} (omega arith) in omega (arith, k)

-- a mask with one value more
pub with_number : (vs : List (Option ℕ)) (i : ℕ) → i < length vs → i < MOST_INSTRS → is_some (get_or vs i None) ≡ true → mask_of (take i vs) + 1 * 2 ^ i % 4294967296 ≡ mask_of (take (i + 1) vs)
with_number vs i l k e = go (get_or vs i None) refl
  where
    go : (v : Option ℕ) → get_or vs i None ≡ v → mask_of (take i vs) + 1 * 2 ^ i % 4294967296 ≡ mask_of (take (i + 1) vs)
    go None q = absurd (false≢true (sym (ap is_some q) ∙ e))
    go (Some v) q = let m = mask_more vs i l in let b = bit_small i k in let s : mark_bit (get_or vs i None) ≡ 1 = ap mark_bit q in rw (m, s) (omega (arith, b))

pub with_none : (vs : List (Option ℕ)) (i : ℕ) → i < length vs → is_some (get_or vs i None) ≡ false → mask_of (take i vs) ≡ mask_of (take (i + 1) vs)
with_none vs i l e = go (get_or vs i None) refl
  where
    go : (v : Option ℕ) → get_or vs i None ≡ v → mask_of (take i vs) ≡ mask_of (take (i + 1) vs)
    go (Some v) q = absurd (false≢true (sym e ∙ ap is_some q))
    go None q = let m = mask_more vs i l in let s : mark_bit (get_or vs i None) ≡ 0 = ap mark_bit q in rw (m, s) (omega arith)

-- values with none from place n on have the mask of the first n
pub mask_all : (vs : List (Option ℕ)) (n : ℕ) → ((i : ℕ) → n ≤ i → get_or vs i None ≡ None) → mask_of (take n vs) ≡ mask_of vs
mask_all [] zero h = refl
mask_all [] (suc n) h = refl
mask_all (v ∷ vs) zero h =
    let here : v ≡ None = h 0 (omega arith) in
    let rest : 0 ≡ mask_of vs = mask_all vs 0 (λ i l. h (suc i) (omega arith)) in
    rw here (omega (arith, rest))
mask_all (v ∷ vs) (suc n) h = ap (λ (m : ℕ). mark_bit v + 2 * m) (mask_all vs n (λ i l. h (suc i) (omega arith)))

-- so many places of a word
pub bit_is : (n : ℕ) → n ≤ MOST_INSTRS → 1 * 2 ^ n % 4294967296 ≡ 2 ^ n
bit_is n l = let k : 2 ^ n ≤ 2 ^ MOST_INSTRS = pow_mono {i = n} {j = MOST_INSTRS} l in omega (arith, k)

pub below_all : (m n : ℕ) → n ≤ MOST_INSTRS → m < 2 ^ n → m < 2 ^ MOST_INSTRS
below_all m n l h = let k : 2 ^ n ≤ 2 ^ MOST_INSTRS = pow_mono {i = n} {j = MOST_INSTRS} l in omega (arith, k, h)
