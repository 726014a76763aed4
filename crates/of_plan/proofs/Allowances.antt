-- Callers keep to their allowances: from the steps of their answered calls to what a report tells.
use Rattle.std.proofs.Common.{◌≡◌, ℕ, ◌+◌, ◌*◌, ◌<◌, ◌≤◌, max, sum, Some, List, [], ◌∷◌, length, map, refl, sym, ap, ◌∙◌, arith}
use Rattle.std.specs.Prelude.{sum_by}
use Rattle.std.specs.List.{AllZip, AllByRecursion as Each}
use Rattle.std.proofs.lemmas.List.{length-map}
use Rattle.std.proofs.lemmas.List.Elements.{All-from_recursion}
use Rattle.std.proofs.lemmas.List.Sums.{sum_by-cons, sum_by-le}
use Rattle.of_plan.specs.declared.answer.Answer.{Answer}
use Rattle.of_plan.specs.Plan.{Plan, bound_of}
use Rattle.of_plan.specs.Report.{Entry, stopped, Report, caller_line}
use Rattle.of_plan.specs.Ended.{longest_steps}
use Rattle.of_plan.specs.Allowance.{least_steps, answered_of, KeepsAllowance}

-- the greatest of the steps, 0 where there are none
abbrev pub most_of : List ℕ → ℕ
most_of [] = 0
most_of (x ∷ xs) = max x (most_of xs)

-- entries whose calls have made these steps, each at least its least
abbrev pub HaveMade : Plan → List Entry → List ℕ → Type 0
HaveMade p es steps = AllZip (λ e x. least_steps p e ≤ x) es steps

least_sum : (p : Plan) (es : List Entry) (steps : List ℕ) → HaveMade p es steps → sum_by (least_steps p) es ≤ sum steps
least_sum p [] [] made = omega arith
least_sum p [] (x ∷ xs) made = absurd made
least_sum p (e ∷ es) [] made = absurd made
least_sum p (e ∷ es) (x ∷ xs) made =
    let here : least_steps p e ≤ x = made.0 in
    let rest = least_sum p es xs made.1 in
    omega (arith, sum_by-cons (least_steps p) e es, sum_by-cons (λ (y : ℕ). y) x xs)

least_upto : (p : Plan) (most : ℕ) (es : List Entry) (steps : List ℕ) → HaveMade p es steps → most_of steps ≤ most → Each (λ e. least_steps p e ≤ most) es
least_upto p most [] steps made upto = tt
least_upto p most (e ∷ es) [] made upto = absurd made
least_upto p most (e ∷ es) (x ∷ xs) made upto = let here : least_steps p e ≤ x = made.0 in (omega arith, least_upto p most es xs made.1 (omega arith))

each_upto : (most : ℕ) (steps : List ℕ) → most_of steps ≤ most → Each (λ x. x ≤ most) steps
each_upto most [] upto = tt
each_upto most (x ∷ xs) upto = (omega arith, each_upto most xs (omega arith))

most_in_sum : (steps : List ℕ) → most_of steps ≤ sum steps
most_in_sum [] = omega arith
most_in_sum (x ∷ xs) = omega (arith, most_in_sum xs, sum_by-cons (λ (y : ℕ). y) x xs)

sum_upto : (steps : List ℕ) → sum steps ≤ length steps * most_of steps
sum_upto steps = sum_by-le (λ (y : ℕ). y) (most_of steps) steps (All-from_recursion (λ (x : ℕ). x ≤ most_of steps) steps (each_upto (most_of steps) steps (omega arith)))

-- within n steps: those of the answered calls, and of one that is open
pub keeps_steps : (p : Plan) (r : Report) (c n : ℕ) (steps : List ℕ) (open_steps : ℕ) → HaveMade p (answered_of r c) steps → (caller_line r c).longest ≡ most_of steps → sum steps + open_steps ≤ n
    → ((caller_line r c).state ≡ stopped → (n ≡ sum steps + open_steps) × (open_steps < bound_of p) × ((caller_line r c).answered ≡ length steps)) → KeepsAllowance p r c (Some n)
keeps_steps p r c n steps open_steps made is within ended = record {
  adds_up = omega (arith, least_sum p (answered_of r c) steps made);
  upto = omega (arith, is, most_in_sum steps);
  least = All-from_recursion (λ e. least_steps p e ≤ (caller_line r c).longest) (answered_of r c) (least_upto p (caller_line r c).longest (answered_of r c) steps made (omega (arith, is)));
  used_up = λ stop.
      let end = ended stop in
      let products : length steps * most_of steps ≡ (caller_line r c).answered * (caller_line r c).longest = cc in
      (n, refl, omega (arith, products, sum_upto steps, end.0, end.1));
}

-- ---- what answers tell

-- the steps that answers tell
abbrev pub steps_of : List Answer → List ℕ
steps_of answers = map (λ (a : Answer). a.steps) answers

pub longest-most : (answers : List Answer) → longest_steps answers ≡ most_of (steps_of answers)
longest-most [] = refl
longest-most (a ∷ answers) = ap (max a.steps) (longest-most answers)

-- the same, where the steps are those that answers tell
pub keeps_answers : (p : Plan) (r : Report) (c n : ℕ) (answers : List Answer) (open_steps : ℕ) → HaveMade p (answered_of r c) (steps_of answers) → (caller_line r c).longest ≡ longest_steps answers → sum (steps_of answers) + open_steps ≤ n
    → ((caller_line r c).state ≡ stopped → (n ≡ sum (steps_of answers) + open_steps) × (open_steps < bound_of p) × ((caller_line r c).answered ≡ length answers)) → KeepsAllowance p r c (Some n)
keeps_answers p r c n answers open_steps made is within ended =
    keeps_steps p r c n (steps_of answers) open_steps made (is ∙ longest-most answers) within (λ stop. let end = ended stop in (end.0, end.1, end.2 ∙ sym (length-map answers (λ (a : Answer). a.steps))))
