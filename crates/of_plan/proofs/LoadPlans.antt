-- The plan of a load keeps the ranges of plans.
use Rattle.std.proofs.Common.{◌≡◌, ℕ, zero, suc, ◌+◌, ◌*◌, ◌≤◌, ◌<◌, List, [], length, map, replicate, IfSome, Option, None, arith, subst}
use Rattle.std.specs.List.{AllByRecursion, range_with_len, sum_by}
use Rattle.std.proofs.lemmas.List.{length-replicate}
use Rattle.std.proofs.lemmas.List.Sums.{sum_by-cons}
use Rattle.std.proofs.lemmas.List.FromFn.{length-map-range_with_len}
use Rattle.of_script.specs.declared.instr.Instr.{Instr}
use Rattle.of_script.specs.Language.{IsScript}
use Rattle.of_plan.specs.declared.plan.Item.{Item}
use Rattle.of_plan.specs.Plan.{Plan, IsPlan}
use Rattle.of_plan.specs.Generated.{load_script, load_scripts, generated_plan}
use Rattle.of_plan.proofs.Lists.{map_const, all_below}

-- what holds of each number from k on holds of the list over n of them
all_from : {A : Type 0} (P : A → Type 0) (f : ℕ → A) (k n : ℕ) → ((c : ℕ) → c < k + n → P (f c)) → AllByRecursion P (map f (range_with_len k n))
all_from P f k zero h = tt
all_from P f k (suc n) h = (h k (omega arith), all_from P f (k + 1) n (λ c lt. h c (omega (arith, lt))))

pub load_is_script : (t i : ℕ) → t < 16 → i < 20000 → IsScript (load_script t i)
load_is_script t i caller index = record {
  some = omega arith;
  few = omega arith;
  in_range = ((omega arith, omega arith), ((omega arith, omega arith), tt));
}

-- so many callers with so many scripts each
all_scripts : (m k n : ℕ) → sum_by length (map (load_scripts m) (range_with_len k n)) ≡ n * m
all_scripts m k zero = omega arith
all_scripts m k (suc n) = omega (arith, sum_by-cons length (load_scripts m k) (map (load_scripts m) (range_with_len (k + 1) n)), length-map-range_with_len (load_script k) 0 m, all_scripts m (k + 1) n)

pub generated_is_plan : (n m : ℕ) → 1 ≤ n → n ≤ 16 → m ≤ 20000 → n * m ≤ 20000 → IsPlan (generated_plan n m)
generated_is_plan n m some few scripts all = record {
  some_callers = some;
  few_callers = few;
  few_blocks = omega arith;
  some_limit = omega arith;
  limit_range = omega arith;
  each_caller = length-map-range_with_len (load_scripts m) 0 n;
  each_script = all_from (AllByRecursion IsScript) (load_scripts m) 0 n (λ t lt. all_from IsScript (load_script t) 0 m (λ i lt_i. load_is_script t i (omega (arith, lt)) (omega (arith, lt_i))));
  few_scripts = omega (arith, all_scripts m 0 n);
  each_stop = length-replicate n None;
  stop_range = subst (λ (stops : List (Option ℕ)). AllByRecursion (λ o. IfSome o (λ x. x ≤ 4294967295)) stops) (map_const None 0 n) (all_below (λ o. IfSome o (λ x. x ≤ 4294967295)) (λ c. None) 0 n (λ c. tt));
  each_item = tt;
  few_turns = omega arith;
}

-- where each of some callers has so many scripts, it has no more than all together
pub each_within : (n m most : ℕ) → 1 ≤ n → n * m ≤ most → m ≤ most
each_within zero m most some all = absurd (omega arith)
each_within (suc n) m most some all = omega arith

pub same_plan : (n m k : ℕ) (scripts : List (List (List Instr))) (stops : List (Option ℕ)) (schedule : List Item) → k ≡ n → scripts ≡ map (load_scripts m) (range_with_len 0 k) → stops ≡ replicate k None → schedule ≡ []
    → ◌≡◌ {A = Plan} (record { callers = n; blocks = 512; limit = 4294967294; scripts = scripts; stops = stops; schedule = schedule }) (generated_plan n m)
same_plan n m k scripts stops schedule count all none empty =
    let each = rw count at all in
    let stop = rw count at none in
    cc
