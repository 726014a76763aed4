-- Each move of a plan may happen, and begins the next script of its caller where it begins one.
use Rattle.std.proofs.Common.{◌≡◌, ℕ, ◌+◌, ◌<◌, ◌≤◌, ◌⊎◌, ◌==◌, not, inl, inr, List, [], ◌∷◌, ◌++◌, length, get_or, take, map, refl, sym, ◌∙◌, ap, subst, arith, Bool, true, false}
use Rattle.std.specs.List.{AllByRecursion}
use Rattle.std.proofs.lemmas.Bool.{cases_eq, ltb-true}
use Rattle.std.proofs.lemmas.Bool.Decides.{nat_tests}
use Rattle.std.proofs.lemmas.List.{get_or-set_same, get_or-set_other, append-nil, map-append, take_more, length-map}
use Rattle.std.proofs.lemmas.List.Sums.{get_or-le-sum_by}
use Rattle.of_script.specs.declared.instr.Instr.{Instr}
use Rattle.of_script.specs.Language.{IsScript, instr_word}
use Rattle.of_script.proofs.Numbers.{both}
use Rattle.of_plan.specs.Plan.{Plan, scripts_of}
use Rattle.of_plan.proofs.Lists.{all_at}
use Rattle.of_core.specs.declared.place.Place.TheVariants.{Idle}
use Rattle.of_core.specs.Table.{Setup, cell_count}
use Rattle.of_core.specs.Machine.{CallState, is_idle, no_machine, begin_call}
use Rattle.of_core.specs.TableMoment.{Moment}
use Rattle.of_core.specs.Events.{Event, Begins, Turns, Loads, Evicts, Raises, Revives, machine_in, after_event, MayHappen}
use Rattle.of_core.specs.Calls.{operation_begun, if_so}
use Rattle.of_caller.specs.Tables.{plan_setup, opening_for, operation_of}
use Rattle.of_caller.specs.Ends.{is_spent}
use Rattle.of_caller.specs.Left.{moment_after}
use Rattle.of_play.specs.Play.{begins_call}
use Rattle.of_play.specs.ScheduleRun.{EventsMayFollow}
use Rattle.of_play.proofs.PlaysMoments.{IsPlayable, idle_is}
use Rattle.of_play.proofs.PlaysEvents.{run_append, schedule_append, operations_append}
use Rattle.of_play.proofs.PlaysGood.{IsGood, good_at, here, made_turned}

-- a move of the plan: a turn of a caller, or an eviction of a cell
abbrev pub IsMove : Plan → Event → Type 0
IsMove p (Begins c op) = ⊥
IsMove p (Turns c) = c < p.callers
IsMove p (Loads a) = ⊥
IsMove p (Evicts k) = ⊥
IsMove p (Revives i made) = ⊥
IsMove p (Raises a) = a < cell_count (plan_setup p)

-- these where the numbers are the same
pub only_same : {A : Type 0} (i : ℕ) (xs : List A) → if_so (i == i) xs ≡ xs
only_same {A} i xs = go (i == i) refl
  where
    go : (b : Bool) → (i == i) ≡ b → if_so b xs ≡ xs
    go true e = refl
    go false e = let z : i ≡ i → ⊥ = grind (arith, nat_tests) in absurd (z refl)

pub only_other : {A : Type 0} (i j : ℕ) (xs : List A) → (i ≡ j → ⊥) → if_so (i == j) xs ≡ []
only_other {A} i j xs n = go (i == j) refl
  where
    go : (b : Bool) → (i == j) ≡ b → if_so b xs ≡ []
    go true e = let z : i ≡ j = grind (arith, nat_tests) in absurd (n z)
    go false e = refl

module _ (p : Plan) (plan : IsPlayable p) where
  -- a caller's scripts
  pub few_scripts : (c : ℕ) → c < p.callers → length (scripts_of p c) ≤ 20000
  few_scripts c h = omega (arith, get_or-le-sum_by (λ (s : List (List Instr)). length s) p.scripts c [] (omega (arith, h, plan.plan.each_caller)), plan.plan.few_scripts)

  pub is_script : (c x : ℕ) → c < p.callers → x < length (scripts_of p c) → IsScript (get_or (scripts_of p c) x [])
  is_script c x h l = all_at IsScript (scripts_of p c) x [] l (all_at (AllByRecursion IsScript) p.scripts c [] (omega (arith, h, plan.plan.each_caller)) plan.plan.each_script)

  -- what may happen at a caller's next call
  module _ (es : List Event) (f : EventsMayFollow p es) where
    abbrev S : Setup
    S = plan_setup p

    abbrev w : Moment
    w = moment_after p es

    good : IsGood p plan w
    good = good_at p plan es f.schedule

    -- after one more event, which counts and begins so many calls of each caller
    grown : (e : Event) → MayHappen S w e
        → ((c : ℕ) → c < p.callers → ((machine_in (after_event S w e) c).made ≤ length (scripts_of p c))
        × (map operation_of (take (machine_in w c).made (scripts_of p c)) ++ operation_begun e c ≡ map operation_of (take (machine_in (after_event S w e) c).made (scripts_of p c))))
        → EventsMayFollow p (es ++ e ∷ [])
    grown e may each =
        let now : moment_after p (es ++ e ∷ []) ≡ after_event S w e = run_append S (opening_for p) es (e ∷ []) in
        record {
          schedule = schedule_append S (opening_for p) es (e ∷ []) f.schedule (may, tt);
          made = λ c h. subst (λ (v : Moment). (machine_in v c).made ≤ length (scripts_of p c)) (sym now) (each c h).0;
          begun = λ c h. operations_append es (e ∷ []) c ∙ (λ i. f.begun c h i ++ append-nil (operation_begun e c) i) ∙ (each c h).1
              ∙ ap (λ (v : Moment). map operation_of (take (machine_in v c).made (scripts_of p c))) (sym now);
        }

    same_calls : (c : ℕ) (v : Moment) → (machine_in v c).made ≡ (machine_in w c).made → c < p.callers
        → ((machine_in v c).made ≤ length (scripts_of p c)) × (map operation_of (take (machine_in w c).made (scripts_of p c)) ++ [] ≡ map operation_of (take (machine_in v c).made (scripts_of p c)))
    same_calls c v e h = (omega (arith, e, f.made c h), append-nil _ ∙ ap (λ (n : ℕ). map operation_of (take n (scripts_of p c))) (sym e))

    -- an eviction
    pub raise_follows : (a : ℕ) → a < cell_count S → EventsMayFollow p (es ++ Raises a ∷ [])
    raise_follows a h = grown (Raises a) h (λ c l. same_calls c (after_event S w (Raises a)) refl l)

    -- a turn
    pub turn_follows : (c : ℕ) → c < p.callers → EventsMayFollow p (es ++ Turns c ∷ [])
    turn_follows c h = grown (Turns c) h (λ i l. same_calls i (after_event S w (Turns c)) (made_as i (cases_eq i c)) l)
      where
        made_as : (i : ℕ) → (i ≡ c) ⊎ (i ≡ c → ⊥) → (machine_in (after_event S w (Turns c)) i).made ≡ (machine_in w i).made
        made_as i (inl e) = subst (λ (k : ℕ). (machine_in (after_event S w (Turns c)) k).made ≡ (machine_in w k).made) (sym e) (made_turned p plan w good c h)
        made_as i (inr n) = ap (λ (d : CallState). d.made) (get_or-set_other w.machines c i _ no_machine n)

    -- the begin of a call
    module _ (c : ℕ) (h : c < p.callers) (begins : begins_call (machine_in w c) (length (scripts_of p c)) ≡ true) where
      pub begins_idle : (machine_in w c).place ≡ Idle
      begins_idle = idle_is (machine_in w c).place (both (is_idle (machine_in w c).place) _ begins).0

      pub begins_unspent : is_spent (machine_in w c).answer ≡ false
      begins_unspent = go (is_spent (machine_in w c).answer) refl (both (not (is_spent (machine_in w c).answer)) _ (both (is_idle (machine_in w c).place) _ begins).1).0
        where
          go : (b : Bool) → is_spent (machine_in w c).answer ≡ b → not (is_spent (machine_in w c).answer) ≡ true → is_spent (machine_in w c).answer ≡ false
          go true e q = let z : not true ≡ true = ap not (sym e) ∙ q in cc
          go false e q = e

      pub begins_left : (machine_in w c).made < length (scripts_of p c)
      begins_left = ltb-true _ _ (both (not (is_spent (machine_in w c).answer)) _ (both (is_idle (machine_in w c).place) _ begins).1).1

      abbrev script : List Instr
      script = get_or (scripts_of p c) (machine_in w c).made []

      abbrev e : Event
      e = Begins c (operation_of script)

      pub begin_may : MayHappen S w e
      begin_may =
          let s = is_script c (machine_in w c).made h begins_left in
          let many : length (operation_of script) ≡ length script = length-map script instr_word in
          (h, begins_idle, omega (arith, s.some, many), omega (arith, s.few, many), omega (arith, begins_left, few_scripts c h))

      opens : machine_in (after_event S w e) c ≡ begin_call S (machine_in w c) (operation_of script)
      opens = get_or-set_same w.machines c _ no_machine (here p plan w good c h)

      pub begin_follows : EventsMayFollow p (es ++ e ∷ [])
      begin_follows = grown e begin_may (λ i l. each i l (cases_eq i c))
        where
          each : (i : ℕ) → i < p.callers → (i ≡ c) ⊎ (i ≡ c → ⊥) → ((machine_in (after_event S w e) i).made ≤ length (scripts_of p i))
              × (map operation_of (take (machine_in w i).made (scripts_of p i)) ++ if_so (i == c) (operation_of script ∷ []) ≡ map operation_of (take (machine_in (after_event S w e) i).made (scripts_of p i)))
          each i l (inr n) =
              let k = same_calls i (after_event S w e) (ap (λ (d : CallState). d.made) (get_or-set_other w.machines c i _ no_machine n)) l in
              (k.0, ap (λ (os : List (List ℕ)). map operation_of (take (machine_in w i).made (scripts_of p i)) ++ os) (only_other i c _ n) ∙ k.1)
          each i l (inl q) = subst (λ (k : ℕ). ((machine_in (after_event S w e) k).made ≤ length (scripts_of p k))
              × (map operation_of (take (machine_in w k).made (scripts_of p k)) ++ if_so (k == c) (operation_of script ∷ []) ≡ map operation_of (take (machine_in (after_event S w e) k).made (scripts_of p k)))) (sym q)
              (let made : (machine_in (after_event S w e) c).made ≡ (machine_in w c).made + 1 = ap (λ (d : CallState). d.made) opens in (
                omega (arith, made, begins_left),
                ap (λ (os : List (List ℕ)). map operation_of (take (machine_in w c).made (scripts_of p c)) ++ os) (only_same c _)
                    ∙ sym (map-append operation_of (take (machine_in w c).made (scripts_of p c)) (script ∷ []))
                    ∙ ap (map operation_of) (sym (take_more (scripts_of p c) (machine_in w c).made [] begins_left))
                    ∙ ap (λ (n : ℕ). map operation_of (take n (scripts_of p c))) (sym made),
              ))
