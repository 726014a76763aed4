-- The seats of a team: what a pass knows of them, and what it keeps when they have run.
use Rattle.std.proofs.Common.{◌≡◌, ℕ, suc, zero, ◌+◌, ◌<◌, ◌≤◌, ◌⊎◌, inl, inr, ⊎_elim, List, [], ◌∷◌, ◌++◌, length, get_or, map, drop, Option, Some, None, sym, refl, ap, ◌∙◌, subst, arith, append_assoc}
use Rattle.std.specs.List.{AllByRecursion as Each}
use Rattle.std.proofs.lemmas.List.{append-nil}
use Rattle.of_mem.proofs.Lists.{take_none}
use Rattle.of_eval.specs.declared.scripts.Scripts.{Scripts}
use Rattle.of_brake.specs.Stops.{IsArmedWith}
use Rattle.of_plan.specs.declared.answer.Answer.{Answer}
use Rattle.of_plan.specs.declared.answer.Ending.{Ending}
use Rattle.of_plan.specs.declared.answer.Ending.TheVariants.{Done}
use Rattle.of_plan.specs.Plan.{Plan, scripts_of, stop_of}
use Rattle.of_plan.specs.Ended.{Ended}
use Rattle.of_row.specs.Views.{KnownCaller, View, seen_seq}
use Rattle.of_row.specs.Rule.{IsAsked}
use Rattle.of_row.specs.Turned.{StandsForMachine, after_ask, new_known_caller, after_join}
use Rattle.of_eval.specs.Scripts.{scripts_meaning}
use Rattle.of_core.specs.Table.{Setup}
use Rattle.of_core.specs.Machine.{CallState, MayReplace, idle_machine}
use Rattle.of_core.specs.MachineValue.{Machine, machine_setup}
use Rattle.of_core.specs.Turn.{IsIdle}
use Rattle.of_row.specs.Rows.{setup_at, row_start}
use Rattle.of_row.specs.Passes.{HasEnrolled}
use Rattle.of_row.specs.declared.member.Member.{Member}
use Rattle.of_row.specs.declared.member.Pass.{Pass}
use Rattle.of_row.specs.declared.row.Row.{Row}
use Rattle.of_caller.specs.declared.caller.Caller.{Caller}
use Rattle.of_caller.specs.Tables.{operation_of}
use Rattle.of_caller.specs.declared.team_caller.TeamCaller.{TeamCaller}
use Rattle.of_caller.specs.Callers.{IsCaller, caller_call, calls_begun_by, sight_of}
use Rattle.of_caller.specs.Stops.{KeepToToldStop, KeepStops}
use Rattle.of_caller.specs.Teams.{KeepsCaller, KeepsCallerWith}
use Rattle.of_caller.specs.Trees.{AllPaired, PrefixPaired}
use Rattle.of_caller.specs.Lanes.{CallerHasAnswered, IsReady, HasRun, KeepsLeft}
use Rattle.of_caller.proofs.CallSteps.{same_kept}
use Rattle.of_caller.specs.Seating.{HasSeated, IsSeat, Seated, done_at, IsAt, gathered, answers_in, endings_in}

-- ---- a caller that has made no call

pub new_caller : (p : Plan) (r : Row Scripts) (n : ℕ) (before : Pass) (m : Member) (now : Pass) → HasEnrolled scripts_meaning r n before m now → (c : Caller Scripts) → IsCaller scripts_meaning r c → c.member ≡ m → IsIdle (caller_call c) → calls_begun_by c ≡ m.made
    → CallerHasAnswered p (done_at r n) n r c [] 0
new_caller p r n before m now h c is same rests made =
    let x : KnownCaller = new_known_caller (setup_at scripts_meaning r) (row_start scripts_meaning r) n (seen_seq (row_start scripts_meaning r) before.seat.me.0.seen) in
    let kept : (sight_of c).kept ≡ x ∷ [] = ap (λ (k : Member). k.seat.me.0.kept) same ∙ ap (λ (v : View). v.kept) h.member_is in
    let y : KnownCaller = is.member.0 in
    let one : y ≡ x = same_kept y x (sym is.member.1 ∙ kept) in
    let fresh : x.machine ≡ idle_machine (machine_setup scripts_meaning c.machine) x.machine.caller x.machine.made = ap (λ (S : Setup). idle_machine S x.machine.caller x.machine.made) (sym (ap (λ (k : Machine Scripts). machine_setup scripts_meaning k) is.machine)) in
    let shown : x.machine ≡ caller_call c = shows y is.member.2 (ap (λ (k : Member). k.made) (sym same) ∙ is.member.4) x fresh one in
    record {
      is_caller = is;
      number = ap (λ (d : CallState). d.caller) (sym shown);
      made = omega (arith, ap (λ (d : CallState). d.made) shown);
      kept = x;
      kept_is = kept;
      shown = shown;
      going = record {
        idle = ap (λ (d : CallState). d.place) shown ∙ rests;
        answered = record { few = omega arith; scripts = ap (map operation_of) (sym (take_none (drop (done_at r n) (scripts_of p n)))); none_spent = tt; told = tt };
        count = refl;
        unlost = refl;
      };
    }
  where
    -- a begun call would have one ticket more than the member
    shows : (y : KnownCaller) → StandsForMachine (machine_setup scripts_meaning c.machine) y (caller_call c) → m.made ≡ y.machine.made → (x : KnownCaller) → x.machine ≡ idle_machine (machine_setup scripts_meaning c.machine) x.machine.caller x.machine.made → y ≡ x → x.machine ≡ caller_call c
    shows y (inl (inl e)) counts x fresh one = ap (λ (k : KnownCaller). k.machine) (sym one) ∙ sym e
    shows y (inl (inr e)) counts x fresh one = fresh ∙ ap (λ (k : KnownCaller). idle_machine (machine_setup scripts_meaning c.machine) k.machine.caller k.machine.made) (sym one) ∙ sym e.1
    shows y (inr opens) counts x fresh one = absurd (omega (arith, made, counts, ap (λ (d : CallState). d.made) opens.is, takes_made opens.begins opens.takes))
      where
        takes_made : (d : CallState) → MayReplace (machine_setup scripts_meaning c.machine) y.machine d → d.made ≡ y.machine.made
        takes_made d (inl e) = ap (λ (k : CallState). k.made) e
        takes_made d (inr e) = ap (λ (k : CallState). k.made) e.1

-- ---- numbers that were asked for

asked_or_last : (n r m : ℕ) (xs : List (ℕ × ℕ)) → IsAsked n (xs ++ (r, m) ∷ []) → IsAsked n xs ⊎ (m ≡ n)
asked_or_last n r m [] (inl e) = inr e
asked_or_last n r m [] (inr a) = absurd a
asked_or_last n r m (x ∷ xs) (inl e) = inl (inl e)
asked_or_last n r m (x ∷ xs) (inr a) = ⊎_elim (λ t. inl (inr t)) (λ t. inr t) (asked_or_last n r m xs a)

pub seated_more : (n r : ℕ) (v w : View) → HasSeated n v → w ≡ after_ask n r v → HasSeated (n + 1) w
seated_more n r v w s e = record {
  first = ap (λ (z : View). z.first) e ∙ s.first;
  kept = ap (λ (z : View). z.kept) e ∙ s.kept;
  evicted = ap (λ (z : View). z.evicted) e ∙ s.evicted;
  loaded = ap (λ (z : View). z.loaded) e ∙ s.loaded;
  below = λ m a. ⊎_elim (λ t. let b = s.below m t in omega (arith, b)) (λ t. omega (arith, t)) (asked_or_last m r n v.asked (subst (λ (z : View). IsAsked m z.asked) e a));
}

armed_stop : (before after : Option (Option ℕ)) (stop : Option ℕ) (answers : List Answer) (ending : Ending) → IsArmedWith before stop after → KeepsLeft after answers ending → KeepToToldStop before stop answers ending
armed_stop None after stop answers ending a k = tt
armed_stop (Some left) after stop answers ending a k = subst (λ (z : Option (Option ℕ)). KeepsLeft z answers ending) a k

module _ {X : Type 0} {Y : X → Type 0} where
  -- ---- before they run

  seated_end : (p : Plan) (r : Row Scripts) (n m : ℕ) (xs : List (TeamCaller X Y)) (a : TeamCaller X Y) → Seated p r n xs → m ≡ n + length xs → IsSeat p r m a → Seated p r n (xs ++ a ∷ [])
  seated_end p r n m [] a s at one = (subst (λ (k : ℕ). IsSeat p r k a) (omega (arith, at)) one, tt)
  seated_end p r n m (x ∷ xs) a s at one = (s.0, seated_end p r (n + 1) m xs a s.1 (omega (arith, at)) one)

  pub seated_adds : (p : Plan) (r : Row Scripts) (n : ℕ) (xs ys : List (TeamCaller X Y)) (a : TeamCaller X Y) → Seated p r 0 xs → n ≡ length xs → ys ≡ xs ++ a ∷ [] → IsSeat p r n a → Seated p r 0 ys
  seated_adds p r n xs ys a s at is one = subst (Seated p r 0) (sym is) (seated_end p r 0 n xs a s (omega (arith, at)) one)

  pub seated_ready : (p : Plan) (r : Row Scripts) (n : ℕ) (xs : List (TeamCaller X Y)) → Seated p r n xs → Each (IsReady p r) xs
  seated_ready p r n [] s = tt
  seated_ready p r n (x ∷ xs) s = (s.0.ready, seated_ready p r (n + 1) xs s.1)

  -- ---- when they have run

  pub ran_at : (p : Plan) (r : Row Scripts) (xs ys : List (TeamCaller X Y)) → AllPaired (HasRun p r) xs ys → Each (IsAt r) ys
  ran_at p r [] [] b = tt
  ran_at p r [] (y ∷ ys) b = absurd b
  ran_at p r (x ∷ xs) [] b = absurd b
  ran_at p r (x ∷ xs) (y ∷ ys) b = (b.0.ends.seat, ran_at p r xs ys b.1)

  abbrev pub kept_in : List (TeamCaller X Y) → List KnownCaller
  kept_in [] = []
  kept_in (a ∷ others) = (sight_of a.caller).kept ++ kept_in others

  pub gathered_is : (v : View) (xs : List (TeamCaller X Y)) → ((gathered v xs).kept ≡ v.kept ++ kept_in xs) × ((gathered v xs).first ≡ v.first) × ((gathered v xs).asked ≡ v.asked) × ((gathered v xs).evicted ≡ v.evicted) × ((gathered v xs).loaded ≡ v.loaded)
  gathered_is v [] = (sym (append-nil v.kept), refl, refl, refl, refl)
  gathered_is v (a ∷ xs) = let h = gathered_is (after_join v (sight_of a.caller)) xs in (h.0 ∙ append_assoc v.kept (sight_of a.caller).kept (kept_in xs), h.1, h.2, h.3, h.4)

  -- each caller is kept, with what its lane leaves
  pub kept_so : (p : Plan) (r : Row Scripts) (n : ℕ) (xs ys : List (TeamCaller X Y)) → Seated p r n xs → AllPaired (HasRun p r) xs ys → (c i : ℕ) → c ≡ n + i → i < length ys
      → KeepsCallerWith c (KeepsCaller p (done_at r c) c (get_or (answers_in ys) i []) (get_or (endings_in ys) i Done)) (kept_in ys)
  kept_so p r n [] [] s b c i at lt = absurd (omega (arith, lt))
  kept_so p r n [] (y ∷ ys) s b c i at lt = absurd b
  kept_so p r n (x ∷ xs) [] s b c i at lt = absurd b
  kept_so p r n (x ∷ xs) (y ∷ ys) s b c zero at lt =
      let ran = b.0 in
      let number : y.number ≡ c = ran.number ∙ s.0.number ∙ omega (arith, at) in
      let first : y.first ≡ done_at r c = ran.first ∙ s.0.first ∙ ap (done_at r) (omega (arith, at)) in
      subst (λ (l : List KnownCaller). KeepsCallerWith c (KeepsCaller p (done_at r c) c y.answers.items y.ending) (l ++ kept_in ys)) (sym ran.ends.kept_is)
      (inl (
        ran.ends.number ∙ number,
        subst (λ (k : ℕ). KeepsCaller p (done_at r c) k y.answers.items y.ending ran.ends.kept) number (subst (λ (k : ℕ). KeepsCaller p k y.number y.answers.items y.ending ran.ends.kept) first ran.ends.keeps),
      ))
  kept_so p r n (x ∷ xs) (y ∷ ys) s b c (suc i) at lt =
      let later = kept_so p r (n + 1) xs ys s.1 b.1 c i (omega (arith, at)) (omega (arith, lt)) in
      subst (λ (l : List KnownCaller). KeepsCallerWith c (KeepsCaller p (done_at r c) c (get_or (answers_in ys) i []) (get_or (endings_in ys) i Done)) (l ++ kept_in ys)) (sym b.0.ends.kept_is) (inr later)

  -- ---- stops

  -- each caller keeps to the stop with which the brake at its place was armed; the brakes behind
  -- those of the lanes are of no caller
  pub keep_stops : {A : Type 0} (L : A → Option (Option ℕ)) (M : TeamCaller X Y → Option (Option ℕ)) (p : Plan) (r : Row Scripts) (e : Ended) (n : ℕ) (bs : List A) (xs ys : List (TeamCaller X Y)) → Seated p r n xs
      → PrefixPaired (λ b a. IsArmedWith (L b) (stop_of p a.number) (M a)) bs xs → AllPaired (λ a b. KeepsLeft (M a) b.answers.items b.ending) xs ys → p.callers ≡ n + length xs
      → ((i k : ℕ) → k ≡ n + i → i < length ys → (get_or e.answers k [] ≡ get_or (answers_in ys) i []) × (get_or e.endings k Done ≡ get_or (endings_in ys) i Done)) → KeepStops L p e n bs
  keep_stops L M p r e n [] xs ys s a b all at = tt
  keep_stops {A = A} L M p r e n (x ∷ bs) [] ys s a b all at = (λ lt. absurd (omega (arith, lt, all)), keep_none (n + 1) bs (omega (arith, all)))
    where
      keep_none : (n : ℕ) (bs : List A) → p.callers ≤ n → KeepStops L p e n bs
      keep_none n [] past = tt
      keep_none n (b ∷ bs) past = (λ lt. absurd (omega (arith, lt, past)), keep_none (n + 1) bs (omega (arith, past)))
  keep_stops L M p r e n (x ∷ bs) (a ∷ xs) [] s armed b all at = absurd b
  keep_stops L M p r e n (x ∷ bs) (a ∷ xs) (y ∷ ys) s armed b all at = (
    λ lt.
        let here = at 0 n (omega arith) (omega arith) in
        let stop : stop_of p a.number ≡ stop_of p n = ap (stop_of p) s.0.number in
        subst (λ (answers : List Answer). KeepToToldStop (L x) (stop_of p n) answers (get_or e.endings n Done)) (sym here.0)
        (subst (λ (ending : Ending). KeepToToldStop (L x) (stop_of p n) y.answers.items ending) (sym here.1)
        (subst (λ (o : Option ℕ). KeepToToldStop (L x) o y.answers.items y.ending) stop (armed_stop (L x) (M a) (stop_of p a.number) y.answers.items y.ending armed.0 b.0))),
    keep_stops L M p r e (n + 1) bs xs ys s.1 armed.1 b.1 (omega (arith, all)) (λ i k is lt. at (suc i) k (omega (arith, is)) (omega (arith, lt))),
  )
