-- The callers of a memory at their places, and what a pass keeps that gathers them.
use Rattle.std.specs.Prelude.{is_some, not}
use Rattle.std.proofs.Common.{◌≡◌, ◌≢◌, ℕ, ◌+◌, ◌≤◌, ◌<◌, ◌⊎◌, inl, inr, Bool, true, false, List, [], ◌∷◌, ◌++◌, length, get_or, set, Option, Some, None, refl, sym, ap, subst, ◌∙◌, arith}
use Rattle.std.specs.List.{AllByRecursion as Each}
use Rattle.std.proofs.lemmas.Bool.{cases_lt}
use mathlib.Core.Bool.{true≢false}
use mathlib.Core.List.{IsPrefix}
use Rattle.std.proofs.lemmas.List.{get_or-set_same, get_or-set_other, get_or_append_left, get_or_past}
use Rattle.std.proofs.Math.Seq.{get_or-append_seam}
use Rattle.of_mem.specs.Meaning.{Meaning}
use Rattle.of_mem.proofs.Lists.{same_some, prefix_trans}
use Rattle.of_row.specs.declared.member.Member.{Member}
use Rattle.of_row.specs.declared.member.Pass.{Pass}
use Rattle.of_row.specs.declared.row.Row.{Row}
use Rattle.of_row.specs.Passes.{HasEnrolled, IsFirst}
use Rattle.of_row.specs.Rows.{key_of, setup_at, row_start}
use Rattle.of_row.specs.Gathered.{KeepsAsked}
use Rattle.of_row.specs.Rule.{IsAsked, IsCallerKept, open_call_count}
use Rattle.of_row.specs.Views.{KnownCaller, View, last_caller, seen_seq}
use Rattle.of_row.specs.Turned.{new_known_caller, StandsForMachine}
use Rattle.of_core.specs.Table.{Setup}
use Rattle.of_core.specs.declared.place.Place.{Place}
use Rattle.of_core.specs.Machine.{CallState, IsOpen, is_idle, MayReplace}
use Rattle.of_core.specs.Turn.{IsIdle}
use Rattle.of_core.specs.Events.{Event}
use Rattle.of_core.specs.MachineValue.{machine_setup}
use Rattle.of_caller.specs.declared.caller.Caller.{Caller}
use Rattle.of_caller.specs.Callers.{IsCaller, caller_call, calls_begun_by, sight_of}
use Rattle.of_caller.proofs.Behind.{ended_later}
use Rattle.of_cells.specs.Times.{calls_ended_in}
use Rattle.of_cells.specs.Serving.{KeepsSo, IsNew, Serves, ServeAll, Enrols, AllStand, AllHere, IsKeptOf, KeepsThose, KnowsPasts, KnowsMore, HasStartedIfOpen, made_before, events_known_to}

-- ---- the number of a caller

takes_caller : (S : Setup) (m d : CallState) → MayReplace S m d → d.caller ≡ m.caller
takes_caller S m d (inl e) = ap (λ (x : CallState). x.caller) e
takes_caller S m d (inr e) = ap (λ (x : CallState). x.caller) e.1

pub stands_caller : (S : Setup) (x : KnownCaller) (d : CallState) → StandsForMachine S x d → d.caller ≡ x.machine.caller
stands_caller S x d (inl t) = takes_caller S x.machine d t
stands_caller S x d (inr o) = ap (λ (y : CallState). y.caller) o.is ∙ takes_caller S x.machine o.begins o.takes

-- ---- numbers that a pass has asked for

asked_or_last : (n r m : ℕ) (xs : List (ℕ × ℕ)) → IsAsked n (xs ++ (r, m) ∷ []) → IsAsked n xs ⊎ (m ≡ n)
asked_or_last n r m [] (inl e) = inr e
asked_or_last n r m [] (inr a) = absurd a
asked_or_last n r m (x ∷ xs) (inl e) = inl (inl e)
asked_or_last n r m (x ∷ xs) (inr a) = later (asked_or_last n r m xs a)
  where
    later : IsAsked n xs ⊎ (m ≡ n) → IsAsked n (x ∷ xs) ⊎ (m ≡ n)
    later (inl t) = inl (inr t)
    later (inr t) = inr t

-- ---- lists of places

module _ {C : Type 0} where
  pub stand_more : (P : ℕ → C → Type 0) (n : ℕ) (cs ds : List (Option C)) (c : C) → length cs ≡ n → ds ≡ cs ++ Some c ∷ [] → AllStand P n cs → P n c → AllStand P (n + 1) ds
  stand_more P n cs ds c long is all p = subst (AllStand P (n + 1)) (sym is) go
    where
      go : AllStand P (n + 1) (cs ++ Some c ∷ [])
      go i lt = elim (cases_lt i n) [
        | inl low ↦
            let h = all i low in
            (h.0, get_or_append_left cs (Some c ∷ []) None i (omega (arith, low, long)) ∙ h.1, h.2)
        | inr high ↦
            let at : i ≡ n = omega (arith, lt, high) in
            (c, ap (λ (k : ℕ). get_or (cs ++ Some c ∷ []) k None) (at ∙ sym long) ∙ get_or-append_seam cs (Some c) [] None, subst (λ (k : ℕ). P k c) (sym at) p)
      ]

  pub here_more : (cs : List (Option C)) (i : ℕ) → AllHere cs i → (c : C) × (get_or cs i None ≡ Some c) → AllHere cs (i + 1)
  here_more cs i all one n lt = elim (cases_lt n i) [
    | inl low ↦ all n low
    | inr high ↦
        let at : n ≡ i = omega (arith, lt, high) in
        (one.0, ap (λ (k : ℕ). get_or cs k None) at ∙ one.1)
  ]

  pub one_there : (o : Option C) (b : Bool) → is_some o ≡ not b → b ≡ false → (c : C) × (o ≡ Some c)
  one_there None b e f = absurd (true≢false (sym (ap not f) ∙ sym e))
  one_there (Some c) b e f = (c, refl)

  pub none_there : (o : Option C) (b : Bool) → is_some o ≡ not b → b ≡ true → (c : C) × (o ≡ Some c) → ⊥
  none_there None b e f h = absurd (cc h.1)
  none_there (Some c) b e f h = absurd (true≢false (e ∙ ap not f))

  pub is_within : (cs : List (Option C)) (n : ℕ) (c : C) → get_or cs n None ≡ Some c → n < length cs
  is_within cs n c here = elim (cases_lt n (length cs)) [
    | inl low ↦ low
    | inr high ↦ let none : get_or cs n None ≡ None = get_or_past cs n None high in absurd (cc (none, here))
  ]

-- ---- what a pass keeps

pub keeps_left : (n : ℕ) (P : KnownCaller → Type 0) (xs ys : List KnownCaller) → KeepsSo n P xs → KeepsSo n P (xs ++ ys)
keeps_left n P [] ys k = absurd k
keeps_left n P (x ∷ xs) ys (inl h) = inl h
keeps_left n P (x ∷ xs) ys (inr h) = inr (keeps_left n P xs ys h)

pub keeps_right : (n : ℕ) (P : KnownCaller → Type 0) (xs ys : List KnownCaller) → KeepsSo n P ys → KeepsSo n P (xs ++ ys)
keeps_right n P [] ys k = k
keeps_right n P (x ∷ xs) ys k = inr (keeps_right n P xs ys k)

kept_is : (n : ℕ) (P : KnownCaller → Type 0) (xs : List KnownCaller) → KeepsSo n P xs → IsCallerKept n xs
kept_is n P [] k = absurd k
kept_is n P (x ∷ xs) (inl h) = inl h.0
kept_is n P (x ∷ xs) (inr h) = inr (kept_is n P xs h)

-- if all callers are here, one of each number is kept
pub keeps_asked : {W : Type 0} (cs : List (Option (Caller W))) (callers : ℕ) (v : View) → length cs ≡ callers → AllHere cs (length cs) → KeepsThose cs (length cs) v.kept → KeepsAsked callers v
keeps_asked cs callers v each here keeps n lt asked =
    let low : n < length cs = omega (arith, lt, each) in
    let one = here n low in
    kept_is n (IsKeptOf one.0) v.kept (keeps n one.0 low one.1)

-- the open machine that a member keeps is its caller's
pub open_same : (S : Setup) (x : KnownCaller) (d : CallState) → StandsForMachine S x d → IsOpen x.machine.place → x.machine ≡ d
open_same S x d (inl (inl e)) is_open = sym e
open_same S x d (inl (inr e)) is_open = absurd (true≢false (sym (ap is_idle e.0) ∙ is_open))
open_same S x d (inr o) is_open = absurd (true≢false (sym (ap is_idle o.at_rest) ∙ is_open))

module _ {W : Type 0} where
  pub enrols_first : (r : Row W) (p : Pass) → IsFirst r p → Enrols r 0 p
  enrols_first r p h = record {
    row = h.0;
    first = ap (λ (v : View). v.first) h.1;
    below = λ n a. absurd (subst (λ (v : View). IsAsked n v.asked) h.1 a);
  }

  module _ (meaning : W → Meaning) (r : Row W) where
    pub enrols_next : (n : ℕ) (before : Pass) (member : Member) (now : Pass) → Enrols r n before → HasEnrolled meaning r n before member now → Enrols r (n + 1) now
    enrols_next n before member now h e = record {
      row = e.at_row.1;
      first = ap (λ (v : View). v.first) e.pass_is ∙ h.first;
      below = λ m a. low m (asked_or_last m e.found n before.seat.me.0.asked (subst (λ (v : View). IsAsked m v.asked) e.pass_is a));
    }
      where
        low : (m : ℕ) → IsAsked m before.seat.me.0.asked ⊎ (n ≡ m) → m < n + 1
        low m (inl t) = let b = h.below m t in omega (arith, b)
        low m (inr t) = omega (arith, t)

    -- ---- a caller that has just been seated

    pub new_caller : (n : ℕ) (before : Pass) (member : Member) (now : Pass) (c : Caller W) → HasEnrolled meaning r n before member now
        → IsCaller meaning r c → c.member ≡ member → IsIdle (caller_call c) → calls_begun_by c ≡ member.made → IsNew meaning r n c
    new_caller n before member now c e is same rest begun = record {
      serves = record {
        caller = is;
        number = stands_caller (machine_setup meaning c.machine) is.member.0 (caller_call c) is.member.2 ∙ sym is.member.3 ∙ ap (λ (m : Member). m.number) same ∙ e.number;
        counts =
            let many : length (last_caller (sight_of c).kept).ended ≡ 0 = ap (λ (x : KnownCaller). length x.ended) kept in
            let none : open_call_count (is_idle (caller_call c).place) ≡ 0 = ap (λ (p : Place). open_call_count (is_idle p)) rest in
            omega (arith, begun, e.made, many, none);
        told = let many : length (last_caller (sight_of c).kept).ended ≡ 0 = ap (λ (x : KnownCaller). length x.ended) kept in omega (arith, many);
        started = λ is_open. absurd (true≢false (ap (λ (x : KnownCaller). is_idle x.machine.place) (sym kept) ∙ is_open));
      };
      none = ap (λ (x : KnownCaller). x.ended) kept;
      idle = rest;
    }
      where
        kept : last_caller (sight_of c).kept ≡ new_known_caller (setup_at meaning r) (row_start meaning r) n (seen_seq (row_start meaning r) before.seat.me.0.seen)
        kept = ap (λ (m : Member). last_caller m.seat.me.0.kept) same ∙ ap (λ (v : View). last_caller v.kept) e.member_is

    -- ---- callers at their places

    pub serve_new : (k : ℕ) (cs : List (Option (Caller W))) → length cs ≡ k → AllStand (IsNew meaning r) k cs → ServeAll meaning r cs
    serve_new k cs long all n c is =
        let low = is_within cs n c is in
        let h = all n (omega (arith, low, long)) in
        let same : h.0 ≡ c = same_some h.0 c (get_or cs n None) h.1 is in
        subst (Serves meaning r n) same h.2.serves

    -- a caller is taken out of its place
    pub serve_none : (cs : List (Option (Caller W))) (i : ℕ) → i < length cs → ServeAll meaning r cs → ServeAll meaning r (set cs i None)
    serve_none cs i lt all n c is = elim (cases_lt n i) [
      | inl low ↦ let ne : n ≢ i = omega arith in all n c (sym (get_or-set_other cs i n None None ne) ∙ is)
      | inr high ↦ elim (cases_lt i n) [
        | inl up ↦ let ne : n ≢ i = omega arith in all n c (sym (get_or-set_other cs i n None None ne) ∙ is)
        | inr down ↦
            let at : n ≡ i = omega (arith, high, down) in
            let none : get_or (set cs i None) n None ≡ None = ap (λ (k : ℕ). get_or (set cs i None) k None) at ∙ get_or-set_same cs i None None lt in
            absurd (cc (none, is))
      ]
    ]

    -- and put into it
    pub serve_some : (cs : List (Option (Caller W))) (i : ℕ) (k : Caller W) → i < length cs → ServeAll meaning r cs → Serves meaning r i k → ServeAll meaning r (set cs i (Some k))
    serve_some cs i k lt all s n c is = elim (cases_lt n i) [
      | inl low ↦ let ne : n ≢ i = omega arith in all n c (sym (get_or-set_other cs i n (Some k) None ne) ∙ is)
      | inr high ↦ elim (cases_lt i n) [
        | inl up ↦ let ne : n ≢ i = omega arith in all n c (sym (get_or-set_other cs i n (Some k) None ne) ∙ is)
        | inr down ↦
            let at : n ≡ i = omega (arith, high, down) in
            let some : get_or (set cs i (Some k)) n None ≡ Some k = ap (λ (j : ℕ). get_or (set cs i (Some k)) j None) at ∙ get_or-set_same cs i (Some k) None lt in
            let same : k ≡ c = cc (some, is) in
            subst (λ (j : ℕ). Serves meaning r j c) (sym at) (subst (Serves meaning r i) same s)
      ]
    ]

    -- ---- with the same calls, and knowing more, it serves as before

    pub later_ended : (es ds : List Event) (n : ℕ) → IsPrefix es ds → calls_ended_in (setup_at meaning r) (row_start meaning r) es n ≤ calls_ended_in (setup_at meaning r) (row_start meaning r) ds n
    later_ended es ds n more = ended_later meaning (λ w xs. Unit {0}) r es ds n more

    pub serves_same : (n : ℕ) (c k : Caller W) → Serves meaning r n c → IsCaller meaning r k → KnowsMore c k → Serves meaning r n k
    serves_same n c k s is same = record {
      caller = is;
      number = ap (λ (d : CallState). d.caller) same.call ∙ s.number;
      counts = subst (λ (z : CallState × List KnownCaller). z.0.made ≡ made_before meaning r n + length (last_caller z.1).ended + open_call_count (is_idle z.0.place)) (λ i. (sym same.call i, sym same.kept i)) s.counts;
      told =
          let low = s.told in
          let later = later_ended (events_known_to c) (events_known_to k) n same.past in
          let many : length (last_caller (sight_of k).kept).ended ≡ length (last_caller (sight_of c).kept).ended = ap (λ (xs : List KnownCaller). length (last_caller xs).ended) same.kept in
          omega (arith, low, later, many);
      started = subst (λ (xs : List KnownCaller). HasStartedIfOpen (last_caller xs)) (sym same.kept) s.started;
    }

    -- ---- a caller's number is one of the row's

    each_below : (x : KnownCaller) (xs : List KnownCaller) → xs ≡ x ∷ [] → Each (λ (y : KnownCaller). y.machine.caller < (key_of r).callers) xs → x.machine.caller < (key_of r).callers
    each_below x xs is all = (subst (Each (λ (y : KnownCaller). y.machine.caller < (key_of r).callers)) is all).0

    pub number_below : (n : ℕ) (c : Caller W) → Serves meaning r n c → n < (key_of r).callers
    number_below n c s =
        let is = s.caller in
        let low = each_below is.member.0 (sight_of c).kept is.member.1 is.row.3 in
        let at : is.member.0.machine.caller ≡ n = sym (stands_caller (machine_setup meaning c.machine) is.member.0 (caller_call c) is.member.2) ∙ s.number in
        omega (arith, low, at)

    pub keeps_own : (n : ℕ) (c : Caller W) → Serves meaning r n c → KeepsSo n (IsKeptOf c) (sight_of c).kept
    keeps_own n c s =
        let is = s.caller in
        let S : Setup = machine_setup meaning c.machine in
        let at : is.member.0.machine.caller ≡ n = sym (stands_caller S is.member.0 (caller_call c) is.member.2) ∙ s.number in
        let last : last_caller (sight_of c).kept ≡ is.member.0 = ap last_caller is.member.1 in
        subst (KeepsSo n (IsKeptOf c)) (sym is.member.1)
        (inl (at, record { ended = ap (λ (x : KnownCaller). x.ended) (sym last); open_call = open_same S is.member.0 (caller_call c) is.member.2 }))

  -- one place more
  pub kept_more : (fs : List (Option (Caller W))) (i : ℕ) (xs ys : List KnownCaller) → KeepsThose fs i xs → ((n : ℕ) (c : Caller W) → KeepsSo n (IsKeptOf c) xs → KeepsSo n (IsKeptOf c) ys)
      → ((c : Caller W) → get_or fs i None ≡ Some c → KeepsSo i (IsKeptOf c) ys) → KeepsThose fs (i + 1) ys
  kept_more fs i xs ys all others own n c lt here = elim (cases_lt n i) [
    | inl low ↦ others n c (all n c low here)
    | inr high ↦
        let at : n ≡ i = omega (arith, lt, high) in
        subst (λ (k : ℕ). KeepsSo k (IsKeptOf c) ys) (sym at) (own c (ap (λ (k : ℕ). get_or fs k None) (sym at) ∙ here))
  ]

  -- what the callers know of real time is known when they are gathered
  pub pasts_more : (fs : List (Option (Caller W))) (i : ℕ) (es ds : List Event) → KnowsPasts fs i es → IsPrefix es ds → ((c : Caller W) → get_or fs i None ≡ Some c → IsPrefix (sight_of c).past ds) → KnowsPasts fs (i + 1) ds
  pasts_more fs i es ds all more own n c lt here = elim (cases_lt n i) [
    | inl low ↦ prefix_trans (sight_of c).past es ds (all n c low here) more
    | inr high ↦ let at : n ≡ i = omega (arith, lt, high) in own c (ap (λ (k : ℕ). get_or fs k None) (sym at) ∙ here)
  ]
