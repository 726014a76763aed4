-- Each step on a door keeps its rule.
use Rattle.std.proofs.Common.{◌≡◌, ◌≢◌, ℕ, zero, suc, ◌<◌, ◌⊎◌, inl, inr, ⊎_elim, true, false, List, [], ◌∷◌, ◌++◌, length, get_or, set, Option, Some, None, refl, sym, ◌∙◌, ap, subst, arith, eqb}
use Rattle.std.proofs.lemmas.Bool.{true≢false}
use mathlib.Core.Option.{some, some-injective, some-ne-none}
use mathlib.Core.Option as maybe
use lib.ListN.{get_elem?}
use prog.Atomic.{either}
use Rattle.atomic_table.specs.Table.{State, Me, Act, keeps, takes, gives, Valid, Allows, Splits, rest, stepped, homes_after, carried_after}
use Rattle.atomic_table.proofs.Lists.{at_set, set_again, exchanged}
use Rattle.of_row.specs.declared.member.Member.{Member}
use Rattle.of_row.specs.declared.row.Row.{Row}
use Rattle.of_row.specs.Views.{last_caller}
use Rattle.of_row.specs.Rows.{IsSeatOf, HasNoCall}
use Rattle.of_row.specs.Turned.{after_tell}
use Rattle.of_door.specs.Hands.{HandLog, log_after_exchange, after_store}
use Rattle.of_door.specs.Rule.{SlotHolds, SlotMatchesWord, IsMemberAtDoor, IsMemberAtToldDoor, DoorMeetsRule, TakesSlot, GivesSlotBack}

module _ (May : Member → Type 0) where
  -- the rule where one view was changed for one that doesn't hold the slot, and so no other does
  module _ (s : State (Option Member) HandLog) (r : DoorMeetsRule May s) (id : ℕ) (v : HandLog) (at : get_elem? s.views id ≡ some v) where
    -- no hand holds the slot while the word isn't 2
    calm : r.word ≢ 2 → (j : ℕ) (u : HandLog) → get_elem? s.views j ≡ some u → u.holds ≡ true → ⊥
    calm ne j u e h = ne (r.out j u e h)

    -- a miss, and a hit that takes what stands there
    missed : (n : ℕ) → v.holds ≡ false → DoorMeetsRule May record { words = s.words; homes = s.homes; views = set s.views id (log_after_exchange n false v) }
    missed n free = record {
      word = r.word;
      words = r.words;
      home = r.home;
      out = λ j u e h. ⊎_elim (λ (t : (j ≡ id) × (log_after_exchange n false v ≡ u)). absurd (let z : false ≡ true = ap (λ (x : HandLog). x.holds) t.1 ∙ h in cc)) (λ (t : (j ≢ id) × (get_elem? s.views j ≡ some u)). r.out j u t.1 h) (at_set s.views id j (log_after_exchange n false v) u e);
      one = λ j k u w e f h g. ⊎_elim (λ (t : (j ≡ id) × (log_after_exchange n false v ≡ u)). absurd (let z : false ≡ true = ap (λ (x : HandLog). x.holds) t.1 ∙ h in cc))
          (λ (t : (j ≢ id) × (get_elem? s.views j ≡ some u)). ⊎_elim (λ (q : (k ≡ id) × (log_after_exchange n false v ≡ w)). absurd (let z : false ≡ true = ap (λ (x : HandLog). x.holds) q.1 ∙ g in cc)) (λ (q : (k ≢ id) × (get_elem? s.views k ≡ some w)). r.one j k u w t.1 q.1 h g) (at_set s.views id k (log_after_exchange n false v) w f))
          (at_set s.views id j (log_after_exchange n false v) u e);
    }

    hit : (n : ℕ) → r.word ≢ 2 → (homes : List (maybe.Option (Option Member))) → homes ≡ maybe.none ∷ [] → DoorMeetsRule May record { words = 2 ∷ []; homes = homes; views = set s.views id (log_after_exchange n true v) }
    hit n ne homes away = record {
      word = 2;
      words = refl;
      home = inr (inr (refl, away));
      out = λ j u e h. refl;
      one = λ j k u w e f h g. only j u e h ∙ sym (only k w f g);
    }
      where
        only : (j : ℕ) (u : HandLog) → get_elem? (set s.views id (log_after_exchange n true v)) j ≡ some u → u.holds ≡ true → j ≡ id
        only j u e h = ⊎_elim (λ (t : (j ≡ id) × (log_after_exchange n true v ≡ u)). t.0) (λ (t : (j ≢ id) × (get_elem? s.views j ≡ some u)). absurd (calm ne j u t.1 h)) (at_set s.views id j (log_after_exchange n true v) u e)

    -- the holder gives the slot back
    given : (n : ℕ) → v.holds ≡ true → (homes : List (maybe.Option (Option Member))) → SlotMatchesWord May n homes → DoorMeetsRule May record { words = n ∷ []; homes = homes; views = set s.views id (after_store n v) }
    given n mine homes stands = record { word = n; words = refl; home = stands; out = λ j u e h. absurd (nobody j u e h); one = λ j k u w e f h g. absurd (nobody j u e h) }
      where
        nobody : (j : ℕ) (u : HandLog) → get_elem? (set s.views id (after_store n v)) j ≡ some u → u.holds ≡ true → ⊥
        nobody j u e h = ⊎_elim (λ (t : (j ≡ id) × (after_store n v ≡ u)). let z : false ≡ true = ap (λ (x : HandLog). x.holds) t.1 ∙ h in cc) (λ (t : (j ≢ id) × (get_elem? s.views j ≡ some u)). t.0 (r.one j id u v t.1 at h mine)) (at_set s.views id j (after_store n v) u e)

  -- an exchange to 2
  pub takes_slot : (id old : ℕ) (me : Me (Option Member) HandLog) → old < 2 → me.0.holds ≡ false → Allows (DoorMeetsRule May) 1 id me 0 (λ n. either (eqb n old) 2 n) (λ n after. TakesSlot May old me n after)
  takes_slot id old me low free s r long at small = exchanged w old 2 Goes by_hit by_miss
    where
      w : ℕ
      w = get_or s.words 0 0

      word_is : w ≡ r.word
      word_is = ap (λ (xs : List ℕ). get_or xs 0 0) r.words

      Goes : ℕ → Type 0
      Goes x = (v : HandLog) × (a : Act (Option Member)) × Valid s.homes me.1 a × DoorMeetsRule May (stepped s 0 x id me.1 v a) × TakesSlot May old me w (v, carried_after me.1 a)

      by_miss : w ≢ old → Goes w
      by_miss ne =
          let same : set s.words 0 w ≡ s.words = ap (λ (xs : List ℕ). set xs 0 (get_or xs 0 0)) r.words ∙ sym r.words in
          (log_after_exchange w false me.0, keeps, tt, subst (λ (ws : List ℕ). DoorMeetsRule May record { words = ws; homes = s.homes; views = set s.views id (log_after_exchange w false me.0) }) (sym same) (missed s r id me.0 at w free), (λ e. absurd (ne e), λ _. refl))

      -- what stands there
      found : w ≡ old → (x : Option Member) × SlotHolds May old x × (s.homes ≡ some x ∷ [])
      found e = go r.home
        where
          is : r.word ≡ old
          is = sym word_is ∙ e

          go : SlotMatchesWord May r.word s.homes → (x : Option Member) × SlotHolds May old x × (s.homes ≡ some x ∷ [])
          go (inl q) = (None, (λ _. refl, λ o. absurd (omega (arith, o, is, q.0))), q.1)
          go (inr (inl q)) = (Some q.1.0, (λ o. absurd (omega (arith, o, is, q.0)), λ _. (q.1.0, refl, q.1.1)), q.1.2)
          go (inr (inr q)) = absurd (omega (arith, low, is, q.0))

      by_hit : w ≡ old → Goes 2
      by_hit e =
          let f = found e in
          let words : set s.words 0 2 ≡ 2 ∷ [] = ap (λ (xs : List ℕ). set xs 0 2) r.words in
          let ne : r.word ≢ 2 = λ two. absurd (omega (arith, low, two, word_is, e)) in
          let homes : set s.homes 0 maybe.none ≡ maybe.none ∷ [] = ap (λ (hs : List (maybe.Option (Option Member))). set hs 0 maybe.none) f.2 in (
            log_after_exchange w true me.0,
            takes 0 f.0,
            ap (λ (hs : List (maybe.Option (Option Member))). get_elem? hs 0) f.2,
            subst (λ (ws : List ℕ). DoorMeetsRule May record { words = ws; homes = set s.homes 0 maybe.none; views = set s.views id (log_after_exchange w true me.0) }) (sym words) (hit s r id me.0 at w ne (set s.homes 0 maybe.none) homes),
            (λ _. (f.0, f.1, refl), λ no. absurd (no e)),
          )

  -- a store by the hand that holds the slot
  puts_at : (n : ℕ) (x : Option Member) → n < 2 → SlotHolds May n x → SlotMatchesWord May n (some x ∷ [])
  puts_at zero x low h = inl (refl, ap (λ (y : Option Member). some y ∷ []) (h.0 refl))
  puts_at (suc zero) x low h = let m = h.1 refl in inr (inl (refl, (m.0, m.2, ap (λ (y : Option Member). some y ∷ []) m.1)))
  puts_at (suc (suc n)) x low h = absurd (omega arith)

  pub puts_slot : (id n : ℕ) (me : Me (Option Member) HandLog) (x : Option Member) → me.1 ≡ (0, x) ∷ [] → me.0.holds ≡ true → n < 2 → SlotHolds May n x → Allows (DoorMeetsRule May) 1 id me 0 (λ _. n) (λ _ after. GivesSlotBack n me after)
  puts_slot id n me x one mine low stands s r long at small =
      let words : set s.words 0 n ≡ n ∷ [] = ap (λ (xs : List ℕ). set xs 0 n) r.words in
      let homes : homes_after s.homes me.1 gives ≡ some x ∷ [] = ap (λ (c : List (ℕ × Option Member)). homes_after s.homes c gives) one ∙ away r.home in
      (after_store n me.0, gives, tt, subst (λ (ws : List ℕ). DoorMeetsRule May record { words = ws; homes = homes_after s.homes me.1 gives; views = set s.views id (after_store n me.0) }) (sym words) (given s r id me.0 at n mine (homes_after s.homes me.1 gives) (subst (SlotMatchesWord May n) (sym homes) (puts_at n x low stands))), refl)
    where
      two : r.word ≡ 2
      two = r.out id me.0 at mine

      away : SlotMatchesWord May r.word s.homes → set s.homes 0 (some x) ≡ some x ∷ []
      away (inl q) = absurd (omega (arith, two, q.0))
      away (inr (inl q)) = absurd (omega (arith, two, q.0))
      away (inr (inr q)) = ap (λ (hs : List (maybe.Option (Option Member))). set hs 0 (some x)) q.1

  -- a second hand
  pub doubles : (id : ℕ) (v : HandLog) → v.holds ≡ false → Splits (DoorMeetsRule May) id v v v
  doubles id v free s r at =
      let same : set s.views id v ≡ s.views = set_again s.views id v at in
      subst (λ (vs : List HandLog). DoorMeetsRule May record { words = s.words; homes = s.homes; views = vs ++ v ∷ [] }) (sym same) record {
        word = r.word;
        words = r.words;
        home = r.home;
        out = λ j u e h. ⊎_elim (λ (t : (j < length s.views) × (get_elem? s.views j ≡ some u)). r.out j u t.1 h) (λ (t : (j ≡ length s.views) × (v ≡ u)). absurd (true≢false (sym (ap (λ (x : HandLog). x.holds) t.1 ∙ h) ∙ free))) (at_end s.views v u j e);
        one = λ j k u w e f h g. ⊎_elim
            (λ (t : (j < length s.views) × (get_elem? s.views j ≡ some u)). ⊎_elim (λ (q : (k < length s.views) × (get_elem? s.views k ≡ some w)). r.one j k u w t.1 q.1 h g) (λ (q : (k ≡ length s.views) × (v ≡ w)). absurd (true≢false (sym (ap (λ (x : HandLog). x.holds) q.1 ∙ g) ∙ free))) (at_end s.views v w k f))
            (λ (t : (j ≡ length s.views) × (v ≡ u)). absurd (true≢false (sym (ap (λ (x : HandLog). x.holds) t.1 ∙ h) ∙ free)))
            (at_end s.views v u j e);
      }
    where
      at_end : (l : List HandLog) (a b : HandLog) (j : ℕ) → get_elem? (l ++ a ∷ []) j ≡ some b → ((j < length l) × (get_elem? l j ≡ some b)) ⊎ ((j ≡ length l) × (a ≡ b))
      at_end [] a b zero e = inr (refl, some-injective a b e)
      at_end [] a b (suc j) e = absurd (some-ne-none b (sym e))
      at_end (x ∷ xs) a b zero e = inl (omega arith, e)
      at_end (x ∷ xs) a b (suc j) e = ⊎_elim (λ t. inl (omega (arith, t.0), t.1)) (λ t. inr (ap suc t.0, t.1)) (at_end xs a b j e)

-- the same with the row and the number as the step is told them
pub takes_for : {W : Type 0} (r : Row W) (number : ℕ) (told : Option (Row W)) → Some r ≡ told → (n : ℕ) → number ≡ n → (slots : ℕ) → slots ≡ 1 → (id old : ℕ) (me : Me (Option Member) HandLog) → old < 2 → me.0.holds ≡ false
    → Allows (DoorMeetsRule (IsMemberAtDoor r number)) slots id me 0 (λ n. either (eqb n old) 2 n) (λ k after. TakesSlot (IsMemberAtToldDoor told n) old me k after)
takes_for {W} r number told is n same slots one id old me low free =
    subst (λ (z : Option (Row W) × ℕ × ℕ). Allows (DoorMeetsRule (IsMemberAtDoor r number)) z.2 id me 0 (λ n. either (eqb n old) 2 n) (λ k after. TakesSlot (IsMemberAtToldDoor z.0 z.1) old me k after)) (λ i. (is i, same i, sym one i)) (takes_slot (IsMemberAtDoor r number) id old me low free)

abbrev carry : Option Member → List (ℕ × Option Member) → List (ℕ × Option Member)
carry x c = (0, x) ∷ c

-- a store, by a hand that has exchanged the word, and has put x into the slot
pub puts_for : (May : Member → Type 0) (slots : ℕ) → slots ≡ 1 → (id n found : ℕ) (me taken now : Me (Option Member) HandLog) (was x : Option Member) → me.1 ≡ [] → taken ≡ (log_after_exchange found true me.0, (0, was) ∷ me.1) → now ≡ (taken.0, (0, x) ∷ rest taken.1)
    → n < 2 → SlotHolds May n x → Allows (DoorMeetsRule May) slots id now 0 (λ _. n) (λ _ after. GivesSlotBack n now after)
puts_for May slots one id n found me taken now was x free took put low stands =
    let carried : now.1 ≡ (0, x) ∷ [] = ap (λ (m : Me (Option Member) HandLog). m.1) put ∙ ap (λ (m : Me (Option Member) HandLog). carry x (rest m.1)) took ∙ ap (λ (c : List (ℕ × Option Member)). carry x c) free in
    let mine : now.0.holds ≡ true = ap (λ (m : Me (Option Member) HandLog). m.0.holds) put ∙ ap (λ (m : Me (Option Member) HandLog). m.0.holds) took in
    subst (λ (k : ℕ). Allows (DoorMeetsRule May) k id now 0 (λ _. n) (λ _ after. GivesSlotBack n now after)) (sym one) (puts_slot May id n now x carried mine low stands)

-- a member that parted may stand here, as it might before
pub parted_rests : {W : Type 0} (r here : Row W) (number : ℕ) (m now : Member) → r ≡ here → m.number ≡ number → HasNoCall m → IsSeatOf here now.seat → now.seat.me.0 ≡ after_tell m.seat.me.0 → now.number ≡ m.number → SlotHolds (IsMemberAtDoor r number) 1 (Some now)
parted_rests {W} r here number m now same is rest at view number_is = (
  λ z. cc,
  λ _. (now, refl, (subst (λ (x : Row W). IsSeatOf x now.seat) (sym same) at, number_is ∙ is, ap (λ v. (last_caller v.kept).machine.place) view ∙ rest)),
)

pub nobody_there : (May : Member → Type 0) → SlotHolds May 0 None
nobody_there May = (λ _. refl, λ z. cc)
