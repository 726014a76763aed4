-- Of one caller a history has the calls that were answered, in their order.
use Rattle.std.proofs.Common.{◌≡◌, ◌≢◌, ℕ, zero, suc, ◌+◌, ◌<◌, ◌≤◌, ◌⊎◌, inl, inr, Bool, true, false, ◌==◌, if◌then◌else◌, List, [], ◌∷◌, length, get_or, refl, sym, ap, subst, ◌∙◌, arith}
use Rattle.std.specs.List.{All, AllByRecursion as Each}
use Rattle.std.proofs.lemmas.Bool.{cases_lt}
use Rattle.std.proofs.lemmas.Bool.Decides.{nat_tests}
use Rattle.of_script.specs.declared.instr.Instr.{Instr}
use Rattle.of_memory.specs.History.{HistoryEntry, no_history_entry, StandsInOrder, IsLater, End, Replied, Spent, Lost, Made, no_made, ExplainsEnd, ExplainsAll, IsOneOf, HasOnly}
use Rattle.example_bank.specs.Calls.{Call, calls_of, with_end, replied_in, IsNotLost}

-- ---- entries of one caller

abbrev pub entries_of : ℕ → List HistoryEntry → List HistoryEntry
entries_of n [] = []
entries_of n (e ∷ h) = if e.caller == n then e ∷ entries_of n h else entries_of n h

abbrev calls_in : List HistoryEntry → List Call
calls_in [] = []
calls_in (e ∷ es) = (e.script, e.reply) ∷ calls_in es

-- the entry is one of them
abbrev In : List HistoryEntry → HistoryEntry → Type 0
In [] e = ⊥
In (x ∷ es) e = (x ≡ e) ⊎ In es e

-- their tickets rise, from above this one
abbrev Rising : ℕ → List HistoryEntry → Type 0
Rising t [] = Unit {0}
Rising t (e ∷ es) = (t < e.ticket) × Rising e.ticket es

rises : (t : ℕ) (es : List HistoryEntry) (e : HistoryEntry) → Rising t es → In es e → t < e.ticket
rises t [] e rising is = absurd is
rises t (x ∷ es) e rising (inl same) = subst (λ (f : HistoryEntry). t < f.ticket) same rising.0
rises t (x ∷ es) e rising (inr is) = let low = rises x.ticket es e rising.1 is in omega (arith, low, rising.0)

-- the entries have the call that has ended so
abbrev EndIn : List HistoryEntry → (caller ticket : ℕ) → List Instr → End → Type 0
EndIn es n k script (Replied r seq steps announced) = In es (record { caller = n; ticket = k; script = script; reply = r })
EndIn es n k script (Spent seq) = Each (λ (e : HistoryEntry). e.ticket ≡ k → ⊥) es
EndIn es n k script (Lost seq) = ⊥

-- no call is open
abbrev pub NoneOpen : List Instr → Type 0
NoneOpen script = ⊥

module _ (n t : ℕ) (m : Made) (ms : List Made) where
  -- of entries above the first ticket each is a later call
  later_one : (e : HistoryEntry) → t + 1 < e.ticket → IsOneOf t (m ∷ ms) NoneOpen e → IsOneOf (t + 1) ms NoneOpen e
  later_one e low (inl (zero, lt, at, is)) = absurd (omega (arith, low, at))
  later_one e low (inl (suc y, lt, at, is)) = inl (y, omega (arith, lt), omega (arith, at), is)
  later_one e low (inr one) = absurd one.1

  later_ones : (u : ℕ) (es : List HistoryEntry) → t + 1 ≤ u → Rising u es → Each (IsOneOf t (m ∷ ms) NoneOpen) es → Each (IsOneOf (t + 1) ms NoneOpen) es
  later_ones u [] low rising only = tt
  later_ones u (e ∷ es) low rising only = (later_one e (omega (arith, low, rising.0)) only.0, later_ones e.ticket es (omega (arith, low, rising.0)) rising.1 only.1)

  later_end : (e : HistoryEntry) (es : List HistoryEntry) (y : ℕ) (script : List Instr) (end : End) → e.ticket ≡ t + 1 → EndIn (e ∷ es) n (t + suc y + 1) script end → EndIn es n (t + 1 + y + 1) script end
  later_end e es y script (Replied r seq steps announced) at (inl same) = absurd (omega (arith, at, ap (λ (f : HistoryEntry). f.ticket) same))
  later_end e es y script (Replied r seq steps announced) at (inr is) = subst (λ (k : ℕ). In es (record { caller = n; ticket = k; script = script; reply = r })) (omega arith) is
  later_end e es y script (Spent seq) at none = subst (λ (k : ℕ). Each (λ (f : HistoryEntry). f.ticket ≡ k → ⊥) es) (omega arith) none.1
  later_end e es y script (Lost seq) at lost = absurd lost

  end_at : (es : List HistoryEntry) (y : ℕ) (script : List Instr) (end : End) → EndIn es n (t + suc y + 1) script end → EndIn es n (t + 1 + y + 1) script end
  end_at es y script end is = subst (λ (k : ℕ). EndIn es n k script end) (omega arith) is

-- the entry of the least ticket is the first
first_is : (t : ℕ) (es : List HistoryEntry) (e : HistoryEntry) → Rising t es → In es e → e.ticket ≡ t + 1 → (others : List HistoryEntry) × (es ≡ e ∷ others)
first_is t [] e rising is at = absurd is
first_is t (x ∷ es) e rising (inl same) at = (es, ap (λ (f : HistoryEntry). f ∷ es) same)
first_is t (x ∷ es) e rising (inr is) at = let low = rises x.ticket es e rising.1 is in absurd (omega (arith, low, rising.0, at))

-- none has the least ticket
past_spent : (t : ℕ) (es : List HistoryEntry) → Rising t es → Each (λ (e : HistoryEntry). e.ticket ≡ t + 1 → ⊥) es → Rising (t + 1) es
past_spent t [] rising none = tt
past_spent t (e ∷ es) rising none = (elim (cases_lt (t + 1) e.ticket) [ inl low ↦ low | inr high ↦ absurd (none.0 (omega (arith, high, rising.0))) ], rising.1)

abbrev EndsIn : List HistoryEntry → (n t : ℕ) → List Made → Type 0
EndsIn es n t ms = (y : ℕ) → y < length ms → EndIn es n (t + y + 1) (get_or ms y no_made).script (get_or ms y no_made).ended

own_are : (n t : ℕ) (ms : List Made) (es : List HistoryEntry) → Rising t es → Each (IsOneOf t ms NoneOpen) es → EndsIn es n t ms → calls_in es ≡ replied_in ms
own_are n t [] [] rising only ends = refl
own_are n t [] (e ∷ es) rising (inl one, others) ends = absurd (omega (arith, one.1))
own_are n t [] (e ∷ es) rising (inr one, others) ends = absurd one.1
own_are n t (m ∷ ms) es rising only ends = go (λ others. own_are n (t + 1) ms others) m.ended refl
  where
    go : ((others : List HistoryEntry) → Rising (t + 1) others → Each (IsOneOf (t + 1) ms NoneOpen) others → EndsIn others n (t + 1) ms → calls_in others ≡ replied_in ms) → (end : End) → m.ended ≡ end → calls_in es ≡ with_end m.script m.ended (replied_in ms)
    go others_are (Replied r seq steps announced) is =
        let e : HistoryEntry = record { caller = n; ticket = t + 0 + 1; script = m.script; reply = r } in
        let here : In es e = subst (EndIn es n (t + 0 + 1) m.script) is (ends 0 (omega arith)) in
        let first = first_is t es e rising here (omega arith) in
        let up = subst (Rising t) first.1 rising in
        let all = subst (Each (IsOneOf t (m ∷ ms) NoneOpen)) first.1 only in
        let others : calls_in first.0 ≡ replied_in ms = others_are first.0 (subst (λ (k : ℕ). Rising k first.0) (omega arith) up.1) (later_ones n t m ms (t + 0 + 1) first.0 (omega arith) up.1 all.1)
        (λ y lt. later_end n t m ms e first.0 y (get_or ms y no_made).script (get_or ms y no_made).ended (omega arith) (subst (λ (l : List HistoryEntry). EndIn l n (t + suc y + 1) (get_or ms y no_made).script (get_or ms y no_made).ended) first.1 (ends (suc y) (omega (arith, lt))))) in
        ap calls_in first.1 ∙ ap (λ (l : List Call). (m.script, r) ∷ l) others ∙ sym (ap (λ (x : End). with_end m.script x (replied_in ms)) is)
    go others_are (Spent seq) is =
        let none : Each (λ (e : HistoryEntry). e.ticket ≡ t + 0 + 1 → ⊥) es = subst (EndIn es n (t + 0 + 1) m.script) is (ends 0 (omega arith)) in
        let up : Rising (t + 1) es = past_spent t es rising (subst (λ (k : ℕ). Each (λ (e : HistoryEntry). e.ticket ≡ k → ⊥) es) (omega arith) none) in
        let others : calls_in es ≡ replied_in ms = others_are es up (later_ones n t m ms (t + 1) es (omega arith) up only)
        (λ y lt. end_at n t m ms es y (get_or ms y no_made).script (get_or ms y no_made).ended (ends (suc y) (omega (arith, lt)))) in
        others ∙ sym (ap (λ (x : End). with_end m.script x (replied_in ms)) is)
    go others_are (Lost seq) is = absurd (subst (EndIn es n (t + 0 + 1) m.script) is (ends 0 (omega arith)))

-- ---- the entries of a caller in a history

each_of : (P : HistoryEntry → Type 0) (h : List HistoryEntry) → ((i : ℕ) → i < length h → P (get_or h i no_history_entry)) → Each P h
each_of P [] all = tt
each_of P (e ∷ h) all = (all 0 (omega arith), each_of P h (λ i lt. all (suc i) (omega (arith, lt))))

in_order : (e : HistoryEntry) (h : List HistoryEntry) → StandsInOrder (e ∷ h) → StandsInOrder h
in_order e h order p q less lt = order (suc p) (suc q) (omega (arith, less)) (omega (arith, lt))

later_than : (e : HistoryEntry) (h : List HistoryEntry) → StandsInOrder (e ∷ h) → Each (IsLater e) h
later_than e h order = each_of (IsLater e) h (λ i lt. order 0 (suc i) (omega arith) (omega (arith, lt)))

module _ (n : ℕ) where
  abbrev above : (t : ℕ) (e : HistoryEntry) → Type 0
  above t e = e.caller ≡ n → t < e.ticket

  abbrev with_entry : Bool → HistoryEntry → List HistoryEntry → List HistoryEntry
  with_entry b e es = if b then e ∷ es else es

  is_later : (e : HistoryEntry) (h : List HistoryEntry) → e.caller ≡ n → Each (IsLater e) h → Each (above e.ticket) h
  is_later e [] mine later = tt
  is_later e (f ∷ h) mine later = ((λ at. later.0 (at ∙ sym mine)), is_later e h mine later.1)

  rising_of : (t : ℕ) (h : List HistoryEntry) → StandsInOrder h → Each (above t) h → Rising t (entries_of n h)
  rising_of t [] order up = tt
  rising_of t (e ∷ h) order up = go (λ u. rising_of u h (in_order e h order)) (e.caller == n) refl
    where
      go : ((u : ℕ) → Each (above u) h → Rising u (entries_of n h)) → (b : Bool) → (e.caller == n) ≡ b → Rising t (with_entry b e (entries_of n h))
      go others true is = let mine : e.caller ≡ n = grind (arith, nat_tests) in (up.0 mine, others e.ticket (is_later e h mine (later_than e h order)))
      go others false is = others t up.1

  each_own : (P : HistoryEntry → Type 0) (h : List HistoryEntry) → Each (λ (e : HistoryEntry). e.caller ≡ n → P e) h → Each P (entries_of n h)
  each_own P [] all = tt
  each_own P (e ∷ h) all = go (each_own P h all.1) (e.caller == n) refl
    where
      go : Each P (entries_of n h) → (b : Bool) → (e.caller == n) ≡ b → Each P (with_entry b e (entries_of n h))
      go others true is = let mine : e.caller ≡ n = grind (arith, nat_tests) in (all.0 mine, others)
      go others false is = others

  in_own : (h : List HistoryEntry) (e : HistoryEntry) → e.caller ≡ n → (p : ℕ) → p < length h → get_or h p no_history_entry ≡ e → In (entries_of n h) e
  in_own [] e mine p lt is = absurd (omega (arith, lt))
  in_own (f ∷ h) e mine zero lt is = go (f.caller == n) refl
    where
      go : (b : Bool) → (f.caller == n) ≡ b → In (with_entry b f (entries_of n h)) e
      go true at = inl is
      go false at = let other : f.caller ≢ n = grind (arith, nat_tests) in absurd (other (ap (λ (x : HistoryEntry). x.caller) is ∙ mine))
  in_own (f ∷ h) e mine (suc p) lt is = go (f.caller == n) (in_own h e mine p (omega (arith, lt)) is)
    where
      go : (b : Bool) → In (entries_of n h) e → In (with_entry b f (entries_of n h)) e
      go true found = inr found
      go false found = found

  calls_are : (h : List HistoryEntry) → calls_of n h ≡ calls_in (entries_of n h)
  calls_are [] = refl
  calls_are (e ∷ h) = go (e.caller == n) (calls_are h)
    where
      go : (b : Bool) → calls_of n h ≡ calls_in (entries_of n h) → (if b then (e.script, e.reply) ∷ calls_of n h else calls_of n h) ≡ calls_in (with_entry b e (entries_of n h))
      go true same = ap (λ (l : List Call). (e.script, e.reply) ∷ l) same
      go false same = same

  above_of : (t : ℕ) (ms : List Made) (e : HistoryEntry) → IsOneOf t ms NoneOpen e → t < e.ticket
  above_of t ms e (inl one) = omega (arith, one.1)
  above_of t ms e (inr one) = absurd one.1

  end_in : (h : List HistoryEntry) (k : ℕ) (script : List Instr) (end : End) → IsNotLost end → ExplainsEnd h n k script end → EndIn (entries_of n h) n k script end
  end_in h k script (Replied r seq steps announced) not found = in_own h _ refl found.0 found.1 found.2
  end_in h k script (Spent seq) not none = each_own (λ (e : HistoryEntry). e.ticket ≡ k → ⊥) h (each_of (λ (e : HistoryEntry). e.caller ≡ n → e.ticket ≡ k → ⊥) h (λ i lt. none i no_history_entry lt))
  end_in h k script (Lost seq) not explained = absurd not

  -- If a history has the calls of a caller as they have ended, and no other of it, and none of them
  -- was lost, then its calls there are those that were answered, in their order.
  pub own_calls : (t : ℕ) (ms : List Made) (h : List HistoryEntry) → StandsInOrder h → All (λ (m : Made). IsNotLost m.ended) ms → ExplainsAll h n t ms → HasOnly h n t ms NoneOpen → calls_of n h ≡ replied_in ms
  own_calls t ms h order none_lost all only =
      let one : HistoryEntry → Type 0 = λ e. e.caller ≡ n → IsOneOf t ms NoneOpen e in
      let each : Each one h = each_of one h (λ i lt. only i no_history_entry lt) in
      let up : Each (above t) h = each_of (above t) h (λ i lt mine. above_of t ms (get_or h i no_history_entry) (only i no_history_entry lt mine)) in
      calls_are h
      ∙ own_are n t ms (entries_of n h) (rising_of t h order up) (each_own (IsOneOf t ms NoneOpen) h each)
      (λ y lt. end_in h (t + y + 1) (get_or ms y no_made).script (get_or ms y no_made).ended (none_lost y no_made lt) (all y lt))
