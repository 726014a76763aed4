-- A history that has the calls of one caller alone is these calls, in their order.
use Rattle.std.proofs.Common.{◌≡◌, ◌≢◌, ℕ, zero, suc, ◌+◌, ◌-◌, ◌≤◌, ◌<◌, inl, inr, List, [], ◌∷◌, length, get_or, map, refl, sym, ap, subst, ◌∙◌, arith}
use Rattle.std.proofs.lemmas.Bool.{cases_lt}
use Rattle.std.proofs.lemmas.List.{ext_get_or, get_or-map, length-map}
use Rattle.of_script.specs.declared.instr.Instr.{Instr}
use Rattle.of_script.specs.Language.{instr_word}
use Rattle.of_store.specs.Store.{Store, run, last_store}
use Rattle.of_memory.specs.declared.memory.Memory.{Memory}
use Rattle.of_memory.specs.declared.saved.Saved.{Saved}
use Rattle.of_memory.specs.History.{HistoryEntry, Made, End, Replied, Spent, Lost, no_history_entry, no_made, store_after, ExplainsEnd, IsOneOf}
use Rattle.of_memory.specs.Memories.{HasOpenOf, LeadsTo, tickets_before}
use Rattle.of_memory.specs.Saving.{SavedHolds}
use Rattle.of_memory.specs.Joining.{EndsWithReply, HasMadeAlone, LoneCallsAreSaved}

-- numbers that rise from 1 to n, each of which is among them
module _ (f : ℕ → ℕ) (long n : ℕ) (rises : (p q : ℕ) → p < q → q < long → f p < f q) (some : (p : ℕ) → p < long → 1 ≤ f p) (few : (p : ℕ) → p < long → f p ≤ n) (place : ℕ → ℕ) (within : (y : ℕ) → y < n → place y < long) (is : (y : ℕ) → y < n → f (place y) ≡ y + 1) where
  high : (p : ℕ) → p < long → p + 1 ≤ f p
  high zero l = some 0 l
  high (suc p) l = omega (arith, high p (omega (arith, l)), rises p (suc p) (omega arith) l)

  next : (y : ℕ) → suc y < n → place y < place (suc y)
  next y l = elim (cases_lt (place y) (place (suc y))) [
    | inl lt ↦ lt
    | inr le ↦ elim (cases_lt (place (suc y)) (place y)) [
      | inl lt ↦ absurd (omega (arith, rises (place (suc y)) (place y) lt (within y (omega (arith, l))), is y (omega (arith, l)), is (suc y) l))
      | inr ge ↦
          let same : place (suc y) ≡ place y = omega (arith, le, ge) in
          absurd (omega (arith, ap f same, is y (omega (arith, l)), is (suc y) l))
    ]
  ]

  low : (y : ℕ) → y < n → y ≤ place y
  low zero l = omega arith
  low (suc y) l = omega (arith, low y (omega (arith, l)), next y l)

  pub place_is : (y : ℕ) → y < n → place y ≡ y
  place_is y l = omega (arith, low y l, high (place y) (within y l), is y l)

  pub count_is : long ≡ n
  count_is = elim (cases_lt n long) [
    | inl lt ↦ absurd (omega (arith, high n lt, few n lt))
    | inr le ↦ elim (cases_lt long n) [
      | inl lt ↦ absurd (omega (arith, within long lt, low long lt))
      | inr ge ↦ omega (arith, le, ge)
    ]
  ]

-- the store after a history is that after its scripts
replays : (s : Store) (h : List HistoryEntry) → store_after s h ≡ last_store s (map (λ (e : HistoryEntry). e.script) h)
replays s [] = refl
replays s (e ∷ h) = replays (run s e.script).0 h

-- a call that was answered is an entry
abbrev IsEntryOf : List HistoryEntry → (caller ticket : ℕ) → List Instr → Type 0
IsEntryOf h c t script = (p : ℕ) × (p < length h) × ((get_or h p no_history_entry).ticket ≡ t) × ((get_or h p no_history_entry).script ≡ script)

entry_of : (h : List HistoryEntry) (c t : ℕ) (script : List Instr) (end : End) → EndsWithReply end → ExplainsEnd h c t script end → IsEntryOf h c t script
entry_of h c t script (Replied r seq steps announced) is has = (has.0, has.1, ap (λ (e : HistoryEntry). e.ticket) has.2, ap (λ (e : HistoryEntry). e.script) has.2)
entry_of h c t script (Spent seq) is has = absurd is
entry_of h c t script (Lost seq) is has = absurd is

module _ (m : Memory) (n : ℕ) (ms : List Made) (alone : HasMadeAlone m n ms) (s : Store) (d : Saved) (h : List HistoryEntry) (leads : LeadsTo m s d h) where
  abbrev t : ℕ
  t = tickets_before m n

  abbrev entry : ℕ → HistoryEntry
  entry p = get_or h p no_history_entry

  of_none : (i : ℕ) (e : HistoryEntry) → IsOneOf (tickets_before m i) [] (HasOpenOf m i) e → ⊥
  of_none i e (inl one) = omega (arith, one.1)
  of_none i e (inr last) = alone.none_open i (map instr_word e.script) last.1.opened

  stranger : (p : ℕ) → p < length h → (entry p).caller ≢ n → ⊥
  stranger p l ne =
      let i = (entry p).caller in
      of_none i (entry p) (leads.only i [] (alone.others i (leads.callers p no_history_entry l) ne) p no_history_entry l refl)

  mine : (p : ℕ) → p < length h → (entry p).caller ≡ n
  mine p l = elim (cases_lt (entry p).caller n) [
    | inl lt ↦ absurd (stranger p l (omega (arith, lt)))
    | inr le ↦ elim (cases_lt n (entry p).caller) [
      | inl lt ↦ absurd (stranger p l (omega (arith, lt)))
      | inr ge ↦ omega (arith, le, ge)
    ]
  ]

  in_range : (e : HistoryEntry) → IsOneOf t ms (HasOpenOf m n) e → (t + 1 ≤ e.ticket) × (e.ticket ≤ t + length ms)
  in_range e (inl one) = (omega (arith, one.2), omega (arith, one.1, one.2))
  in_range e (inr last) = absurd (alone.none_open n (map instr_word e.script) last.1.opened)

  range_at : (p : ℕ) → p < length h → (t + 1 ≤ (entry p).ticket) × ((entry p).ticket ≤ t + length ms)
  range_at p l = in_range (entry p) (leads.only n ms alone.made p no_history_entry l (mine p l))

  rises : (p q : ℕ) → p < q → q < length h → (entry p).ticket - t < (entry q).ticket - t
  rises p q lt l =
      let low : p < length h = omega (arith, lt, l) in
      omega (arith, leads.order p q lt l (mine q l ∙ sym (mine p low)), (range_at p low).0)

  found : (y : ℕ) → y < length ms → IsEntryOf h n (t + y + 1) (get_or ms y no_made).script
  found y l = entry_of h n (t + y + 1) (get_or ms y no_made).script (get_or ms y no_made).ended (alone.replied y no_made l) (leads.made n ms alone.made y l)

  abbrev IsAt : ℕ → ℕ → Type 0
  IsAt y p = (p < length h) × ((entry p).ticket - t ≡ y + 1) × ((entry p).script ≡ (get_or ms y no_made).script)

  -- the place of each call, and some place where there is none
  placed : (y : ℕ) → (p : ℕ) × (y < length ms → IsAt y p)
  placed y = elim (cases_lt y (length ms)) [
    | inl lt ↦ let one = found y lt in (one.0, λ l. (one.1, omega (arith, one.2), one.3))
    | inr past ↦ (0, λ l. absurd (omega (arith, l, past)))
  ]

  place : ℕ → ℕ
  place y = (placed y).0

  at_place : (y : ℕ) → y < length ms → IsAt y (place y)
  unfolding place
  at_place y l = (placed y).1 l

  abbrev ticket : ℕ → ℕ
  ticket p = (entry p).ticket - t

  count : length h ≡ length ms
  count = count_is ticket (length h) (length ms) rises (λ p l. omega (arith, (range_at p l).0)) (λ p l. omega (arith, (range_at p l).1)) place (λ y l. (at_place y l).0) (λ y l. (at_place y l).1)

  script_at : (y : ℕ) → y < length ms → (entry y).script ≡ (get_or ms y no_made).script
  script_at y l =
      subst (λ (p : ℕ). (entry p).script ≡ (get_or ms y no_made).script)
      (place_is ticket (length h) (length ms) rises (λ p l. omega (arith, (range_at p l).0)) (λ p l. omega (arith, (range_at p l).1)) place (λ y l. (at_place y l).0) (λ y l. (at_place y l).1) y l)
      (at_place y l).2

  scripts : map (λ (e : HistoryEntry). e.script) h ≡ map (λ (x : Made). x.script) ms
  scripts = ext_get_or [] (map (λ (e : HistoryEntry). e.script) h) (map (λ (x : Made). x.script) ms)
      (length-map h (λ (e : HistoryEntry). e.script) ∙ count ∙ sym (length-map ms (λ (x : Made). x.script)))
      (λ y lt.
      let l : y < length h = omega (arith, lt, length-map h (λ (e : HistoryEntry). e.script)) in
      let low : y < length ms = omega (arith, l, count) in
      get_or-map (λ (e : HistoryEntry). e.script) h y no_history_entry [] l
      ∙ script_at y low
      ∙ sym (get_or-map (λ (x : Made). x.script) ms y no_made [] low))

  pub lone_store : SavedHolds d (last_store s (map (λ (x : Made). x.script) ms))
  lone_store = subst (SavedHolds d) (replays s h ∙ ap (last_store s) scripts) leads.ends

pub lone_calls_are_saved : LoneCallsAreSaved
lone_calls_are_saved m n ms d alone history s starts = let found = history s starts in lone_store m n ms alone s d found.0 found.1
