-- All clerks together, one day and two.
use Rattle.std.proofs.Common.{◌≡◌, ℕ, zero, suc, ◌+◌, ◌<◌, ◌≤◌, inl, inr, ◌==◌, Bool, true, false, if◌then◌else◌, List, [], ◌∷◌, ◌++◌, length, get_or, take, Option, Some, None, refl, sym, ap, subst, ◌∙◌, arith}
use Rattle.std.specs.List.{All}
use Rattle.std.specs.Prelude.{sum}
use Rattle.std.proofs.lemmas.Bool.{cases_lt, true≢false}
use Rattle.std.proofs.lemmas.Bool.Decides.{nat_tests}
use Rattle.std.proofs.lemmas.List.{get_or-append-add, length-append, ext_get_or}
use Rattle.std.proofs.lemmas.List.Elements.{All-append, All-take, All-head, All-tail}
use Rattle.of_script.specs.declared.instr.Instr.{Instr}
use Rattle.of_script.specs.declared.instr.TheConstants.{REGISTERS}
use Rattle.of_store.specs.Store.{Store}
use Rattle.of_cells.specs.declared.error.RunError.{RunError}
use Rattle.of_memory.specs.declared.memory.Memory.{Memory}
use Rattle.of_memory.specs.declared.saved.Saved.{Saved}
use Rattle.of_memory.specs.History.{HistoryEntry, store_after, IsOneOf}
use Rattle.of_memory.specs.Joining.{HistoriesJoin}
use Rattle.of_memory.specs.Memories.{HasMadeOf, HasOpenOf, HasNoneOpen, HasHistory, IsStill, LeadsTo, StartsWith, callers_of, tickets_before}
use Rattle.of_memory.specs.Saving.{SavedHolds, saved_ticket}
use Rattle.of_memory.specs.Tasks.{HaveWorked, KnowsRest, KnowsSame}
use Rattle.example_bank.specs.declared.clerk.Clerk.{Clerk}
use Rattle.example_bank.specs.Transfers.{IsTransfer, KeepsMoney}
use Rattle.example_bank.specs.Calls.{calls_of, scripts_in}
use Rattle.example_bank.specs.Clerks.{scripts_of, counted, Counts, IsStopped, IsEarly}
use Rattle.example_bank.specs.Days.{LeadsBy, GoOnWithJobs, HaveEnded, CanSettle, HaveSettled}
use Rattle.example_bank.proofs.Counts.{calls_join}
use Rattle.example_bank.proofs.Clerks.{counts_join}
use Rattle.example_bank.proofs.Evenings.{Does, are_transfers, goes_on, has_ended, has_worked}
use Rattle.example_bank.proofs.Money.{history_keeps}

early : (end : Option RunError) → IsStopped end → IsEarly end
early None stopped = stopped
early (Some e) stopped = tt

-- ---- a day

module _ (c : Saved) (m k : Memory) (xs ys : List Clerk) (few : length xs ≤ callers_of m) (goes : (s : Store) → SavedHolds c s → StartsWith m s) (tickets : (n : ℕ) → n < callers_of m → tickets_before m n ≡ saved_ticket c n)
    (none : (n : ℕ) → n < callers_of m → HasMadeOf m n []) (idle : HasNoneOpen m) (still : IsStill m k) (worked : HaveWorked Does m k xs ys) (rest : KnowsRest (length xs) m k) (same_callers : callers_of k ≡ callers_of m) (starts : (s : Store) → StartsWith m s → StartsWith k s) where
  pub can_settle : CanSettle ys
  can_settle n x lt stopped =
      let low : n < length xs = omega (arith, lt, worked.count) in
      let one = has_worked c m k n (get_or xs n x) (get_or ys n x) (tickets n (omega (arith, low, few))) still (none n (omega (arith, low, few))) idle (worked.each n x low) in
      one.0.left (early (get_or ys n x).end stopped)

  module _ (d : Saved) (zs : List Clerk) (settled : HaveSettled (length ys) c d ys zs) where
    pub have_ended : HaveEnded c xs zs
    have_ended n x low =
        has_ended c m k n (get_or xs n x) (get_or ys n x) (tickets n (omega (arith, low, few))) still (none n (omega (arith, low, few))) idle (worked.each n x low) d (get_or zs n x)
        (settled.each n x (omega (arith, low, worked.count)))

    -- numbers that no clerk has make no call
    no_other : (s : Store) (h : List HistoryEntry) → LeadsTo k s d h → (i : ℕ) (e : HistoryEntry) → i < length h → length xs ≤ (get_or h i e).caller → ⊥
    no_other s h leads i e lt high = not (leads.only (get_or h i e).caller [] (same.made [] (none (get_or h i e).caller (omega (arith, low, same_callers)))) i e lt refl)
      where
        low : (get_or h i e).caller < callers_of k
        low = leads.callers i e lt

        same : KnowsSame (get_or h i e).caller m k
        same = rest (get_or h i e).caller high

        not : IsOneOf (tickets_before k (get_or h i e).caller) [] (HasOpenOf k (get_or h i e).caller) (get_or h i e) → ⊥
        not (inl (y, less, at, is)) = omega (arith, less)
        not (inr (at, opened)) = idle (get_or h i e).caller _ (same.only_open (get_or h i e).script opened).opened

    pub go_on : HasHistory k d → GoOnWithJobs c d xs zs
    go_on history s holds =
        let found = history s (starts s (goes s holds)) in
        let h = found.0 in
        let leads = found.1 in (
          h,
          record {
            serial = leads.serial;
            ends = leads.ends;
            callers = λ i e lt. elim (cases_lt (get_or h i e).caller (length xs)) [ inl low ↦ low | inr high ↦ absurd (no_other s h leads i e lt high) ];
            each = λ n z low.
                goes_on c m k n (get_or xs n z) (get_or ys n z) (tickets n (omega (arith, low, few))) still (none n (omega (arith, low, few))) idle (worked.each n z low) d (get_or zs n z) (settled.each n z (omega (arith, low, worked.count))) s h leads
                (omega (arith, low, few, same_callers));
          },
        )

-- ---- one day after the other

pub days_join : HistoriesJoin → (c noon evening : Saved) (xs ys zs : List Clerk) → length ys ≡ length xs → GoOnWithJobs c noon xs ys → GoOnWithJobs noon evening ys zs → GoOnWithJobs c evening xs zs
days_join join c noon evening xs ys zs count one other s holds =
    let first = one s holds in
    let h = first.0 in
    let second = other (store_after s h) first.1.ends in
    let k = second.0 in
    let joined = join s h k first.1.serial second.1.serial in (
      h ++ k,
      record {
        serial = joined.0;
        ends = subst (SavedHolds evening) (sym joined.1) second.1.ends;
        callers = All-append (λ (e : HistoryEntry). e.caller < length xs) h k first.1.callers (λ i e lt. subst (λ (n : ℕ). (get_or k i e).caller < n) count (second.1.callers i e lt));
        each = λ n z low.
            subst (Counts (get_or xs n z) (get_or zs n z)) (sym (calls_join n h k))
            (counts_join (get_or xs n z) (get_or ys n z) (get_or zs n z) (calls_of n h) (calls_of n k) (first.1.each n z low) (second.1.each n z (omega (arith, low, count))));
      },
    )

-- ---- money

All-right : {X : Type 0} (P : X → Type 0) (xs ys : List X) → All P (xs ++ ys) → All P ys
All-right P xs ys all i d lt = subst P (get_or-append-add xs ys i d) (all (length xs + i) d (omega (arith, lt, length-append xs ys)))

-- what holds of the scripts of each caller holds of all
in_history : (P : List Instr → Type 0) (b : ℕ) (h : List HistoryEntry) → All (λ (e : HistoryEntry). e.caller < b) h → ((n : ℕ) → n < b → All P (scripts_in (calls_of n h))) → All (λ (e : HistoryEntry). P e.script) h
in_history P b [] low all i d lt = absurd (omega (arith, lt))
in_history P b (e ∷ h) low all zero d lt =
    mine (e.caller == e.caller) (let same : (e.caller == e.caller) ≡ true = grind (arith, nat_tests) in same) (all e.caller (All-head (λ (f : HistoryEntry). f.caller < b) e h low))
  where
    mine : (own : Bool) → own ≡ true → All P (scripts_in (if own then (e.script, e.reply) ∷ calls_of e.caller h else calls_of e.caller h)) → P e.script
    mine true is of = All-head P e.script (scripts_in (calls_of e.caller h)) of
    mine false is of = absurd (true≢false (sym is))
in_history P b (e ∷ h) low all (suc i) d lt = in_history P b h (All-tail (λ (f : HistoryEntry). f.caller < b) e h low) (λ n less. others n (e.caller == n) (all n less)) i d (omega (arith, lt))
  where
    others : (n : ℕ) (own : Bool) → All P (scripts_in (if own then (e.script, e.reply) ∷ calls_of n h else calls_of n h)) → All P (scripts_in (calls_of n h))
    others n true of = All-tail P e.script (scripts_in (calls_of n h)) of
    others n false of = of

all_transfers : (s : Store) (d : Saved) (xs ys : List Clerk) (h : List HistoryEntry) → LeadsBy s d xs ys h → All (λ (e : HistoryEntry). IsTransfer e.script) h
all_transfers s d [] ys h leads = in_history IsTransfer 0 h leads.callers (λ n low. absurd (omega (arith, low)))
all_transfers s d (x ∷ xs) ys h leads =
    in_history IsTransfer (length (x ∷ xs)) h leads.callers
    (λ n low.
    let one = leads.each n x low in
    let y : Clerk = get_or (x ∷ xs) n x in
    All-right IsTransfer (take (counted y) (scripts_of y)) (scripts_in (calls_of n h))
    (subst (All IsTransfer) (sym one.front) (All-take IsTransfer (counted (get_or ys n x)) (scripts_of y) (are_transfers y))))

-- what is saved holds one list of registers
same_registers : (d : Saved) (s t : Store) → SavedHolds d s → SavedHolds d t → s.registers ≡ t.registers
same_registers d s t one other =
    ext_get_or 0 s.registers t.registers (one.state.registers ∙ sym other.state.registers)
    (λ r lt.
    let low : r < REGISTERS = omega (arith, lt, one.state.registers) in
    sym (one.stands.holds.registers r low).0 ∙ (other.stands.holds.registers r low).0)

pub keeps_money : (c d : Saved) (xs zs : List Clerk) → GoOnWithJobs c d xs zs → KeepsMoney c d
keeps_money c d xs zs on s t before now =
    let found = on s before in
    ap sum (sym (same_registers d (store_after s found.0) t found.1.ends now))
    ∙ (history_keeps s found.0 before.state.registers (all_transfers s d xs zs found.0 found.1)).1
