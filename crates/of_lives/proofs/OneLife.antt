-- One life: what a legal report tells of its entries, of where it leaves, and of what it answered.
use Rattle.std.proofs.Common.{◌≡◌, ℕ, ◌+◌, ◌<◌, ◌≤◌, inl, inr, Bool, true, false, List, [], length, refl, sym, ap, subst, ◌∙◌, arith}
use Rattle.std.specs.Prelude.{IsTrue}
use Rattle.std.specs.Bool.{MatchBool}
use Rattle.std.specs.List.{AllByRecursion as Each}
use Rattle.std.proofs.Math.Nat.{le-max_left, le-max_right}
use Rattle.std.proofs.lemmas.Bool.{cases_lt}
use Rattle.std.proofs.lemmas.List.{get_or_past}
use Rattle.std.proofs.lemmas.List.Elements.{recursion_from_All, All-from_recursion}
use Rattle.std.proofs.lemmas.List.FromFn.{get_or-map-range_with_len, length-map-range_with_len}
use Rattle.of_plan.specs.Report.{Entry, EndState, done, stopped, spent, Start, entries_of, finished_of, caller_line, no_line}
use Rattle.of_plan.specs.Legal.{StandsBefore, StandsBeforeWithin, HasSequence, HasOpenCall, IsLegal}
use Rattle.of_plan.specs.Histories.{IsIn}
use Rattle.of_plan.proofs.HistoriesLists.{each_at, each_from_in, each_weaker, any_in, InLine, in_line_pairs, in_line_weaker}
use Rattle.of_lives.specs.Lives.{Life, done_behind, callers_with, finished_behind, start_behind}
use Rattle.of_lives.specs.OneHistory.{ComesBefore, ComesLater, IsBetween, IsKnownTo, IsBehind, IsCall, UnannouncedOnlyReads, HasReads, HasAnswered}
use Rattle.of_lives.proofs.Indices.{Rises, OneByOne, from_first, rise, upto_last, has_index}
use Rattle.of_lives.proofs.Tickets.{done_low, done_high, done_above}
use Rattle.of_lives.proofs.Callers.{own_entry, among_all, none_of, merged}

-- an announced call is done at the start
abbrev pub IsDoneAt : Start → Entry → Type 0
IsDoneAt s e = IsTrue e.announced → e.index < finished_of s e.caller

pub record Lived (s : Start) (l : Life) : Type 0 where
  pub wider : length s.finished ≤ length (start_behind s l).finished
  pub known : Each (IsKnownTo (start_behind s l)) l.report.entries
  pub behind : Each (IsBehind s) l.report.entries
  pub done_then : Each (IsDoneAt (start_behind s l)) l.report.entries
  pub sequences : Each (IsBetween s (start_behind s l)) l.report.entries
  pub order : InLine ComesBefore l.report.entries
  pub once : InLine ComesLater l.report.entries
  pub grown : (c : ℕ) → finished_of s c ≤ finished_of (start_behind s l) c
  pub tickets : (c : ℕ) → finished_of (start_behind s l) c ≡ done_behind (finished_of s c) (entries_of l.report c)
  pub all_done : (c x : ℕ) → finished_of s c ≤ x → x < finished_of (start_behind s l) c → (e : Entry) × IsIn e l.report.entries × IsCall c x e
  pub reads : HasReads s l
  pub answered : HasAnswered s l

-- ---- sequences and order

-- an announced entry is above the first sequence, and a read isn't below it
seq_of : (a : Bool) (x y : ℕ) (R : Type 0) → MatchBool a (x < y) ((x ≤ y) × R) → (x ≤ y) × (a ≡ true → x < y)
seq_of true x y R has = (omega (arith, has), λ is. has)
seq_of false x y R has = (has.0, λ is. absurd (cc))

-- what isn't announced has the second fact
second_of : (a : Bool) (P Q R : Type 0) → MatchBool a P (Q × R) → a ≡ false → R
second_of true P Q R has is = absurd (cc)
second_of false P Q R has is = has.1

within_one : (a b : Bool) (e f : Entry) → b ≡ true → StandsBeforeWithin a b e f → (a ≡ true) × (e.caller < f.caller)
within_one true true e f is before = (refl, before)
within_one false true e f is before = absurd before
within_one a false e f is before = absurd (cc)

precedes : (e f : Entry) → StandsBefore e f → ComesBefore e f
precedes e f (inl lt) = (omega (arith, lt), λ is. inl lt)
precedes e f (inr within) = (
  omega (arith, within.0),
  λ is. let one = within_one e.announced f.announced e f is within.1 in inr (within.0, one.0, one.1),
)

-- no caller has fewer entries than answers
answered_few : (state : EndState) (answers entries : ℕ) → HasOpenCall state answers entries → answers ≤ entries
answered_few done answers entries is = omega (arith, is)
answered_few spent answers entries is = omega (arith, is)
answered_few stopped answers entries has = has.0

module _ (s : Start) (l : Life) (legal : IsLegal l.plan s l.report) where
  abbrev own : ℕ → List Entry
  own c = entries_of l.report c

  abbrev before : ℕ → ℕ
  before c = finished_of s c

  callers : Each (λ e. e.caller < l.plan.callers) l.report.entries
  callers = recursion_from_All (λ e. e.caller < l.plan.callers) l.report.entries legal.in_order.of_callers

  -- who isn't of the plan has no entries
  no_own : (c : ℕ) → l.plan.callers ≤ c → own c ≡ []
  no_own c past = none_of l.plan.callers c l.report.entries callers past

  indices : (c : ℕ) → OneByOne (before c) (own c)
  indices c = elim (cases_lt c l.plan.callers) [
    | inl of_plan ↦ legal.in_order.one_by_one c of_plan
    | inr past ↦ subst (OneByOne (before c)) (sym (no_own c past)) refl
  ]

  as_many : length (finished_behind s l) ≡ callers_with s l
  as_many = length-map-range_with_len (λ d. done_behind (before d) (own d)) 0 (callers_with s l)

  tickets : (c : ℕ) → finished_of (start_behind s l) c ≡ done_behind (before c) (own c)
  tickets c = elim (cases_lt c (callers_with s l)) [
    | inl known ↦ get_or-map-range_with_len (λ d. done_behind (before d) (own d)) 0 (callers_with s l) c c 0 known (omega arith)
    | inr past ↦
        let none : own c ≡ [] = no_own c (omega (arith, past, le-max_right (length s.finished) l.plan.callers)) in
        let unknown : before c ≡ 0 = get_or_past s.finished c 0 (omega (arith, past, le-max_left (length s.finished) l.plan.callers)) in
        get_or_past (finished_behind s l) c 0 (omega (arith, past, as_many)) ∙ sym (ap (done_behind (before c)) none ∙ unknown)
  ]

  behind_one : (e : Entry) → IsIn e l.report.entries → IsBehind s e
  behind_one e here =
      each_at (λ (f : Entry). before e.caller ≤ f.index) e (own e.caller) (from_first (before e.caller) (own e.caller) (indices e.caller)) (own_entry e l.report.entries here)

  done_one : (e : Entry) → IsIn e l.report.entries → IsDoneAt (start_behind s l) e
  done_one e here is =
      let rising = rise (before e.caller) (own e.caller) (indices e.caller) in
      let above = done_above (before e.caller) (own e.caller) rising e (own_entry e l.report.entries here) is in
      omega (arith, tickets e.caller, above)

  grown : (c : ℕ) → before c ≤ finished_of (start_behind s l) c
  grown c =
      let all = each_weaker (λ (f : Entry). before c ≤ f.index) (λ (f : Entry). before c ≤ f.index + 1) (λ f low. omega (arith, low)) (own c) (from_first (before c) (own c) (indices c)) in
      omega (arith, tickets c, done_low (before c) (before c) (own c) (omega arith) all)

  -- each index of a caller's entries is one of all
  found : (c x : ℕ) → before c ≤ x → x < before c + length (own c) → (e : Entry) × IsIn e l.report.entries × IsCall c x e
  found c x low high =
      let there = has_index (before c) x (own c) (indices c) low high in
      let one = among_all c l.report.entries there.0 there.1 in
      (there.0, one.0, (one.1, there.2))

  all_done : (c x : ℕ) → before c ≤ x → x < finished_of (start_behind s l) c → (e : Entry) × IsIn e l.report.entries × IsCall c x e
  all_done c x low high =
      let upto = each_weaker (λ (e : Entry). e.index + 1 ≤ before c + length (own c)) (λ (e : Entry). e.announced ≡ true → e.index + 1 ≤ before c + length (own c))
      (λ e high is. high) (own c) (upto_last (before c) (own c) (indices c)) in
      let most = done_high (before c + length (own c)) (before c) (own c) (omega arith) upto in
      found c x low (omega (arith, high, most, tickets c))

  answered : HasAnswered s l
  answered c x of_plan low high =
      let line = caller_line l.report c in
      let open_call = legal.open_calls.open_call c no_line (omega (arith, of_plan, legal.open_calls.each_caller)) in
      let few = answered_few line.state line.answered line.entries open_call in
      let one = found c x low (omega (arith, high, few, legal.open_calls.entries c of_plan)) in
      any_in (IsCall c x) one.0 l.report.entries one.1 one.2

  sequences : Each (λ e. HasSequence l.plan s e × (e.seq ≤ l.report.seq)) l.report.entries
  sequences = recursion_from_All (λ e. HasSequence l.plan s e × (e.seq ≤ l.report.seq)) l.report.entries legal.by_sequence.sequences

  -- a legal report tells all this of its life
  pub lived : Lived s l
  lived = record {
    wider = omega (arith, as_many, le-max_left (length s.finished) l.plan.callers);
    known = each_weaker (λ (e : Entry). e.caller < l.plan.callers) (IsKnownTo (start_behind s l))
        (λ e lt. omega (arith, lt, as_many, le-max_right (length s.finished) l.plan.callers)) l.report.entries callers;
    behind = each_from_in (IsBehind s) l.report.entries behind_one;
    done_then = each_from_in (IsDoneAt (start_behind s l)) l.report.entries done_one;
    sequences = each_weaker (λ e. HasSequence l.plan s e × (e.seq ≤ l.report.seq)) (IsBetween s (start_behind s l))
        (λ e has. let at = seq_of e.announced s.seq e.seq _ has.0 in (at.0, has.1, at.1)) l.report.entries sequences;
    order = in_line_weaker (λ e. e.caller < l.plan.callers) StandsBefore ComesBefore (λ e f one other before. precedes e f before) l.report.entries callers (in_line_pairs StandsBefore l.report.entries legal.by_sequence.order);
    once = in_line_weaker (λ e. e.caller < l.plan.callers) (λ e f. e.caller ≡ f.caller → e.index < f.index) ComesLater (λ e f one other rises same is. rises same) l.report.entries callers
        (merged Rises l.report.entries (λ c. rise (before c) (own c) (indices c)));
    grown = grown;
    tickets = tickets;
    all_done = all_done;
    reads = All-from_recursion (UnannouncedOnlyReads l) l.report.entries (each_weaker (λ e. HasSequence l.plan s e × (e.seq ≤ l.report.seq)) (UnannouncedOnlyReads l)
        (λ e has is. second_of e.announced _ _ _ has.0 is) l.report.entries sequences);
    answered = answered;
  }
