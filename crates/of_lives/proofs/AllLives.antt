-- All lives: their entries together are one history from the first start, and so are those of spans
-- of lives, between which sequences begin anew.
use Rattle.std.proofs.Common.{◌≡◌, ℕ, zero, suc, ◌<◌, ◌≤◌, inl, inr, List, [], ◌∷◌, ◌++◌, length, get_or, map, refl, sym, ap, subst, ◌∙◌, arith}
use Rattle.std.specs.Prelude.{filter}
use Rattle.std.specs.List.{AllByRecursion as Each}
use Rattle.std.proofs.lemmas.Bool.{cases_lt}
use Rattle.std.proofs.lemmas.List.{map-append}
use Rattle.std.proofs.lemmas.List.Elements.{All-from_recursion, filter-append}
use Rattle.of_script.specs.declared.instr.Instr.{Instr}
use Rattle.of_store.specs.Store.{Store, Reply, replies_in_order, last_store}
use Rattle.of_store.proofs.Replays.{replies-append, last_store-append}
use Rattle.of_plan.specs.Report.{Entry, Start, finished_of}
use Rattle.of_plan.specs.Legal.{script_of_entry, IsLegal}
use Rattle.of_plan.specs.Histories.{IsIn}
use Rattle.of_plan.proofs.HistoriesLists.{each_at, each_from_in, each_weaker, each_append, in_left, in_right, any_in, in_line_append, pairs_in_line, InLine}
use Rattle.of_lives.specs.Lives.{Life, done_behind, start_behind, start_behind_all, renumbered_start, start_behind_spans, EachLife, AreLives, EachSpan, AreSpans}
use Rattle.of_lives.specs.OneHistory.{entries_in, life_scripts, entries_of_spans, scripts_of_spans, ComesBefore, ComesLater, IsBetween, IsAnnouncedAt, IsKnownTo, IsBehind, NoneAnnouncedOf, IsCall, HasReads, HasAnswered, AreOneHistory, LivesAreOneHistory, SpansAreOneHistory}
use Rattle.of_lives.proofs.Tickets.{done_append, not_done}
use Rattle.of_lives.proofs.Callers.{is_of}
use Rattle.of_lives.proofs.OneLife.{IsDoneAt, Lived, lived}

-- the element at a place is one of the list
pub at_in : {X : Type 0} (xs : List X) (k : ℕ) (x : X) → k < length xs → get_or xs k x ≡ x → IsIn x xs
at_in [] k x lt is = absurd (omega (arith, lt))
at_in (y ∷ ys) zero x lt is = inl is
at_in (y ∷ ys) (suc k) x lt is = inr (at_in ys k x (omega (arith, lt)) is)

across : (R : Entry → Entry → Type 0) (es fs : List Entry) → ((e f : Entry) → IsIn e es → IsIn f fs → R e f) → Each (λ e. Each (R e) fs) es
across R es fs before = each_from_in (λ e. Each (R e) fs) es (λ e here. each_from_in (R e) fs (λ f there. before e f here there))

-- ---- what the entries of calls between two starts are, whatever their sequences

record Calls (s t : Start) (es : List Entry) (scripts : List (List Instr)) : Type 0 where
  replies_are : map (λ (e : Entry). e.reply) es ≡ replies_in_order s.store scripts
  final : t.store ≡ last_store s.store scripts
  once : InLine ComesLater es
  wider : length s.finished ≤ length t.finished
  known : Each (IsKnownTo t) es
  behind : Each (IsBehind s) es
  done_then : Each (IsDoneAt t) es
  grown : (c : ℕ) → finished_of s c ≤ finished_of t c
  all_done : (c x : ℕ) → finished_of s c ≤ x → x < finished_of t c → (e : Entry) × IsIn e es × IsCall c x e
  tickets : (c : ℕ) → finished_of t c ≡ done_behind (finished_of s c) (filter (is_of c) es)

calls_none : (s : Start) → Calls s s [] []
calls_none s = record {
  replies_are = refl;
  final = refl;
  once = tt;
  wider = omega arith;
  known = tt;
  behind = tt;
  done_then = tt;
  grown = λ c. omega arith;
  all_done = λ c x low high. absurd (omega (arith, low, high));
  tickets = λ c. refl;
}

calls_one : (s : Start) (l : Life) → IsLegal l.plan s l.report → Calls s (start_behind s l) l.report.entries (map (script_of_entry l.plan) l.report.entries)
calls_one s l legal =
    let one = lived s l legal in
    record {
      replies_are = legal.replies;
      final = legal.final_store;
      once = one.once;
      wider = one.wider;
      known = one.known;
      behind = one.behind;
      done_then = one.done_then;
      grown = one.grown;
      all_done = one.all_done;
      tickets = one.tickets;
    }

-- those from one start to the next, and then those from there
module _ (s t u : Start) (es fs : List Entry) (xs ys : List (List Instr)) (a : Calls s t es xs) (b : Calls t u fs ys) where
  replies_are : map (λ (e : Entry). e.reply) (es ++ fs) ≡ replies_in_order s.store (xs ++ ys)
  replies_are =
      map-append (λ (e : Entry). e.reply) es fs
      ∙ ap (λ (rs : List Reply). rs ++ map (λ (e : Entry). e.reply) fs) a.replies_are
      ∙ ap (λ (rs : List Reply). replies_in_order s.store xs ++ rs) (b.replies_are ∙ ap (λ (st : Store). replies_in_order st ys) a.final)
      ∙ sym (replies-append s.store xs ys)

  -- an entry of the first is done before each of the others
  earlier : (e f : Entry) → IsIn e es → IsIn f fs → ComesLater e f
  earlier e f here there callers is =
      let mine = each_at (IsDoneAt t) e es a.done_then here in
      let theirs = each_at (IsBehind t) f fs b.behind there in
      omega (arith, mine is, theirs, ap (λ (c : ℕ). finished_of t c) callers)

  all_done : (c x : ℕ) → finished_of s c ≤ x → x < finished_of u c → (e : Entry) × IsIn e (es ++ fs) × IsCall c x e
  all_done c x low high = elim (cases_lt x (finished_of t c)) [
    | inl here ↦ let found = a.all_done c x low here in (found.0, in_left found.0 es fs found.1, found.2)
    | inr past ↦ let found = b.all_done c x past high in (found.0, in_right found.0 es fs found.1, found.2)
  ]

  tickets : (c : ℕ) → finished_of u c ≡ done_behind (finished_of s c) (filter (is_of c) (es ++ fs))
  tickets c =
      b.tickets c
      ∙ ap (λ (n : ℕ). done_behind n (filter (is_of c) fs)) (a.tickets c)
      ∙ sym (done_append (finished_of s c) (filter (is_of c) es) (filter (is_of c) fs))
      ∙ ap (done_behind (finished_of s c)) (sym (filter-append (is_of c) es fs))

  calls_more : Calls s u (es ++ fs) (xs ++ ys)
  calls_more = record {
    replies_are = replies_are;
    final = b.final ∙ ap (λ (st : Store). last_store st ys) a.final ∙ sym (last_store-append s.store xs ys);
    once = in_line_append ComesLater es fs a.once b.once (across ComesLater es fs earlier);
    wider = omega (arith, a.wider, b.wider);
    known = each_append (IsKnownTo u) es fs (each_weaker (IsKnownTo t) (IsKnownTo u) (λ e lt. omega (arith, lt, b.wider)) es a.known) b.known;
    behind = each_append (IsBehind s) es fs a.behind (each_weaker (IsBehind t) (IsBehind s) (λ e low. omega (arith, low, a.grown e.caller)) fs b.behind);
    done_then = each_append (IsDoneAt u) es fs (each_weaker (IsDoneAt t) (IsDoneAt u) (λ e lt is. omega (arith, lt is, b.grown e.caller)) es a.done_then) b.done_then;
    grown = λ c. omega (arith, a.grown c, b.grown c);
    all_done = all_done;
    tickets = tickets;
  }

-- they are the same if sequences begin anew behind them
calls_renumbered : (s t : Start) (es : List Entry) (xs : List (List Instr)) → Calls s t es xs → Calls s (renumbered_start t) es xs
calls_renumbered s t es xs a = record {
  replies_are = a.replies_are;
  final = a.final;
  once = a.once;
  wider = a.wider;
  known = a.known;
  behind = a.behind;
  done_then = a.done_then;
  grown = a.grown;
  all_done = a.all_done;
  tickets = a.tickets;
}

open_read : (s t : Start) (ds : List Entry) (xs : List (List Instr)) → Calls s t ds xs → (es fs : List Entry) (e : Entry) → ds ≡ es ++ e ∷ fs → NoneAnnouncedOf e.caller (e ∷ fs) → finished_of t e.caller ≤ e.index
open_read s t ds xs all es fs e is none =
    let there : IsIn e ds = subst (IsIn e) (sym is) (in_right e es (e ∷ fs) (inl refl)) in
    let low = each_at (IsBehind s) e ds all.behind there in
    let line : InLine ComesLater (es ++ e ∷ fs) = subst (InLine ComesLater) is all.once in
    let same = ap (λ (rs : List Entry). done_behind (finished_of s e.caller) (filter (is_of e.caller) rs)) is in
    omega (arith, all.tickets e.caller, same, not_done (finished_of s e.caller) es fs e line low none)

-- ---- what their sequences are

record Sequenced (s t : Start) (es : List Entry) : Type 0 where
  order : InLine ComesBefore es
  from : s.seq ≤ t.seq
  sequences : Each (IsBetween s t) es
  each_seq : (k : ℕ) → s.seq < k → k ≤ t.seq → (e : Entry) × IsIn e es × IsAnnouncedAt k e

sequenced_none : (s : Start) → Sequenced s s []
sequenced_none s = record {
  order = tt;
  from = omega arith;
  sequences = tt;
  each_seq = λ k low high. absurd (omega (arith, low, high));
}

module _ (s : Start) (l : Life) (legal : IsLegal l.plan s l.report) (u : Start) (later : List Entry) (rest : Sequenced (start_behind s l) u later) where
  abbrev t : Start
  t = start_behind s l

  abbrev first : List Entry
  first = l.report.entries

  one : Lived s l
  one = lived s l legal

  -- an entry of the first life stands before all of the later ones
  stands_before : (e f : Entry) → IsIn e first → IsIn f later → ComesBefore e f
  stands_before e f here there =
      let low = each_at (IsBetween s t) e first one.sequences here in
      let high = each_at (IsBetween t u) f later rest.sequences there in
      (omega (arith, low.1, high.0), λ is. inl (omega (arith, low.1, high.2 is)))

  sequences : Each (IsBetween s u) (first ++ later)
  sequences = each_append (IsBetween s u) first later
      (each_weaker (IsBetween s t) (IsBetween s u) (λ e has. (has.0, omega (arith, has.1, rest.from), has.2)) first one.sequences)
      (each_weaker (IsBetween t u) (IsBetween s u)
      (λ e has. (omega (arith, has.0, legal.by_sequence.from_start), has.1, λ is. omega (arith, has.2 is, legal.by_sequence.from_start))) later rest.sequences)

  each_seq : (k : ℕ) → s.seq < k → k ≤ u.seq → (e : Entry) × IsIn e (first ++ later) × IsAnnouncedAt k e
  each_seq k low high = elim (cases_lt l.report.seq k) [
    | inl past ↦ let found = rest.each_seq k past high in (found.0, in_right found.0 first later found.1, found.2)
    | inr here ↦
        let found = legal.by_sequence.none_left_out k low (omega (arith, here)) in
        (found.1, in_left found.1 first later (at_in first found.0 found.1 found.2 found.3), found.4)
  ]

  sequenced_more : Sequenced s u (first ++ later)
  sequenced_more = record {
    order = in_line_append ComesBefore first later one.order rest.order (across ComesBefore first later stands_before);
    from = omega (arith, legal.by_sequence.from_start, rest.from);
    sequences = sequences;
    each_seq = each_seq;
  }

-- ---- lives, and spans of lives

calls : (s : Start) (ls : List Life) → AreLives s ls → Calls s (start_behind_all s ls) (entries_in ls) (life_scripts ls)
calls s [] lives = calls_none s
calls s (l ∷ ls) lives = let t = start_behind s l in calls_more s t (start_behind_all t ls) l.report.entries (entries_in ls) (map (script_of_entry l.plan) l.report.entries) (life_scripts ls) (calls_one s l lives.0) (calls t ls lives.1)

sequenced : (s : Start) (ls : List Life) → AreLives s ls → Sequenced s (start_behind_all s ls) (entries_in ls)
sequenced s [] lives = sequenced_none s
sequenced s (l ∷ ls) lives = let t = start_behind s l in sequenced_more s l lives.0 (start_behind_all t ls) (entries_in ls) (sequenced t ls lives.1)

each_reads : (s : Start) (ls : List Life) → AreLives s ls → EachLife HasReads s ls
each_reads s [] lives = tt
each_reads s (l ∷ ls) lives = ((lived s l lives.0).reads, each_reads (start_behind s l) ls lives.1)

each_answered : (s : Start) (ls : List Life) → AreLives s ls → EachLife HasAnswered s ls
each_answered s [] lives = tt
each_answered s (l ∷ ls) lives = ((lived s l lives.0).answered, each_answered (start_behind s l) ls lives.1)

pub any_lives : LivesAreOneHistory
any_lives s ls lives =
    let t = start_behind_all s ls in let es = entries_in ls in
    let all = calls s ls lives in let ordered = sequenced s ls lives in
    record {
      replies = all.replies_are;
      final_store = all.final;
      order = pairs_in_line ComesBefore es ordered.order;
      sequences = All-from_recursion (IsBetween s t) es ordered.sequences;
      from_start = ordered.from;
      none_left_out = λ k low high. let found = ordered.each_seq k low high in any_in (IsAnnouncedAt k) found.0 es found.1 found.2;
      once = pairs_in_line ComesLater es all.once;
      known = All-from_recursion (IsKnownTo t) es all.known;
      behind_start = All-from_recursion (IsBehind s) es all.behind;
      all_done = λ c x low high. let found = all.all_done c x low high in any_in (IsCall c x) found.0 es found.1 found.2;
      tickets = all.tickets;
      not_done = open_read s t es (life_scripts ls) all;
      reads = each_reads s ls lives;
      answered = each_answered s ls lives;
    }

calls_of_spans : (s : Start) (spans : List (List Life)) → AreSpans s spans → Calls s (start_behind_spans s spans) (entries_of_spans spans) (scripts_of_spans spans)
calls_of_spans s [] lives = calls_none s
calls_of_spans s (ls ∷ spans) lives =
    let t = start_behind_all s ls in
    calls_more s (renumbered_start t) (start_behind_spans (renumbered_start t) spans) (entries_in ls) (entries_of_spans spans) (life_scripts ls) (scripts_of_spans spans)
    (calls_renumbered s t (entries_in ls) (life_scripts ls) (calls s ls lives.0)) (calls_of_spans (renumbered_start t) spans lives.1)

each_span : (s : Start) (spans : List (List Life)) → AreSpans s spans → EachSpan AreOneHistory s spans
each_span s [] lives = tt
each_span s (ls ∷ spans) lives = (any_lives s ls lives.0, each_span (renumbered_start (start_behind_all s ls)) spans lives.1)

pub renumbered_lives : SpansAreOneHistory
renumbered_lives s spans lives =
    let t = start_behind_spans s spans in let es = entries_of_spans spans in let all = calls_of_spans s spans lives in
    record {
      replies = all.replies_are;
      final_store = all.final;
      once = pairs_in_line ComesLater es all.once;
      behind_start = All-from_recursion (IsBehind s) es all.behind;
      all_done = λ c x low high. let found = all.all_done c x low high in any_in (IsCall c x) found.0 es found.1 found.2;
      known = All-from_recursion (IsKnownTo t) es all.known;
      tickets = all.tickets;
      not_done = open_read s t es (scripts_of_spans spans) all;
      each = each_span s spans lives;
    }
