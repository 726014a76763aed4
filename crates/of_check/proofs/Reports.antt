-- The report that claims make is legal where each claim may stand, and a legal report is the one
-- that its claims make.
use Rattle.std.proofs.Common.{◌≡◌, ℕ, ◌-◌, ◌<◌, ◌≤◌, ◌⊎◌, inl, inr, Bool, true, false, List, length, get_or, map, refl, sym, ap, subst, ◌∙◌, arith}
use Rattle.std.specs.Prelude.{IsTrue, All}
use Rattle.std.specs.Bool.{MatchBool}
use Rattle.std.proofs.Math.Nat.{eq-or-lt_of_le}
use Rattle.std.proofs.Math.ListN.{get_or-map}
use Rattle.std.proofs.lemmas.List.{length-map}
use Rattle.std.proofs.lemmas.List.Elements.{All-from_recursion, recursion_from_All}
use Rattle.std.proofs.lemmas.List.FromFn.{fill_by_all, length-map-range_with_len, get_or-map-range_with_len}
use Rattle.of_script.specs.Language.{reads_only}
use Rattle.of_store.specs.Store.{last_store}
use Rattle.of_plan.specs.Plan.{Plan}
use Rattle.of_plan.specs.Report.{Entry, EndState, done, stopped, spent, Line, Report, Start, entries_of, caller_line}
use Rattle.of_plan.specs.Legal.{script_of_entry, scripts_left, StandsBefore, HasOpenCall, HasSequence, HasEndState, LineIsWithinBound, IsLegal}
use Rattle.of_plan.proofs.HistoriesLists.{pairs_in_line, in_line_pairs, each_weaker}
use Rattle.of_report.specs.Lines.{end_state_value}
use Rattle.of_check.specs.declared.claims.CallClaim.{CallClaim}
use Rattle.of_check.specs.declared.claims.EndClaim.{EndClaim}
use Rattle.of_check.specs.Claims.{call_claim, code_end_state, end_claim}
use Rattle.of_check.specs.Replay.{Replay, replay_at_start, entries_from, course_end, AllFollow}
use Rattle.of_check.specs.Endings.{left_of, claimed_line, IsEnding, end_at, claimed_line_at, AreEndings, claimed_lines}
use Rattle.of_check.specs.Causes.{made_report}
use Rattle.of_check.proofs.Own.{own}
use Rattle.of_check.proofs.Following.{own_facts, callers_below, in_line, since_start, last_up_to, sequences_are, each_there, replies_are, store_is}
use Rattle.of_check.proofs.Unique.{GoOn, Behind, BehindWithin, Remade, remade}

-- the start knows each caller
abbrev pub KnowsEach : Plan → Start → Type 0
KnowsEach p s = length s.finished ≡ p.callers

-- ---- it is legal

module _ (p : Plan) (s : Start) (knows : KnowsEach p s) (calls : List CallClaim) (ends : List EndClaim) (follow : AllFollow p (replay_at_start s) calls) (are : AreEndings p s.finished (course_end p (replay_at_start s) calls).last.seq (course_end p (replay_at_start s) calls).counts ends) where
  abbrev r : Report
  r = made_report p s calls ends

  wide : p.callers ≤ length (replay_at_start s).counts
  wide = omega (arith, knows)

  abbrev counts : List ℕ
  counts = (course_end p (replay_at_start s) calls).counts

  line_is : (c : ℕ) (d : Line) → c < p.callers → get_or (claimed_lines p s.finished counts ends) c d ≡ claimed_line_at s.finished counts ends c
  line_is c d lt = get_or-map-range_with_len (claimed_line_at s.finished counts ends) 0 p.callers c c d lt (omega arith)

  each_line : (P : Line → Type 0) → ((c : ℕ) → c < p.callers → P (claimed_line_at s.finished counts ends c)) → All P (claimed_lines p s.finished counts ends)
  each_line P h = λ k d lt.
      let below : k < p.callers = omega (arith, lt, length-map-range_with_len (claimed_line_at s.finished counts ends) 0 p.callers) in
      subst P (sym (line_is k d below)) (h k below)

  pub legal_report : IsLegal p s (made_report p s calls ends)
  legal_report = record {
    in_order = record {
      of_callers = All-from_recursion (λ (e : Entry). e.caller < p.callers) (entries_from p (replay_at_start s) calls) (callers_below p (replay_at_start s) calls follow);
      one_by_one = λ c lt. (own_facts p (replay_at_start s) calls c wide follow).indices;
      of_scripts = λ c lt. (own_facts p (replay_at_start s) calls c wide follow).few;
    };
    open_calls = record {
      each_caller = length-map-range_with_len (claimed_line_at s.finished counts ends) 0 p.callers;
      entries = λ c lt.
          omega (arith, ap (λ (l : Line). l.entries) (line_is c (record { state = done; answered = 0; entries = 0; longest = 0 }) lt), (own_facts p (replay_at_start s) calls c wide follow).count);
      open_call = each_line (λ (l : Line). HasOpenCall l.state l.answered l.entries) (λ c lt. (are.each c lt).open_call);
    };
    by_sequence = record {
      order = pairs_in_line StandsBefore (entries_from p (replay_at_start s) calls) (in_line p (replay_at_start s) calls wide follow);
      sequences = All-from_recursion (λ (e : Entry). HasSequence p s e × (e.seq ≤ (course_end p (replay_at_start s) calls).last.seq)) (entries_from p (replay_at_start s) calls) (sequences_are p s (replay_at_start s) calls (since_start s) follow);
      from_start = last_up_to p s.seq (replay_at_start s) calls (since_start s) follow;
      none_left_out = λ seq low high. each_there p s.seq (replay_at_start s) calls (since_start s) follow seq low high;
    };
    replies = replies_are p (replay_at_start s) calls;
    final_store = store_is p (replay_at_start s) calls;
    endings = λ c lt.
        subst (λ (l : Line). HasEndState l.state l.answered (scripts_left p s c) (course_end p (replay_at_start s) calls).last.seq p.limit) (sym (line_is c _ lt)) (are.each c lt).ended;
    within_bound = each_line (LineIsWithinBound p) (λ c lt. (are.each c lt).within);
  }

-- ---- a legal report is the one that its claims make

first_behind : (from : ℕ) (b : Bool) (e : Entry) (Q : Type 0) → MatchBool b (from < e.seq) ((from ≤ e.seq) × Q) → (from < e.seq) ⊎ ((from ≡ e.seq) × BehindWithin false b (record { seq = from; caller = 0; index = 0; announced = false }) e)
first_behind from true e Q has = inl has
first_behind from false e Q has = elim (eq-or-lt_of_le has.0) [ inl same ↦ inr (same, omega arith) | inr more ↦ inl more ]

state_again : (s : EndState) → end_state_value (code_end_state s) ≡ s
state_again done = refl
state_again stopped = refl
state_again spent = refl

line_again : (n : ℕ) (l : Line) → n ≡ l.entries → claimed_line n (end_claim l) ≡ l
line_again n l same = λ i. record { state = state_again l.state i; answered = l.answered; entries = same i; longest = l.longest }

-- the claims of a legal report may all stand, and make that report
pub record IsRemade (p : Plan) (s : Start) (calls : List CallClaim) (ends : List EndClaim) (r : Report) : Type 0 where
  pub follow : AllFollow p (replay_at_start s) calls
  pub endings : AreEndings p s.finished (course_end p (replay_at_start s) calls).last.seq (course_end p (replay_at_start s) calls).counts ends
  pub same : made_report p s calls ends ≡ r

module _ (p : Plan) (s : Start) (knows : KnowsEach p s) (r : Report) (legal : IsLegal p s r) where
  every : p.callers ≤ length (replay_at_start s).counts
  every = omega (arith, knows)

  goes : GoOn p s (replay_at_start s) r.seq r.entries
  goes = record {
    callers = recursion_from_All (λ (e : Entry). e.caller < p.callers) r.entries legal.in_order.of_callers;
    indices = λ d lt. legal.in_order.one_by_one d lt;
    few = λ d lt. legal.in_order.of_scripts d lt;
    order = in_line_pairs StandsBefore r.entries legal.by_sequence.order;
    behind_last = each_weaker (λ (e : Entry). HasSequence p s e × (e.seq ≤ r.seq)) (Behind (replay_at_start s).last)
        (λ e has. first_behind s.seq e.announced e (All (λ i. IsTrue (reads_only i)) (script_of_entry p e)) has.0) r.entries
        (recursion_from_All (λ (e : Entry). HasSequence p s e × (e.seq ≤ r.seq)) r.entries legal.by_sequence.sequences);
    sequences = recursion_from_All (λ (e : Entry). HasSequence p s e × (e.seq ≤ r.seq)) r.entries legal.by_sequence.sequences;
    within = legal.by_sequence.from_start;
    none_left_out = λ k low high. legal.by_sequence.none_left_out k low high;
    told = legal.replies;
  }

  again : Remade p (replay_at_start s) r.seq r.entries
  again = remade p s (replay_at_start s) r.seq r.entries every goes

  abbrev c : Replay
  c = course_end p (replay_at_start s) (map call_claim r.entries)

  count_is : (d : ℕ) → get_or c.counts d 0 - get_or s.finished d 0 ≡ length (entries_of r d)
  count_is d =
      omega (arith, (own_facts p (replay_at_start s) (map call_claim r.entries) d every again.follow).count, ap (λ (es : List Entry). length (own d es)) again.entries)

  end_is : (d : ℕ) → end_at (map end_claim r.callers) d ≡ end_claim (caller_line r d)
  end_is d = get_or-map end_claim r.callers d (record { state = done; answered = 0; entries = 0; longest = 0 })

  pub same_line : (d : ℕ) → d < p.callers → claimed_line_at s.finished c.counts (map end_claim r.callers) d ≡ caller_line r d
  same_line d lt = ap (claimed_line (get_or c.counts d 0 - get_or s.finished d 0)) (end_is d) ∙ line_again (get_or c.counts d 0 - get_or s.finished d 0) (caller_line r d) (count_is d ∙ sym (legal.open_calls.entries d lt))

  pub is_ending : (d : ℕ) → d < p.callers → IsEnding p (left_of p s.finished d) r.seq (caller_line r d)
  is_ending d lt =
      let here : d < length r.callers = omega (arith, lt, legal.open_calls.each_caller) in
      record {
        open_call = legal.open_calls.open_call d _ here;
        ended = legal.endings d lt;
        within = legal.within_bound d _ here;
      }

  endings_are : AreEndings p s.finished c.last.seq c.counts (map end_claim r.callers)
  endings_are = record {
    each_caller = omega (arith, length-map r.callers end_claim, legal.open_calls.each_caller);
    each = λ d lt. subst (λ (n : ℕ). IsEnding p (left_of p s.finished d) n (claimed_line_at s.finished c.counts (map end_claim r.callers) d)) (sym again.last)
        (subst (IsEnding p (left_of p s.finished d) r.seq) (sym (same_line d lt)) (is_ending d lt));
  }

  lines_are : claimed_lines p s.finished c.counts (map end_claim r.callers) ≡ r.callers
  lines_are = sym (fill_by_all (claimed_line_at s.finished c.counts (map end_claim r.callers)) r.callers p.callers (record { state = done; answered = 0; entries = 0; longest = 0 }) legal.open_calls.each_caller (λ k lt. sym (same_line k lt)))

  same_report : made_report p s (map call_claim r.entries) (map end_claim r.callers) ≡ r
  same_report =
      let store : c.store ≡ r.store = store_is p (replay_at_start s) (map call_claim r.entries) ∙ ap (λ (es : List Entry). last_store (replay_at_start s).store (map (script_of_entry p) es)) again.entries ∙ sym legal.final_store in
      λ i. record { entries = again.entries i; callers = lines_are i; seq = again.last i; store = store i }

  pub follow_all : AllFollow p (replay_at_start s) (map call_claim r.entries)
  follow_all = again.follow

  pub last_is : (course_end p (replay_at_start s) (map call_claim r.entries)).last.seq ≡ r.seq
  last_is = again.last

  pub remade_own : IsRemade p s (map call_claim r.entries) (map end_claim r.callers) r
  remade_own = record { follow = again.follow; endings = endings_are; same = same_report }
