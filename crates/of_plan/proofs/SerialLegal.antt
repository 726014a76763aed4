-- The report of calls that run one after the other is legal.
use Rattle.std.proofs.Common.{◌≡◌, ◌≢◌, ℕ, ◌<◌, ◌≤◌, ◌⊎◌, inl, inr, Bool, true, false, eqb, List, [], ◌∷◌, length, map, refl, sym, ap, subst, ◌∙◌, arith}
use Rattle.std.specs.Prelude.{count_by, if◌then◌else◌}
use Rattle.std.specs.List.{range_with_len, AllByRecursion}
use Rattle.std.proofs.lemmas.List.{length-map, get_or-replicate}
use Rattle.std.proofs.lemmas.List.Elements.{All-from_recursion, recursion_from_All}
use Rattle.std.proofs.lemmas.List.FromFn.{length-map-range_with_len, get_or-map-range_with_len}
use Rattle.std.proofs.lemmas.List.Sums.{length-filter}
use Rattle.std.proofs.lemmas.Bool.Decides.{eqb_tells}
use Rattle.of_store.specs.Store.{Reply, empty_store, replies_in_order, last_store}
use Rattle.of_plan.specs.Plan.{Plan, scripts_of}
use Rattle.of_plan.specs.Report.{Entry, done, spent, Line, empty_start, caller_line, entries_of, finished_of}
use Rattle.of_plan.specs.Legal.{scripts_left, StandInOrder, HasOpenCall, CountOpenCalls, HasSequence, StandBySequence, HasEndState, LineIsWithinBound, IsLegal}
use Rattle.of_plan.specs.Serial.{CallId, called_script, serial_calls, serial_scripts, serial_line, serial_report}
use Rattle.of_plan.proofs.SerialCalls.{of_caller, few_calls, indices_of_caller, limit_reached, callers_known}
use Rattle.of_plan.proofs.SerialEntries.{length-replies, replies_in, scripts_in, indices_in, count_in, callers_in, sequences_in, order_in, each_in}

-- the replies of the serial calls
abbrev serial_replies : Plan → List Reply
serial_replies p = replies_in_order (empty_store p.blocks) (serial_scripts p)

reply_each : (p : Plan) → length (serial_replies p) ≡ length (serial_calls p)
reply_each p = length-replies (empty_store p.blocks) (serial_scripts p) ∙ length-map (serial_calls p) (called_script p)

none_finished : (p : Plan) (c : ℕ) → c < p.callers → finished_of (empty_start p) c ≡ 0
none_finished p c lt = get_or-replicate p.callers c 0 0 lt

all_to_do : (p : Plan) (c : ℕ) → c < p.callers → scripts_left p (empty_start p) c ≡ length (scripts_of p c)
all_to_do p c lt = omega (arith, none_finished p c lt)

entry_each : (p : Plan) (c : ℕ) → length (entries_of (serial_report p) c) ≡ length (of_caller c (serial_calls p))
entry_each p c = count_in c 1 (serial_calls p) (serial_replies p) (reply_each p)

in_order : (p : Plan) → StandInOrder p (empty_start p) (serial_report p)
in_order p = record {
  of_callers = All-from_recursion (λ (e : Entry). e.caller < p.callers) (serial_report p).entries (callers_in p.callers 1 (serial_calls p) (serial_replies p) (recursion_from_All (λ (call : CallId). call.0 < p.callers) (serial_calls p) (callers_known p)));
  one_by_one = λ c lt. indices_in c 1 (serial_calls p) (serial_replies p) (reply_each p) ∙ indices_of_caller p c lt ∙ ap (λ (n : ℕ). range_with_len 0 n) (sym (entry_each p c))
      ∙ ap (λ (a : ℕ). range_with_len a (length (entries_of (serial_report p) c))) (sym (none_finished p c lt));
  of_scripts = λ c lt. omega (arith, entry_each p c, few_calls p c lt, all_to_do p c lt);
}

-- the line of a caller
abbrev the_line : Plan → ℕ → Line
the_line p c = serial_line (count_by (λ (call : CallId). eqb call.0 c) (serial_calls p)) (length (scripts_of p c))

line_is : (p : Plan) (c : ℕ) → c < p.callers → caller_line (serial_report p) c ≡ the_line p c
line_is p c lt = get_or-map-range_with_len (the_line p) 0 p.callers c c _ lt (omega arith)

lines_are : (P : Line → Type 0) (f : ℕ → Line) → ((c : ℕ) → P (f c)) → (cs : List ℕ) → AllByRecursion P (map f cs)
lines_are P f h [] = tt
lines_are P f h (c ∷ cs) = (h c, lines_are P f h cs)

none_open : (b : Bool) (n : ℕ) → HasOpenCall (if b then done else spent) n n
none_open true n = refl
none_open false n = refl

open_calls : (p : Plan) → CountOpenCalls p (serial_report p)
open_calls p = record {
  each_caller = length-map-range_with_len (the_line p) 0 p.callers;
  entries = λ c lt. ap (λ (l : Line). l.entries) (line_is p c lt) ∙ sym (entry_each p c ∙ length-filter (λ (call : CallId). eqb call.0 c) (serial_calls p));
  open_call = All-from_recursion (λ (l : Line). HasOpenCall l.state l.answered l.entries) (serial_report p).callers
      (lines_are (λ (l : Line). HasOpenCall l.state l.answered l.entries) (the_line p) (λ c. none_open (eqb (the_line p c).answered (length (scripts_of p c))) (the_line p c).answered) (range_with_len 0 p.callers));
}

by_sequence : (p : Plan) → StandBySequence p (empty_start p) (serial_report p)
by_sequence p = record {
  order = order_in 1 (serial_calls p) (serial_replies p);
  sequences = All-from_recursion (λ (e : Entry). HasSequence p (empty_start p) e × (e.seq ≤ length (serial_calls p))) (serial_report p).entries
      (sequences_in (λ (e : Entry). HasSequence p (empty_start p) e × (e.seq ≤ length (serial_calls p))) 1 (serial_calls p) (serial_replies p) (λ seq call r low high. (omega arith, omega arith)));
  from_start = omega arith;
  none_left_out = λ seq low high. each_in 1 (serial_calls p) (serial_replies p) (reply_each p) seq (omega arith) (omega arith);
}

-- done where all is answered, and else spent at the limit
ended : (b : Bool) (answered scripts left seq limit : ℕ) → ((b ≡ true) × (answered ≡ scripts)) ⊎ ((b ≡ false) × (answered ≢ scripts)) → left ≡ scripts → answered ≤ scripts → (answered < scripts → seq ≡ limit)
    → HasEndState (if b then done else spent) answered left seq limit
ended true answered scripts left seq limit (inl (is, e)) same few full = e ∙ sym same
ended true answered scripts left seq limit (inr (is, ne)) same few full = absurd (cc)
ended false answered scripts left seq limit (inl (is, e)) same few full = absurd (cc)
ended false answered scripts left seq limit (inr (is, ne)) same few full = (omega (arith, ne), full (omega (arith, ne)))

endings : (p : Plan) (c : ℕ) → c < p.callers → HasEndState (caller_line (serial_report p) c).state (caller_line (serial_report p) c).answered (scripts_left p (empty_start p) c) (length (serial_calls p)) p.limit
endings p c lt =
    let answered = (the_line p c).answered in
    let count = length-filter (λ (call : CallId). eqb call.0 c) (serial_calls p) in
    let P : Line → Type 0 = λ l. HasEndState l.state l.answered (scripts_left p (empty_start p) c) (length (serial_calls p)) p.limit in
    subst P (sym (line_is p c lt))
    (ended (eqb answered (length (scripts_of p c))) answered (length (scripts_of p c)) (scripts_left p (empty_start p) c) (length (serial_calls p)) p.limit (eqb_tells answered (length (scripts_of p c)))
    (all_to_do p c lt) (omega (arith, count, few_calls p c lt)) (λ less. limit_reached p c lt (omega (arith, count, less))))

pub serial_legal : (p : Plan) → IsLegal p (empty_start p) (serial_report p)
serial_legal p =
    let scripts = scripts_in p 1 (serial_calls p) (serial_replies p) (reply_each p) in
    record {
      in_order = in_order p;
      open_calls = open_calls p;
      by_sequence = by_sequence p;
      replies = replies_in 1 (serial_calls p) (serial_replies p) (reply_each p) ∙ ap (replies_in_order (empty_store p.blocks)) (sym scripts);
      final_store = ap (last_store (empty_store p.blocks)) (sym scripts);
      endings = endings p;
      within_bound = All-from_recursion (LineIsWithinBound p) (serial_report p).callers (lines_are (LineIsWithinBound p) (the_line p) (λ c. (omega arith, λ none. refl)) (range_with_len 0 p.callers));
    }
