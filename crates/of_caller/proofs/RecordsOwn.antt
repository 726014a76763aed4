-- The entries of one caller in a history: its answers, and its open call where a durable batch has
-- it.
use Rattle.std.proofs.Common.{◌≡◌, ◌≢◌, ℕ, suc, ◌+◌, ◌<◌, ◌≤◌, ◌⊎◌, inl, inr, Bool, true, false, IsTrue, cond, eqb, List, [], ◌∷◌, ◌++◌, length, get_or, map, take, drop, refl, sym, ap, subst, ◌∙◌, arith, Some, None, Option, length-append, length-take-le}
use Rattle.std.specs.Prelude.{All}
use Rattle.std.specs.List.{range_with_len, AllByRecursion as Each}
use Rattle.std.proofs.lemmas.List.{get_or-map, get_or-take, get_or-drop, length-map, length-drop}
use Rattle.std.proofs.lemmas.Bool.{cases_order}
use Rattle.std.proofs.lemmas.Bool.Decides.{eqb_tells}
use Rattle.std.proofs.lemmas.Bool.{eq-eqb as eqb_is, ne_eqb as eqb_not}
use Rattle.of_cell.specs.Words.{seq_of}
use Rattle.of_cell.proofs.Order.{seq_word}
use Rattle.of_mem.specs.Places.{ticket_cell_at}
use Rattle.of_script.specs.declared.instr.TheConstants.{MOST_INSTRS}
use Rattle.of_script.specs.declared.instr.Instr.{Instr}
use Rattle.of_script.specs.declared.instr.Reply.{Reply as RustReply}
use Rattle.of_script.specs.Language.{instr_word, reads_only}
use Rattle.of_store.specs.Store.{Reply, run as play_script}
use Rattle.of_eval.specs.Shapes.{IsHeldBy}
use Rattle.of_eval.specs.Lawful.{reply_in}
use Rattle.of_eval.specs.Record.{recovered_data_word, record_number, answer_entry, answer_entries, open_entry, OpenCall, BeyondAnswers, end_state_of}
use Rattle.of_plan.specs.declared.answer.Answer.{Answer}
use Rattle.of_plan.specs.declared.answer.Ending.{Ending}
use Rattle.of_plan.specs.declared.answer.Ending.TheVariants.{Done, Stopped, Spent as Ran_out}
use Rattle.of_plan.specs.Plan.{Plan, scripts_of}
use Rattle.of_plan.specs.Report.{Entry, Start, stopped, spent, finished_of}
use Rattle.of_plan.specs.Legal.{HasOpenCall, HasEndState, scripts_left}
use Rattle.of_plan.specs.Allowance.{least_steps}
use Rattle.of_plan.specs.Ended.{Ended, answers_of, ending_of}
use Rattle.of_plan.proofs.HistoriesLists.{each_append}
use Rattle.of_core.specs.declared.place.Place.{Place}
use Rattle.of_core.specs.declared.place.Place.TheVariants.{Idle}
use Rattle.of_core.specs.declared.place.Outcome.{Outcome}
use Rattle.of_core.specs.declared.place.Outcome.TheVariants.{Answered, Spent, Lost}
use Rattle.of_core.specs.Table.{durable_seq}
use Rattle.of_core.specs.Bound.{bound}
use Rattle.of_core.specs.Machine.{is_idle, no_call}
use Rattle.of_core.specs.TableMoment.{Moment, TableStart}
use Rattle.of_core.specs.Events.{machine_in}
use Rattle.of_core.specs.Claim.{IsSound}
use Rattle.of_core.specs.Calls.{no_outcome, last_outcome, NoneSpent}
use Rattle.of_caller.specs.Tables.{plan_setup, operation_of}
use Rattle.of_caller.specs.Ends.{is_spent, TellsAnswer, ending_if_left}
use Rattle.of_core.specs.Calls.{OutcomeStands}
use Rattle.of_caller.specs.Runs.{ending_of_calls}
use Rattle.of_caller.specs.Moments.{script_of_ticket, store_at_seq}
use Rattle.of_caller.proofs.RecordsLists.{told_at, ends_so, AllTold, SomeSpent, answer_indices, length-answer_entries}
use Rattle.of_caller.proofs.RecordsCalls.{call_at, entry_at, IsPlace, IsRun, IsReadOf, Stands, earlier}
use Rattle.of_caller.proofs.RecordsFacts.{CallerFacts, HasNone, IsLast}

-- the entries of a caller with these beyond its answers
abbrev pub own_entries : Start → Ended → ℕ → List Entry → List Entry
own_entries s e c extra = answer_entries c (finished_of s c) (answers_of e c) ++ extra

-- the entries of a caller stand each at its place, they are all that durable batches have of it,
-- and they end as the caller has ended
pub record IsOwnOf (p : Plan) (s : Start) (B : TableStart) (w : Moment) (e : Ended) (c : ℕ) (extra : List Entry) : Type 0 where
  pub each : Each (λ f. (f.caller ≡ c) × Stands p s B w f f.announced) (own_entries s e c extra)
  pub indices : map (λ (f : Entry). f.index) (own_entries s e c extra) ≡ range_with_len (finished_of s c) (length (own_entries s e c extra))
  pub few : length (own_entries s e c extra) ≤ scripts_left p s c
  pub covers : (k y : ℕ) → IsPlace p B w k y → (call_at B w k y).caller ≡ c → (finished_of s c < (call_at B w k y).ticket) × ((call_at B w k y).ticket ≤ finished_of s c + length (own_entries s e c extra))
  pub beyond : BeyondAnswers p e c (finished_of s c + length (answers_of e c)) (ending_of e c) extra
  pub open_call : HasOpenCall (end_state_of (ending_of e c)) (length (answers_of e c)) (length (own_entries s e c extra))
  pub ending : HasEndState (end_state_of (ending_of e c)) (length (answers_of e c)) (scripts_left p s c) (durable_seq (plan_setup p) w.words) p.limit

-- an answer is that of a call that stands, and its steps are within the bound and no fewer than the
-- least
pub record IsAnswerOf (p : Plan) (s : Start) (B : TableStart) (w : Moment) (c index : ℕ) (a : Answer) : Type 0 where
  pub stands : Stands p s B w (answer_entry c index a) a.announced
  pub within : a.steps ≤ bound (plan_setup p)
  pub least : least_steps p (answer_entry c index a) ≤ a.steps

pub idle_or_open : (q : Place) → (q ≡ Idle) ⊎ (is_idle q ≡ false)
idle_or_open Idle = inl refl
idle_or_open q = inr refl

pub stopped_at : (o : Option Outcome) (steps : ℕ) → is_spent o ≡ false → ending_if_left o steps ≡ Stopped (steps + 1)
stopped_at None steps is = refl
stopped_at (Some (Answered s announced raw n)) steps is = refl
stopped_at (Some (Spent s)) steps is = absurd (cc)
stopped_at (Some (Lost s)) steps is = refl

pub done_at : (outs : List Outcome) (steps n a : ℕ) → a ≡ n → ending_of_calls outs steps n a ≡ Done
done_at outs steps n a same = elim (eqb_tells a n) [
  | inl here ↦ ap (λ (b : Bool). cond b Done (ending_if_left (last_outcome outs) steps)) here.0
  | inr other ↦ absurd (other.1 same)
]

pub halted_at : (outs : List Outcome) (steps n a : ℕ) → a ≢ n → ending_of_calls outs steps n a ≡ ending_if_left (last_outcome outs) steps
halted_at outs steps n a ne = elim (eqb_tells a n) [
  | inl here ↦ absurd (ne here.1)
  | inr other ↦ ap (λ (b : Bool). cond b Done (ending_if_left (last_outcome outs) steps)) other.0
]

-- an entry of its parts
abbrev entry_from : (seq_of caller index : ℕ) → Bool → Reply → Entry
entry_from s c i announced r = record { seq = s; caller = c; index = i; announced = announced; reply = r }

same_entry : (e f : Entry) → e.seq ≡ f.seq → e.caller ≡ f.caller → e.index ≡ f.index → e.announced ≡ f.announced → e.reply ≡ f.reply → e ≡ f
same_entry e f seqs callers indices kinds replies =
    ap (λ (n : ℕ). entry_from n e.caller e.index e.announced e.reply) seqs ∙ ap (λ (n : ℕ). entry_from f.seq n e.index e.announced e.reply) callers ∙ ap (λ (n : ℕ). entry_from f.seq f.caller n e.announced e.reply) indices
    ∙ ap (λ (b : Bool). entry_from f.seq f.caller f.index b e.reply) kinds ∙ ap (λ (r : Reply). entry_from f.seq f.caller f.index f.announced r) replies

-- what holds of the entry of each answer
pub each_answer : (P : Entry → Type 0) (c x : ℕ) (answers : List Answer) → ((y : ℕ) (none : Answer) → y < length answers → P (answer_entry c (x + y) (get_or answers y none))) → Each P (answer_entries c x answers)
each_answer P c x [] h = tt
each_answer P c x (a ∷ others) h = (
  subst (λ (n : ℕ). P (answer_entry c n a)) (omega arith) (h 0 a (omega arith)),
  each_answer P c (x + 1) others (λ y none lt. subst (λ (n : ℕ). P (answer_entry c n (get_or others y none))) (omega arith) (h (suc y) none (omega (arith, lt)))),
)

open_none : (p : Plan) (e : Ended) (c x : ℕ) (b : Bool) → b ≡ false → OpenCall p e c x b []
open_none p e c x false is = refl
open_none p e c x true is = absurd (cc)

open_one : (p : Plan) (e : Ended) (c x : ℕ) (b : Bool) (r : RustReply) → b ≡ true → IsHeldBy (reply_in MOST_INSTRS (record_number p e) c) r → OpenCall p e c x b (open_entry p e c x r ∷ [])
open_one p e c x true r is held = (r, held, refl)
open_one p e c x false r is held = absurd (cc)

module _ (p : Plan) (s : Start) (B : TableStart) (w : Moment) (sound : IsSound (plan_setup p) B w) (e : Ended) (c : ℕ) (ops : List (List ℕ)) (outs : List Outcome) (lt : c < p.callers) (narrow : length (scripts_of p c) < 4294967296)
    (f : CallerFacts p s B w e c ops outs) where
  -- how many of its scripts were done at the start, and how many answers it has
  abbrev n : ℕ
  n = finished_of s c

  abbrev a : ℕ
  a = length (answers_of e c)

  abbrev left : List (List Instr)
  left = drop n (scripts_of p c)

  long : length left ≡ scripts_left p s c
  long = length-drop n (scripts_of p c)

  few_left : f.scripts.count ≤ length left
  few_left = omega (arith, f.scripts.few, long)

  few_begun : length ops ≤ scripts_left p s c
  few_begun = omega (arith, ap length f.scripts.are, length-map (take f.scripts.count left) operation_of, length-take-le f.scripts.count left few_left, f.scripts.few)

  few_ended : length outs ≤ length ops
  few_ended = elim (idle_or_open (machine_in w c).place) [
    | inl idle ↦ omega (arith, f.calls.idle idle)
    | inr opened ↦ omega (arith, (f.calls.open_call opened).0)
  ]

  few_more : length ops ≤ length outs + 1
  few_more = elim (idle_or_open (machine_in w c).place) [
    | inl idle ↦ omega (arith, f.calls.idle idle)
    | inr opened ↦ omega (arith, (f.calls.open_call opened).0)
  ]

  -- ---- each answer is that of a call that stands

  script_is : (x : ℕ) → script_of_ticket p c (n + x + 1) ≡ get_or (scripts_of p c) (n + x) []
  script_is x = ap (λ (i : ℕ). get_or (scripts_of p c) i []) (omega arith)

  length_is : (x : ℕ) → x < length ops → length (get_or ops x []) ≡ length (get_or (scripts_of p c) (n + x) [])
  length_is x among =
      let front : List (List Instr) = take f.scripts.count left in
      let short : x < length front = omega (arith, among, ap length f.scripts.are, length-map front operation_of) in
      let here : x < f.scripts.count = omega (arith, short, length-take-le f.scripts.count left few_left) in
      ap (λ (l : List (List ℕ)). length (get_or l x [])) f.scripts.are
      ∙ ap length (get_or-map operation_of front x [] [] short)
      ∙ length-map (get_or front x []) instr_word
      ∙ ap length (get_or-take f.scripts.count left x [] here)
      ∙ ap length (get_or-drop n (scripts_of p c) x [])

  of_outcome : (x : ℕ) (o : Outcome) (b : Answer) → x < length outs → get_or outs x no_outcome ≡ o → TellsAnswer o b → IsAnswerOf p s B w c (n + x) b
  of_outcome x (Spent k) b among is tells = absurd tells
  of_outcome x (Lost k) b among is tells = absurd tells
  of_outcome x (Answered k true raw steps) b among is tells =
      let stood : OutcomeStands (plan_setup p) B w c (n + x + 1) (get_or ops x []) (Answered k true raw steps) = subst (λ (o : Outcome). OutcomeStands (plan_setup p) B w c (n + x + 1) (get_or ops x []) o) is (f.calls.each x among) in
      let at = f.announced x k steps raw among is in
      let run : IsRun p s B w (answer_entry c (n + x) b) = record {
        number = k;
        place = at.place;
        there = at.there;
        is = same_entry (entry_at p s B w k at.place) (answer_entry c (n + x) b) (sym tells.0) at.caller (omega (arith, at.ticket)) (sym tells.1) (sym (at.reply b.reply tells.2));
        ticket = at.ticket;
      } in
      record {
        stands = subst (λ (q : Bool). Stands p s B w (answer_entry c (n + x) b) q) (sym tells.1) run;
        within = omega (arith, tells.3, stood.4);
        least = subst (λ (q : Bool). cond q (length (get_or (scripts_of p c) (n + x) []) + 5) 3 ≤ b.steps) (sym tells.1) (omega (arith, tells.3, stood.3, length_is x (omega (arith, among, few_ended))));
      }
  of_outcome x (Answered k false raw steps) b among is tells =
      let stood : OutcomeStands (plan_setup p) B w c (n + x + 1) (get_or ops x []) (Answered k false raw steps) = subst (λ (o : Outcome). OutcomeStands (plan_setup p) B w c (n + x + 1) (get_or ops x []) o) is (f.calls.each x among) in
      let at = f.read x k steps raw among is in
      let read : IsReadOf p s B w (answer_entry c (n + x) b) = record {
        place = at.place;
        among = at.among;
        caller = at.caller;
        ticket = at.ticket;
        seq = at.seq ∙ sym tells.0;
        from = omega (arith, at.from, tells.0);
        upto = omega (arith, at.upto, tells.0);
        only = subst (λ (l : List Instr). All (λ i. IsTrue (reads_only i)) l) (script_is x) at.only;
        reply = at.reply b.reply tells.2 ∙ ap (λ (l : List Instr). (play_script (store_at_seq p B s.store w k) l).1) (script_is x) ∙ ap (λ (j : ℕ). (play_script (store_at_seq p B s.store w j) (get_or (scripts_of p c) (n + x) [])).1) (sym tells.0);
      } in
      record {
        stands = subst (λ (q : Bool). Stands p s B w (answer_entry c (n + x) b) q) (sym tells.1) read;
        within = omega (arith, tells.3, stood.4);
        least = subst (λ (q : Bool). cond q (length (get_or (scripts_of p c) (n + x) []) + 5) 3 ≤ b.steps) (sym tells.1) (omega (arith, tells.3, stood.3, f.least_reads x (omega (arith, among, few_ended)) at.only));
      }

  pub answer_is : (x : ℕ) (none : Answer) → x < length (answers_of e c) → IsAnswerOf p s B w c (finished_of s c + x) (get_or (answers_of e c) x none)
  answer_is x none among =
      let told = told_at outs (answers_of e c) f.tells.told f.tells.answers_first x none among in
      of_outcome x (get_or outs x no_outcome) (get_or (answers_of e c) x none) told.0 refl told.1

  -- ---- the entries, where these are beyond the answers

  own_length : (extra : List Entry) → length (own_entries s e c extra) ≡ a + length extra
  own_length extra = length-append (answer_entries c n (answers_of e c)) extra ∙ ap (λ (m : ℕ). m + length extra) (length-answer_entries c n (answers_of e c))

  -- a call in a durable batch was begun
  was_begun : (k y : ℕ) → IsPlace p B w k y → (call_at B w k y).caller ≡ c → (n < (call_at B w k y).ticket) × ((call_at B w k y).ticket ≤ n + length ops)
  was_begun k y there same = let begun = f.calls.calls k there.from (omega (arith, sound.reaches, there.upto)) y no_call there.among same in (begun.0, begun.1)

  own_of : (extra : List Entry) (q : Ending) → ending_of e c ≡ q → Each (λ g. (g.caller ≡ c) × Stands p s B w g g.announced) extra → map (λ (g : Entry). g.index) extra ≡ range_with_len (n + a) (length extra)
      → a + length extra ≤ scripts_left p s c → ((k y : ℕ) → IsPlace p B w k y → (call_at B w k y).caller ≡ c → (call_at B w k y).ticket ≤ n + (a + length extra))
      → BeyondAnswers p e c (n + a) q extra → HasOpenCall (end_state_of q) a (a + length extra)
      → HasEndState (end_state_of q) a (scripts_left p s c) (durable_seq (plan_setup p) w.words) p.limit → IsOwnOf p s B w e c extra
  own_of extra q is each indices few covers beyond opens ending = record {
    each = each_append (λ g. (g.caller ≡ c) × Stands p s B w g g.announced) (answer_entries c n (answers_of e c)) extra
        (each_answer (λ g. (g.caller ≡ c) × Stands p s B w g g.announced) c n (answers_of e c) (λ y none among. (refl, (answer_is y none among).stands))) each;
    indices = answer_indices c n (answers_of e c) extra indices;
    few = omega (arith, own_length extra, few);
    covers = λ k y there same. ((was_begun k y there same).0, omega (arith, own_length extra, covers k y there same));
    beyond = subst (λ (r : Ending). BeyondAnswers p e c (n + a) r extra) (sym is) beyond;
    open_call = subst (λ (r : Ending). HasOpenCall (end_state_of r) a (length (own_entries s e c extra))) (sym is) (subst (λ (m : ℕ). HasOpenCall (end_state_of q) a m) (sym (own_length extra)) opens);
    ending = subst (λ (r : Ending). HasEndState (end_state_of r) a (scripts_left p s c) (durable_seq (plan_setup p) w.words) p.limit) (sym is) ending;
  }

  -- where a call was spent
  module _ (sp : SomeSpent outs (answers_of e c) (last_outcome outs)) where
    spent_left : a < scripts_left p s c
    spent_left = omega (arith, sp.among, few_ended, few_begun)

    spent_ending : ending_of e c ≡ Ran_out sp.last_seq
    spent_ending =
        f.tells.ended ∙ halted_at outs (machine_in w c).steps (scripts_left p s c) a (λ same. absurd (omega (arith, same, spent_left))) ∙ ap (λ (o : Option Outcome). ending_if_left o (machine_in w c).steps) sp.after

    -- all its calls in batches are older than the spent one
    spent_case : IsOwnOf p s B w e c []
    spent_case =
        let stood : OutcomeStands (plan_setup p) B w c (n + a + 1) (get_or ops a []) (Spent sp.seq) =
        subst (λ (o : Outcome). OutcomeStands (plan_setup p) B w c (n + a + 1) (get_or ops a []) o) sp.is (f.calls.each a sp.among) in
        own_of [] (Ran_out sp.last_seq) spent_ending tt refl (omega (arith, spent_left))
        (λ k y there same. let low = stood.2 k there.from (omega (arith, sound.reaches, there.upto)) y no_call there.among same in omega (arith, low))
        refl (omega arith) (spent_left, stood.1 ∙ stood.0)

  done_case : a ≡ scripts_left p s c → IsOwnOf p s B w e c []
  done_case same =
      own_of [] Done (f.tells.ended ∙ done_at outs (machine_in w c).steps (scripts_left p s c) a same) tt refl (omega (arith, same))
      (λ k y there mine. omega (arith, (was_begun k y there mine).1, few_begun, same)) refl (omega arith) same

  module _ (all : a ≡ length outs) (less : a < scripts_left p s c) (ending : ending_of e c ≡ Stopped ((machine_in w c).steps + 1)) where
    no_call_case : HasNone p s B w e c → IsOwnOf p s B w e c []
    no_call_case none =
        own_of [] (Stopped ((machine_in w c).steps + 1)) ending tt refl (omega (arith, less)) (λ k y there mine. absurd (none.absent k there.from there.upto y no_call there.among mine))
        (open_none p e c (n + a) (eqb (record_number p e (ticket_cell_at MOST_INSTRS c)) (n + a + 1)) (eqb_not _ _ (λ same. absurd (omega (arith, same, none.ticket_is)))))
        (omega arith, omega arith) less

    module _ (last : IsLast p s B w e c) where
      -- no call of the caller in a durable batch has a higher ticket than the last
      upto_last : (k y : ℕ) → IsPlace p B w k y → (call_at B w k y).caller ≡ c → (call_at B w k y).ticket ≤ (call_at B w last.number last.place).ticket
      upto_last k y there mine = elim (cases_order (call_at B w k y).ticket (call_at B w last.number last.place).ticket) [
        | inl same ↦ omega (arith, same)
        | inr (inl low) ↦ omega (arith, low)
        | inr (inr high) ↦
            let behind : last.number < k = earlier p s B w sound last.number k last.place y last.there there (last.caller ∙ sym mine) high in
            absurd (last.absent k behind there.upto y no_call there.among mine)
      ]

      answered_case : (call_at B w last.number last.place).ticket ≤ n + a → IsOwnOf p s B w e c []
      answered_case low =
          own_of [] (Stopped ((machine_in w c).steps + 1)) ending tt refl (omega (arith, less)) (λ k y there mine. omega (arith, upto_last k y there mine, low))
          (open_none p e c (n + a) (eqb (record_number p e (ticket_cell_at MOST_INSTRS c)) (n + a + 1)) (eqb_not _ _ (λ same. absurd (omega (arith, same, last.ticket_is, low)))))
          (omega arith, omega arith) less

      open_case : (call_at B w last.number last.place).ticket ≡ n + a + 1 → IsOwnOf p s B w e c (open_entry p e c (n + a) last.reply ∷ [])
      open_case next =
          let extra : Entry = open_entry p e c (n + a) last.reply in
          let small : (call_at B w last.number last.place).ticket < 4294967296 = omega (arith, next, less, narrow) in
          let number : last.number ≡ seq_of (recovered_data_word p e (ticket_cell_at MOST_INSTRS c)) = sym (seq_word last.number (call_at B w last.number last.place).ticket small) ∙ ap seq_of (sym last.word_is) in
          let run : IsRun p s B w extra = record {
            number = last.number;
            place = last.place;
            there = last.there;
            is = same_entry (entry_at p s B w last.number last.place) extra number last.caller (omega (arith, next)) refl (sym last.response);
            ticket = next;
          } in
          own_of (extra ∷ []) (Stopped ((machine_in w c).steps + 1)) ending ((refl, run), tt) refl (omega (arith, less)) (λ k y there mine. omega (arith, (was_begun k y there mine).1, few_more, all))
          (open_one p e c (n + a) (eqb (record_number p e (ticket_cell_at MOST_INSTRS c)) (n + a + 1)) last.reply (eqb_is _ _ (last.ticket_is ∙ next)) last.held)
          (omega arith, omega arith) less

    stopped_case : (extra : List Entry) × IsOwnOf p s B w e c extra
    stopped_case = elim f.recovered [
      | inl none ↦ ([], no_call_case none)
      | inr last ↦ elim (cases_order (call_at B w last.number last.place).ticket (n + a + 1)) [
        | inl next ↦ (open_entry p e c (n + a) last.reply ∷ [], open_case last next)
        | inr (inl low) ↦ ([], answered_case last (omega (arith, low)))
        | inr (inr high) ↦ absurd (omega (arith, high, (was_begun last.number last.place last.there last.caller).1, few_more, all))
      ]
    ]

  all_case : AllTold outs (answers_of e c) (last_outcome outs) → (extra : List Entry) × IsOwnOf p s B w e c extra
  all_case all = elim (cases_order a (scripts_left p s c)) [
    | inl same ↦ ([], done_case same)
    | inr (inl less) ↦
        stopped_case all.same less
        (f.tells.ended ∙ halted_at outs (machine_in w c).steps (scripts_left p s c) a (λ same. absurd (omega (arith, same, less))) ∙ stopped_at (last_outcome outs) (machine_in w c).steps all.after)
    | inr (inr high) ↦ absurd (omega (arith, high, all.same, few_ended, few_begun))
  ]

  pub own_at : (extra : List Entry) × IsOwnOf p s B w e c extra
  own_at = elim (ends_so outs (answers_of e c) None refl f.tells.told f.tells.answers_first) [
    | inl all ↦ all_case all
    | inr one ↦ ([], spent_case one)
  ]

  -- of a stopped caller no call was spent
  pub stopped_unspent : end_state_of (ending_of e c) ≡ stopped → NoneSpent outs
  stopped_unspent state = elim (ends_so outs (answers_of e c) None refl f.tells.told f.tells.answers_first) [
    | inl all ↦ all.none
    | inr one ↦ let two : spent ≡ stopped = sym (ap end_state_of (spent_ending one)) ∙ state in absurd (cc)
  ]
