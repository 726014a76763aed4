-- What recovery finds in a caller's own cells is its last announced entry: its ticket and its reply.
use Rattle.std.proofs.Common.{◌≡◌, ℕ, zero, suc, ◌+◌, ◌-◌, ◌<◌, ◌≤◌, ◌⊎◌, inl, inr, Bool, true, false, List, [], ◌∷◌, ◌++◌, length, get_or, refl, sym, ap, subst, ◌∙◌, arith, length-append}
use Rattle.std.specs.Prelude.{IsTrue, Any, ◌==◌}
use Rattle.std.specs.List.{AllByRecursion as Each}
use Rattle.std.proofs.lemmas.Bool.{cases_lt}
use Rattle.std.proofs.lemmas.List.Elements.{All-from_recursion}
use Rattle.std.proofs.lemmas.Bool.{eqb-true as tells}
use Rattle.of_mem.specs.Places.{ticket_cell_at}
use Rattle.of_script.specs.declared.instr.TheConstants.{MOST_INSTRS}
use Rattle.of_eval.specs.Record.{record_number, answer_entry, answer_entries, open_entry, OpenCall, BeyondAnswers, IsLawfulRecord}
use Rattle.of_plan.specs.declared.answer.Answer.{Answer}
use Rattle.of_plan.specs.declared.answer.Ending.{Ending}
use Rattle.of_plan.specs.declared.answer.Ending.TheVariants.{Done, Stopped, Spent}
use Rattle.of_plan.specs.Plan.{Plan}
use Rattle.of_plan.specs.Report.{Entry, Start, Report, entries_of, finished_of}
use Rattle.of_plan.specs.Ended.{Ended, answers_of, ending_of}
use Rattle.of_plan.specs.Histories.{IsIn}
use Rattle.of_plan.proofs.HistoriesLists.{each_append, any_in, in_left}
use Rattle.of_core.specs.Machine.{no_call}
use Rattle.of_core.specs.TableMoment.{Moment, TableStart}
use Rattle.of_caller.specs.Runs.{IsRunOfPlan}
use Rattle.of_caller.specs.Restarts.{IsHeldIn, HoldsLastAnnounced}
use Rattle.of_caller.proofs.RecordsLists.{in_at, length-answer_entries, answer_at}
use Rattle.of_caller.proofs.RecordsCalls.{call_at, entry_at, IsPlace, Stands, is_entry, earlier}
use Rattle.of_caller.proofs.RecordsFacts.{CallerFacts, IsLast}
use Rattle.of_caller.proofs.RecordsOwn.{IsOwnOf, own_entries, own_at, answer_is, each_answer}
use Rattle.of_caller.proofs.RecordsLawful.{MomentFacts, narrow}
use Rattle.of_caller.proofs.Records.{facts}

-- an announced entry is below the ticket
abbrev pub Below : ℕ → Entry → Type 0
Below t f = IsTrue f.announced → f.index < t

-- ---- what stands beyond the answers

-- an open call that recovery finds has the recovered ticket
open_below : (p : Plan) (e : Ended) (c x : ℕ) (b : Bool) (extra : List Entry) → (b ≡ true → record_number p e (ticket_cell_at MOST_INSTRS c) ≡ x + 1) → OpenCall p e c x b extra → Each (Below (record_number p e (ticket_cell_at MOST_INSTRS c))) extra
open_below p e c x true extra is told = subst (Each (Below (record_number p e (ticket_cell_at MOST_INSTRS c)))) (sym told.2) ((λ announced. omega (arith, is refl)), tt)
open_below p e c x false extra is told = subst (Each (Below (record_number p e (ticket_cell_at MOST_INSTRS c)))) (sym told) tt

-- two lists that stand beyond the same answers are both empty or both have it
open_has : (p : Plan) (e : Ended) (c x : ℕ) (b : Bool) (one other : List Entry) → (b ≡ true → record_number p e (ticket_cell_at MOST_INSTRS c) ≡ x + 1) → OpenCall p e c x b one → OpenCall p e c x b other → 0 < length one
    → Any (IsHeldIn (record_number p e) c) other
open_has p e c x true one other is first second some =
    subst (Any (IsHeldIn (record_number p e) c)) (sym second.2)
    (any_in (IsHeldIn (record_number p e) c) (open_entry p e c x second.0) (open_entry p e c x second.0 ∷ []) (inl refl)
    (record { announced = refl; ticket = is refl; reply = second.0; held = second.1; response = refl }))
open_has p e c x false one other is first second some = absurd (omega (arith, ap length first, some))

beyond_below : (p : Plan) (e : Ended) (c x : ℕ) (q : Ending) (extra : List Entry) → BeyondAnswers p e c x q extra → Each (Below (record_number p e (ticket_cell_at MOST_INSTRS c))) extra
beyond_below p e c x Done extra told = subst (Each (Below (record_number p e (ticket_cell_at MOST_INSTRS c)))) (sym told) tt
beyond_below p e c x (Stopped asked) extra told = open_below p e c x (record_number p e (ticket_cell_at MOST_INSTRS c) == x + 1) extra (tells (record_number p e (ticket_cell_at MOST_INSTRS c)) (x + 1)) told
beyond_below p e c x (Spent s) extra told = subst (Each (Below (record_number p e (ticket_cell_at MOST_INSTRS c)))) (sym told) tt

beyond_has : (p : Plan) (e : Ended) (c x : ℕ) (q : Ending) (one other : List Entry) → BeyondAnswers p e c x q one → BeyondAnswers p e c x q other → 0 < length one
    → Any (IsHeldIn (record_number p e) c) other
beyond_has p e c x Done one other first second some = absurd (omega (arith, ap length first, some))
beyond_has p e c x (Stopped asked) one other first second some = open_has p e c x (record_number p e (ticket_cell_at MOST_INSTRS c) == x + 1) one other (tells (record_number p e (ticket_cell_at MOST_INSTRS c)) (x + 1)) first second some
beyond_has p e c x (Spent s) one other first second some = absurd (omega (arith, ap length first, some))

-- what is found in a part is found in the whole
any_behind : {X : Type 0} (P : X → Type 0) (xs ys : List X) → Any P ys → Any P (xs ++ ys)
any_behind P [] ys found = found
any_behind P (x ∷ xs) ys found = let rest = any_behind P xs ys found in (suc rest.0, rest.1, omega (arith, rest.2), rest.3, rest.4)

any_append : {X : Type 0} (P : X → Type 0) (xs ys : List X) → Any P xs → Any P (xs ++ ys)
any_append {X = X} P xs ys found = any_in P found.1 (xs ++ ys) (in_left found.1 xs ys (place_in xs found.0 found.1 found.2 found.3)) found.4
  where
    place_in : (zs : List X) (k : ℕ) (x : X) → k < length zs → get_or zs k x ≡ x → IsIn x zs
    place_in [] k x lt is = absurd (omega (arith, lt))
    place_in (z ∷ zs) zero x lt is = inl is
    place_in (z ∷ zs) (suc k) x lt is = inr (place_in zs k x (omega (arith, lt)) is)

module _ (p : Plan) (s : Start) (B : TableStart) (w : Moment) (e : Ended) (run : IsRunOfPlan p s B w e) (r : Report) (lawful : IsLawfulRecord p s e r) (c : ℕ) (lt : c < p.callers) where
  abbrev m : MomentFacts p s B w e run.operations run.outcomes
  m = facts p s B w e run

  abbrev f : CallerFacts p s B w e c (run.operations c) (run.outcomes c)
  f = m.callers c lt

  abbrev n : ℕ
  n = finished_of s c

  abbrev answers : List Entry
  answers = answer_entries c n (answers_of e c)

  -- the recovered ticket
  abbrev ticket : ℕ
  ticket = record_number p e (ticket_cell_at MOST_INSTRS c)

  abbrev Holds : Entry → Type 0
  Holds g = IsHeldIn (record_number p e) c g

  abbrev own : (extra : List Entry) × IsOwnOf p s B w e c extra
  own = own_at p s B w m.sound e c (run.operations c) (run.outcomes c) lt (narrow p s B w e run.operations run.outcomes m c lt) f

  abbrev extra : List Entry
  extra = (lawful.report.entries c lt).extra

  stands : (x : ℕ) (none : Answer) → x < length (answers_of e c) → Stands p s B w (answer_entry c (n + x) (get_or (answers_of e c) x none)) (get_or (answers_of e c) x none).announced
  stands x none among = (answer_is p s B w m.sound e c (run.operations c) (run.outcomes c) lt (narrow p s B w e run.operations run.outcomes m c lt) f x none among).stands

  -- a call of the caller in a durable batch is no later than the last one
  call_below : (k y : ℕ) → IsPlace p B w k y → (call_at B w k y).caller ≡ c → (call_at B w k y).ticket ≤ ticket
  call_below k y there mine = elim f.recovered [
    | inl none ↦ absurd (none.absent k there.from there.upto y no_call there.among mine)
    | inr last ↦ elim (cases_lt ticket (call_at B w k y).ticket) [
      | inr low ↦ low
      | inl high ↦
          let behind : last.number < k = earlier p s B w m.sound last.number k last.place y last.there there (last.caller ∙ sym mine) (omega (arith, high, last.ticket_is)) in
          absurd (last.absent k behind there.upto y no_call there.among mine)
    ]
  ]

  run_below : (x : ℕ) (a : Answer) (b : Bool) → Stands p s B w (answer_entry c x a) b → IsTrue b → x < ticket
  run_below x a true one is = omega (arith, one.ticket, call_below one.number one.place one.there (ap (λ (g : Entry). g.caller) one.is))
  run_below x a false one is = absurd (cc (is))

  answers_below : Each (Below ticket) answers
  answers_below = each_answer (Below ticket) c n (answers_of e c) (λ y none among is. run_below (n + y) (get_or (answers_of e c) y none) (get_or (answers_of e c) y none).announced (stands y none among) is)

  below : Each (Below ticket) (entries_of r c)
  below = subst (Each (Below ticket)) (sym (lawful.report.entries c lt).own) (each_append (Below ticket) answers extra answers_below (beyond_below p e c (n + length (answers_of e c)) (ending_of e c) extra (lawful.report.entries c lt).beyond))

  -- the last call is answered, or it is the open one
  among_answers : (x : ℕ) → x < length (answers_of e c) → (last : IsLast p s B w e c) → n + x + 1 ≡ ticket → Any Holds answers
  among_answers x among last is =
      let none : Answer = get_or (answers_of e c) x (no_answer last) in
      let d : Entry = answer_entry c (n + x) none in
      let here : get_or answers x d ≡ d = answer_at c n (answers_of e c) x d (no_answer last) among in
      let same : d ≡ entry_at p s B w last.number last.place = is_entry p s B w m.sound d last.number last.place last.there (stands x (no_answer last) among) (sym last.caller) (omega (arith, is, last.ticket_is)) in
      any_in Holds d answers (subst (λ (g : Entry). IsIn g answers) here (in_at answers x d (omega (arith, among, length-answer_entries c n (answers_of e c)))))
      (record { announced = ap (λ (g : Entry). g.announced) same; ticket = sym is; reply = last.reply; held = last.held; response = ap (λ (g : Entry). g.reply) same ∙ sym last.response })
    where
      no_answer : IsLast p s B w e c → Answer
      no_answer last = record { seq = 0; announced = true; reply = last.reply; steps = 0 }

  has : (ticket ≡ n) ⊎ Any Holds (entries_of r c)
  has = elim f.recovered [
    | inl none ↦ inl none.ticket_is
    | inr last ↦
        let covers = own.1.covers last.number last.place last.there last.caller in
        let low : n < ticket = omega (arith, covers.0, last.ticket_is) in
        let whole : length (own_entries s e c own.0) ≡ length (answers_of e c) + length own.0 =
        length-append answers own.0 ∙ ap (λ (k : ℕ). k + length own.0) (length-answer_entries c n (answers_of e c)) in
        inr (subst (Any Holds) (sym (lawful.report.entries c lt).own) (elim (cases_lt (ticket - n - 1) (length (answers_of e c))) [
          | inl among ↦ any_append Holds answers extra (among_answers (ticket - n - 1) among last (omega (arith, low)))
          | inr beyond ↦ any_behind Holds answers extra (beyond_has p e c (n + length (answers_of e c)) (ending_of e c) own.0 extra own.1.beyond (lawful.report.entries c lt).beyond (omega (arith, beyond, low, covers.1, last.ticket_is, whole)))
        ]))
  ]

  from : n ≤ ticket
  from = elim f.recovered [
    | inl none ↦ omega (arith, none.ticket_is)
    | inr last ↦ omega (arith, (own.1.covers last.number last.place last.there last.caller).0, last.ticket_is)
  ]

  pub hold_last : HoldsLastAnnounced (record_number p e) c (finished_of s c) (entries_of r c)
  hold_last = record { from = from; last = All-from_recursion (Below ticket) (entries_of r c) below; has = has }
