-- A caller whose machine lags: its steps, and where they lead.
use Rattle.std.proofs.Common.{◌≡◌, ℕ, List, ◌+◌, ◌<◌, ◌≤◌, Bool, true, false, nat_lt, Option, refl, ap, sym, ◌∙◌, subst, arith}
use Rattle.of_cell.specs.declared.shape.TheConstants.{MOST_CALLERS, MOST_DATA_CELLS}
use Rattle.of_cell.specs.Words.{seq_of}
use Rattle.of_mem.specs.Meaning.{Meaning}
use Rattle.of_core.specs.declared.place.Place.{Place}
use Rattle.of_core.specs.declared.place.Place.TheVariants.{StoreLog, RaiseLog, LoadTarget, ExchangeTarget, RaiseTarget}
use Rattle.of_core.specs.Machine.{IsOpen}
use Rattle.of_core.specs.MachineValue.{Machine, machine_setup}
use Rattle.of_core.specs.Bound.{bound}
use Rattle.of_core.specs.Lagging.{at_place, after_lagging, log_word_place, entry_place, target_place_if}
use Rattle.of_core.proofs.Idle.{idle_or_open}
use Rattle.of_core.proofs.Lagging.{at_own, word_stored, word_raised, entry_loaded, entry_raised}
use Rattle.of_brake.specs.Stops.{HasRisen, ChargesAsk, Asked}
use Rattle.of_row.specs.declared.row.Row.{Row}
use Rattle.of_row.specs.Rows.{key_of, StepsMember, IsRowMember, IsMemberOf}
use Rattle.of_row.proofs.Members.{runs_on}
use Rattle.of_caller.specs.declared.caller.Caller.{Caller}
use Rattle.of_caller.specs.Callers.{IsCaller, caller_call, member_of}
use Rattle.of_caller.specs.Going.{LeadsOn, LeadsToDenial, GoesTo, IsDeniedAt, LagsTo, with_machine, lagging_caller, steps_left}
use Rattle.of_caller.proofs.CallerSteps.{within_after, falls}
use Rattle.of_caller.proofs.Phases.{one_step, one_denied}

module _ {W B : Type 0} (meaning : W → Meaning) (lawful : W → List ℕ → Type 0) (denials : B → ℕ) (left : B → Option (Option ℕ)) (answers asks : B → Option ℕ) (r : Row W) where
  -- the count of its steps fits its type, with two steps more too
  pub few_more : (c : Caller W) (p : Place) (k : ℕ) → IsCaller meaning r (lagging_caller c p k) → IsOpen p → (key_of r).callers ≤ MOST_CALLERS → (key_of r).cells ≤ MOST_DATA_CELLS → (caller_call c).steps + k + 2 < 18446744073709551616
  few_more c p k q o few_callers few_cells =
      let within : (caller_call c).steps + k < bound (machine_setup meaning c.machine) = q.within o in
      let callers : c.machine.callers ≡ (key_of r).callers = ap (λ (m : Machine W). m.callers) q.machine in
      let cells : c.machine.cells ≡ (key_of r).cells = ap (λ (m : Machine W). m.cells) q.machine in
      omega (arith, within, callers, cells, few_callers, few_cells)

  -- one step of the true caller
  pub went : (c c1 : Caller W) (b b1 : B) (s s1 : ℕ) → IsCaller meaning r c → IsOpen (caller_call c).place → IsRowMember r (member_of c1) → IsMemberOf meaning (member_of c1) c1.machine → c1.writes.room ≡ c.writes.room → StepsMember meaning lawful r c.machine c.member c1.machine c1.member → s1 ≡ s + 1
      → denials b ≤ denials b1 → ChargesAsk (left b) (left b1) true → Asked (asks b) (asks b1) → answers b1 ≡ answers b → GoesTo meaning lawful denials left answers asks r c b s c1 b1 s1
  went c c1 b b1 s s1 q o row member room step tick more charge ask same = record {
    caller = record { row = row; machine = runs_on r c.machine c1.machine _ q.machine step.2; member = member; room = room ∙ q.room; within = within_after meaning lawful r c q o c1 step };
    goes = one_step meaning lawful denials left answers asks r c c1 b b1 s s1 q o step tick more charge ask same;
    falls = falls meaning lawful r c q o c1 step idle_or_open;
  }

  -- a denied one
  pub stopped : (c c1 : Caller W) (b b1 : B) (s : ℕ) → IsCaller meaning r c → IsOpen (caller_call c).place → c1 ≡ c
      → denials b ≤ denials b1 → HasRisen (denials b) (denials b1) → ChargesAsk (left b) (left b1) false → Asked (asks b) (asks b1) → answers b1 ≡ answers b → IsDeniedAt meaning lawful denials left answers asks r c b s c1 b1 s
  stopped c c1 b b1 s q o stays more risen charge ask same = record {
    caller = subst (IsCaller meaning r) (sym stays) q;
    denied = one_denied meaning lawful denials left answers asks r c c1 b b1 s o stays more risen charge ask same;
  }

  -- what steps lead to, one after the other
  pub on_to : (c c1 c2 : Caller W) (b b1 b2 : B) (s s1 s2 : ℕ) → GoesTo meaning lawful denials left answers asks r c b s c1 b1 s1 → GoesTo meaning lawful denials left answers asks r c1 b1 s1 c2 b2 s2 → GoesTo meaning lawful denials left answers asks r c b s c2 b2 s2
  on_to c c1 c2 b b1 b2 s s1 s2 g h = record { caller = h.caller; goes = λ c0 b0 s0 t. h.goes c0 b0 s0 (g.goes c0 b0 s0 t); falls = omega (arith, g.falls, h.falls) }

  pub on_to_denial : (c c1 c2 : Caller W) (b b1 b2 : B) (s s1 s2 : ℕ) → GoesTo meaning lawful denials left answers asks r c b s c1 b1 s1 → IsDeniedAt meaning lawful denials left answers asks r c1 b1 s1 c2 b2 s2 → IsDeniedAt meaning lawful denials left answers asks r c b s c2 b2 s2
  on_to_denial c c1 c2 b b1 b2 s s1 s2 g h = record { caller = h.caller; denied = λ c0 b0 s0 t. h.denied c0 b0 s0 (g.goes c0 b0 s0 t) }

  -- where a step that was made has led, as the machine that lags says it
  pub led_to : (c c1 : Caller W) (p q : Place) (k j n : ℕ) (b b1 : B) (s s1 : ℕ) → c1.machine ≡ c.machine → after_lagging meaning c.machine p k n ≡ at_place c.machine q j
      → GoesTo meaning lawful denials left answers asks r (lagging_caller c p k) b s (with_machine c1 (after_lagging meaning c.machine p k n)) b1 s1
      → GoesTo meaning lawful denials left answers asks r (lagging_caller c p k) b s (lagging_caller c1 q j) b1 s1
  led_to c c1 p q k j n b b1 s s1 same leads g =
      subst (λ (m : Machine W). GoesTo meaning lawful denials left answers asks r (lagging_caller c p k) b s (with_machine c1 m) b1 s1) (leads ∙ ap (λ (m : Machine W). at_place m q j) (sym same)) g

  -- one step more of the true caller
  pub then_to : (c c1 c2 : Caller W) (o p q : Place) (k j j2 n : ℕ) (b b1 b2 : B) (s s1 s2 : ℕ) → GoesTo meaning lawful denials left answers asks r (lagging_caller c o k) b s (lagging_caller c1 p j) b1 s1 → c2.machine ≡ c1.machine
      → after_lagging meaning c1.machine p j n ≡ at_place c1.machine q (j + 1) → j + 1 ≡ j2
      → GoesTo meaning lawful denials left answers asks r (lagging_caller c1 p j) b1 s1 (with_machine c2 (after_lagging meaning c1.machine p j n)) b2 s2
      → GoesTo meaning lawful denials left answers asks r (lagging_caller c o k) b s (lagging_caller c2 q j2) b2 s2
  then_to c c1 c2 o p q k j j2 n b b1 b2 s s1 s2 g same leads count h =
      on_to (lagging_caller c o k) (lagging_caller c1 p j) (lagging_caller c2 q j2) b b1 b2 s s1 s2 g
      (led_to c1 c2 p q j j2 n b1 b2 s1 s2 same (leads ∙ ap (at_place c1.machine q) count) h)

  -- the two steps for a log word
  pub word_stands : (c c1 c2 : Caller W) (at k n1 n2 : ℕ) (b b1 b2 : B) (s s1 s2 : ℕ) → c1.machine ≡ c.machine → c2.machine ≡ c1.machine
      → GoesTo meaning lawful denials left answers asks r (lagging_caller c (StoreLog at) k) b s (with_machine c1 (after_lagging meaning c.machine (StoreLog at) k n1)) b1 s1
      → GoesTo meaning lawful denials left answers asks r (lagging_caller c1 (RaiseLog at) (k + 1)) b1 s1 (with_machine c2 (after_lagging meaning c1.machine (RaiseLog at) (k + 1) n2)) b2 s2
      → GoesTo meaning lawful denials left answers asks r (lagging_caller c (StoreLog at) k) b s (lagging_caller c2 (log_word_place (caller_call c) (at + 1)) (k + 2)) b2 s2
  word_stands c c1 c2 at k n1 n2 b b1 b2 s s1 s2 same1 same2 g h =
      then_to c c1 c2 (StoreLog at) (RaiseLog at) (log_word_place (caller_call c) (at + 1)) k (k + 1) (k + 2) n2 b b1 b2 s s1 s2
      (led_to c c1 (StoreLog at) (RaiseLog at) k (k + 1) n1 b b1 s s1 same1 (word_stored meaning c.machine k n1 at) g)
      same2 (word_raised meaning c1.machine (k + 1) n2 at ∙ ap (λ (m : Machine W). at_place c1.machine (log_word_place m.call (at + 1)) (k + 1 + 1)) same1) (omega arith) h

  -- the first step for an entry
  pub entry_found : (c c1 : Caller W) (e k n : ℕ) (older : Bool) (b b1 : B) (s s1 : ℕ) → c1.machine ≡ c.machine → older ≡ nat_lt (seq_of n) (caller_call c1).seq
      → GoesTo meaning lawful denials left answers asks r (lagging_caller c (LoadTarget e) k) b s (with_machine c1 (after_lagging meaning c.machine (LoadTarget e) k n)) b1 s1
      → GoesTo meaning lawful denials left answers asks r (lagging_caller c (LoadTarget e) k) b s (lagging_caller c1 (target_place_if older e n) (k + 1)) b1 s1
  entry_found c c1 e k n older b b1 s s1 same is g =
      let tests : nat_lt (seq_of n) (caller_call c).seq ≡ older = sym (is ∙ ap (λ (m : Machine W). nat_lt (seq_of n) m.call.seq) same) in
      led_to c c1 (LoadTarget e) (target_place_if older e n) k (k + 1) n b b1 s s1 same (entry_loaded meaning c.machine k n e ∙ ap (λ (x : Bool). at_place c.machine (target_place_if x e n) (k + 1)) tests) g

  -- and the last one
  pub entry_stands : (c c1 c2 : Caller W) (o : Place) (e f k j j2 n : ℕ) (b b1 b2 : B) (s s1 s2 : ℕ) → GoesTo meaning lawful denials left answers asks r (lagging_caller c o k) b s (lagging_caller c1 (RaiseTarget e f) j) b1 s1 → c1.machine ≡ c.machine → c2.machine ≡ c1.machine → j + 1 ≡ j2
      → GoesTo meaning lawful denials left answers asks r (lagging_caller c1 (RaiseTarget e f) j) b1 s1 (with_machine c2 (after_lagging meaning c1.machine (RaiseTarget e f) j n)) b2 s2
      → GoesTo meaning lawful denials left answers asks r (lagging_caller c o k) b s (lagging_caller c2 (entry_place (caller_call c) (e + 1)) j2) b2 s2
  entry_stands c c1 c2 o e f k j j2 n b b1 b2 s s1 s2 g same1 same2 count h =
      then_to c c1 c2 o (RaiseTarget e f) (entry_place (caller_call c) (e + 1)) k j j2 n b b1 b2 s s1 s2 g same2
      (entry_raised meaning c1.machine j n e f ∙ ap (λ (m : Machine W). at_place c1.machine (entry_place m.call (e + 1)) (j + 1)) same1) count h

  -- or what the exchange and the steps after it have led to
  pub entry_brought : (c c1 c2 : Caller W) (e f k j j2 : ℕ) (b b1 b2 : B) (s s1 s2 : ℕ) → c1.machine ≡ c.machine → j ≡ j2
      → GoesTo meaning lawful denials left answers asks r (lagging_caller c (LoadTarget e) k) b s (lagging_caller c1 (ExchangeTarget e f) (k + 1)) b1 s1
      → GoesTo meaning lawful denials left answers asks r (lagging_caller c1 (ExchangeTarget e f) (k + 1)) b1 s1 (lagging_caller c2 (entry_place (caller_call c1) (e + 1)) j) b2 s2
      → GoesTo meaning lawful denials left answers asks r (lagging_caller c (LoadTarget e) k) b s (lagging_caller c2 (entry_place (caller_call c) (e + 1)) j2) b2 s2
  entry_brought c c1 c2 e f k j j2 b b1 b2 s s1 s2 same count g h =
      subst (λ (z : Machine W × ℕ). GoesTo meaning lawful denials left answers asks r (lagging_caller c (LoadTarget e) k) b s (lagging_caller c2 (entry_place z.0.call (e + 1)) z.1) b2 s2) (λ i. (same i, count i))
      (on_to (lagging_caller c (LoadTarget e) k) (lagging_caller c1 (ExchangeTarget e f) (k + 1)) (lagging_caller c2 (entry_place (caller_call c1) (e + 1)) j) b b1 b2 s s1 s2 g h)

  -- ---- a loop in which the machine lags
  -- it begins where the machine is
  pub starts : (c : Caller W) (p : Place) (b : B) (s : ℕ) → IsCaller meaning r c → p ≡ (caller_call c).place → LagsTo meaning lawful denials left answers asks r c b s c p 0 b s
  starts c p b s q here =
      let same : lagging_caller c p 0 ≡ c = ap (with_machine c) (at_own meaning c.machine p here) in
      record {
        machine = refl;
        caller = subst (IsCaller meaning r) (sym same) q;
        goes = subst (λ (z : Caller W). LeadsOn meaning lawful denials left answers asks r c b s z b s) (sym same) (λ c0 b0 s0 h. h);
        falls = let e : steps_left meaning (lagging_caller c p 0) ≡ steps_left meaning c = ap (steps_left meaning) same in omega (arith, e);
      }

  -- it goes on by more steps
  pub lags_on : (c c1 c2 : Caller W) (p q p2 : Place) (k k2 : ℕ) (b b1 b2 : B) (s s1 s2 : ℕ) → LagsTo meaning lawful denials left answers asks r c b s c1 p k b1 s1 → p ≡ q → c2.machine ≡ c1.machine
      → GoesTo meaning lawful denials left answers asks r (lagging_caller c1 q k) b1 s1 (lagging_caller c2 p2 k2) b2 s2 → LagsTo meaning lawful denials left answers asks r c b s c2 p2 k2 b2 s2
  lags_on c c1 c2 p q p2 k k2 b b1 b2 s s1 s2 l at same g =
      let h = subst (λ (z : Place). GoesTo meaning lawful denials left answers asks r (lagging_caller c1 z k) b1 s1 (lagging_caller c2 p2 k2) b2 s2) (sym at) g in
      record { machine = same ∙ l.machine; caller = h.caller; goes = λ c0 b0 s0 t. h.goes c0 b0 s0 (l.goes c0 b0 s0 t); falls = omega (arith, l.falls, h.falls) }

  -- it ends where the brake denies a step
  pub lags_denied : (c c1 c2 : Caller W) (p q : Place) (k : ℕ) (b b1 b2 : B) (s s1 s2 : ℕ) → LagsTo meaning lawful denials left answers asks r c b s c1 p k b1 s1 → p ≡ q
      → IsDeniedAt meaning lawful denials left answers asks r (lagging_caller c1 q k) b1 s1 c2 b2 s2 → LeadsToDenial meaning lawful denials left answers asks r c b s c2 b2 s2
  lags_denied c c1 c2 p q k b b1 b2 s s1 s2 l at g c0 b0 s0 t =
      let h = subst (λ (z : Place). IsDeniedAt meaning lawful denials left answers asks r (lagging_caller c1 z k) b1 s1 c2 b2 s2) (sym at) g in
      h.denied c0 b0 s0 (l.goes c0 b0 s0 t)

  -- or where the machine catches up
  pub caught_up : (c c1 : Caller W) (p q : Place) (k : ℕ) (b b1 : B) (s s1 : ℕ) → LagsTo meaning lawful denials left answers asks r c b s c1 p k b1 s1 → p ≡ q → LagsTo meaning lawful denials left answers asks r c b s c1 q k b1 s1
  caught_up c c1 p q k b b1 s s1 l at = subst (λ (z : Place). LagsTo meaning lawful denials left answers asks r c b s c1 z k b1 s1) at l
