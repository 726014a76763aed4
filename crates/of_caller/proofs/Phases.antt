-- One step of a call and a denied ask, told from wherever the call began; and what several steps come to.
use Rattle.std.proofs.Common.{◌≡◌, ℕ, List, ◌+◌, ◌-◌, ◌<◌, ◌≤◌, refl, true, false, Option, Result, Ok, Err, OnErr, OnOk, sym, ◌∙◌, ap, subst, arith, le_trans}
use Rattle.of_cell.specs.declared.shape.TheConstants.{MOST_CALLERS, MOST_DATA_CELLS}
use Rattle.of_mem.specs.Meaning.{Meaning}
use Rattle.of_core.specs.Machine.{IsOpen, is_idle}
use Rattle.of_core.specs.MachineValue.{Machine, machine_setup}
use Rattle.of_core.specs.Bound.{bound}
use Rattle.of_brake.specs.Stops.{HasRisen, ChargesAsk, Asked}
use Rattle.of_row.proofs.Pasts.{prefix_self}
use Rattle.of_row.specs.declared.row.Row.{Row}
use Rattle.of_row.specs.Rows.{StepsMember, key_of, setup_at, row_start}
use Rattle.of_caller.specs.declared.caller.Caller.{Caller}
use Rattle.of_caller.specs.Callers.{IsCaller, caller_call, sight_of}
use Rattle.of_caller.specs.declared.caller.CallErr.TheVariants.{Stopped}
use Rattle.of_caller.specs.CallsTold.{TellsCallOf}
use Rattle.of_caller.specs.Going.{Progress, HasGone, IsDenied, LeadsOn, LeadsToDenial}
use Rattle.of_caller.proofs.CallerSteps.{goes}
use Rattle.of_caller.proofs.BrakeCharges.{gave_more, gave_none, asked_more, asked_none}

-- what holds, holds of an error too
pub on_err : {A E : Type 0} (r : Result A E) (P : Type 0) → P → OnErr r P
on_err (Ok a) P p = tt
on_err (Err e) P p = p

pub ok_then : {A E : Type 0} (r : Result A E) (P Q : Type 0) → OnOk r P → (P → Q) → OnOk r Q
ok_then (Ok a) P Q p f = f p
ok_then (Err e) P Q p f = tt

pub err_then : {A E : Type 0} (r : Result A E) (P Q : Type 0) → OnErr r P → (P → Q) → OnErr r Q
err_then (Ok a) P Q p f = tt
err_then (Err e) P Q p f = f p

module _ {W B : Type 0} (meaning : W → Meaning) (lawful : W → List ℕ → Type 0) (denials : B → ℕ) (left : B → Option (Option ℕ)) (answers asks : B → Option ℕ) (r : Row W) where
  pub one_step : (c c1 : Caller W) (b b1 : B) (s s1 : ℕ) → IsCaller meaning r c → IsOpen (caller_call c).place → StepsMember meaning lawful r c.machine c.member c1.machine c1.member → s1 ≡ s + 1
      → denials b ≤ denials b1 → ChargesAsk (left b) (left b1) true → Asked (asks b) (asks b1) → answers b1 ≡ answers b → LeadsOn meaning lawful denials left answers asks r c b s c1 b1 s1
  one_step c c1 b b1 s s1 q o step tick more charge ask same c0 b0 s0 g = record {
    count = g.count + 1;
    progress = goes meaning lawful r c q o c1 step (caller_call c0) (sight_of c0) g.count g.progress;
    steps = omega (arith, tick, g.steps);
    denied = le_trans g.denied more;
    uses = gave_more (left b0) (left b) (left b1) g.count g.uses charge;
    asked = asked_more (asks b0) (asks b) (asks b1) g.count g.asked ask;
    heard = same ∙ g.heard;
  }

  pub one_denied : (c c1 : Caller W) (b b1 : B) (s : ℕ) → IsOpen (caller_call c).place → c1 ≡ c
      → denials b ≤ denials b1 → HasRisen (denials b) (denials b1) → ChargesAsk (left b) (left b1) false → Asked (asks b) (asks b1) → answers b1 ≡ answers b → LeadsToDenial meaning lawful denials left answers asks r c b s c1 b1 s
  one_denied c c1 b b1 s o stays more risen charge ask same c0 b0 s0 g =
      subst (λ (x : Caller W). IsDenied meaning lawful denials left answers asks r c0 b0 s0 x b1 s) (sym stays)
      (record { brake = b; gone = g; still = o; denied = more; cause = risen; charges = charge; asked = ask; heard = same })

-- a call that is just gone on with has made no step yet
pub gone_none : {W B : Type 0} (meaning : W → Meaning) (lawful : W → List ℕ → Type 0) (denials : B → ℕ) (left : B → Option (Option ℕ)) (answers asks : B → Option ℕ) (r : Row W) (c : Caller W) (b : B) (s : ℕ)
    → Progress (setup_at meaning r) (lawful (key_of r).work) (row_start meaning r) (caller_call c) (sight_of c) 0 (caller_call c) (sight_of c) → HasGone meaning lawful denials left answers asks r c b s c b s
gone_none meaning lawful denials left answers asks r c b s p = record {
  count = 0;
  progress = p;
  steps = omega arith;
  denied = omega arith;
  uses = gave_none (left b);
  asked = asked_none (asks b);
  heard = refl;
}

-- an open call has made no step at first
none_yet : {W : Type 0} (meaning : W → Meaning) (lawful : W → List ℕ → Type 0) (r : Row W) (c : Caller W) → IsCaller meaning r c → IsOpen (caller_call c).place
    → Progress (setup_at meaning r) (lawful (key_of r).work) (row_start meaning r) (caller_call c) (sight_of c) 0 (caller_call c) (sight_of c)
none_yet {W = W} meaning lawful r c q o = record {
  seen = prefix_self (sight_of c).seen;
  past = prefix_self (sight_of c).past;
  caller = refl;
  made = refl;
  op = refl;
  before = q.member.0;
  kept = q.member.0;
  kept_before = q.member.1;
  kept_now = q.member.1;
  none = λ _. (refl, refl);
  some = λ l. absurd (omega (arith, l));
  turns = omega arith;
  losses = refl;
  looks = refl;
  since = λ l. absurd (omega (arith, l));
  behind = λ l. absurd (omega (arith, l));
  touched = λ l. absurd (omega (arith, l));
  still = λ _. record {
    open_call = o;
    steps = omega arith;
    within = subst (λ (x : Machine W). (caller_call c).steps < bound (machine_setup meaning x)) q.machine (q.within o);
    kept = refl;
  };
  ended = λ i. absurd (let z : true ≡ false = sym (ap is_idle i) ∙ o in cc);
}

-- the steps of an open call leave its operation as it was
pub kept_op : {W B : Type 0} (meaning : W → Meaning) (lawful : W → List ℕ → Type 0) (denials : B → ℕ) (left : B → Option (Option ℕ)) (answers asks : B → Option ℕ) (r : Row W) (c : Caller W) (b : B) (s : ℕ) (c1 : Caller W) (b1 : B) (s1 : ℕ)
    → IsCaller meaning r c → IsOpen (caller_call c).place → LeadsOn meaning lawful denials left answers asks r c b s c1 b1 s1 → (caller_call c1).op ≡ (caller_call c).op
kept_op meaning lawful denials left answers asks r c b s c1 b1 s1 q o on =
    let h : HasGone meaning lawful denials left answers asks r c b s c1 b1 s1 = on c b s (gone_none meaning lawful denials left answers asks r c b s (none_yet meaning lawful r c q o)) in
    h.progress.op

-- a call that was stopped, as its result says it
pub told_stop : {W B : Type 0} (meaning : W → Meaning) (lawful : W → List ℕ → Type 0) (denials : B → ℕ) (left : B → Option (Option ℕ)) (answers asks : B → Option ℕ) (r : Row W) (c0 : Caller W) (b0 : B) (s0 : ℕ) (c : Caller W) (b : B) (s asked : ℕ)
    → (d : IsDenied meaning lawful denials left answers asks r c0 b0 s0 c b s) → asked ≡ d.gone.count + 1 → TellsCallOf meaning lawful r (caller_call c0) c0 c s0 s (Err (Stopped asked))
told_stop meaning lawful denials left answers asks r c0 b0 s0 c b s asked d is =
    let p = d.gone.progress in
    let still = p.still d.still in
    record {
      steps = d.gone.count;
      rise = d.gone.steps;
      seen = p.seen;
      past = p.past;
      caller = p.caller;
      made = p.made;
      op = p.op;
      before = p.before;
      kept = p.kept;
      kept_before = p.kept_before;
      kept_now = p.kept_now;
      none = λ z. (p.none z).0;
      some = p.some;
      behind = p.behind;
      turns = p.turns;
      losses = p.losses;
      looks = p.looks;
      since = p.since;
      touched = p.touched;
      result = (still, is, omega (arith, is, still.steps, still.within));
    }

-- how often the brake was asked, as it is worked out from the steps
pub asked_is : {W B : Type 0} (meaning : W → Meaning) (lawful : W → List ℕ → Type 0) (denials : B → ℕ) (left : B → Option (Option ℕ)) (answers asks : B → Option ℕ) (r : Row W) (c0 : Caller W) (b0 : B) (s0 : ℕ) (c : Caller W) (b : B) (s now before : ℕ)
    → (d : IsDenied meaning lawful denials left answers asks r c0 b0 s0 c b s) → now ≡ (caller_call c).steps → before ≡ (caller_call c0).steps → now - before + 1 ≡ d.gone.count + 1
asked_is meaning lawful denials left answers asks r c0 b0 s0 c b s now before d n m = let e = (d.gone.progress.still d.still).steps in omega (arith, e, n, m)

pub asked_more_than : {W B : Type 0} (meaning : W → Meaning) (lawful : W → List ℕ → Type 0) (denials : B → ℕ) (left : B → Option (Option ℕ)) (answers asks : B → Option ℕ) (r : Row W) (c0 : Caller W) (b0 : B) (s0 : ℕ) (c : Caller W) (b : B) (s now before : ℕ)
    → (d : IsDenied meaning lawful denials left answers asks r c0 b0 s0 c b s) → now ≡ (caller_call c).steps → before ≡ (caller_call c0).steps → before ≤ now
asked_more_than meaning lawful denials left answers asks r c0 b0 s0 c b s now before d n m = let e = (d.gone.progress.still d.still).steps in omega (arith, e, n, m)

-- the count of asks fits its type
pub asked_fits : {W B : Type 0} (meaning : W → Meaning) (lawful : W → List ℕ → Type 0) (denials : B → ℕ) (left : B → Option (Option ℕ)) (answers asks : B → Option ℕ) (r : Row W) (c0 : Caller W) (b0 : B) (s0 : ℕ) (c : Caller W) (b : B) (s now before : ℕ)
    → (d : IsDenied meaning lawful denials left answers asks r c0 b0 s0 c b s) → now ≡ (caller_call c).steps → (key_of r).callers ≤ MOST_CALLERS → (key_of r).cells ≤ MOST_DATA_CELLS → now - before + 1 < 18446744073709551616
asked_fits meaning lawful denials left answers asks r c0 b0 s0 c b s now before d n few_callers few_cells =
    let within : (caller_call c).steps < bound (setup_at meaning r) = (d.gone.progress.still d.still).within in
    omega (arith, n, within, few_callers, few_cells)
