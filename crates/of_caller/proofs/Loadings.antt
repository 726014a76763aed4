-- Cells that a call loads while its operation runs.
use Rattle.std.proofs.Common.{◌≡◌, ℕ, ◌<◌, List, [], Option, Some, None, Ok, Err, Bool, true, false, refl, sym, ◌∙◌, ap, subst, arith, get_or, set, length}
use Rattle.std.specs.Prelude.{Result, MatchResult, IfSome, IfNone}
use Rattle.std.specs.Borrow.{MutBor}
use Rattle.std.proofs.lemmas.List.{get_or-set_same}
use Rattle.of_cell.specs.Words.{payload_of}
use Rattle.of_mem.specs.declared.part.Need.{Need}
use Rattle.of_mem.specs.declared.work.RawReply.{RawReply}
use Rattle.of_mem.specs.CellMap.{value_for, put_pair}
use Rattle.of_mem.specs.WriteSet.{WriteSet}
use Rattle.of_mem.specs.Meaning.{Meaning, WalkEnd, Needs, Gives, KnowsSome}
use Rattle.of_mem.specs.Part.{Part, Extends, ReadsAt, newest_at, newer_of, overlaid, with_known, write}
use Rattle.of_mem.specs.Programs.{Program, Done, RunsAs, NeedsAt}
use Rattle.of_mem.specs.OnDemand.{Running, RunsOn, RunGoesOn, HasOnlyRead, MayReadFrom, HasReadFrom, MayRunFrom, HasRunFrom, read_cell, write_cell, writes_left}
use Rattle.of_mem.proofs.Runs.{run_read, run_unknown}
use Rattle.of_mem.proofs.Extended.{extends_learnt}
use Rattle.of_mem.proofs.OnDemand.{extends_all, goes_nowhere}
use Rattle.of_core.specs.declared.place.Place.{Place}
use Rattle.of_core.specs.Fit.{is_scanning}
use Rattle.of_core.specs.Machine.{IsOpen}
use Rattle.of_core.specs.MachineValue.{Machine, machine_setup}
use Rattle.of_core.specs.Steps.{after_read_run, after_script_run}
use Rattle.of_core.specs.OwedRun.{OwesRun, LacksCell, after_run, at_load, with_cell_loaded, load_for, owed_words, run_batch, run_part, run_end, make_run}
use Rattle.of_row.specs.declared.row.Row.{Row}
use Rattle.of_row.specs.Rows.{RunsOnRow, key_of}
use Rattle.of_caller.specs.declared.caller.Caller.{Caller}
use Rattle.of_caller.specs.declared.caller.loading.Course.{Course}
use Rattle.of_caller.specs.declared.caller.loading.Course.TheVariants.{GoesOn, HasEnded, WasDenied}
use Rattle.of_caller.specs.Callers.{IsCaller, caller_call}
use Rattle.of_caller.specs.Going.{HasGone, IsDenied, LeadsOn, LeadsToDenial, true_caller, steps_left, steps_to_go}
use Rattle.of_caller.specs.Fronts.{Front, IsLent, front_now}
use Rattle.of_caller.specs.Loading.{HasLed, StillOwes, Stands, RunEndsAs, run_cells, loading, KnowsFront, told}

-- ---- what a run sees of a cell
-- under its own writes
pub newest_written : (p : Part) (a v : ℕ) → value_for p.script a ≡ Some v → newest_at p a ≡ Some v
unfolding newest_at
newest_written p a v e = rw e refl

pub newest_under : (p : Part) (a : ℕ) → value_for p.script a ≡ None → newest_at p a ≡ newest_at (record p { script = [] }) a
unfolding newest_at
newest_under p a e = rw e refl

none_of : (x y : Option ℕ) → newer_of x y ≡ None → (x ≡ None) × (y ≡ None)
none_of None y e = (refl, e)
none_of (Some v) y e = absurd (let k : Some v ≡ None = e in cc)

-- a cell of which nothing is known
pub unknown_under : (p : Part) (a : ℕ) → newest_at (record p { script = [] }) a ≡ None → (value_for p.batch a ≡ None) × (get_or p.known a None ≡ None)
unfolding newest_at
unknown_under p a e = none_of (value_for p.batch a) (get_or p.known a None) e

-- a cell that has come to be known
pub newest_learnt : (p : Part) (a v : ℕ) → value_for p.script a ≡ None → value_for p.batch a ≡ None → get_or p.known a None ≡ Some v → newest_at p a ≡ Some v
unfolding newest_at
newest_learnt p a v s b e = rw (s, b) e

-- a write of a run
pub wrote_cell : (p q : Part) (a v : ℕ) → q ≡ record p { script = put_pair p.script a v } → RunsAs (write_cell a v) p tt q
unfolding write
wrote_cell p q a v e = rw e refl

-- a read that was answered as what is seen
pub read_as : (p : Part) (a : ℕ) (result : Result ℕ Need) → ReadsAt p a result → MatchResult result (λ v. RunsAs (read_cell a) p v p) (λ need. NeedsAt (read_cell a) p need.addr)
read_as p a (Ok v) e = run_read a Done p v e
read_as p a (Err need) e = subst (λ (x : ℕ). NeedsAt (read_cell a) p x) (sym e.1) (run_unknown a Done p e.0)

under_as : (p : Part) (a : ℕ) (result : Result ℕ Need) → value_for p.script a ≡ None → ReadsAt (record p { script = [] }) a result → ReadsAt p a result
under_as p a (Ok v) s e = newest_under p a s ∙ e
under_as p a (Err need) s e = (newest_under p a s ∙ e.0, e.1)

-- a run does not change the operation
pub run_op : {X : Type 0} (meaning : X → Meaning) (m : Machine X) → (after_run meaning m).call.op ≡ m.call.op
run_op meaning m = kind (is_scanning m.call.place)
  where
    read : (e : WalkEnd) → (after_read_run m.call e).op ≡ m.call.op
    read (Needs a) = refl
    read (Gives es r) = refl

    ran : (e : WalkEnd) → (after_script_run (machine_setup meaning m) m.call e).op ≡ m.call.op
    ran (Needs a) = refl
    ran (Gives es r) = refl

    kind : (b : Bool) → (make_run b (machine_setup meaning m) m.call).op ≡ m.call.op
    kind true = ran ((meaning m.work).walk (overlaid m.call.known m.call.log) m.call.script)
    kind false = read ((meaning m.work).walk m.call.known m.call.op)

load_kind : (b : Bool) (a : ℕ) → is_scanning (load_for b a) ≡ b
load_kind true a = refl
load_kind false a = refl

module _ {W B : Type 0} (meaning : W → Meaning) (lawful : W → List ℕ → Type 0) (denials : B → ℕ) (left : B → Option (Option ℕ)) (answers asks : B → Option ℕ) (r : Row W) where
  -- ---- what a caller has written doesn't count for its call
  pub caller_with : (c d : Caller W) → d.member ≡ c.member → d.machine ≡ c.machine → d.writes.room ≡ c.writes.room → IsCaller meaning r c → IsCaller meaning r d
  caller_with c d p m room q =
      let e : record c { writes = d.writes } ≡ d = λ i. record { member = sym p i; machine = sym m i; writes = d.writes } in
      subst (IsCaller meaning r) e (record { row = q.row; machine = q.machine; member = q.member; room = room ∙ q.room; within = q.within })

  pub gone_with : (c0 : Caller W) (b0 : B) (s0 : ℕ) (c d : Caller W) (b : B) (s : ℕ) → d.member ≡ c.member → d.machine ≡ c.machine → HasGone meaning lawful denials left answers asks r c0 b0 s0 c b s → HasGone meaning lawful denials left answers asks r c0 b0 s0 d b s
  gone_with c0 b0 s0 c d b s p m h =
      let e : record c { writes = d.writes } ≡ d = λ i. record { member = sym p i; machine = sym m i; writes = d.writes } in
      subst (λ (x : Caller W). HasGone meaning lawful denials left answers asks r c0 b0 s0 x b s) e
      (record { count = h.count; progress = h.progress; steps = h.steps; denied = h.denied; uses = h.uses; asked = h.asked; heard = h.heard })

  pub leads_from : (c d : Caller W) (b : B) (s : ℕ) (c1 : Caller W) (b1 : B) (s1 : ℕ) → d.member ≡ c.member → d.machine ≡ c.machine → LeadsOn meaning lawful denials left answers asks r c b s c1 b1 s1 → LeadsOn meaning lawful denials left answers asks r d b s c1 b1 s1
  leads_from c d b s c1 b1 s1 p m on c0 b0 s0 h = on c0 b0 s0 (gone_with c0 b0 s0 d c b s (sym p) (sym m) h)

  pub denies_from : (c d : Caller W) (b : B) (s : ℕ) (c1 : Caller W) (b1 : B) (s1 : ℕ) → d.member ≡ c.member → d.machine ≡ c.machine → LeadsToDenial meaning lawful denials left answers asks r c b s c1 b1 s1 → LeadsToDenial meaning lawful denials left answers asks r d b s c1 b1 s1
  denies_from c d b s c1 b1 s1 p m on c0 b0 s0 h = on c0 b0 s0 (gone_with c0 b0 s0 d c b s (sym p) (sym m) h)

  leads_with : (c : Caller W) (b : B) (s : ℕ) (c1 d1 : Caller W) (b1 : B) (s1 : ℕ) → d1.member ≡ c1.member → d1.machine ≡ c1.machine → LeadsOn meaning lawful denials left answers asks r c b s c1 b1 s1 → LeadsOn meaning lawful denials left answers asks r c b s d1 b1 s1
  leads_with c b s c1 d1 b1 s1 p m on c0 b0 s0 h = gone_with c0 b0 s0 c1 d1 b1 s1 p m (on c0 b0 s0 h)

  denies_with : (c : Caller W) (b : B) (s : ℕ) (c1 d1 : Caller W) (b1 : B) (s1 : ℕ) → d1.member ≡ c1.member → d1.machine ≡ c1.machine → LeadsToDenial meaning lawful denials left answers asks r c b s c1 b1 s1 → LeadsToDenial meaning lawful denials left answers asks r c b s d1 b1 s1
  denies_with c b s c1 d1 b1 s1 p m on c0 b0 s0 h =
      let k = on c0 b0 s0 h in
      let e : record c1 { writes = d1.writes } ≡ d1 = λ i. record { member = sym p i; machine = sym m i; writes = d1.writes } in
      subst (λ (x : Caller W). IsDenied meaning lawful denials left answers asks r c0 b0 s0 x b1 s1) e
      (record { brake = k.brake; gone = gone_with c0 b0 s0 c1 (record c1 { writes = d1.writes }) k.brake s1 refl refl k.gone; still = k.still; denied = k.denied; cause = k.cause; charges = k.charges; asked = k.asked; heard = k.heard })

  -- the machine that owes the run is of the row
  pub on_row : (c : Caller W) → IsCaller meaning r (true_caller meaning true c) → RunsOnRow r c.machine
  on_row c q = λ i. record (q.machine i) { call = c.machine.call }

  -- ---- the run of a machine that owes it
  module _ (f : Front W B) where
    -- the run of a caller that still owes it
    abbrev pub owing : (c : Caller W) (b : B) (s : ℕ) → Running
    owing c b s = loading meaning lawful denials left answers asks r f GoesOn c b s

    abbrev pub KnowsCells : Caller W → List (Option ℕ) → Type 0
    KnowsCells c k = KnowsSome (lawful (key_of r).work) (key_of r).cells (overlaid k (run_batch f.in_scan (caller_call c))) × (length k ≡ (key_of r).cells)

    knows_owed : (c : Caller W) → RunsOnRow r c.machine → is_scanning (caller_call c).place ≡ f.in_scan → OwesRun meaning lawful c.machine → KnowsCells c (caller_call c).known
    knows_owed c on kind o =
        subst (λ (x : Machine W). KnowsSome (lawful x.work) x.cells (overlaid (caller_call c).known (run_batch f.in_scan (caller_call c))) × (length (caller_call c).known ≡ x.cells)) on
        (subst (λ (b : Bool). KnowsSome (lawful c.machine.work) c.machine.cells (overlaid (caller_call c).known (run_batch b (caller_call c)))) kind o.knows, o.size)

    -- there is room for the writes of the run
    pub has_room : (course : Course) (c : Caller W) (b : B) (s : ℕ) → Stands meaning lawful denials left answers asks r f course c b s → c.writes.room ≡ (key_of r).cells
    has_room GoesOn c b s h = h.led.caller.room
    has_room HasEnded c b s h = h.caller.room
    has_room WasDenied c b s h = h.0.room

    -- how the call stands, with other writes
    pub led_with : (c d : Caller W) (b : B) (s : ℕ) → d.member ≡ c.member → d.machine ≡ c.machine → d.writes.room ≡ c.writes.room → HasLed meaning lawful denials left answers asks r f c b s → HasLed meaning lawful denials left answers asks r f d b s
    led_with c d b s p m room h = record {
      caller = caller_with c d p m room h.caller;
      goes = leads_with f.caller f.brake f.steps c d b s p m h.goes;
      falls = let e : steps_left meaning d ≡ steps_left meaning c = ap (λ (x : Machine W). steps_to_go (machine_setup meaning x) x.call) m in omega (arith, e, h.falls);
    }

    stands_with : (course : Course) (c d : Caller W) (b : B) (s : ℕ) → d.member ≡ c.member → d.machine ≡ c.machine → d.writes.room ≡ c.writes.room → Stands meaning lawful denials left answers asks r f course c b s → Stands meaning lawful denials left answers asks r f course d b s
    stands_with GoesOn c d b s p m room h = record {
      owes = subst (λ (x : Machine W). OwesRun meaning lawful x) (sym m) h.owes;
      kind = ap (λ (x : Machine W). is_scanning x.call.place) m ∙ h.kind;
      words = ap (λ (x : Machine W). owed_words f.in_scan x.call) m ∙ h.words;
      batch = ap (λ (x : Machine W). run_batch f.in_scan x.call) m ∙ h.batch;
      led = led_with (true_caller meaning true c) (true_caller meaning true d) b s p (ap (after_run meaning) m) room h.led;
    }
    stands_with HasEnded c d b s p m room h = led_with c d b s p m room h
    stands_with WasDenied c d b s p m room h = (caller_with c d p m room h.0, denies_with f.caller f.brake f.steps c d b s p m h.1)

    -- a read of a cell that the run has written
    pub read_own : (course : Course) (c : Caller W) (b : B) (s : ℕ) (a v : ℕ) → (loading meaning lawful denials left answers asks r f course c b s).may_know (caller_call c).known
        → value_for c.writes.entries a ≡ Some v
        → RunsOn (read_cell a) (loading meaning lawful denials left answers asks r f course c b s) (loading meaning lawful denials left answers asks r f course c b s) (Ok v)
    read_own course c b s a v k e = record {
      walk = run_read a Done (run_cells f.in_scan c) v (newest_written (run_cells f.in_scan c) a v e);
      batch = refl;
      goes = goes_nowhere (loading meaning lawful denials left answers asks r f course c b s) k;
    }

    -- a read that needs no load, or that comes after the steps have ended
    pub read_there : (course : Course) (c : Caller W) (b : B) (s : ℕ) (a : ℕ) (result : Result ℕ Need) → (loading meaning lawful denials left answers asks r f course c b s).may_know (caller_call c).known
        → value_for c.writes.entries a ≡ None → ReadsAt (run_part f.in_scan (caller_call c)) a result
        → RunsOn (read_cell a) (loading meaning lawful denials left answers asks r f course c b s) (loading meaning lawful denials left answers asks r f course c b s) result
    read_there course c b s a result k none e = record {
      walk = read_as (run_cells f.in_scan c) a result (under_as (run_cells f.in_scan c) a result none e);
      batch = refl;
      goes = goes_nowhere (loading meaning lawful denials left answers asks r f course c b s) k;
    }

    -- a write
    pub writes_cell : (course : Course) (c d : Caller W) (b : B) (s : ℕ) (a v : ℕ) → (loading meaning lawful denials left answers asks r f course c b s).may_know (caller_call c).known
        → d.member ≡ c.member → d.machine ≡ c.machine → d.writes ≡ record c.writes { entries = put_pair c.writes.entries a v }
        → RunsOn (write_cell a v) (loading meaning lawful denials left answers asks r f course c b s) (loading meaning lawful denials left answers asks r f course d b s) (Ok tt)
    writes_cell course c d b s a v k p m w = record {
      walk = wrote_cell (with_known (caller_call d).known (run_cells f.in_scan c)) (run_cells f.in_scan d) a v
          (λ i. record { known = (caller_call d).known; batch = run_batch f.in_scan (m i).call; script = (w i).entries });
      batch = ap (λ (x : Machine W). run_batch f.in_scan x.call) m;
      goes = record {
        more = subst (λ (x : Machine W). Extends x.call.known (caller_call c).known) (sym m) (extends_all (caller_call c).known);
        knows = let t = subst (λ (x : Machine W). KnowsSome (lawful (key_of r).work) (key_of r).cells (overlaid x.call.known (run_batch f.in_scan x.call)) × (length x.call.known ≡ (key_of r).cells)) (sym m) (k.1, k.2) in (stands_with course c d b s p m (ap (λ (x : WriteSet). x.room) w) k.0, t.0, t.1);
        may_know = λ n h. let t = subst (λ (x : Machine W). KnowsSome (lawful (key_of r).work) (key_of r).cells (overlaid n (run_batch f.in_scan x.call)) × (length n ≡ (key_of r).cells)) m (h.1, h.2) in (k.0, t.0, t.1);
        lacks = λ _ _ h. h;
      };
    }

    -- what the operation lacks, the run of the machine lacks
    pub lacks_now : (c : Caller W) (b : B) (s a : ℕ) → StillOwes meaning lawful denials left answers asks r f c b s
        → (meaning (key_of r).work).walk (overlaid (caller_call c).known f.batch) f.words ≡ Needs a → LacksCell meaning c.machine a
    lacks_now c b s a h w =
        let words = subst (λ (op : List ℕ). (meaning (key_of r).work).walk (overlaid (caller_call c).known f.batch) op ≡ Needs a) (sym h.words) w in
        let batch = subst (λ (es : List (ℕ × ℕ)). (meaning (key_of r).work).walk (overlaid (caller_call c).known es) (owed_words f.in_scan (caller_call c)) ≡ Needs a) (sym h.batch) words in
        let kind = subst (λ (k : Bool). (meaning (key_of r).work).walk (overlaid (caller_call c).known (run_batch k (caller_call c))) (owed_words k (caller_call c)) ≡ Needs a) (sym h.kind) batch in
        subst (λ (x : Machine W). (meaning x.work).walk (overlaid (caller_call c).known (run_batch (is_scanning (caller_call c).place) (caller_call c))) (owed_words (is_scanning (caller_call c).place) (caller_call c)) ≡ Needs a) (sym (on_row c h.led.caller)) kind

    -- steps that have led on further
    pub led_on : (c d : Caller W) (b b1 : B) (s s1 : ℕ) → HasLed meaning lawful denials left answers asks r f c b s → IsCaller meaning r d
        → LeadsOn meaning lawful denials left answers asks r c b s d b1 s1 → steps_left meaning d < steps_left meaning c → HasLed meaning lawful denials left answers asks r f d b1 s1
    led_on c d b b1 s s1 h q on l = record {
      caller = q;
      goes = λ c1 b2 s2 g. on c1 b2 s2 (h.goes c1 b2 s2 g);
      falls = omega (arith, h.falls, l);
    }

    -- the caller's run, after a step has loaded a cell
    pub loads : (c d : Caller W) (b b1 : B) (s s1 : ℕ) (a v found : ℕ) → StillOwes meaning lawful denials left answers asks r f c b s
        → value_for c.writes.entries a ≡ None → newest_at (run_part f.in_scan (caller_call c)) a ≡ None → a < length (caller_call c).known
        → OwesRun meaning lawful d.machine → d.machine ≡ with_cell_loaded meaning (at_load c.machine a) a found → d.writes ≡ c.writes → v ≡ payload_of found
        → HasLed meaning lawful denials left answers asks r f (true_caller meaning true d) b1 s1
        → RunsOn (read_cell a) (owing c b s) (owing d b1 s1) (Ok v)
    loads c d b b1 s s1 a v found h own none below owes is same value led =
        let known : (caller_call d).known ≡ set (caller_call c).known a (Some v) = rw value (ap (λ (x : Machine W). x.call.known) is) in
        let batch : run_batch f.in_scan (caller_call d) ≡ run_batch f.in_scan (caller_call c) = ap (λ (x : Machine W). run_batch f.in_scan x.call) is in
        let script = ap (λ (x : WriteSet). x.entries) same in
        let kind = ap (λ (x : Machine W). is_scanning x.call.place) is ∙ load_kind (is_scanning (caller_call c).place) a ∙ h.kind in
        let bare = unknown_under (run_part f.in_scan (caller_call c)) a none in
        let there : newest_at (run_cells f.in_scan d) a ≡ Some v = newest_learnt (run_cells f.in_scan d) a v (ap (λ (es : List (ℕ × ℕ)). value_for es a) script ∙ own) (ap (λ (es : List (ℕ × ℕ)). value_for es a) batch ∙ bare.0)
        (ap (λ (k : List (Option ℕ)). get_or k a None) known ∙ get_or-set_same (caller_call c).known a (Some v) None below) in
        let parts : run_cells f.in_scan d ≡ with_known (caller_call d).known (run_cells f.in_scan c) = λ i. record { known = (caller_call d).known; batch = batch i; script = script i } in
        record {
          walk = subst (λ (p : Part). RunsAs (read_cell a) p v (run_cells f.in_scan d)) parts (run_read a Done (run_cells f.in_scan d) v there);
          batch = batch;
          goes = record {
            more = subst (λ (k : List (Option ℕ)). Extends k (caller_call c).known) (sym known) (extends_learnt (set (caller_call c).known a (Some v)) (caller_call c).known a v bare.1 (extends_all (set (caller_call c).known a (Some v))));
            knows = let t = knows_owed d (on_row d led.caller) kind owes in (record { owes = owes; kind = kind; words = ap (λ (x : Machine W). owed_words f.in_scan x.call) is ∙ h.words; batch = batch ∙ h.batch; led = led }, t.0, t.1);
            may_know = λ n k. let t = subst (λ (es : List (ℕ × ℕ)). KnowsSome (lawful (key_of r).work) (key_of r).cells (overlaid n es) × (length n ≡ (key_of r).cells)) batch (k.1, k.2) in (h, t.0, t.1);
            lacks = λ _ _ k. k;
          };
        }

    -- the caller's run, after a step has ended it or was denied
    pub stops : (course : Course) (c d : Caller W) (b b1 : B) (s s1 : ℕ) (a : ℕ) → StillOwes meaning lawful denials left answers asks r f c b s
        → value_for c.writes.entries a ≡ None → newest_at (run_part f.in_scan (caller_call c)) a ≡ None → run_part f.in_scan (caller_call d) ≡ run_part f.in_scan (caller_call c) → d.writes ≡ c.writes
        → Stands meaning lawful denials left answers asks r f course d b1 s1
        → RunsOn (read_cell a) (owing c b s) (loading meaning lawful denials left answers asks r f course d b1 s1) (Err (record { addr = a }))
    stops course c d b b1 s s1 a h own none part same stands =
        let known = ap (λ (p : Part). p.known) part in
        let batch = ap (λ (p : Part). p.batch) part in
        let unknown : newest_at (run_cells f.in_scan c) a ≡ None = newest_under (run_cells f.in_scan c) a own ∙ none in
        record {
          walk = run_unknown a Done (with_known (caller_call d).known (run_cells f.in_scan c)) (ap (λ (k : List (Option ℕ)). newest_at (with_known k (run_cells f.in_scan c)) a) known ∙ unknown);
          batch = batch;
          goes = record {
            more = subst (λ (k : List (Option ℕ)). Extends k (caller_call c).known) (sym known) (extends_all (caller_call c).known);
            knows = let t = subst (λ (p : Part). KnowsSome (lawful (key_of r).work) (key_of r).cells (overlaid p.known p.batch) × (length p.known ≡ (key_of r).cells)) (sym part) (knows_owed c (on_row c h.led.caller) h.kind h.owes) in (stands, t.0, t.1);
            may_know = λ n k. let t = subst (λ (es : List (ℕ × ℕ)). KnowsSome (lawful (key_of r).work) (key_of r).cells (overlaid n es) × (length n ≡ (key_of r).cells)) batch (k.1, k.2) in (h, t.0, t.1);
            lacks = λ _ _ k. k;
          };
        }

  -- what the run sees stays, but for what has come to be known
  pub only_read : (in_scan : Bool) (c d : Caller W) → run_batch in_scan (caller_call d) ≡ run_batch in_scan (caller_call c) → d.writes ≡ c.writes → HasOnlyRead (run_cells in_scan c) (run_cells in_scan d)
  only_read in_scan c d batch same = λ i. record { known = (caller_call d).known; batch = batch i; script = (same i).entries }

  -- ---- at the front of a run
  pub owes_first : (c : MutBor (Caller W)) (b : MutBor B) (s : MutBor ℕ) (in_scan : Bool) → IsCaller meaning r (true_caller meaning true c.now) → OwesRun meaning lawful c.now.machine → is_scanning (caller_call c.now).place ≡ in_scan
      → StillOwes meaning lawful denials left answers asks r (front_now meaning r in_scan c b s) c.now b.now s.now
  owes_first c b s in_scan q o kind = record {
    owes = o;
    kind = kind;
    words = refl;
    batch = refl;
    led = record { caller = q; goes = λ _ _ _ g. g; falls = omega arith };
  }

  -- Runs whose front is told.

  module _ (front : Option (Front W B)) (f : Front W B) (is : front ≡ Some f) where
    same_front : (g : Front W B) → front ≡ Some g → g ≡ f
    same_front g e = let k : Some g ≡ Some f = sym e ∙ is in cc

    pub knows_of : (in_scan : Bool) (caller_name brake_name steps_name : ℕ) (course : Course) (c : Caller W) (b : B) (s : ℕ) (k : List (Option ℕ)) → KnowsFront meaning lawful denials left answers asks r front in_scan caller_name brake_name steps_name course c b s k
        → (loading meaning lawful denials left answers asks r f course c b s).may_know k
    knows_of in_scan caller_name brake_name steps_name course c b s k h =
        subst (λ (x : Front W B). (loading meaning lawful denials left answers asks r x course c b s).may_know k) (same_front h.first h.told) h.knows

    pub lent_of : (in_scan : Bool) (caller_name brake_name steps_name : ℕ) (course : Course) (c : Caller W) (b : B) (s : ℕ) (k : List (Option ℕ)) → KnowsFront meaning lawful denials left answers asks r front in_scan caller_name brake_name steps_name course c b s k
        → IsLent f r in_scan caller_name brake_name steps_name
    lent_of in_scan caller_name brake_name steps_name course c b s k h = subst (λ (x : Front W B). IsLent x r in_scan caller_name brake_name steps_name) (same_front h.first h.told) h.lent

    -- how the call stands from the front that was told
    pub stands_of : (in_scan : Bool) (caller_name brake_name steps_name : ℕ) (course : Course) (c : Caller W) (b : B) (s : ℕ) (k : List (Option ℕ)) → KnowsFront meaning lawful denials left answers asks r front in_scan caller_name brake_name steps_name course c b s k
        → Stands meaning lawful denials left answers asks f.row f course c b s
    stands_of in_scan caller_name brake_name steps_name course c b s k h =
        subst (λ (x : Row W). Stands meaning lawful denials left answers asks x f course c b s) (lent_of in_scan caller_name brake_name steps_name course c b s k h).row (knows_of in_scan caller_name brake_name steps_name course c b s k h).0

    -- a run that went on from its front went on as told
    pub tells : {A : Type 0} (p : Program A) (in_scan : Bool) (caller_name brake_name steps_name : ℕ) (before after : Course) (c d : Caller W) (b b1 : B) (s s1 : ℕ) (result : Result A Need) → IsLent f r in_scan caller_name brake_name steps_name
        → RunsOn p (loading meaning lawful denials left answers asks r f before c b s) (loading meaning lawful denials left answers asks r f after d b1 s1) result
        → RunsOn p (told meaning lawful denials left answers asks r front in_scan caller_name brake_name steps_name before c b s) (told meaning lawful denials left answers asks r front in_scan caller_name brake_name steps_name after d b1 s1) result
    tells p in_scan caller_name brake_name steps_name before after c d b b1 s s1 result lent h =
        subst (λ (k : Bool). RunsOn p (told meaning lawful denials left answers asks r front k caller_name brake_name steps_name before c b s) (told meaning lawful denials left answers asks r front k caller_name brake_name steps_name after d b1 s1) result) (sym lent.kind)
        (record {
          walk = h.walk;
          batch = h.batch;
          goes = record {
            more = h.goes.more;
            knows = record { first = f; told = is; lent = record { row = lent.row; kind = refl; caller = lent.caller; brake = lent.brake; steps = lent.steps }; knows = h.goes.knows };
            may_know = λ k x. record { first = f; told = is; lent = record { row = lent.row; kind = refl; caller = lent.caller; brake = lent.brake; steps = lent.steps }; knows = h.goes.may_know k (knows_of f.in_scan caller_name brake_name steps_name after d b1 s1 k x) };
            lacks = λ _ _ x. x;
          };
        })

  -- the operation may be run from its front
  pub may_tell : (front : Option (Front W B)) (in_scan : Bool) (course : Course) (c : MutBor (Caller W)) (b : MutBor B) (s : MutBor ℕ) (op : List ℕ) (work : W) (size : W → ℕ) → front ≡ Some (front_now meaning r in_scan c b s) → course ≡ GoesOn
      → IsCaller meaning r (true_caller meaning true c.now) → OwesRun meaning lawful c.now.machine → is_scanning (caller_call c.now).place ≡ in_scan → c.now.writes.entries ≡ []
      → work ≡ (key_of r).work → (key_of r).cells ≡ size (key_of r).work → op ≡ owed_words in_scan (caller_call c.now)
      → MayRunFrom (meaning work) (lawful work) (size work) op (told meaning lawful denials left answers asks r front in_scan c.ghost_name b.ghost_name s.ghost_name course c.now b.now s.now)
  may_tell front in_scan course c b s op work size is goes_on q o kind fresh of_row many same =
      let f = front_now meaning r in_scan c b s in
      let on : MayRunFrom (meaning (key_of r).work) (lawful (key_of r).work) (size (key_of r).work) op (told meaning lawful denials left answers asks r front in_scan c.ghost_name b.ghost_name s.ghost_name GoesOn c.now b.now s.now) = record {
        knows = record { first = f; told = is; lent = record { row = refl; kind = refl; caller = refl; brake = refl; steps = refl }; knows = let t = knows_owed f c.now (on_row c.now q) kind o in (owes_first c b s in_scan q o kind, t.0, t.1) };
        script = fresh;
        state = λ more _ k. let t = knows_of front f is in_scan c.ghost_name b.ghost_name s.ghost_name GoesOn c.now b.now s.now more k in rw (← many) (t.1, t.2);
        lacks = λ more _ _ a w g h. subst (λ (x : Front W B). (meaning (key_of r).work).walk (overlaid more x.batch) x.words ≡ Needs a) (sym (same_front front f is g h)) (subst (λ (x : List ℕ). (meaning (key_of r).work).walk (overlaid more f.batch) x ≡ Needs a) same w);
      } in
      subst (λ (x : W). MayRunFrom (meaning x) (lawful x) (size x) op (told meaning lawful denials left answers asks r front in_scan c.ghost_name b.ghost_name s.ghost_name course c.now b.now s.now)) (sym of_row)
      (subst (λ (x : Course). MayRunFrom (meaning (key_of r).work) (lawful (key_of r).work) (size (key_of r).work) op (told meaning lawful denials left answers asks r front in_scan c.ghost_name b.ghost_name s.ghost_name x c.now b.now s.now)) (sym goes_on) on)

  -- and read, if it is that of a try
  pub may_read : (in_scan : Bool) (n : List (Option ℕ) → Type 0) (lacks : List (Option ℕ) → ℕ → Type 0) (M : Meaning) (law : List ℕ → Type 0) (size : ℕ) (op : List ℕ) (c : Caller W) → in_scan ≡ false
      → MayRunFrom M law size op (record { part = run_cells in_scan c; may_know = n; lacks = lacks }) → MayReadFrom M law size op (record { part = run_cells in_scan c; may_know = n; lacks = lacks })
  may_read in_scan n lacks M law size op c e h =
      subst (λ (k : Bool). MayReadFrom M law size op (record { part = run_cells k c; may_know = n; lacks = lacks })) (sym e) (reads (subst (λ (k : Bool). MayRunFrom M law size op (record { part = run_cells k c; may_know = n; lacks = lacks })) e h))
    where
      reads : MayRunFrom M law size op (record { part = run_cells false c; may_know = n; lacks = lacks }) → MayReadFrom M law size op (record { part = run_cells false c; may_know = n; lacks = lacks })
      reads h = record { knows = h.knows; batch = refl; script = h.script; state = h.state; lacks = h.lacks }

  -- the owed run of a try is that of an operation that only reads
  pub reads_owed : (c : Caller W) (op : List ℕ) (work : W) → IsCaller meaning r (true_caller meaning true c) → OwesRun meaning lawful c.machine → is_scanning (caller_call c).place ≡ false
      → work ≡ (key_of r).work → op ≡ (caller_call c).op → (meaning work).reads_only op ≡ true
  reads_owed c op work q o kind of_row same =
      rw (of_row, same) (subst (λ (x : Machine W). (meaning x.work).reads_only (caller_call c).op ≡ true) (on_row c q) (o.reads kind))

  -- how the machine's run ended, as the run from its front says it
  pub ends_as : (f : Front W B) (c : Caller W) (b : B) (s : ℕ) (work : W) (op : List ℕ) (in_scan : Bool) (result : Result Bool Need) (new : RawReply) (Q : Need → Type 0) → StillOwes meaning lawful denials left answers asks r f c b s → work ≡ (key_of r).work → op ≡ f.words → in_scan ≡ f.in_scan
      → MatchResult result (λ undone. (meaning work).walk (overlaid (caller_call c).known (run_batch in_scan (caller_call c))) op ≡ Gives (writes_left undone c.writes.entries) new) (λ need. ((meaning work).walk (overlaid (caller_call c).known (run_batch in_scan (caller_call c))) op ≡ Needs need.addr) × Q need)
      → RunEndsAs meaning c result new
  ends_as f c b s work op in_scan result new Q h of_row same kind ran = ends result ran
    where
      is : run_end meaning c.machine ≡ (meaning work).walk (overlaid (caller_call c).known (run_batch in_scan (caller_call c))) op
      is =
          ap (λ (x : Machine W). (meaning x.work).walk (overlaid (caller_call c).known (run_batch (is_scanning (caller_call c).place) (caller_call c))) (owed_words (is_scanning (caller_call c).place) (caller_call c))) (on_row c h.led.caller)
          ∙ ap (λ (k : Bool). (meaning (key_of r).work).walk (overlaid (caller_call c).known (run_batch k (caller_call c))) (owed_words k (caller_call c))) (h.kind ∙ sym kind)
          ∙ ap (λ (k : Bool). (meaning (key_of r).work).walk (overlaid (caller_call c).known (run_batch in_scan (caller_call c))) (owed_words k (caller_call c))) kind
          ∙ ap (λ (x : List ℕ). (meaning (key_of r).work).walk (overlaid (caller_call c).known (run_batch in_scan (caller_call c))) x) (h.words ∙ sym same)
          ∙ ap (λ (x : W). (meaning x).walk (overlaid (caller_call c).known (run_batch in_scan (caller_call c))) op) (sym of_row)

      ends : (result : Result Bool Need) → MatchResult result (λ undone. (meaning work).walk (overlaid (caller_call c).known (run_batch in_scan (caller_call c))) op ≡ Gives (writes_left undone c.writes.entries) new) (λ need. ((meaning work).walk (overlaid (caller_call c).known (run_batch in_scan (caller_call c))) op ≡ Needs need.addr) × Q need)
          → RunEndsAs meaning c result new
      ends (Ok undone) e = is ∙ e
      ends (Err need) e = is ∙ e.0

module _ {W B : Type 0} (meaning : W → Meaning) (lawful : W → List ℕ → Type 0) (denials : B → ℕ) (left : B → Option (Option ℕ)) (answers asks : B → Option ℕ) (r : Row W) (front : Option (Front W B)) (f : Front W B) (is : front ≡ Some f) (in_scan : Bool) (n1 n2 n3 : ℕ) (course : Course) (c : Caller W) (b : B) (s : ℕ) (work : W) (op : List ℕ) (of_row : work ≡ (key_of f.row).work) (same : op ≡ f.words) (goes_on : course ≡ GoesOn) (before : Running) (old new : RawReply) where
  knows : KnowsFront meaning lawful denials left answers asks r front in_scan n1 n2 n3 course c b s (caller_call c).known → StillOwes meaning lawful denials left answers asks r f c b s × IsLent f r in_scan n1 n2 n3
  knows k = (
    subst (λ (x : Course). Stands meaning lawful denials left answers asks r f x c b s) goes_on (knows_of meaning lawful denials left answers asks r front f is in_scan n1 n2 n3 course c b s (caller_call c).known k).0,
    lent_of meaning lawful denials left answers asks r front f is in_scan n1 n2 n3 course c b s (caller_call c).known k,
  )

  -- how a script that was run from its front has ended
  pub ran_as : (result : Result Bool Need) → HasRunFrom (meaning work) op before (told meaning lawful denials left answers asks r front in_scan n1 n2 n3 course c b s) result old new → RunEndsAs meaning c result new
  ran_as result h =
      let k = knows h.goes.knows in
      ends_as meaning lawful denials left answers asks r f c b s work op in_scan result new (λ _. new ≡ old) k.0 (of_row ∙ ap (λ (x : Row W). (key_of x).work) (sym k.1.row)) same k.1.kind h.walk

  -- and a read
  pub has_read : in_scan ≡ false → HasReadFrom (meaning work) op before (told meaning lawful denials left answers asks r front in_scan n1 n2 n3 course c b s) (Ok tt) old new → RunEndsAs meaning c (Ok true) new
  has_read e h =
      let k = knows h.goes.knows in
      ends_as meaning lawful denials left answers asks r f c b s work op in_scan (Ok true) new (λ _. new ≡ old) k.0 (of_row ∙ ap (λ (x : Row W). (key_of x).work) (sym k.1.row)) same k.1.kind
      (subst (λ (x : Bool). (meaning work).walk (overlaid (caller_call c).known (run_batch x (caller_call c))) op ≡ Gives [] new) (sym e) h.walk)

  pub has_lacked : (need : Need) → in_scan ≡ false → HasReadFrom (meaning work) op before (told meaning lawful denials left answers asks r front in_scan n1 n2 n3 course c b s) (Err need) old new → RunEndsAs meaning c (Err need) new
  has_lacked need e h =
      let k = knows h.goes.knows in
      ends_as meaning lawful denials left answers asks r f c b s work op in_scan (Err need) new (λ _. new ≡ old) k.0 (of_row ∙ ap (λ (x : Row W). (key_of x).work) (sym k.1.row)) same k.1.kind
      (subst (λ (x : Bool). (meaning work).walk (overlaid (caller_call c).known (run_batch x (caller_call c))) op ≡ Needs need.addr) (sym e) h.walk.0, h.walk.2)

pub some_also : {A : Type 0} (result : Option A) (G H : A → Type 0) → ((a : A) → G a → H a) → IfSome result G → IfSome result H
some_also None G H on h = h
some_also (Some a) G H on h = on a h

-- what is so of both ends of a call that either went on or left all as it was
pub some_or_same : {A X : Type 0} (before after : X) (result : Option A) (G : A → Type 0) (Q : Type 0) (P : X → Type 0) → ((a : A) → G a → P after) → P before → IfSome result G → IfNone result ((after ≡ before) × Q) → P after
some_or_same before after None G Q P on p some none = subst P (sym none.0) p
some_or_same before after (Some a) G Q P on p some none = on a some

-- at the load of a cell the call is open
pub load_open : (b : Bool) (a : ℕ) → IsOpen (load_for b a)
load_open true a = refl
load_open false a = refl
