-- What each event leaves of the calls of one caller.
use Rattle.std.proofs.Common.{◌≡◌, ℕ, zero, suc, ◌+◌, ◌-◌, ◌<◌, ◌≤◌, ◌⊎◌, inl, inr, List, [], ◌∷◌, ◌++◌, length, get_or, refl, sym, ◌∙◌, ap, subst, arith, Option, Some, None, Bool, true, false}
use Rattle.std.specs.List.{All}
use Rattle.std.proofs.lemmas.Bool.{cases_lt}
use Rattle.std.proofs.lemmas.List.{append-nil, length-append, get_or_push, get_or_append_left}
use Rattle.std.proofs.lemmas.List.Elements.{All-append}
use Rattle.of_core.specs.declared.place.Place.{Place}
use Rattle.of_core.specs.declared.place.Place.TheVariants.{Idle}
use Rattle.of_core.specs.declared.place.Outcome.{Outcome}
use Rattle.of_core.specs.declared.place.Outcome.TheVariants.{Answered, Spent, Lost}
use Rattle.of_core.specs.Table.{Setup, committed_seq, durable_seq}
use Rattle.of_core.specs.Machine.{Call, CallState, IsOpen, is_idle, begin_call, first_place}
use Rattle.of_core.specs.TableMoment.{Moment, TableStart, Batch, Read}
use Rattle.of_core.specs.History.{batch_at}
use Rattle.of_core.specs.Order.{no_read}
use Rattle.of_core.specs.MachineValue.{ended_outcome_at}
use Rattle.of_core.specs.Events.{machine_in}
use Rattle.of_core.specs.Remains.{CountsOn}
use Rattle.of_core.specs.Facts.{ReadsFrom}
use Rattle.of_core.specs.Calls.{no_outcome, last_outcome, last_outcome_or, outcome_seq, outcome_of_loss, IsNotBefore, IsSplitAt, HasNotRun, OutcomeStands, IsOutcome, WasBegun, HasCalls}
use Rattle.of_core.proofs.Idle.{idle_reads}
use Rattle.of_core.proofs.Ordering.{idle_is}
use Rattle.of_core.proofs.StepTaken.{opened_reads}

-- the second list begins with the first
abbrev pub Extends : {X : Type 0} → List X → List X → Type 0
Extends {X} xs ys = (length xs ≤ length ys) × ((x : ℕ) (d : X) → x < length xs → get_or ys x d ≡ get_or xs x d)

extends_self : {X : Type 0} (xs : List X) → Extends xs xs
extends_self xs = (omega arith, λ x d l. refl)

extends_push : {X : Type 0} (xs : List X) (y : X) → Extends xs (xs ++ y ∷ [])
extends_push xs y = (omega (arith, length-append xs (y ∷ [])), λ x d l. get_or_append_left xs (y ∷ []) d x l)

pub all_one : {X : Type 0} (P : X → Type 0) (x : X) → P x → All P (x ∷ [])
all_one P x h zero d l = h
all_one P x h (suc k) d l = absurd (omega arith)

last_push : (os : List Outcome) (before : Option Outcome) (o : Outcome) → last_outcome_or before (os ++ o ∷ []) ≡ Some o
last_push [] before o = refl
last_push (p ∷ os) before o = last_push os (Some p) o

-- a machine in a call hasn't ended it
pub none_ended : (d : CallState) (p : Place) → IsOpen p → ended_outcome_at p d ≡ None
none_ended d Idle o = cc
none_ended d p o = refl

told_as : (os : List Outcome) (a b : Option Outcome) → b ≡ a → (a ≡ None) ⊎ (a ≡ last_outcome os) → (b ≡ None) ⊎ (b ≡ last_outcome os)
told_as os a b e (inl q) = inl (e ∙ q)
told_as os a b e (inr q) = inr (e ∙ q)

module _ (S : Setup) (B : TableStart) where
  -- the history of the first moment stands in the second
  pub record Grows (w v : Moment) : Type 0 where
    pub reach : durable_seq S w.words ≤ B.seq + length w.batches
    pub rise : durable_seq S w.words ≤ durable_seq S v.words
    pub limit : durable_seq S v.words ≤ S.limit
    pub few : B.seq + length v.batches ≤ S.limit
    pub longer : length w.batches ≤ length v.batches
    pub batches : (k : ℕ) → B.seq < k → k ≤ B.seq + length w.batches → batch_at B v.batches k ≡ batch_at B w.batches k
    pub reads : Extends w.reads v.reads

  -- no more batches stand where the limit was reached
  not_run_grows : (w v : Moment) → Grows w v → (i t : ℕ) → S.limit ≤ durable_seq S w.words → HasNotRun B w i t → HasNotRun B v i t
  not_run_grows w v f i t l h k u n =
      let m : k ≤ B.seq + length w.batches = omega (arith, n, l, f.reach, f.few) in
      subst (λ (b : Batch). All (λ (c : Call). c.caller ≡ i → c.ticket < t) b.calls) (sym (f.batches k u m)) (h k u m)

  -- the new batches have only later calls of the caller
  abbrev pub HasLaterCalls : (w v : Moment) → (i t : ℕ) → Type 0
  HasLaterCalls w v i t = (k : ℕ) → B.seq + length w.batches < k → k ≤ B.seq + length v.batches → All (λ (c : Call). c.caller ≡ i → t < c.ticket) (batch_at B v.batches k).calls

  split_grows : (w v : Moment) → Grows w v → (i t s : ℕ) → HasLaterCalls w v i t → s ≤ B.seq + length w.batches → IsSplitAt B w i t s → IsSplitAt B v i t s
  split_grows w v f i t s later l h k u n = go (cases_lt (B.seq + length w.batches) k)
    where
      go : (B.seq + length w.batches < k) ⊎ (k ≤ B.seq + length w.batches) → All (λ (c : Call). c.caller ≡ i → (c.ticket ≤ t → k ≤ s) × (k ≤ s → c.ticket ≤ t)) (batch_at B v.batches k).calls
      go (inl a) = λ y d z q. let p = later k a n y d z q in (λ e. absurd (omega (arith, e, p)), λ e. absurd (omega (arith, e, l, a)))
      go (inr a) = subst (λ (b : Batch). All (λ (c : Call). c.caller ≡ i → (c.ticket ≤ t → k ≤ s) × (k ≤ s → c.ticket ≤ t)) b.calls) (sym (f.batches k u a)) (h k u a)

  pub stood_grows : (w v : Moment) → Grows w v → (i t : ℕ) (op : List ℕ) (o : Outcome) → HasLaterCalls w v i t → OutcomeStands S B w i t op o → OutcomeStands S B v i t op o
  stood_grows w v f i t op (Answered s true raw steps) later h = (h.0, omega (arith, h.1, f.rise), rw (f.batches s h.0 (omega (arith, h.1, f.reach))) h.2, h.3, h.4)
  stood_grows w v f i t op (Answered s false raw steps) later h = (omega (arith, h.0, f.rise), (h.1.0, omega (arith, h.1.1, f.reads.0), f.reads.1 h.1.0 no_read h.1.1 ∙ h.1.2), h.2, h.3, h.4)
  stood_grows w v f i t op (Spent s) later h = (h.0, omega (arith, h.0, h.1, f.rise, f.limit), not_run_grows w v f i t (omega (arith, h.0, h.1)) h.2)
  stood_grows w v f i t op (Lost s) later h = (omega (arith, h.0, f.longer), split_grows w v f i t s later h.0 h.1)

  -- no outcome is above the last batch
  pub stood_low : (w : Moment) (i t : ℕ) (op : List ℕ) (o : Outcome) → durable_seq S w.words ≤ B.seq + length w.batches → OutcomeStands S B w i t op o → outcome_seq o ≤ B.seq + length w.batches
  stood_low w i t op (Answered s true raw steps) reach h = omega (arith, h.1, reach)
  stood_low w i t op (Answered s false raw steps) reach h = omega (arith, h.0, reach)
  stood_low w i t op (Spent s) reach h = omega (arith, h.1, reach)
  stood_low w i t op (Lost s) reach h = h.0

  -- what stays of the calls of caller i
  module _ (before : ℕ) (w : Moment) (i : ℕ) (ops : List (List ℕ)) (outs : List Outcome) (c : HasCalls S B before w i ops outs) where
    pub fewer_outs : length outs ≤ length ops
    fewer_outs = go (is_idle (machine_in w i).place) refl
      where
        go : (b : Bool) → is_idle (machine_in w i).place ≡ b → length outs ≤ length ops
        go true e = omega (arith, c.idle (idle_is (machine_in w i).place e))
        go false e = omega (arith, (c.open_call e).0)

    -- each outcome is of a batch that stands, or of the start
    pub outcome_low : durable_seq S w.words ≤ B.seq + length w.batches → (x : ℕ) → x < length outs → outcome_seq (get_or outs x no_outcome) ≤ B.seq + length w.batches
    outcome_low f x l = stood_low w i (before + x + 1) (get_or ops x []) (get_or outs x no_outcome) f (c.each x l)

    -- a call that was begun, and has not ended before
    abbrev pub IsNewCall : Call → Type 0
    IsNewCall x = WasBegun before i ops x × (x.caller ≡ i → before + length outs < x.ticket)

    -- each new batch has only such calls of the caller
    abbrev pub HasNewCalls : Moment → Type 0
    HasNewCalls v = (k : ℕ) → B.seq + length w.batches < k → k ≤ B.seq + length v.batches → All IsNewCall (batch_at B v.batches k).calls

    pub later_calls : (v : Moment) → HasNewCalls v → (x : ℕ) → x < length outs → HasLaterCalls w v i (before + x + 1)
    later_calls v new x l k u n y d z q = omega (arith, l, (new k u n y d z).1 q)

    pub none_new : (v : Moment) → v.batches ≡ w.batches → HasNewCalls v
    none_new v e k l u = absurd (omega (arith, l, u, ap length e))

    module _ (v : Moment) (f : Grows w v) (now : List (List ℕ)) (ends : List Outcome) (a : Extends ops now) (b : Extends outs ends) (new : HasNewCalls v) where
      each_stays : (x : ℕ) → x < length outs → OutcomeStands S B v i (before + x + 1) (get_or now x []) (get_or ends x no_outcome)
      each_stays x l =
          subst (λ (o : Outcome). OutcomeStands S B v i (before + x + 1) (get_or now x []) o) (sym (b.1 x no_outcome l))
          (subst (λ (op : List ℕ). OutcomeStands S B v i (before + x + 1) op (get_or outs x no_outcome)) (sym (a.1 x [] (omega (arith, l, fewer_outs))))
          (stood_grows w v f i (before + x + 1) (get_or ops x []) (get_or outs x no_outcome) (later_calls v new x l) (c.each x l)))

      among_stays : (r : Read) → IsOutcome before i ops outs r → IsOutcome before i now ends r
      among_stays r h q = let p = h q in (p.0, p.1, omega (arith, p.2, b.0), p.3, p.4 ∙ sym (a.1 p.0 [] (omega (arith, p.2, fewer_outs))), b.1 p.0 no_outcome p.2 ∙ p.5)

      reads_stay : (rs : List Read) → v.reads ≡ w.reads ++ rs → All (IsOutcome before i now ends) rs → All (IsOutcome before i now ends) v.reads
      reads_stay rs e h = subst (λ (xs : List Read). All (IsOutcome before i now ends) xs) (sym e) (All-append (IsOutcome before i now ends) w.reads rs (λ k d l. among_stays (get_or w.reads k d) (c.reads k d l)) h)

      words_stay : (x : Call) → WasBegun before i ops x → WasBegun before i now x
      words_stay x h q = let p = h q in (p.0, omega (arith, p.1, a.0), p.2 ∙ sym (a.1 (x.ticket - before - 1) [] (omega (arith, p.0, p.1))))

      calls_stay : (k : ℕ) → B.seq < k → k ≤ B.seq + length v.batches → All (WasBegun before i now) (batch_at B v.batches k).calls
      calls_stay k l u y d z = words_stay (get_or (batch_at B v.batches k).calls y d) (go (cases_lt (B.seq + length w.batches) k))
        where
          go : (B.seq + length w.batches < k) ⊎ (k ≤ B.seq + length w.batches) → WasBegun before i ops (get_or (batch_at B v.batches k).calls y d)
          go (inl t) = (new k t u y d z).0
          go (inr t) = (subst (λ (x : Batch). All (WasBegun before i ops) x.calls) (sym (f.batches k l t)) (c.calls k l t)) y d z

    -- where none of the caller's calls has begun or ended
    pub stays : (v : Moment) → Grows w v → (rs : List Read) → v.reads ≡ w.reads ++ rs → All (IsOutcome before i ops outs) rs → HasNewCalls v
        → (d : CallState) → machine_in v i ≡ d → d.made ≡ (machine_in w i).made → (d.place ≡ Idle → ((machine_in w i).place ≡ Idle) × (d.answer ≡ (machine_in w i).answer)) → (IsOpen d.place → IsOpen (machine_in w i).place × (d.op ≡ (machine_in w i).op) × (d.answer ≡ (machine_in w i).answer))
        → ((low : ℕ) → low ≤ B.seq + length w.batches → ReadsFrom low (machine_in w i) → ReadsFrom low d) → HasCalls S B before v i ops outs
    stays v f rs e all new d x made idle live from = record {
      made = ap (λ (n : CallState). n.made) x ∙ made ∙ c.made;
      idle = λ q. c.idle (idle (ap (λ (n : CallState). n.place) (sym x) ∙ q)).0;
      open_call = λ q. let o = live (subst (λ (n : CallState). IsOpen n.place) x q) in ((c.open_call o.0).0, ap (λ (n : CallState). n.op) x ∙ o.1 ∙ (c.open_call o.0).1);
      unanswered = λ q. let o = live (subst (λ (n : CallState). IsOpen n.place) x q) in ap (λ (n : CallState). n.answer) x ∙ o.2 ∙ c.unanswered o.0;
      last = λ q. let o = idle (ap (λ (n : CallState). n.place) (sym x) ∙ q) in told_as outs (machine_in w i).answer (machine_in v i).answer (ap (λ (n : CallState). n.answer) x ∙ o.1) (c.last o.0);
      each = each_stays v f ops outs (extends_self ops) (extends_self outs) new;
      reads = reads_stay v f ops outs (extends_self ops) (extends_self outs) new rs e all;
      calls = calls_stay v f ops outs (extends_self ops) (extends_self outs) new;
      rising = c.rising;
      reads_from = λ y l. subst (ReadsFrom (outcome_seq (get_or outs y no_outcome))) (sym x) (from (outcome_seq (get_or outs y no_outcome)) (outcome_low f.reach y l) (c.reads_from y l));
    }

    -- the caller begins a call, by the machine d with as many calls behind it
    pub begins : (v : Moment) → Grows w v → v.reads ≡ w.reads → v.batches ≡ w.batches → (m : CallState) (op : List ℕ) → machine_in w i ≡ m → m.place ≡ Idle → (d : CallState) → d.made ≡ m.made → machine_in v i ≡ begin_call S d op → HasCalls S B before v i (ops ++ op ∷ []) outs
    begins v f e t m op own rest d as_many x = record {
      made = ap (λ (n : CallState). n.made) x ∙ omega (arith, as_many, sym (ap (λ (n : CallState). n.made) own) ∙ c.made, length-append ops (op ∷ []));
      idle = λ q. absurd (closed (S.meaning.reads_only op) (ap (λ (n : CallState). n.place) (sym x) ∙ q));
      open_call = λ q. (omega (arith, length-append ops (op ∷ []), all_ended), ap (λ (n : CallState). n.op) x ∙ sym (get_or_push ops op [] (length outs) (sym all_ended)));
      unanswered = λ q. ap (λ (n : CallState). n.answer) x;
      last = λ q. absurd (closed (S.meaning.reads_only op) (ap (λ (n : CallState). n.place) (sym x) ∙ q));
      each = each_stays v f (ops ++ op ∷ []) outs (extends_push ops op) (extends_self outs) (none_new v t);
      reads = reads_stay v f (ops ++ op ∷ []) outs (extends_push ops op) (extends_self outs) (none_new v t) [] (e ∙ sym (append-nil w.reads)) (λ k d l. absurd (omega arith));
      calls = calls_stay v f (ops ++ op ∷ []) outs (extends_push ops op) (extends_self outs) (none_new v t);
      rising = c.rising;
      reads_from = λ y l. subst (ReadsFrom (outcome_seq (get_or outs y no_outcome))) (sym x) (opened_reads S d op (outcome_seq (get_or outs y no_outcome)));
    }
      where
        all_ended : length outs ≡ length ops
        all_ended = c.idle (ap (λ (n : CallState). n.place) own ∙ rest)

        closed : (b : Bool) → first_place b ≡ Idle → ⊥
        closed true q = cc
        closed false q = cc

    -- a call of the caller, with this operation, ends: the machine holds its outcome, or none
    pub ends_one : (v : Moment) → Grows w v → (rs : List Read) → v.reads ≡ w.reads ++ rs → HasNewCalls v
        → IsOpen (machine_in w i).place → (d : CallState) → machine_in v i ≡ d → d.made ≡ (machine_in w i).made → (own : List ℕ) → own ≡ (machine_in w i).op → d.place ≡ Idle → (o : Outcome) → (d.answer ≡ None) ⊎ (d.answer ≡ Some o) → OutcomeStands S B v i d.made own o
        → ((y : ℕ) → y < length outs → IsNotBefore (outcome_seq (get_or outs y no_outcome)) o)
        → All (λ (r : Read). (r.ticket ≡ d.made) × (r.op ≡ own) × ((steps : ℕ) × (o ≡ Answered r.seq false r.raw steps))) rs → HasCalls S B before v i ops (outs ++ o ∷ [])
    ends_one v f rs e new live d x made own op rest o answer stood beyond all = record {
      made = ap (λ (n : CallState). n.made) x ∙ made ∙ c.made;
      idle = λ q. omega (arith, length-append outs (o ∷ []), (c.open_call live).0);
      open_call = λ q. let z : true ≡ false = sym (ap is_idle (ap (λ (n : CallState). n.place) x ∙ rest)) ∙ q in cc;
      unanswered = λ q. let z : true ≡ false = sym (ap is_idle (ap (λ (n : CallState). n.place) x ∙ rest)) ∙ q in cc;
      last = λ q. told_now answer;
      each = λ y l. at_each y l (cases_lt y (length outs));
      reads = reads_stay v f ops (outs ++ o ∷ []) (extends_self ops) (extends_push outs o) new rs e (λ k r l q. let a = all k r l in
          (length outs, a.2.0, omega (arith, length-append outs (o ∷ [])), a.0 ∙ number, a.1 ∙ words, get_or_push outs o no_outcome (length outs) refl ∙ a.2.1));
      calls = calls_stay v f ops (outs ++ o ∷ []) (extends_self ops) (extends_push outs o) new;
      rising = λ y z u l. rises_at y z u l (cases_lt z (length outs));
      reads_from = λ y l. subst (ReadsFrom (outcome_seq (get_or (outs ++ o ∷ []) y no_outcome))) (sym x) (idle_reads d rest (outcome_seq (get_or (outs ++ o ∷ []) y no_outcome)));
    }
      where
        told_now : (d.answer ≡ None) ⊎ (d.answer ≡ Some o) → ((machine_in v i).answer ≡ None) ⊎ ((machine_in v i).answer ≡ last_outcome (outs ++ o ∷ []))
        told_now (inl a) = inl (ap (λ (n : CallState). n.answer) x ∙ a)
        told_now (inr a) = inr (ap (λ (n : CallState). n.answer) x ∙ a ∙ sym (last_push outs None o))

        -- two outcomes from before, or one from before and the new one
        rises_at : (y z : ℕ) → y < z → z < length (outs ++ o ∷ []) → (z < length outs) ⊎ (length outs ≤ z) → IsNotBefore (outcome_seq (get_or (outs ++ o ∷ []) y no_outcome)) (get_or (outs ++ o ∷ []) z no_outcome)
        rises_at y z u l (inl t) = rw (get_or_append_left outs (o ∷ []) no_outcome y (omega arith), get_or_append_left outs (o ∷ []) no_outcome z t) (c.rising y z u t)
        rises_at y z u l (inr t) =
            let n : z ≡ length outs = omega (arith, l, t, length-append outs (o ∷ [])) in
            rw (get_or_append_left outs (o ∷ []) no_outcome y (omega (arith, u, n)), get_or_push outs o no_outcome z (sym n)) (beyond y (omega (arith, u, n)))

        number : d.made ≡ before + length outs + 1
        number = let p = made ∙ c.made in omega (arith, p, (c.open_call live).0)

        words : own ≡ get_or ops (length outs) []
        words = op ∙ (c.open_call live).1

        at_each : (y : ℕ) → y < length (outs ++ o ∷ []) → (y < length outs) ⊎ (length outs ≤ y) → OutcomeStands S B v i (before + y + 1) (get_or ops y []) (get_or (outs ++ o ∷ []) y no_outcome)
        at_each y l (inl u) = each_stays v f ops (outs ++ o ∷ []) (extends_self ops) (extends_push outs o) new y u
        at_each y l (inr u) =
            let z : length outs ≡ y = omega (arith, l, u, length-append outs (o ∷ [])) in
            subst (λ (n : ℕ). OutcomeStands S B v i (before + n + 1) (get_or ops n []) (get_or (outs ++ o ∷ []) n no_outcome)) z
            (subst (λ (p : Outcome). OutcomeStands S B v i (before + length outs + 1) (get_or ops (length outs) []) p) (sym (get_or_push outs o no_outcome (length outs) refl))
            (subst (λ (n : ℕ). OutcomeStands S B v i n (get_or ops (length outs) []) o) number
            (subst (λ (p : List ℕ). OutcomeStands S B v i d.made p o) words stood)))

    -- a new machine takes the place of the caller's
    pub revives : (v : Moment) → Grows w v → v.reads ≡ w.reads → v.batches ≡ w.batches → (d : CallState) → machine_in v i ≡ d → CountsOn (machine_in w i) d → d.answer ≡ None → (IsOpen d.place → d.op ≡ (machine_in w i).op) → ((low : ℕ) → ReadsFrom low d)
        → committed_seq w.words ≡ B.seq + length w.batches → IsSplitAt B v i d.made (committed_seq w.words) → HasCalls S B before v i ops (outs ++ outcome_of_loss (committed_seq w.words) (is_idle (machine_in w i).place) (is_idle d.place))
    revives v f e t d x counts silent same from n_is split = go (is_idle (machine_in w i).place) (is_idle d.place) refl refl
      where
        m : CallState
        m = machine_in w i

        -- no call ends
        goes_on : (d.place ≡ Idle → m.place ≡ Idle) → HasCalls S B before v i ops outs
        goes_on idle = record {
          made = ap (λ (n : CallState). n.made) x ∙ counts.0 ∙ c.made;
          idle = λ q. c.idle (idle (ap (λ (n : CallState). n.place) (sym x) ∙ q));
          open_call = λ q. let l = subst (λ (n : CallState). IsOpen n.place) x q in ((c.open_call (counts.1 l)).0, ap (λ (n : CallState). n.op) x ∙ same l ∙ (c.open_call (counts.1 l)).1);
          unanswered = λ q. ap (λ (n : CallState). n.answer) x ∙ silent;
          last = λ q. inl (ap (λ (n : CallState). n.answer) x ∙ silent);
          each = each_stays v f ops outs (extends_self ops) (extends_self outs) (none_new v t);
          reads = reads_stay v f ops outs (extends_self ops) (extends_self outs) (none_new v t) [] (e ∙ sym (append-nil w.reads)) (λ k r l. absurd (omega arith));
          calls = calls_stay v f ops outs (extends_self ops) (extends_self outs) (none_new v t);
          rising = c.rising;
          reads_from = λ y l. subst (ReadsFrom (outcome_seq (get_or outs y no_outcome))) (sym x) (from (outcome_seq (get_or outs y no_outcome)));
        }

        go : (a b : Bool) → is_idle m.place ≡ a → is_idle d.place ≡ b → HasCalls S B before v i ops (outs ++ outcome_of_loss (committed_seq w.words) a b)
        go true b p q = rw (append-nil outs) (goes_on (λ z. idle_is m.place p))
        go false false p q = rw (append-nil outs) (goes_on (λ z. let y : true ≡ false = sym (ap is_idle z) ∙ q in cc))
        go false true p q =
            ends_one v f [] (e ∙ sym (append-nil w.reads)) (none_new v t) p d x counts.0 m.op refl (idle_is d.place q) (Lost (committed_seq w.words)) (inl silent)
            (omega (arith, n_is, ap length t), split)
            (λ y l. omega (arith, outcome_low f.reach y l, n_is))
            (λ k r l. absurd (omega arith))
