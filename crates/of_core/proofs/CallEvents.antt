-- Each step, begin and eviction, and each event, leads from the calls of one caller before it to those after it.
use Rattle.std.proofs.Common.{◌≡◌, ℕ, ◌+◌, ◌<◌, ◌≤◌, ◌⊎◌, ◌==◌, inl, inr, List, [], ◌∷◌, ◌++◌, length, get_or, set, refl, sym, ◌∙◌, ap, subst, arith, Bool, true, false}
use Rattle.std.proofs.lemmas.Bool.{cases_eq, eq-eqb, ne_eqb}
use Rattle.std.proofs.lemmas.List.{append-nil, get_or-set_same, get_or-set_other, get_or_default}
use Rattle.of_cell.specs.declared.word.TheConstants.{PAYLOADS}
use Rattle.of_cell.specs.Words.{seq_of}
use Rattle.of_cell.proofs.Order.{seq_mono}
use Rattle.of_mem.specs.Meaning.{IsSoundMeaning}
use Rattle.of_core.specs.declared.place.Place.TheVariants.{Idle}
use Rattle.of_core.specs.declared.place.Outcome.{Outcome}
use Rattle.of_core.specs.Table.{Setup, first_operation_cell, words_before_members, durable_at, durable_word, committed_seq, durable_seq}
use Rattle.of_core.specs.Machine.{CallState, IsOpen, is_idle, no_machine, begin_call, MayReplace}
use Rattle.of_core.specs.Steps.{want, take_word, word_found, IsFoundBy}
use Rattle.of_core.specs.TableMoment.{Moment, TableStart, Batch, Read, after_step}
use Rattle.of_core.specs.History.{batch_at}
use Rattle.of_core.specs.Invariant.{MeetsInvariant, IsLoaded}
use Rattle.of_core.specs.Events.{Event, Begins, Turns, Loads, Evicts, Raises, Revives, after_begin, after_raise, machine_in, after_event, MayHappen, turns_in_event, one_if}
use Rattle.of_core.specs.Calls.{if_so, operation_begun, outcome_of_step, outcome_of_loss, outcome_of_event, HasCalls, TurnFindsOpenCall, NoneSpent, total_steps}
use Rattle.of_core.specs.Remains.{remains_of, announces_open_call, revived_machine}
use Rattle.of_core.specs.Laws.{GainsCalls, KeepsCalls, KeepsOthersCalls, StepsEndOwnCall, BeginsAddOneCall}
use Rattle.of_core.proofs.Raises.{rises}
use Rattle.of_core.proofs.Found.{found_now}
use Rattle.of_core.proofs.Happenings.{begin_kept, load_kept, evict_kept, event_good}
use Rattle.of_core.proofs.Beside.{beside_kept}
use Rattle.of_core.proofs.Calls.{Grows, none_new, stays, begins, revives}
use Rattle.of_core.proofs.Revived.{silent_if, op_if, reads_if, split_now, fewer_steps as revived_steps}
use Rattle.of_core.proofs.CallSteps.{own, last_is, reached, few, now, not_now, other_step, own_step, own_counts}

-- no call more, and no outcome more
add_none : (S : Setup) (B : TableStart) (before : ℕ) (v : Moment) (i : ℕ) (ops : List (List ℕ)) (outs : List Outcome) → HasCalls S B before v i ops outs → HasCalls S B before v i (ops ++ []) (outs ++ [])
add_none S B before v i ops outs c = rw (append-nil ops, append-nil outs) c

module _ (S : Setup) (Lawful : List ℕ → Type 0) (B : TableStart) (w : Moment) (g : MeetsInvariant S Lawful B w) where
  -- a moment with the same history
  grows_same : (v : Moment) → MeetsInvariant S Lawful B v → durable_seq S w.words ≤ durable_seq S v.words → v.batches ≡ w.batches → v.reads ≡ w.reads → Grows S B w v
  grows_same v q l e f = record {
    reach = reached S Lawful B w g;
    rise = l;
    limit = omega (arith, reached S Lawful B v q, few S Lawful B v q);
    few = few S Lawful B v q;
    longer = omega (arith, ap length e);
    batches = λ k t u. ap (λ (bs : List Batch). batch_at B bs k) e;
    reads = (omega (arith, ap length f), λ x d t. ap (λ (rs : List Read). get_or rs x d) f);
  }

  -- where a machine of nobody but i changes the calls of i stay
  pub quiet : (v : Moment) → MeetsInvariant S Lawful B v → durable_seq S w.words ≤ durable_seq S v.words → v.batches ≡ w.batches → v.reads ≡ w.reads → (i : ℕ) → machine_in v i ≡ machine_in w i → KeepsCalls S B i w v
  quiet v q l e f i same before ops outs c =
      stays S B before w i ops outs c v (grows_same v q l e f) [] (f ∙ sym (append-nil w.reads)) (λ k r l. absurd (omega arith)) (none_new S B before w i ops outs c v e) (machine_in w i) same refl (λ r. (r, refl)) (λ o. (o, refl, refl)) (λ low l r. r)

  -- words are raised
  pub raise_calls : (e : ℕ × ℕ) → IsLoaded S B w.words w.batches e → (i : ℕ) → KeepsCalls S B i w (after_raise S w e)
  raise_calls e h i = quiet (after_raise S w e) (evict_kept S Lawful B w g e h) (seq_mono (durable_word S w.words 0) (durable_word S (after_raise S w e).words 0) (rises S Lawful B w.words w.batches g.core.shared e.0 e.1 h 0)) refl refl i refl

  -- a word behind the table's own changes
  pub beside_calls : (c v : ℕ) → words_before_members S ≤ c → (i : ℕ) → KeepsCalls S B i w (record w { words = set w.words c v })
  beside_calls c v far i =
      let same : get_or (set w.words c v) (durable_at S 0) 0 ≡ get_or w.words (durable_at S 0) 0 = get_or-set_other w.words c (durable_at S 0) v 0 (omega (arith, far)) in
      quiet (record w { words = set w.words c v }) (beside_kept S Lawful B w g c v far) (omega (arith, ap seq_of same)) refl refl i refl

  -- the machine m of caller i begins a call, or a fresh one in its place
  module _ (i : ℕ) (m : CallState) (h : i < S.callers) (at : get_or w.machines i m ≡ m) (rest : m.place ≡ Idle) (d : CallState) (takes : MayReplace S m d) (op : List ℕ) (some : 1 ≤ length op) (small : length op ≤ S.instrs) (ticket : d.made + 1 < PAYLOADS) where
    abbrev v : Moment
    v = after_begin S i d op w

    good : MeetsInvariant S Lawful B v
    good = begin_kept S Lawful B w g i m h at rest d takes op some small ticket

    as_many : MayReplace S m d → d.made ≡ m.made
    as_many (inl e) = ap (λ (n : CallState). n.made) e
    as_many (inr q) = ap (λ (n : CallState). n.made) q.1

    pub own_begin : GainsCalls S B i (op ∷ []) [] w v
    own_begin before ops outs c =
        let here : machine_in w i ≡ m = get_or_default w.machines i no_machine m (omega (arith, g.core.members)) ∙ at in
        subst (λ (os : List Outcome). HasCalls S B before v i (ops ++ op ∷ []) os) (sym (append-nil outs))
        (begins S B before w i ops outs c v (grows_same v good (omega arith) refl refl) refl refl m op here rest d (as_many takes) (get_or-set_same w.machines i (begin_call S d op) no_machine (omega (arith, g.core.members))))

    pub other_begin : KeepsOthersCalls S B i w v
    other_begin j member away = quiet v good (omega arith) refl refl j (get_or-set_other w.machines i j (begin_call S d op) no_machine (λ e. away (sym e)))

module _ (S : Setup) (Lawful : List ℕ → Type 0) (sound : IsSoundMeaning S.meaning Lawful (first_operation_cell S) S.cells) where
  -- what a step of the machine x of caller i leaves of all calls
  abbrev Leaves : TableStart → Moment → ℕ → ℕ → CallState → Type 0
  Leaves B w i n x = IsFoundBy (want S x) w.words n → GainsCalls S B i [] (outcome_of_step x (take_word S x n)) w (after_step S i x n w) × KeepsOthersCalls S B i w (after_step S i x n w)

  -- a step ends its caller's open call or none
  pub step_calls : StepsEndOwnCall S Lawful
  step_calls B w g i m h at n found = subst (Leaves B w i n) here both found
    where
      here : machine_in w i ≡ m
      here = get_or_default w.machines i no_machine m (omega (arith, h, g.core.members)) ∙ at

      both : Leaves B w i n (machine_in w i)
      both f = (λ before ops outs c. rw (append-nil ops) (own_step S Lawful sound B w g i h n f before ops outs c), λ j member away before ops outs c. other_step S Lawful sound B w g i h n f j member away before ops outs c)

  pub begin_calls : BeginsAddOneCall S Lawful
  begin_calls B w g i m h at rest d takes op some small ticket = (own_begin S Lawful B w g i m h at rest d takes op some small ticket, other_begin S Lawful B w g i m h at rest d takes op some small ticket)

  module _ (B : TableStart) (w : Moment) (g : MeetsInvariant S Lawful B w) where
    abbrev found : (j : ℕ) → IsFoundBy (want S (machine_in w j)) w.words (word_found S w.words (machine_in w j))
    found j = found_now S w.words (machine_in w j)

    module _ (before i : ℕ) (member : i < S.callers) (ops : List (List ℕ)) (outs : List Outcome) (c : HasCalls S B before w i ops outs) where
      -- the same with a test of whose event it is
      begin_event : (j : ℕ) (op : List ℕ) → MayHappen S w (Begins j op) → (j ≡ i) ⊎ (j ≡ i → ⊥) → HasCalls S B before (after_event S w (Begins j op)) i (ops ++ if_so (i == j) (op ∷ [])) (outs ++ [])
      begin_event j op may (inl e) =
          let p : GainsCalls S B j (op ∷ []) [] w (after_event S w (Begins j op)) = own_begin S Lawful B w g j (machine_in w j) may.0 (own S Lawful B w g j may.0) may.1 (machine_in w j) (inl refl) op may.2 may.3 may.4 in
          subst (λ (b : Bool). HasCalls S B before (after_event S w (Begins j op)) i (ops ++ if_so b (op ∷ [])) (outs ++ [])) (sym (ap (λ (x : ℕ). i == x) e ∙ eq-eqb i i refl))
          ((subst (λ (x : ℕ). GainsCalls S B x (op ∷ []) [] w (after_event S w (Begins j op))) e p) before ops outs c)
      begin_event j op may (inr away) =
          subst (λ (b : Bool). HasCalls S B before (after_event S w (Begins j op)) i (ops ++ if_so b (op ∷ [])) (outs ++ [])) (sym (ne_eqb i j (λ e. away (sym e))))
          (add_none S B before (after_event S w (Begins j op)) i ops outs (other_begin S Lawful B w g j (machine_in w j) may.0 (own S Lawful B w g j may.0) may.1 (machine_in w j) (inl refl) op may.2 may.3 may.4 i member away before ops outs c))

      abbrev After : ℕ → List Outcome → Type 0
      After j os = HasCalls S B before (after_event S w (Turns j)) i (ops ++ []) (outs ++ os)

      turn_event : (j : ℕ) → j < S.callers → (j ≡ i) ⊎ (j ≡ i → ⊥) → After j (outcome_of_event S w (Turns j) i)
      turn_event j may (inr away) =
          subst (λ (b : Bool). After j (if_so b (outcome_of_step (machine_in w j) (machine_in (after_event S w (Turns j)) j)))) (sym (ne_eqb i j (λ e. away (sym e))))
          (add_none S B before (after_event S w (Turns j)) i ops outs (other_step S Lawful sound B w g j may (word_found S w.words (machine_in w j)) (found j) i member away before ops outs c))
      turn_event j may (inl e) =
          let n : ℕ = word_found S w.words (machine_in w i) in
          let p : HasCalls S B before (after_event S w (Turns i)) i ops (outs ++ outcome_of_step (machine_in w i) (take_word S (machine_in w i) n)) = own_step S Lawful sound B w g i member n (found i) before ops outs c in
          subst (λ (x : ℕ). After x (outcome_of_event S w (Turns x) i)) (sym e)
          (subst (λ (b : Bool). After i (if_so b (outcome_of_step (machine_in w i) (machine_in (after_event S w (Turns i)) i)))) (sym (eq-eqb i i refl))
          (subst (λ (x : CallState). After i (outcome_of_step (machine_in w i) x)) (sym (now S Lawful sound B w g i member n (found i))) (rw (append-nil ops) p)))

      -- a new machine takes the place of the caller's
      own_revival : (made : ℕ) → MayHappen S w (Revives i made) → HasCalls S B before (after_event S w (Revives i made)) i (ops ++ []) (outs ++ outcome_of_event S w (Revives i made) i)
      own_revival made may =
          subst (λ (b : Bool). HasCalls S B before v i (ops ++ []) (outs ++ if_so b (outcome_of_loss (committed_seq w.words) (is_idle (machine_in w i).place) (is_idle (machine_in v i).place)))) (sym (eq-eqb i i refl))
          (subst (λ (x : CallState). HasCalls S B before v i (ops ++ []) (outs ++ outcome_of_loss (committed_seq w.words) (is_idle (machine_in w i).place) (is_idle x.place))) (sym here)
          (rw (append-nil ops) (revives S B before w i ops outs c v (grows_same S Lawful B w g v (event_good S Lawful B w g sound (Revives i made) may) (omega arith) refl refl) refl refl next here may.2
          (silent_if g.core i member may.1 made b) (op_if g.core i member may.1 made b refl may.2) (reads_if g.core i member may.1 made b)
          (last_is S Lawful B w g) (split_now g.core i member may.1 next.made may.2.0))))
        where
          v : Moment
          v = after_event S w (Revives i made)

          b : Bool
          b = announces_open_call (remains_of S w.words i)

          next : CallState
          next = revived_machine S (remains_of S w.words i) i made

          here : machine_in v i ≡ next
          here = get_or-set_same w.machines i next no_machine (omega (arith, g.core.members))

      revive_event : (j made : ℕ) → MayHappen S w (Revives j made) → (j ≡ i) ⊎ (j ≡ i → ⊥) → HasCalls S B before (after_event S w (Revives j made)) i (ops ++ []) (outs ++ outcome_of_event S w (Revives j made) i)
      revive_event j made may (inl e) =
          subst (λ (x : ℕ). HasCalls S B before (after_event S w (Revives x made)) i (ops ++ []) (outs ++ outcome_of_event S w (Revives x made) i)) (sym e)
          (own_revival made (subst (λ (x : ℕ). MayHappen S w (Revives x made)) e may))
      revive_event j made may (inr away) =
          subst (λ (b : Bool). HasCalls S B before v i (ops ++ []) (outs ++ if_so b (outcome_of_loss (committed_seq w.words) (is_idle (machine_in w j).place) (is_idle (machine_in v j).place)))) (sym (ne_eqb i j (λ e. away (sym e))))
          (add_none S B before v i ops outs (quiet S Lawful B w g v (event_good S Lawful B w g sound (Revives j made) may) (omega arith) refl refl i (get_or-set_other w.machines j i (revived_machine S (remains_of S w.words j) j made) no_machine (λ e. away (sym e))) before ops outs c))
        where
          v : Moment
          v = after_event S w (Revives j made)

      -- the calls after an event are those before it, with the one that it begins or ends
      pub calls_kept : (e : Event) → MayHappen S w e → HasCalls S B before (after_event S w e) i (ops ++ operation_begun e i) (outs ++ outcome_of_event S w e i)
      calls_kept (Loads x) may = add_none S B before (after_event S w (Loads x)) i ops outs (quiet S Lawful B w g (after_event S w (Loads x)) (event_good S Lawful B w g sound (Loads x) may) (omega arith) refl refl i refl before ops outs c)
      calls_kept (Evicts k) may = add_none S B before (after_event S w (Evicts k)) i ops outs (raise_calls S Lawful B w g (get_or w.loaded k (0, 0)) (g.core.loaded k (0, 0) may) i before ops outs c)
      calls_kept (Raises x) may = add_none S B before (after_event S w (Raises x)) i ops outs (raise_calls S Lawful B w g (x, get_or w.words x 0) (load_kept S Lawful B w g x may) i before ops outs c)
      calls_kept (Begins j op) may = begin_event j op may (cases_eq j i)
      calls_kept (Revives j made) may = revive_event j made may (cases_eq j i)
      calls_kept (Turns j) may = turn_event j may (cases_eq j i)

    -- an event makes the steps that its caller's calls tell one more where it is a turn of it
    abbrev pub CountsStep : Event → ℕ → Type 0
    CountsStep e i = (total_steps (outcome_of_event S w e i) + (machine_in (after_event S w e) i).steps ≤ (machine_in w i).steps + turns_in_event i e)
        × (TurnFindsOpenCall w e i → NoneSpent (outcome_of_event S w e i) → total_steps (outcome_of_event S w e i) + (machine_in (after_event S w e) i).steps ≡ (machine_in w i).steps + turns_in_event i e)

    -- the same where it is known whether the turn is the caller's
    abbrev ByBool : (j : ℕ) → Bool → (now : CallState) → ℕ → Type 0
    ByBool j b x k = (total_steps (if_so b (outcome_of_step (machine_in w j) x)) + (machine_in (after_event S w (Turns j)) k).steps ≤ (machine_in w k).steps + one_if b)
        × ((k ≡ j → IsOpen (machine_in w k).place) → NoneSpent (if_so b (outcome_of_step (machine_in w j) x)) → total_steps (if_so b (outcome_of_step (machine_in w j) x)) + (machine_in (after_event S w (Turns j)) k).steps ≡ (machine_in w k).steps + one_if b)

    pub steps_counted : (e : Event) → MayHappen S w e → (i : ℕ) → i < S.callers → CountsStep e i
    steps_counted (Loads x) may i member = (omega arith, λ q u. omega arith)
    steps_counted (Evicts k) may i member = (omega arith, λ q u. omega arith)
    steps_counted (Raises x) may i member = (omega arith, λ q u. omega arith)
    steps_counted (Revives j made) may i member = go (cases_eq j i)
      where
        v : Moment
        v = after_event S w (Revives j made)

        next : CallState
        next = revived_machine S (remains_of S w.words j) j made

        none : (s : ℕ) (a b : Bool) → total_steps (outcome_of_loss s a b) ≡ 0
        none s true b = refl
        none s false true = refl
        none s false false = refl

        none_if : (s : ℕ) (x a b : Bool) → total_steps (if_so x (outcome_of_loss s a b)) ≡ 0
        none_if s true a b = none s a b
        none_if s false a b = refl

        silent : total_steps (outcome_of_event S w (Revives j made) i) ≡ 0
        silent = none_if (committed_seq w.words) (i == j) (is_idle (machine_in w j).place) (is_idle (machine_in v j).place)

        go : (j ≡ i) ⊎ (j ≡ i → ⊥) → CountsStep (Revives j made) i
        go (inl e) =
            let here : machine_in v j ≡ next = get_or-set_same w.machines j next no_machine (omega (arith, g.core.members, may.0)) in
            let less : next.steps ≤ (machine_in w j).steps = revived_steps g j may.0 may.1 made may.2 in
            (omega (arith, silent, less, ap (λ (d : CallState). d.steps) here, ap (λ (k : ℕ). (machine_in w k).steps) e, ap (λ (k : ℕ). (machine_in v k).steps) e), λ q u. absurd (q (sym e)))
        go (inr away) =
            let x : machine_in v i ≡ machine_in w i = get_or-set_other w.machines j i next no_machine (λ e. away (sym e)) in
            (omega (arith, silent, ap (λ (d : CallState). d.steps) x), λ q u. omega (arith, silent, ap (λ (d : CallState). d.steps) x))
    steps_counted (Begins j op) may i member = go (cases_eq j i)
      where
        go : (j ≡ i) ⊎ (j ≡ i → ⊥) → CountsStep (Begins j op) i
        go (inl e) =
            let x : machine_in (after_event S w (Begins j op)) j ≡ begin_call S (machine_in w j) op = get_or-set_same w.machines j (begin_call S (machine_in w j) op) no_machine (omega (arith, g.core.members, may.0)) in
            let z : (machine_in w j).steps ≡ 0 = (g.late j (machine_in w j) may.0 (own S Lawful B w g j may.0)).rests may.1 in
            subst (λ (k : ℕ). CountsStep (Begins j op) k) e (omega (arith, ap (λ (d : CallState). d.steps) x, z), λ q u. omega (arith, ap (λ (d : CallState). d.steps) x, z))
        go (inr away) = let x : machine_in (after_event S w (Begins j op)) i ≡ machine_in w i = get_or-set_other w.machines j i (begin_call S (machine_in w j) op) no_machine (λ e. away (sym e)) in
            (omega (arith, ap (λ (d : CallState). d.steps) x), λ q u. omega (arith, ap (λ (d : CallState). d.steps) x))
    steps_counted (Turns j) may i member = go (cases_eq j i)
      where
        n : ℕ
        n = word_found S w.words (machine_in w j)

        go : (j ≡ i) ⊎ (j ≡ i → ⊥) → CountsStep (Turns j) i
        go (inl e) =
            let p = own_counts S Lawful sound B w g j may n (found j) in
            let x : machine_in (after_event S w (Turns j)) j ≡ take_word S (machine_in w j) n = now S Lawful sound B w g j may n (found j) in
            let s = ap (λ (d : CallState). d.steps) x in
            subst (λ (k : ℕ). CountsStep (Turns j) k) e
            (subst (λ (b : Bool). ByBool j b (machine_in (after_event S w (Turns j)) j) j) (sym (eq-eqb j j refl))
            (subst (λ (d : CallState). ByBool j true d j) (sym x) (omega (arith, p.0, s), λ q u. omega (arith, p.1 (q refl) u, s))))
        go (inr away) =
            let x = ap (λ (d : CallState). d.steps) (not_now S Lawful sound B w g j may n (found j) i away) in
            subst (λ (b : Bool). ByBool j b (machine_in (after_event S w (Turns j)) j) i) (sym (ne_eqb i j (λ e. away (sym e)))) (omega (arith, x), λ q u. omega (arith, x))
