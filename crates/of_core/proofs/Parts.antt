-- A schedule in two parts: what the first leaves stands in the whole.
use Rattle.std.proofs.Common.{◌≡◌, ℕ, ◌+◌, ◌<◌, ◌≤◌, List, [], ◌∷◌, ◌++◌, length, get_or, refl, sym, ◌∙◌, ap, arith}
use Rattle.std.proofs.lemmas.List.{append_assoc, append-nil, length-append, get_or_append_left}
use Rattle.of_core.specs.declared.place.Outcome.{Outcome}
use Rattle.of_core.specs.Table.{Setup}
use Rattle.of_core.specs.Steps.{word_found}
use Rattle.of_core.specs.TableMoment.{Moment, TableStart, Batch, Read, step_batches, step_reads}
use Rattle.of_core.specs.History.{batch_at}
use Rattle.of_core.specs.Order.{no_read}
use Rattle.of_core.specs.Events.{Event, Begins, Turns, Loads, Evicts, Raises, Revives, after_event, after_events, machine_in, IsSchedule}
use Rattle.of_core.specs.Calls.{operation_begun, operations_begun, outcome_of_event, outcomes}
use Rattle.of_core.specs.Machine.{CallState}
use Rattle.of_core.proofs.States.{batch_same}
use Rattle.of_core.specs.Steps.{take_word}

pub run_append : (S : Setup) (w : Moment) (es ds : List Event) → after_events S w (es ++ ds) ≡ after_events S (after_events S w es) ds
run_append S w [] ds = refl
run_append S w (e ∷ es) ds = run_append S (after_event S w e) es ds

pub operations_append : (es ds : List Event) (i : ℕ) → operations_begun (es ++ ds) i ≡ operations_begun es i ++ operations_begun ds i
operations_append [] ds i = refl
operations_append (e ∷ es) ds i = ap (λ (os : List (List ℕ)). operation_begun e i ++ os) (operations_append es ds i) ∙ sym (append_assoc (operation_begun e i) (operations_begun es i) (operations_begun ds i))

pub outcomes_append : (S : Setup) (w : Moment) (es ds : List Event) (i : ℕ) → outcomes S w (es ++ ds) i ≡ outcomes S w es i ++ outcomes S (after_events S w es) ds i
outcomes_append S w [] ds i = refl
outcomes_append S w (e ∷ es) ds i =
    ap (λ (os : List Outcome). outcome_of_event S w e i ++ os) (outcomes_append S (after_event S w e) es ds i)
    ∙ sym (append_assoc (outcome_of_event S w e i) (outcomes S (after_event S w e) es i) (outcomes S (after_events S (after_event S w e) es) ds i))

pub first_part : (S : Setup) (w : Moment) (es ds : List Event) → IsSchedule S w (es ++ ds) → IsSchedule S w es
first_part S w [] ds s = tt
first_part S w (e ∷ es) ds s = (s.0, first_part S (after_event S w e) es ds s.1)

pub second_part : (S : Setup) (w : Moment) (es ds : List Event) → IsSchedule S w (es ++ ds) → IsSchedule S (after_events S w es) ds
second_part S w [] ds s = s
second_part S w (e ∷ es) ds s = second_part S (after_event S w e) es ds s.1

-- the second history goes on after the first
pub record GoesOn (w v : Moment) : Type 0 where
  pub batches : List Batch
  pub batches_are : v.batches ≡ w.batches ++ batches
  pub reads : List Read
  pub reads_are : v.reads ≡ w.reads ++ reads

goes_nowhere : (w v : Moment) → v.batches ≡ w.batches → v.reads ≡ w.reads → GoesOn w v
goes_nowhere w v b r = record { batches = []; batches_are = b ∙ sym (append-nil w.batches); reads = []; reads_are = r ∙ sym (append-nil w.reads) }

goes_further : (w v x : Moment) → GoesOn w v → GoesOn v x → GoesOn w x
goes_further w v x g h = record {
  batches = g.batches ++ h.batches;
  batches_are = h.batches_are ∙ ap (λ (bs : List Batch). bs ++ h.batches) g.batches_are ∙ append_assoc w.batches g.batches h.batches;
  reads = g.reads ++ h.reads;
  reads_are = h.reads_are ∙ ap (λ (rs : List Read). rs ++ h.reads) g.reads_are ∙ append_assoc w.reads g.reads h.reads;
}

event_goes_on : (S : Setup) (w : Moment) (e : Event) → GoesOn w (after_event S w e)
event_goes_on S w (Begins i op) = goes_nowhere w (after_event S w (Begins i op)) refl refl
event_goes_on S w (Loads c) = goes_nowhere w (after_event S w (Loads c)) refl refl
event_goes_on S w (Evicts k) = goes_nowhere w (after_event S w (Evicts k)) refl refl
event_goes_on S w (Raises c) = goes_nowhere w (after_event S w (Raises c)) refl refl
event_goes_on S w (Revives i made) = goes_nowhere w (after_event S w (Revives i made)) refl refl
event_goes_on S w (Turns i) =
    let m : CallState = machine_in w i in
    let n : ℕ = word_found S w.words m in
    record { batches = step_batches S w.words m n; batches_are = refl; reads = step_reads m (take_word S m n); reads_are = refl }

pub goes_on : (S : Setup) (w : Moment) (es : List Event) → GoesOn w (after_events S w es)
goes_on S w [] = goes_nowhere w w refl refl
goes_on S w (e ∷ es) = goes_further w (after_event S w e) (after_events S (after_event S w e) es) (event_goes_on S w e) (goes_on S (after_event S w e) es)

-- what is in the first is in the second
pub batch_stands : (B : TableStart) (w v : Moment) → GoesOn w v → (k : ℕ) → B.seq < k → k ≤ B.seq + length w.batches → batch_at B v.batches k ≡ batch_at B w.batches k
batch_stands B w v g k l u = ap (λ (bs : List Batch). batch_at B bs k) g.batches_are ∙ batch_same B w.batches g.batches k l u

pub read_stands : (w v : Moment) → GoesOn w v → (k : ℕ) → k < length w.reads → get_or v.reads k no_read ≡ get_or w.reads k no_read
read_stands w v g k l = ap (λ (rs : List Read). get_or rs k no_read) g.reads_are ∙ get_or_append_left w.reads g.reads no_read k l

pub no_fewer : (w v : Moment) → GoesOn w v → (length w.batches ≤ length v.batches) × (length w.reads ≤ length v.reads)
no_fewer w v g = (omega (arith, ap length g.batches_are, length-append w.batches g.batches), omega (arith, ap length g.reads_are, length-append w.reads g.reads))
