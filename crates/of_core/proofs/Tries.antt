-- A read is tried before it is announced.
use Rattle.std.proofs.Common.{◌≡◌, ℕ, ◌+◌, ◌<◌, ◌≤◌, ◌==◌, inl, inr, List, length, refl, sym, ◌∙◌, arith, None, Bool, true, false, nat_lt}
use Rattle.std.proofs.lemmas.Bool.Decides.{nat_tests}
use Rattle.std.proofs.lemmas.List.{length-map, length-replicate}
use Rattle.of_core.specs.declared.machine.trying.TheConstants.{MOST_TRIES}
use Rattle.of_cell.specs.Words.{pack, seq_of, payload_of}
use Rattle.of_mem.specs.Meaning.{WalkEnd, Needs, Gives, WalkFits, IsSoundMeaning}
use Rattle.of_core.specs.declared.place.Place.TheVariants.{TryCurrent, TryRequest, TryCell}
use Rattle.of_core.specs.Table.{Setup, data_at, first_operation_cell, current_word, request_of, data_word, committed_seq, committed_owner}
use Rattle.of_core.specs.Machine.{CallState, no_cell_known, with_cell_known}
use Rattle.of_core.specs.Steps.{read_on, after_read_run, begin_reading, resume, after_try_request, end_try, after_try_cell, is_request_open, take_word_at}
use Rattle.of_core.specs.TableMoment.{Moment, TableStart, after_counted_step}
use Rattle.of_core.specs.History.{state_after, numbers_after}
use Rattle.of_core.specs.Rounds.{WasCurrent, IsInTry, MayHelp, KnowsClosedState, HasNothingUnderWay}
use Rattle.of_core.specs.Invariant.{HoldsAtPlace, MeetsCore}
use Rattle.of_core.specs.Guarantees.{KeepsGuarantee}
use Rattle.of_core.proofs.States.{state_length}
use Rattle.of_core.proofs.Alike.{calm_more, fresh_as, trying_as}
use Rattle.of_core.proofs.Unknown.{known_not}
use Rattle.of_core.proofs.Assembling.{assemble_read, logs_of, same_batches, same_words}
use Rattle.of_core.proofs.Rounds.{watch_more, seen_risen, entered_at, n_is, not_open, opened_after, quiet_from}
use Rattle.of_core.proofs.Tests.{differ, not_newer}

module _ {S : Setup} {Lawful : List ℕ → Type 0} {B : TableStart} where
  -- the machine of caller i
  module _ {w : Moment} (g : MeetsCore S Lawful B w) {i : ℕ} (h : i < S.callers) where
    -- a try goes on by its walk
    reads_at : (n : CallState) → IsSoundMeaning S.meaning Lawful (first_operation_cell S) S.cells → IsInTry S B w.words w.batches i n → WasCurrent S B w.words w.batches n.seq n.owner → HasNothingUnderWay S B w.words w.batches i n.seq → KnowsClosedState S B w.words w.batches n.seq n.known
        → HoldsAtPlace S B w.words w.batches i (read_on S n) (read_on S n).place
    reads_at n sound p c o k = go (S.meaning.walk n.known n.op) refl (sound.walks n.known xs n.op size (g.shared.stands.lawful n.seq c.from upto) k.agrees)
      where
        upto : n.seq ≤ B.seq + length w.batches
        upto = omega (arith, c.upto, n_is g h)

        xs : List ℕ
        xs = numbers_after B w.batches n.seq

        size : length (numbers_after B w.batches n.seq) ≡ S.cells
        size = length-map (state_after B w.batches n.seq) payload_of ∙ state_length S B w.batches g.shared.start (logs_of g) n.seq c.from upto

        go : (r : WalkEnd) → S.meaning.walk n.known n.op ≡ r → WalkFits S.meaning (first_operation_cell S) S.cells n.known xs n.op (S.meaning.walk n.known n.op) → HoldsAtPlace S B w.words w.batches i (after_read_run n r) (after_read_run n r).place
        go (Needs a) e f = let f' = rw e at f in record { trying = trying_as p refl refl refl refl refl refl; current_word = c; calm = o; state = k; in_cells = f'.1; unknown = f'.2 }
        go (Gives es r) e f = record {
          caller = p.fresh.caller;
          calm = calm_more c.upto o;
          kept = p.fresh.kept;
          quieted = p.fresh.quieted;
          settled = p.fresh.settled;
          upto = omega (arith, p.fresh.above);
          older = omega (arith, p.fresh.newer);
          told = record { from = c.from; durable = seen_risen g h n.seq n.owner n.known c k; upto = c.upto; reply = (rw e at f).reply; reads = p.reads };
        }

    tried_at : (n : CallState) → IsSoundMeaning S.meaning Lawful (first_operation_cell S) S.cells → IsInTry S B w.words w.batches i n → WasCurrent S B w.words w.batches n.seq n.owner → HasNothingUnderWay S B w.words w.batches i n.seq
        → (n.seq ≡ committed_seq w.words → B.seq < n.seq → pack n.seq 0 < request_of w.words (committed_owner w.words)) → HoldsAtPlace S B w.words w.batches i (begin_reading S n) (begin_reading S n).place
    tried_at n sound p c o quiet = reads_at (record n { known = no_cell_known S; helps = false }) sound (trying_as p refl refl refl refl refl refl) c o
        (record { quiet = quiet; agrees = λ x v q. absurd (known_not S.cells x v q); all = length-replicate S.cells None })

    pub resumed_at : (n : CallState) → IsSoundMeaning S.meaning Lawful (first_operation_cell S) S.cells → MayHelp S B w.words w.batches i n → WasCurrent S B w.words w.batches n.seq n.owner → HasNothingUnderWay S B w.words w.batches i n.seq
        → (n.seq ≡ committed_seq w.words → B.seq < n.seq → pack n.seq 0 < request_of w.words (committed_owner w.words)) → (b : Bool) → (n.rounds == 0) ≡ b → HoldsAtPlace S B w.words w.batches i (resume S n b) (resume S n b).place
    resumed_at n sound (inl p) c o quiet true e = let z : n.rounds ≡ 0 = grind (arith, nat_tests) in absurd (omega (arith, p.begun_one))
    resumed_at n sound (inl p) c o quiet false e = entered_at g h n p o quiet
    resumed_at n sound (inr p) c o quiet true e = tried_at n sound p c o quiet
    resumed_at n sound (inr p) c o quiet false e = absurd (differ n.rounds 0 e p.fresh.rounds)

    pub try_current_kept : (m : CallState) → HoldsAtPlace S B w.words w.batches i m TryCurrent → KeepsGuarantee S Lawful B i w (after_counted_step S i m TryCurrent w)
    try_current_kept m a = assemble_read g h (take_word_at S m (current_word w.words) TryCurrent) (same_words w 0) (same_batches w) (record {
      trying = record { fresh = fresh_as a.fresh refl refl refl refl refl; reads = a.reads; few = omega (arith, a.few) };
      current_word = record {
        from = omega (arith, n_is g h);
        upto = omega arith;
        same = λ e. refl;
        owner_in = g.shared.counted.owner_in;
        committed = λ l. sym (g.shared.counted.owner l);
        first = g.shared.counted.first;
      };
      calm = a.calm;
    })

    pub try_request_kept : (m : CallState) → IsSoundMeaning S.meaning Lawful (first_operation_cell S) S.cells → HoldsAtPlace S B w.words w.batches i m TryRequest → KeepsGuarantee S Lawful B i w (after_counted_step S i m TryRequest w)
    try_request_kept m sound a = assemble_read g h (take_word_at S m (request_of w.words m.owner) TryRequest) (same_words w (m.owner + 1)) (same_batches w) (
        go (is_request_open m.seq (request_of w.words m.owner)) refl)
      where
        go : (b : Bool) → is_request_open m.seq (request_of w.words m.owner) ≡ b → HoldsAtPlace S B w.words w.batches i (after_try_request S m b) (after_try_request S m b).place
        go true eb = record {
          copies = record {
            helping = record { helper = inr (trying_as a.trying refl refl refl refl refl refl); current_word = a.current_word; calm = a.calm };
            helps = refl;
            after = opened_after g h m.seq m.owner a.current_word eb;
            many = refl;
            count = λ l. absurd (omega arith);
            copied = λ q. (omega arith, refl);
          };
          more = λ q. omega arith;
          in_log = omega arith;
        }
        go false eb = tried_at m sound a.trying a.current_word a.calm (quiet_from g h m.seq m.owner a.current_word (λ l. not_open g h m.seq (request_of w.words m.owner) eb (omega (arith, l))))

    pub try_cell_kept : (m : CallState) → IsSoundMeaning S.meaning Lawful (first_operation_cell S) S.cells → (x : ℕ) → HoldsAtPlace S B w.words w.batches i m (TryCell x) → KeepsGuarantee S Lawful B i w (after_counted_step S i m (TryCell x) w)
    try_cell_kept m sound x a = assemble_read g h (take_word_at S m (data_word S w.words x) (TryCell x)) (same_words w (data_at S x)) (same_batches w) (
        go (nat_lt m.seq (seq_of (data_word S w.words x))) refl)
      where
        over : (b : Bool) → nat_lt m.tries MOST_TRIES ≡ b → HoldsAtPlace S B w.words w.batches i (end_try m b) (end_try m b).place
        over true e = record {
          fresh = fresh_as a.trying.fresh refl refl refl refl refl;
          calm = calm_more a.current_word.upto a.calm;
          reads = a.trying.reads;
          few = let z : m.tries < 4 = grind (arith, nat_tests) in omega arith;
        }
        over false e = record {
          fresh = fresh_as a.trying.fresh refl refl refl refl refl;
          calm = calm_more a.current_word.upto a.calm;
          more = omega (arith, a.trying.fresh.some);
          script = refl;
        }

        go : (b : Bool) → nat_lt m.seq (seq_of (data_word S w.words x)) ≡ b → HoldsAtPlace S B w.words w.batches i (after_try_cell S m x (data_word S w.words x) b) (after_try_cell S m x (data_word S w.words x) b).place
        go true e = over (nat_lt m.tries MOST_TRIES) refl
        go false e = reads_at (record m { known = with_cell_known S m x (data_word S w.words x) }) sound (trying_as a.trying refl refl refl refl refl refl) a.current_word a.calm
            (watch_more g h m.seq m.owner m a.current_word a.state x a.in_cells (not_newer m.seq (seq_of (data_word S w.words x)) e))
