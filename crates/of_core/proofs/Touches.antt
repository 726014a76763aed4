-- A step that changes a cell, and neither the current-transaction word nor a durable word: what it guarantees the others, and which facts of words and history stay.
use Rattle.std.proofs.Common.{◌≡◌, ℕ, ◌+◌, ◌*◌, ◌-◌, ◌<◌, ◌≤◌, ◌⊎◌, inl, inr, List, length, get_or, refl, sym, ◌∙◌, ap, subst, arith}
pub use Rattle.std.proofs.lemmas.Bool.{eqb-false as differ, eqb-true as equals}
use Rattle.of_cell.specs.Words.{pack, seq_of, payload_of}
use Rattle.of_mem.specs.declared.work.RawReply.{RawReply}
use Rattle.of_core.specs.Table.{most_entries, Setup, cell_count, request_at, data_at, log_at, announcement_of, script_word, current_word, request_of, data_word, log_word_of, durable_word, durable_request, durable_cell, durable_log, committed_seq, committed_owner, durable_seq}
use Rattle.of_core.specs.Machine.{CallState, Call, log_words}
use Rattle.of_core.specs.TableMoment.{Moment, Batch, TableStart}
use Rattle.of_core.specs.History.{batch_at, data_word_after}
use Rattle.of_core.specs.WordsMatch.{AnnouncementsAreServed, WordsHaveTheirKind, IsRequest, IsLogWord, WordsMatchHistory, IsLastOpen, CountsBatches, DataCellsMatchState, RequestsMatchBatches, DurableWordsMatch, WasHeldByCell}
use Rattle.of_core.specs.Rounds.{IsAnnounced, IsInRound, IsPastOwnTicket, AnnouncesNothingNew}
use Rattle.of_core.specs.Scan.{HasScannedUpTo}
use Rattle.of_core.specs.Invariant.{MeetsCore}
use Rattle.of_core.specs.Guarantees.{Guarantees}
use Rattle.of_core.proofs.Logs.{length-log_words}
use Rattle.of_core.proofs.Stability.{log_in, heard_as, said_as}

-- what is said of a transaction that is still open
module _ {B : TableStart} {ws vs : List ℕ} (stays : IsLastOpen B ws → IsLastOpen B vs) where
  pub step_open : {P Q : Type 0} → P ⊎ (Q × IsLastOpen B ws) → P ⊎ (Q × IsLastOpen B vs)
  step_open (inl p) = inl p
  step_open (inr p) = inr (p.0, stays p.1)

  pub cells_open : {P Q R : Type 0} → P ⊎ (IsLastOpen B ws × Q × R) → P ⊎ (IsLastOpen B vs × Q × R)
  cells_open (inl p) = inl p
  cells_open (inr p) = inr (stays p.0, p.1, p.2)

module _ (S : Setup) (B : TableStart) where
  -- the last commit stays, cells rise, and no durable word changes
  pub record Touches (i : ℕ) (ws vs : List ℕ) (bs : List Batch) : Type 0 where
    pub room : length vs ≡ length ws
    pub current_word : current_word vs ≡ current_word ws
    pub requests : (j : ℕ) → j < S.callers → (j ≡ i → ⊥) → (request_of vs j ≡ request_of ws j) ⊎ ((B.seq < committed_seq ws) × ((batch_at B bs (committed_seq ws)).owner ≡ j) × (request_of ws j ≡ pack (committed_seq ws) 0) × (request_of vs j ≡ pack (committed_seq ws) 1))
    pub logs : (j : ℕ) → j < S.callers → (j ≡ i → ⊥) → (x : ℕ) → x < 2 * most_entries S + 1 → log_word_of S vs j x ≡ log_word_of S ws j x
    pub changes : (a : ℕ) → a < S.cells → (data_word S vs a ≡ data_word S ws a) ⊎ (committed_seq ws ≤ seq_of (data_word S vs a))
    pub rise : (c : ℕ) → c < cell_count S → get_or ws c 0 ≤ get_or vs c 0
    pub durs : (c : ℕ) → c < cell_count S → durable_word S vs c ≡ durable_word S ws c
    pub log_how : (j x : ℕ) → j < S.callers → x < 2 * most_entries S + 1 → (log_word_of S vs j x ≡ log_word_of S ws j x) ⊎ (seq_of (log_word_of S ws j x) < seq_of (log_word_of S vs j x))
    pub script_of : (j x : ℕ) → j < S.callers → x < S.instrs + 1 → (script_word S vs j x ≡ script_word S ws j x) ⊎ ((j ≡ i) × AnnouncesNothingNew S B ws bs j)
    pub announcements : (j : ℕ) → j < S.callers → (announcement_of S vs j ≡ announcement_of S ws j) ⊎ ((j ≡ i) × ((k : ℕ) → B.seq < k → k ≤ committed_seq ws → (batch_at B bs k).announcements j ≡ announcement_of S vs j → ⊥))

module _ {S : Setup} {Lawful : List ℕ → Type 0} {B : TableStart} where
  module _ {i : ℕ} {ws vs : List ℕ} {bs : List Batch} (t : Touches S B i ws vs bs) (s : WordsMatchHistory S Lawful B ws bs) where
    pub last_same : committed_seq vs ≡ committed_seq ws
    last_same = ap seq_of t.current_word

    pub low_of : (c : ℕ) → c < cell_count S → durable_word S vs c ≤ get_or vs c 0
    low_of c l = omega (arith, t.durs c l, t.rise c l, s.durable.low c l)

    pub dur_cur : durable_word S vs 0 ≡ durable_word S ws 0
    dur_cur = t.durs 0 (omega arith)

    pub moves_of : Guarantees S B i ws bs vs bs
    moves_of = let e = last_same in record {
      same = λ q. ap payload_of t.current_word;
      states = λ k l m. refl;
      batches = λ k l m. refl;
      limit = rw t.current_word s.counted.limit;
      newer = λ k l m. absurd (omega arith);
      tickets = λ k j l m. absurd (omega arith);
      snapshot = λ k j l m. absurd (omega arith);
      log_how = t.log_how;
      newer_logs = λ k x l m. absurd (omega arith);
      script_of = t.script_of;
      announcements = t.announcements;
      newer_owner = λ k l m. absurd (omega arith);
      requests = t.requests;
      logs = t.logs;
      changes = t.changes;
      rise = t.rise;
      durs = λ c l. omega (arith, t.durs c l);
      low = low_of;
    }

    pub counted_of : CountsBatches S B vs bs
    counted_of = let h = s.counted in record {
      count = rw t.current_word h.count;
      limit = rw t.current_word h.limit;
      owner = rw t.current_word h.owner;
      first = rw t.current_word h.first;
      owner_in = rw t.current_word h.owner_in;
      owners = rw t.current_word h.owners;
      logs = rw t.current_word h.logs;
    }

    pub requests_of : RequestsMatchBatches S B vs bs
    requests_of = let h = s.requests in record {
      floor = λ l. omega (arith, h.floor l, t.rise (B.owner + 1) (omega (arith, s.start.owner_in)));
      closed = λ k l m. omega (arith, h.closed k l (rw last_same at m), t.rise ((batch_at B bs k).owner + 1) (omega (arith, s.counted.owners k l (omega (arith, last_same)))));
      latest = λ l. let x : pack (committed_seq ws) 0 ≤ request_of ws (committed_owner ws) = h.latest (rw last_same at l) in rw t.current_word (omega (arith, t.rise (committed_owner ws + 1) (omega (arith, s.counted.owner_in))));
    }

    -- the durable facts, where the open transaction stays open, or where all is in the cells
    pub durable_of : ((a : ℕ) → a < S.cells → seq_of (data_word S vs a) ≤ durable_seq S ws)
        → (((committed_seq ws ≡ durable_seq S ws) ⊎ ((committed_seq ws ≡ durable_seq S ws + 1) × IsLastOpen B ws)) → (committed_seq ws ≡ durable_seq S ws) ⊎ ((committed_seq ws ≡ durable_seq S ws + 1) × IsLastOpen B vs))
        → ((a : ℕ) → a < S.cells → (durable_cell S ws a ≡ data_word_after B bs (durable_seq S ws) a) ⊎ (IsLastOpen B vs × (committed_seq ws ≡ durable_seq S ws) × (durable_cell S ws a ≡ data_word_after B bs (durable_seq S ws - 1) a)))
        → ((k : ℕ) → B.seq < k → k ≤ committed_seq ws → (j : ℕ) → (batch_at B bs k).owner ≡ j → durable_request S ws j ≡ pack k 0 → (x : ℕ) → x < 2 * most_entries S + 1 → log_word_of S vs j x ≡ log_word_of S ws j x)
        → DurableWordsMatch S B vs bs
    durable_of fresh step cells logs = let h = s.durable in record {
      low = low_of;
      from = rw dur_cur h.from;
      owner = rw dur_cur h.owner;
      first = rw dur_cur h.first;
      step = rw (t.current_word, dur_cur) (step h.step);
      fresh = λ a l. rw dur_cur (fresh a l);
      cells = λ a l. rw (t.durs (data_at S a) (omega arith), dur_cur, t.current_word) (cells a l);
      begun = λ l. rw (t.durs (request_at B.owner) (omega (arith, s.start.owner_in))) (h.begun l);
      floor = λ k l u. rw (t.durs (request_at (batch_at B bs k).owner) (omega (arith, s.counted.owners k l (rw last_same at u)))) (h.floor k l (rw last_same at u));
      logs = λ k l u j o q x v m z. logs_at k l (rw last_same at u) j o q x v m z;
    }
      where
        logs_at : (k : ℕ) → B.seq < k → k ≤ committed_seq ws → (j : ℕ) → (batch_at B bs k).owner ≡ j → durable_request S vs j ≡ pack k 0 → (x v : ℕ) → x < length (log_words (batch_at B bs k).log) → get_or (log_words (batch_at B bs k).log) x 0 ≡ v → (log_word_of S vs j x ≡ pack k v) × (durable_log S vs j x ≡ pack k v)
        logs_at k l u j o q x v m z =
            let j_in : j < S.callers = rw (← o) (s.counted.owners k l u) in
            let x_in : x < 2 * most_entries S + 1 = omega (arith, length-log_words (batch_at B bs k).log, (s.counted.logs k l u).few) in
            let q' : durable_request S ws j ≡ pack k 0 = sym (t.durs (request_at j) (omega arith)) ∙ q in
            let p = s.durable.logs k l u j o q' x v m z in
            (logs k l u j o q' x x_in ∙ p.0, t.durs (log_at S j x) (log_in S j x j_in x_in) ∙ p.1)

    -- where no request changes, the last transaction is open as before
    pub open_of : ((j : ℕ) → j < S.callers → request_of vs j ≡ request_of ws j) → IsLastOpen B ws → IsLastOpen B vs
    open_of same o = record { any = rw t.current_word o.any; asks = rw t.current_word (same (committed_owner ws) s.counted.owner_in ∙ o.asks) }

    -- where no data cell changes, nor whether the last transaction is open
    module _ (same : (a : ℕ) → a < S.cells → data_word S vs a ≡ data_word S ws a) (stays : IsLastOpen B ws → IsLastOpen B vs) where
      pub data_same : DataCellsMatchState S B vs bs
      data_same = record { each = λ a l. each a l (s.data_cells.each a l) }
        where
          each : (a : ℕ) → a < S.cells → (data_word S ws a ≡ data_word_after B bs (committed_seq ws) a) ⊎ (IsLastOpen B ws × (data_word S ws a ≡ data_word_after B bs (committed_seq ws - 1) a))
              → (data_word S vs a ≡ data_word_after B bs (committed_seq vs) a) ⊎ (IsLastOpen B vs × (data_word S vs a ≡ data_word_after B bs (committed_seq vs - 1) a))
          each a l (inl q) = inl (rw t.current_word (same a l ∙ q))
          each a l (inr (o, q)) = inr (stays o, rw t.current_word (same a l ∙ q))

      pub durable_same : ((k : ℕ) → B.seq < k → k ≤ committed_seq ws → (j : ℕ) → (batch_at B bs k).owner ≡ j → durable_request S ws j ≡ pack k 0 → (x : ℕ) → x < 2 * most_entries S + 1 → log_word_of S vs j x ≡ log_word_of S ws j x) → DurableWordsMatch S B vs bs
      durable_same logs = durable_of (λ a l. rw (same a l) (s.durable.fresh a l)) (step_open stays) (λ a l. cells_open stays (s.durable.cells a l)) logs

    pub request_as : (j v : ℕ) → IsRequest B ws bs j v → IsRequest B vs bs j v
    request_as j v h l = rw t.current_word (h l)

    pub log_as : (j x v : ℕ) → IsLogWord B ws bs j x v → IsLogWord B vs bs j x v
    log_as j x v h a u o = h a (rw t.current_word at u) o

    -- what requests and log words are, where this is so of the table's
    pub kinds_of : ((j : ℕ) → j < S.callers → IsRequest B ws bs j (request_of vs j)) → ((j x : ℕ) → j < S.callers → x < 2 * most_entries S + 1 → IsLogWord B ws bs j x (log_word_of S vs j x))
        → ((j y : ℕ) → j < S.callers → y < most_entries S → payload_of (log_word_of S vs j (2 * y + 1)) < S.cells) → WordsHaveTheirKind S B vs bs
    kinds_of r l z = record {
      requests = λ j u. request_as j (request_of vs j) (r j u);
      dur_requests = λ j u. request_as j (durable_request S vs j) (subst (λ (y : ℕ). IsRequest B ws bs j y) (sym (t.durs (request_at j) (omega arith))) (s.kinds.dur_requests j u));
      logs = λ j x u v. log_as j x (log_word_of S vs j x) (l j x u v);
      dur_logs = λ j x u v. log_as j x (durable_log S vs j x) (subst (λ (y : ℕ). IsLogWord B ws bs j x y) (sym (t.durs (log_at S j x) (log_in S j x u v))) (s.kinds.dur_logs j x u v));
      sized = z;
    }

    -- where the log words stay
    pub kinds_same : ((j : ℕ) → j < S.callers → IsRequest B ws bs j (request_of vs j)) → ((j x : ℕ) → j < S.callers → x < 2 * most_entries S + 1 → log_word_of S vs j x ≡ log_word_of S ws j x) → WordsHaveTheirKind S B vs bs
    kinds_same r e = kinds_of r (λ j x u v. subst (λ (y : ℕ). IsLogWord B ws bs j x y) (sym (e j x u v)) (s.kinds.logs j x u v)) (λ j y u v. rw (e j (2 * y + 1) u (omega arith)) (s.kinds.sized j y u v))

    pub request_same : (j : ℕ) → j < S.callers → request_of vs j ≡ request_of ws j → IsRequest B ws bs j (request_of vs j)
    request_same j l e = subst (λ (y : ℕ). IsRequest B ws bs j y) (sym e) (s.kinds.requests j l)

    pub shared_of : DataCellsMatchState S B vs bs → DurableWordsMatch S B vs bs → AnnouncementsAreServed S B vs bs → WordsHaveTheirKind S B vs bs → WordsMatchHistory S Lawful B vs bs
    shared_of d l hd kd = record { kinds = kd; start = s.start; few = s.few; narrow = s.narrow; little = s.little; own_in = s.own_in; room = rw t.room s.room; counted = counted_of; data_cells = d; requests = requests_of; durable = l; stands = s.stands; heard = hd }

    -- where no script word and no announcement changed
    module _ (behind : (j x : ℕ) → script_word S vs j x ≡ script_word S ws j x) where
      pub heard_of : ((j : ℕ) → j < S.callers → payload_of (log_word_of S vs j 0) ≤ most_entries S) → AnnouncementsAreServed S B vs bs
      heard_of counts = heard_as S B ws vs bs (λ j l. behind j S.instrs) last_same counts s.heard

      pub begun_of : (m : CallState) → i < S.callers → IsAnnounced S B ws bs i m → (n : CallState) → n.caller ≡ m.caller → n.made ≡ m.made → n.op ≡ m.op → n.kept ≡ m.kept → n.rounds ≡ m.rounds → n.first ≡ m.first → IsAnnounced S B vs bs i n
      begun_of m h p n a b o x r f = record {
        caller = a ∙ p.caller;
        ticket = rw b p.ticket;
        words = rw o p.words;
        some = rw o p.some;
        kept = rw x (record { low = omega (arith, p.kept.low, t.rise (i + 1) (omega arith)); held = request_as i m.kept p.kept.held });
        says = rw (b, o) (behind i S.instrs ∙ p.says);
        script = rw o (said_as S ws vs i (length m.op) (behind i) ∙ p.script);
        upto = rw (b, t.current_word) p.upto;
        beyond = rw b p.beyond;
        mine = rw (b, o, t.current_word) p.mine;
        known = rw (r, f) (λ l. ((p.known l).0, λ k u v. (p.known l).1 k u (rw last_same at v) ∙ sym (behind i S.instrs)));
      }

      pub round_of : (m : CallState) → i < S.callers → IsInRound S B ws bs i m → (n : CallState) → n.caller ≡ m.caller → n.made ≡ m.made → n.op ≡ m.op → n.seq ≡ m.seq → n.owner ≡ m.owner → n.kept ≡ m.kept → n.rounds ≡ m.rounds → n.first ≡ m.first → IsInRound S B vs bs i n
      round_of m h p n a b o c d x r f = record {
        begun = begun_of m h p.begun n a b o x r f;
        current_word = record {
          from = rw c p.current_word.from;
          upto = rw (c, t.current_word) p.current_word.upto;
          same = rw (c, d, t.current_word) p.current_word.same;
          owner_in = rw d p.current_word.owner_in;
          committed = rw (c, d) p.current_word.committed;
          first = rw (c, d) p.current_word.first;
        };
        unowned = rw (c, t.current_word) p.unowned;
        later = rw (c, r, f) p.later;
        begun_one = rw r p.begun_one;
        few = rw r p.few;
      }

      pub past_of : (m : CallState) → i < S.callers → IsPastOwnTicket S B ws bs i m → (n : CallState) → n.caller ≡ m.caller → n.made ≡ m.made → n.op ≡ m.op → n.seq ≡ m.seq → n.owner ≡ m.owner → n.kept ≡ m.kept → n.rounds ≡ m.rounds → n.first ≡ m.first → n.known ≡ m.known → IsPastOwnTicket S B vs bs i n
      past_of m h p n a b o c d x r f e = record {
        looks = record {
          round = round_of m h p.looks.round n a b o c d x r f;
          state = record {
            quiet = λ q l. let y : pack m.seq 0 < request_of ws (committed_owner ws) = p.looks.state.quiet (sym c ∙ q ∙ last_same) (rw c at l) in rw (c, t.current_word) (omega (arith, t.rise (committed_owner ws + 1) (omega (arith, s.counted.owner_in))));
            agrees = rw (c, e) p.looks.state.agrees;
            all = rw e p.looks.state.all;
          };
        };
        under = rw c p.under;
        left = rw (b, c) p.left;
      }

      pub over_of : (q made : ℕ) (op : List ℕ) (raw : RawReply) (calls : List Call) (es : List (ℕ × ℕ)) (n : ℕ) → HasScannedUpTo S B ws bs i q made op raw calls es n → HasScannedUpTo S B vs bs i q made op raw calls es n
      over_of q made op raw calls es n o = record {
        over = o.over;
        taken = o.taken;
        below = o.below;
        short = o.short;
        ordered = o.ordered;
        announced = λ e k d l. let a = o.announced (e ∙ last_same) k d l in record {
          says = behind (get_or calls k d).caller S.instrs ∙ a.says;
          script = said_as S ws vs (get_or calls k d).caller (length (get_or calls k d).op) (behind (get_or calls k d).caller) ∙ a.script;
        };
        own = λ e l. o.own (e ∙ last_same) l;
        met = λ after c l u z. rw (behind c S.instrs) (o.met after c l u (z ∙ behind c S.instrs));
      }

  module _ {w : Moment} (g : MeetsCore S Lawful B w) where
    -- what a data cell holds it has held
    pub held_now : (a : ℕ) → a < S.cells → WasHeldByCell B w.words w.batches a (data_word S w.words a)
    held_now a l = go (g.shared.data_cells.each a l)
      where
        n_is : committed_seq w.words ≡ B.seq + length w.batches
        n_is = g.shared.counted.count

        go : (data_word S w.words a ≡ data_word_after B w.batches (committed_seq w.words) a) ⊎ (IsLastOpen B w.words × (data_word S w.words a ≡ data_word_after B w.batches (committed_seq w.words - 1) a)) → WasHeldByCell B w.words w.batches a (data_word S w.words a)
        go (inl q) = (committed_seq w.words, omega (arith, n_is), omega arith, q)
        go (inr q) = (committed_seq w.words - 1, omega (arith, q.0.any), omega arith, q.1)
