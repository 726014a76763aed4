-- A caller stores its script words and its announcement.
use Rattle.std.proofs.Common.{◌≡◌, ℕ, zero, suc, ◌+◌, ◌*◌, ◌<◌, ◌≤◌, ◌⊎◌, inl, inr, List, [], ◌∷◌, ◌++◌, length, get_or, set, take, refl, sym, ◌∙◌, ap, subst, arith, length-set, Bool, true, false, nat_lt, max}
use Rattle.std.proofs.lemmas.Bool.{cases_eq}
use Rattle.std.proofs.lemmas.Bool.Decides.{nat_tests}
use Rattle.std.proofs.lemmas.List.{append-nil, take_more, take_all, get_or-set_same, get_or-set_other}
use Rattle.of_cell.specs.declared.word.TheConstants.{PAYLOADS}
use Rattle.of_cell.specs.Words.{pack, seq_of, payload_of}
use Rattle.of_cell.proofs.Order.{seq_word, pay_word}
use Rattle.of_cell.proofs.Places.{row_within}
use Rattle.of_core.specs.declared.place.Place.TheVariants.{StoreScript, StoreAnnouncement}
use Rattle.of_core.specs.Table.{most_entries, Setup, ticket_cell, cell_count, durable_at, request_at, log_at, script_word_at, script_words_of, script_word, announcement_of, current_word, request_of, data_word, log_word_of, durable_word, committed_seq, committed_owner}
use Rattle.of_core.specs.Machine.{CallState, Call}
use Rattle.of_core.specs.Steps.{after_store_script, take_word_at}
use Rattle.of_core.specs.TableMoment.{Read, Moment, TableStart, after_counted_step}
use Rattle.of_core.specs.History.{batch_at, last_ticket_by}
use Rattle.of_core.specs.WordsMatch.{IsRequest, AnnouncementsAreServed, IsLastOpen, DataCellsMatchState, DurableWordsMatch}
use Rattle.of_core.specs.Rounds.{KnowsOwnRequest, IsUnannounced, HasNothingUnderWay, AnnouncesNothingNew}
use Rattle.of_core.specs.Invariant.{HoldsAtPlace, MeetsCore}
use Rattle.of_core.specs.Guarantees.{KeepsGuarantee}
use Rattle.of_core.proofs.Stability.{log_in, heard_as, same_row}
use Rattle.of_core.proofs.Assembling.{assemble}
use Rattle.of_core.proofs.Tests.{not_newer}
use Rattle.of_core.proofs.Tickets.{ticket_upto, tickets_grow}
use Rattle.of_core.proofs.Touches.{Touches, moves_of, shared_of, open_of, data_same, durable_same, kinds_same}

said_below : (S : Setup) (ws vs : List ℕ) (c n : ℕ) → ((x : ℕ) → x < n → script_word S vs c x ≡ script_word S ws c x) → script_words_of S vs c n ≡ script_words_of S ws c n
said_below S ws vs c zero f = refl
said_below S ws vs c (suc n) f = rw (said_below S ws vs c n (λ x l. f x (omega arith)), f n (omega arith)) refl

module _ {S : Setup} {Lawful : List ℕ → Type 0} {B : TableStart} {w : Moment} (g : MeetsCore S Lawful B w) {i : ℕ} (h : i < S.callers) (m : CallState) where
  -- word x of the machine's script row becomes v
  module _ (ci : m.caller ≡ i) (x v : ℕ) (x_in : x < S.instrs + 1) (quieted : AnnouncesNothingNew S B w.words w.batches i) where
    abbrev vs : List ℕ
    vs = set w.words (script_word_at S m.caller x) v

    here : script_word S vs i x ≡ v
    here = let r : i * (S.instrs + 1) + (S.instrs + 1) ≤ S.callers * (S.instrs + 1) = row_within i S.callers (S.instrs + 1) h in
        rw ci (get_or-set_same w.words (script_word_at S i x) v 0 (omega (arith, g.shared.room, r)))

    elsewhere : (c : ℕ) → (c ≡ script_word_at S i x → ⊥) → get_or vs c 0 ≡ get_or w.words c 0
    elsewhere c q = rw ci (get_or-set_other w.words (script_word_at S i x) c v 0 q)

    below : (c : ℕ) → c < cell_count S + cell_count S → get_or vs c 0 ≡ get_or w.words c 0
    below c l = elsewhere c (omega arith)

    others : (j y : ℕ) → y < S.instrs + 1 → (j ≡ i → y ≡ x → ⊥) → script_word S vs j y ≡ script_word S w.words j y
    others j y l q = elsewhere (script_word_at S j y) (λ e. let r : j ≡ i = same_row j i (S.instrs + 1) y x l x_in (omega arith) in q r (omega (arith, ap (λ (k : ℕ). k * (S.instrs + 1)) r)))

    current_same : current_word vs ≡ current_word w.words
    current_same = below 0 (omega arith)

    cell_same : (a : ℕ) → a < S.cells → data_word S vs a ≡ data_word S w.words a
    cell_same a l = below (S.callers + 1 + a) (omega arith)

    req_same : (j : ℕ) → j < S.callers → request_of vs j ≡ request_of w.words j
    req_same j l = below (j + 1) (omega arith)

    dur_same : (c : ℕ) → c < cell_count S → durable_word S vs c ≡ durable_word S w.words c
    dur_same c l = below (durable_at S c) (omega arith)

    log_same : (j y : ℕ) → j < S.callers → y < 2 * most_entries S + 1 → log_word_of S vs j y ≡ log_word_of S w.words j y
    log_same j y l u = below (log_at S j y) (omega (arith, log_in S j y l u))

    touches : ((j : ℕ) → j < S.callers → (announcement_of S vs j ≡ announcement_of S w.words j) ⊎ ((j ≡ i) × ((k : ℕ) → B.seq < k → k ≤ committed_seq w.words → (batch_at B w.batches k).announcements j ≡ announcement_of S vs j → ⊥))) → Touches S B i w.words vs w.batches
    touches announcements = record {
      room = length-set w.words (script_word_at S m.caller x) v;
      current_word = current_same;
      requests = λ j l q. inl (req_same j l);
      logs = λ j l q y u. log_same j y l u;
      changes = λ a l. inl (cell_same a l);
      rise = λ c l. omega (arith, below c (omega arith));
      durs = dur_same;
      log_how = λ j y l u. inl (log_same j y l u);
      script_of = λ j y l u. says j y u (cases_eq j i) (cases_eq y x);
      announcements = announcements;
    }
      where
        says : (j y : ℕ) → y < S.instrs + 1 → (j ≡ i) ⊎ (j ≡ i → ⊥) → (y ≡ x) ⊎ (y ≡ x → ⊥) → (script_word S vs j y ≡ script_word S w.words j y) ⊎ ((j ≡ i) × AnnouncesNothingNew S B w.words w.batches j)
        says j y u (inl q) (inl r) = inr (q, rw q quieted)
        says j y u (inr q) r = inl (others j y u (λ a b. q a))
        says j y u q (inr r) = inl (others j y u (λ a b. r b))

    module _ (t : Touches S B i w.words vs w.batches) where
      open_same : IsLastOpen B w.words → IsLastOpen B vs
      open_same = open_of t g.shared req_same

      data_cells : DataCellsMatchState S B vs w.batches
      data_cells = data_same t g.shared cell_same open_same

      durable : DurableWordsMatch S B vs w.batches
      durable = durable_same t g.shared cell_same open_same (λ k l u j o q y v. log_same j y (rw (← o) (g.shared.counted.owners k l u)) v)

    calm : HasNothingUnderWay S B w.words w.batches i (committed_seq w.words) → HasNothingUnderWay S B vs w.batches i (committed_seq vs)
    calm c = record {
      own = rw (req_same i h, current_same) c.own;
      level = dur_same (request_at i) (omega arith) ∙ c.level ∙ sym (req_same i h);
      shut = λ k l u o. rw (req_same i h) (c.shut k l (rw current_same at u) o);
      logs = λ y u. rw (log_same i y h u, current_same) (c.logs y u);
    }

    keeps : (u : ℕ) → KnowsOwnRequest B w.words w.batches i u → KnowsOwnRequest B vs w.batches i u
    keeps u k = record { low = rw (req_same i h) k.low; held = λ l. rw current_same (k.held l) }

    -- the rest of what has to be shown
    stored : {rs : List Read} → (t : Touches S B i w.words vs w.batches) → AnnouncementsAreServed S B vs w.batches → (n : CallState) → HoldsAtPlace S B vs w.batches i n n.place
        → KeepsGuarantee S Lawful B i w (record { words = vs; machines = set w.machines i n; batches = w.batches ++ []; reads = rs; loaded = w.loaded })
    stored t hd n a =
        rw (append-nil w.batches)
        (assemble g h vs w.batches n (moves_of t g.shared) (shared_of t g.shared (data_cells t) (durable t) hd (kinds_same t g.shared (λ j l. subst (λ (y : ℕ). IsRequest B w.words w.batches j y) (sym (req_same j l)) (g.shared.kinds.requests j l)) log_same)) a)

  pub store_script_kept : (j : ℕ) → HoldsAtPlace S B w.words w.batches i m (StoreScript j) → KeepsGuarantee S Lawful B i w (after_counted_step S i m (StoreScript j) w)
  store_script_kept j a = stored ci j v j_in f.quieted t heard (after_store_script m j (nat_lt (j + 1) (length m.op))) (go (nat_lt (j + 1) (length m.op)) refl)
    where
      f : IsUnannounced S B w.words w.batches i m
      f = a.fresh

      ci : m.caller ≡ i
      ci = a.fresh.caller

      v : ℕ
      v = get_or m.op j 0

      j_in : j < S.instrs + 1
      j_in = omega (arith, a.more, f.words)

      us : List ℕ
      us = set w.words (script_word_at S m.caller j) v

      ann_same : (c : ℕ) → announcement_of S us c ≡ announcement_of S w.words c
      ann_same c = others ci j v j_in f.quieted c S.instrs (omega arith) (λ q r. omega (arith, a.more, f.words))

      t : Touches S B i w.words us w.batches
      t = touches ci j v j_in f.quieted (λ c l. inl (ann_same c))

      last_same : committed_seq us ≡ committed_seq w.words
      last_same = ap seq_of (current_same ci j v j_in f.quieted)

      heard : AnnouncementsAreServed S B us w.batches
      heard = heard_as S B w.words us w.batches (λ c l. ann_same c) last_same (λ c l. rw (log_same ci j v j_in f.quieted c 0 l (omega arith)) (g.shared.heard.counts c l)) g.shared.heard

      fresh : (n : CallState) → n.caller ≡ m.caller → n.made ≡ m.made → n.op ≡ m.op → n.kept ≡ m.kept → n.rounds ≡ m.rounds → IsUnannounced S B us w.batches i n
      fresh n a1 b1 o1 k1 r1 = record {
        caller = a1 ∙ ci;
        ticket = rw b1 f.ticket;
        words = rw o1 f.words;
        some = rw o1 f.some;
        kept = rw k1 (keeps ci j v j_in f.quieted m.kept f.kept);
        above = rw (b1, last_same) f.above;
        quieted = quiet f.quieted;
        settled = λ o. rw (last_same, cell_same ci j v j_in f.quieted (ticket_cell S i) (omega (arith, row_within i S.callers (S.instrs + 2) h, g.shared.own_in))) (f.settled (open_before o));
        newer = rw (b1, ann_same i) f.newer;
        rounds = r1 ∙ f.rounds;
      }
        where
          quiet : AnnouncesNothingNew S B w.words w.batches i → AnnouncesNothingNew S B us w.batches i
          quiet (inl q) = inl (rw (ann_same i, last_same) q)
          quiet (inr q) = inr (last_same ∙ q)

          open_before : IsLastOpen B us → IsLastOpen B w.words
          open_before o = record {
            any = rw (← last_same) o.any;
            asks = sym (req_same ci j v j_in f.quieted (committed_owner w.words) g.shared.counted.owner_in) ∙ ap (λ (k : ℕ). request_of us (payload_of k)) (sym (current_same ci j v j_in f.quieted)) ∙ o.asks ∙ ap (λ (s : ℕ). pack s 0) last_same;
          }

      said_now : script_words_of S us i (j + 1) ≡ take (j + 1) m.op
      said_now =
          ap (script_words_of S us i) (suc_is j)
          ∙ ap (λ (xs : List ℕ). xs ++ script_word S us i j ∷ []) (said_below S w.words us i j (λ y l. others ci j v j_in f.quieted i y (omega (arith, j_in)) (λ q r. omega arith)) ∙ a.script)
          ∙ ap (λ (k : ℕ). take j m.op ++ k ∷ []) (here ci j v j_in f.quieted)
          ∙ sym (take_more m.op j 0 a.more)
        where
          suc_is : (n : ℕ) → n + 1 ≡ suc n
          suc_is n = omega arith

      go : (b : Bool) → nat_lt (j + 1) (length m.op) ≡ b → HoldsAtPlace S B us w.batches i (after_store_script m j b) (after_store_script m j b).place
      go true e = record { fresh = fresh _ refl refl refl refl refl; calm = calm ci j v j_in f.quieted a.calm; more = (let z : j + 1 < length m.op = grind (arith, nat_tests) in z); script = said_now }
      go false e =
          let z : length m.op ≤ j + 1 = not_newer (j + 1) (length m.op) e in
          let q : length m.op ≡ j + 1 = omega (arith, a.more) in
          record { fresh = fresh _ refl refl refl refl refl; calm = calm ci j v j_in f.quieted a.calm; script = ap (script_words_of S us i) q ∙ said_now ∙ take_all (j + 1) m.op (omega (arith, q)) }

  pub store_announcement_kept : HoldsAtPlace S B w.words w.batches i m StoreAnnouncement → KeepsGuarantee S Lawful B i w (after_counted_step S i m StoreAnnouncement w)
  store_announcement_kept a = stored ci S.instrs v x_in f.quieted t heard (take_word_at S m (announcement_of S w.words m.caller) StoreAnnouncement) (record {
    begun = record {
      caller = ci;
      ticket = f.ticket;
      words = f.words;
      some = f.some;
      kept = keeps ci S.instrs v x_in f.quieted m.kept f.kept;
      says = now;
      script = said_below S w.words us i (length m.op) (λ y l. others ci S.instrs v x_in f.quieted i y (omega (arith, f.words)) (λ q r. omega (arith, f.words))) ∙ a.script;
      upto = rw last_same (omega (arith, f.above));
      beyond = omega (arith, f.above, tickets_grow S Lawful B w.batches g.shared.stands B.seq (committed_seq w.words) i (omega arith) (omega (arith, n_is)) (omega (arith, n_is)) h);
      mine = λ k l u y d z q r. absurd (none k l (rw last_same at u) y d z q r);
      known = λ l. absurd (omega (arith, f.rounds));
    };
    calm = calm ci S.instrs v x_in f.quieted a.calm;
    between = record { few = omega (arith, f.rounds); later = λ l. absurd (omega (arith, f.rounds)) };
  })
    where
      f : IsUnannounced S B w.words w.batches i m
      f = a.fresh

      ci : m.caller ≡ i
      ci = a.fresh.caller

      v : ℕ
      v = pack m.made (length m.op)

      x_in : S.instrs < S.instrs + 1
      x_in = omega arith

      us : List ℕ
      us = set w.words (script_word_at S m.caller S.instrs) v

      n_is : committed_seq w.words ≡ B.seq + length w.batches
      n_is = g.shared.counted.count

      small : length m.op < PAYLOADS
      small = omega (arith, f.words, g.shared.narrow)

      now : announcement_of S us i ≡ pack m.made (length m.op)
      now = here ci S.instrs v x_in f.quieted

      now_seq : seq_of (announcement_of S us i) ≡ m.made
      now_seq = ap seq_of now ∙ seq_word m.made (length m.op) small

      now_pay : payload_of (announcement_of S us i) ≡ length m.op
      now_pay = ap payload_of now ∙ pay_word m.made (length m.op) small

      ann_other : (c : ℕ) → (c ≡ i → ⊥) → announcement_of S us c ≡ announcement_of S w.words c
      ann_other c q = others ci S.instrs v x_in f.quieted c S.instrs x_in (λ r z. q r)

      last_same : committed_seq us ≡ committed_seq w.words
      last_same = ap seq_of (current_same ci S.instrs v x_in f.quieted)

      -- it stood before no batch
      new : (c k : ℕ) → c ≡ i → B.seq < k → k ≤ committed_seq w.words → (batch_at B w.batches k).announcements c ≡ announcement_of S us c → ⊥
      new c k q l u e =
          let z : seq_of ((batch_at B w.batches k).announcements i) ≤ seq_of (announcement_of S w.words i) = g.shared.heard.before k i l u h in
          let y : (batch_at B w.batches k).announcements i ≡ announcement_of S us i = rw q at e in
          omega (arith, f.newer, now_seq, ap seq_of y)

      t : Touches S B i w.words us w.batches
      t = touches ci S.instrs v x_in f.quieted (λ c l. go c (cases_eq c i))
        where
          go : (c : ℕ) → (c ≡ i) ⊎ (c ≡ i → ⊥) → (announcement_of S us c ≡ announcement_of S w.words c) ⊎ ((c ≡ i) × ((k : ℕ) → B.seq < k → k ≤ committed_seq w.words → (batch_at B w.batches k).announcements c ≡ announcement_of S us c → ⊥))
          go c (inr q) = inl (ann_other c q)
          go c (inl q) = inr (q, λ k l u e. new c k q l u e)

      heard : AnnouncementsAreServed S B us w.batches
      heard = record {
        small = λ c l. small_at c l (cases_eq c i);
        tickets = λ c l. ticket_at c l (cases_eq c i);
        some = λ c l. some_at c l (cases_eq c i);
        before = λ k c l u n. before_at k c l (rw last_same at u) n (cases_eq c i);
        met = λ k c l u n e. met_at k c l (rw last_same at u) n (cases_eq c i) e;
        reached = λ c l. rw last_same (reached_at c l (cases_eq c i));
        counts = λ c l. rw (log_same ci S.instrs v x_in f.quieted c 0 l (omega arith)) (g.shared.heard.counts c l);
      }
        where
          reached_at : (c : ℕ) → c < S.callers → (c ≡ i) ⊎ (c ≡ i → ⊥) → last_ticket_by S B w.batches (committed_seq w.words) c ≤ max (last_ticket_by S B w.batches B.seq c) (seq_of (announcement_of S us c))
          reached_at c l (inl q) = rw q (omega (arith, now_seq, f.above))
          reached_at c l (inr q) = rw (ann_other c q) (g.shared.heard.reached c l)

          small_at : (c : ℕ) → c < S.callers → (c ≡ i) ⊎ (c ≡ i → ⊥) → payload_of (announcement_of S us c) ≤ S.instrs
          small_at c l (inl q) = rw q (omega (arith, now_pay, f.words))
          small_at c l (inr q) = rw (ann_other c q) (g.shared.heard.small c l)

          ticket_at : (c : ℕ) → c < S.callers → (c ≡ i) ⊎ (c ≡ i → ⊥) → seq_of (announcement_of S us c) < PAYLOADS
          ticket_at c l (inl q) = rw q (omega (arith, now_seq, f.ticket))
          ticket_at c l (inr q) = rw (ann_other c q) (g.shared.heard.tickets c l)

          some_at : (c : ℕ) → c < S.callers → (c ≡ i) ⊎ (c ≡ i → ⊥) → 0 < seq_of (announcement_of S us c) → 1 ≤ payload_of (announcement_of S us c)
          some_at c l (inl q) z = rw q (omega (arith, now_pay, f.some))
          some_at c l (inr q) z = rw (ann_other c q) (g.shared.heard.some c l (rw (ann_other c q) at z))

          before_at : (k c : ℕ) → B.seq < k → k ≤ committed_seq w.words → c < S.callers → (c ≡ i) ⊎ (c ≡ i → ⊥) → seq_of ((batch_at B w.batches k).announcements c) ≤ seq_of (announcement_of S us c)
          before_at k c l u n (inl q) = rw q (omega (arith, now_seq, f.newer, g.shared.heard.before k i l u h))
          before_at k c l u n (inr q) = rw (ann_other c q) (g.shared.heard.before k c l u n)

          met_at : (k c : ℕ) → B.seq < k → k < committed_seq w.words → c < S.callers → (c ≡ i) ⊎ (c ≡ i → ⊥) → (batch_at B w.batches k).announcements c ≡ announcement_of S us c → seq_of (announcement_of S us c) ≤ last_ticket_by S B w.batches (k + 1) c
          met_at k c l u n (inl q) e = absurd (new c k q l (omega arith) e)
          met_at k c l u n (inr q) e = rw (ann_other c q) (g.shared.heard.met k c l u n (e ∙ ann_other c q))

      none : (k : ℕ) → B.seq < k → k ≤ committed_seq w.words → (y : ℕ) (d : Call) → y < length (batch_at B w.batches k).calls → (get_or (batch_at B w.batches k).calls y d).caller ≡ i → (get_or (batch_at B w.batches k).calls y d).ticket ≡ m.made → ⊥
      none k l u y d z q r =
          let p : (get_or (batch_at B w.batches k).calls y d).ticket ≤ last_ticket_by S B w.batches (committed_seq w.words) (get_or (batch_at B w.batches k).calls y d).caller =
          ticket_upto S Lawful B w.batches g.shared.stands k (committed_seq w.words) l u (omega (arith, n_is)) y d z in
          omega (arith, p, r, f.above, ap (last_ticket_by S B w.batches (committed_seq w.words)) q)
