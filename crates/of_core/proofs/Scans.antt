-- All announcements are looked through, and the calls that are new are run.
use Rattle.std.proofs.Common.{◌≡◌, ℕ, suc, ◌+◌, ◌<◌, ◌≤◌, ◌⊎◌, ◌==◌, inl, inr, List, [], ◌∷◌, ◌++◌, length, get_or, refl, sym, ◌∙◌, ap, subst, arith, length-append, Option, Some, None, Bool, true, false, nat_lt}
use Rattle.std.specs.List.{All}
use Rattle.std.proofs.lemmas.Bool.{cases_eq, cases_lt, eqb-true}
use Rattle.std.proofs.lemmas.Bool.Decides.{nat_tests}
use Rattle.std.proofs.lemmas.List.{length-map, get_or_push, get_or_append_left}
use Rattle.std.proofs.lemmas.List.Elements.{All-push}
use Rattle.of_cell.specs.Words.{pack, seq_of, payload_of}
use Rattle.of_cell.proofs.Order.{seq_word, pay_word, word_eta}
use Rattle.of_cell.proofs.Places.{row_within}
use Rattle.of_mem.specs.Meaning.{WalkEnd, Needs, Gives, WalkFits, IsFinishedWalk, IsSoundMeaning, with_writes_in}
use Rattle.of_mem.specs.declared.work.RawReply.{RawReply}
use Rattle.of_mem.specs.CellMap.{put_all}
use Rattle.of_mem.specs.Part.{overlaid}
use Rattle.of_core.specs.declared.place.Place.TheVariants.{LoadAnnouncement, LoadTicket, LoadScript, LoadCell}
use Rattle.of_core.specs.Table.{Setup, data_at, script_word_at, ticket_cell, first_operation_cell, script_words_of, script_word, announcement_of, data_word, committed_seq}
use Rattle.of_core.specs.Machine.{CallState, Call, with_cell_known, own_cells, no_call}
use Rattle.of_core.specs.Steps.{after_script_run, after_load_cell, take_word_at, next_scanned_caller, with_call_run, call_as_run, own_reply_or, weigh, after_announcement, after_load_ticket, with_script_word, run_script, after_load_script}
use Rattle.of_core.specs.TableMoment.{Moment, TableStart, after_counted_step}
use Rattle.of_core.specs.History.{state_after, batch_at, CallersRise, last_ticket_by, numbers_after}
use Rattle.of_core.specs.Rounds.{IsAnnounced, IsPastOwnTicket, HasNothingUnderWay}
use Rattle.of_core.specs.Scan.{HasScannedUpTo, IsInScan, HasLoadedAnnouncement, HasLoadedScript, WasTakenByScan, IsAnnouncedCall}
use Rattle.of_core.specs.Places.{IsAtCaller}
use Rattle.of_core.specs.Invariant.{HoldsAtPlace, MeetsCore}
use Rattle.of_core.specs.Guarantees.{KeepsGuarantee}
use Rattle.of_core.proofs.States.{state_length}
use Rattle.of_core.proofs.Overlays.{extended, extended_short, walk_fits, over_unknown}
use Rattle.of_core.proofs.Alike.{past_as, scanning_as}
use Rattle.of_core.proofs.Assembling.{assemble_read, logs_of, number_at, same_batches, same_words}
use Rattle.of_core.proofs.Rounds.{again, at_risen, cell_of, learn_past, own_seq, two_rounds}
use Rattle.of_core.proofs.Tests.{differ, is_newer, not_newer}

module _ {S : Setup} {Lawful : List ℕ → Type 0} {B : TableStart} where
  -- the machine of caller i
  module _ {w : Moment} (g : MeetsCore S Lawful B w) {i : ℕ} (h : i < S.callers) where
    -- the scan goes on behind a caller whose announcement is done
    skip_over : (made : ℕ) (op : List ℕ) (raw : RawReply) (s : ℕ) (cs : List Call) (es : List (ℕ × ℕ)) (n heard : ℕ) → (n ≡ i → ⊥) → HasLoadedAnnouncement S B w.words w.batches i s n heard → seq_of heard ≤ last_ticket_by S B w.batches s n
        → HasScannedUpTo S B w.words w.batches i s made op raw cs es n → HasScannedUpTo S B w.words w.batches i s made op raw cs es (n + 1)
    skip_over made op raw s cs es n heard other l done o = record {
      over = o.over;
      taken = o.taken;
      ordered = o.ordered;
      announced = o.announced;
      below = λ k d u. omega (arith, o.below k d u);
      short = elim o.short [ inl k ↦ inl k | inr k ↦ inr (omega arith) ];
      own = λ q u. o.own q (omega arith);
      met = λ after c u v z. met after c u v z (cases_eq c n);
    }
      where
        met : B.seq < s → (c : ℕ) → c < n + 1 → c < S.callers → (batch_at B w.batches s).announcements c ≡ announcement_of S w.words c → (c ≡ n) ⊎ (c ≡ n → ⊥)
            → (seq_of (announcement_of S w.words c) ≤ last_ticket_by S B w.batches s c) ⊎ ((y : ℕ) × (y < length cs) × ((get_or cs y no_call).caller ≡ c) × ((get_or cs y no_call).ticket ≡ seq_of (announcement_of S w.words c)))
        met after c u v z (inr ne) = o.met after c (omega arith) v z
        met after c u v z (inl e) =
            let z' : (batch_at B w.batches s).announcements n ≡ announcement_of S w.words n = rw e at z in
            let y : announcement_of S w.words n ≡ heard = l.stood after z' in
            inl (rw e (omega (arith, done, ap seq_of y)))

    next_at : (n : CallState) → IsPastOwnTicket S B w.words w.batches i n → HasNothingUnderWay S B w.words w.batches i n.seq → HasScannedUpTo S B w.words w.batches i n.seq n.made n.op n.raw n.calls n.log (n.scan + 1) → n.scan < S.callers
        → (b : Bool) → nat_lt (n.scan + 1) S.callers ≡ b → HoldsAtPlace S B w.words w.batches i (next_scanned_caller n b) (next_scanned_caller n b).place
    next_at n p o v l true e = record { past = past_as p refl refl refl refl refl refl refl refl refl; calm = o; scan = v; in_range = (let z : n.scan + 1 < S.callers = grind (arith, nat_tests) in z) }
    next_at n p o v l false e =
        let z : S.callers ≤ n.scan + 1 = not_newer (n.scan + 1) S.callers e in
        let q : n.scan + 1 ≡ S.callers = omega arith in
        record {
          past = past_as p refl refl refl refl refl refl refl refl refl;
          calm = o;
          scan = subst (λ (k : ℕ). HasScannedUpTo S B w.words w.batches i n.seq n.made n.op n.raw n.calls n.log k) q v;
        }

    weighed_at : (n : CallState) → IsAtCaller S B w.words w.batches i n → HasLoadedAnnouncement S B w.words w.batches i n.seq n.scan n.heard
        → (v : ℕ) → v ≡ last_ticket_by S B w.batches n.seq n.scan → (b : Bool) → nat_lt v (seq_of n.heard) ≡ b → HoldsAtPlace S B w.words w.batches i (weigh S n b) (weigh S n b).place
    weighed_at n p hs t q true e =
        let z : t < seq_of n.heard = grind (arith, nat_tests) in
        record {
          scanning = scanning_as p (past_as p.past refl refl refl refl refl refl refl refl refl) refl refl refl refl refl refl refl;
          heard = hs;
          loaded = record { new = omega (arith, q); words = λ k. refl; many = refl; within = omega arith };
          more = hs.some (omega arith);
        }
    weighed_at n p hs t q false e =
        let z : seq_of n.heard ≤ t = not_newer t (seq_of n.heard) e in
        next_at n p.past p.calm (skip_over n.made n.op n.raw n.seq n.calls n.log n.scan n.heard (λ k. not_own k z) hs (omega (arith, q)) p.scan) p.in_range (nat_lt (n.scan + 1) S.callers) refl
      where
        not_own : n.scan ≡ i → seq_of n.heard ≤ t → ⊥
        not_own k z =
            let x : announcement_of S w.words i ≡ n.heard = rw k at (hs.own k) in
            let y : last_ticket_by S B w.batches n.seq n.scan ≡ last_ticket_by S B w.batches n.seq i = ap (λ (c : ℕ). last_ticket_by S B w.batches n.seq c) k in
            omega (arith, own_seq g h n p.past.looks.round.begun, ap seq_of x, p.past.left, q, y)

    hears_now : (s c : ℕ) → c < S.callers → HasLoadedAnnouncement S B w.words w.batches i s c (announcement_of S w.words c)
    hears_now s c l = record { own = λ q. refl; ticket = g.shared.heard.tickets c l; fresh = λ e t. refl; stood = λ a q. refl; small = g.shared.heard.small c l; some = g.shared.heard.some c l }

    pub ticket_in_cells : (c : ℕ) → c < S.callers → ticket_cell S c < S.cells
    ticket_in_cells c l = omega (arith, row_within c S.callers (S.instrs + 2) l, g.shared.own_in)

    pub load_announcement_kept : (m : CallState) → HoldsAtPlace S B w.words w.batches i m LoadAnnouncement → KeepsGuarantee S Lawful B i w (after_counted_step S i m LoadAnnouncement w)
    load_announcement_kept m a = assemble_read g h (take_word_at S m found LoadAnnouncement) (same_words w (script_word_at S m.scan S.instrs)) (same_batches w) (
        go (get_or m.known (ticket_cell S m.scan) None) refl)
      where
        found : ℕ
        found = announcement_of S w.words m.scan

        go : (r : Option ℕ) → get_or m.known (ticket_cell S m.scan) None ≡ r → HoldsAtPlace S B w.words w.batches i (after_announcement S m found r) (after_announcement S m found r).place
        go None e = record { scanning = scanning_as a (past_as a.past refl refl refl refl refl refl refl refl refl) refl refl refl refl refl refl refl; heard = hears_now m.seq m.scan a.in_range; unknown = e }
        go (Some v) e =
            weighed_at (record m { heard = found }) (scanning_as a (past_as a.past refl refl refl refl refl refl refl refl refl) refl refl refl refl refl refl refl) (hears_now m.seq m.scan a.in_range) v
            (sym (a.past.looks.state.agrees (ticket_cell S m.scan) v e) ∙ number_at B w.batches m.seq (ticket_cell S m.scan)) (nat_lt v (seq_of found)) refl

    pub load_ticket_kept : (m : CallState) → HoldsAtPlace S B w.words w.batches i m LoadTicket → KeepsGuarantee S Lawful B i w (after_counted_step S i m LoadTicket w)
    load_ticket_kept m a = assemble_read g h (take_word_at S m found LoadTicket) (same_words w (data_at S (ticket_cell S m.scan))) (same_batches w) (
        go (nat_lt m.seq (seq_of found)) refl)
      where
        x : ℕ
        x = ticket_cell S m.scan

        found : ℕ
        found = data_word S w.words (ticket_cell S m.scan)

        go : (b : Bool) → nat_lt m.seq (seq_of found) ≡ b → HoldsAtPlace S B w.words w.batches i (after_load_ticket S m found b) (after_load_ticket S m found b).place
        go true e = again g h m a.scanning.past.looks.round a.scanning.calm (two_rounds g h m a.scanning.past) x (ticket_in_cells m.scan a.scanning.in_range) (let z : m.seq < seq_of found = grind (arith, nat_tests) in z)
        go false e =
            weighed_at (record m { known = with_cell_known S m x found }) (scanning_as a.scanning (learn_past g h m a.scanning.past x (ticket_in_cells m.scan a.scanning.in_range) (not_newer m.seq (seq_of found) e)) refl refl refl refl refl refl refl) a.heard (payload_of found)
            (ap payload_of (cell_of g h m a.scanning.past.looks x (ticket_in_cells m.scan a.scanning.in_range) (not_newer m.seq (seq_of found) e))) (nat_lt (payload_of found) (seq_of m.heard)) refl

    rising_push : (cs : List Call) (c : Call) → CallersRise cs → All (λ (d : Call). d.caller < c.caller) cs → CallersRise (cs ++ c ∷ [])
    rising_push cs c r below j k l u = go (cases_lt k (length cs))
      where
        k_in : k < length cs + 1
        k_in = rw length-append at u

        go : (k < length cs) ⊎ (length cs ≤ k) → (get_or (cs ++ c ∷ []) j no_call).caller < (get_or (cs ++ c ∷ []) k no_call).caller
        go (inl v) = rw (get_or_append_left cs (c ∷ []) no_call j (omega arith), get_or_append_left cs (c ∷ []) no_call k v) (r j k l v)
        go (inr v) =
            let e : length cs ≡ k = omega (arith, k_in) in
            rw (get_or_append_left cs (c ∷ []) no_call j (omega arith), get_or_push cs c no_call k e) (below j no_call (omega arith))

    said_more : (c n : ℕ) → script_words_of S w.words c n ++ script_word S w.words c n ∷ [] ≡ script_words_of S w.words c (n + 1)
    said_more c n = ap (script_words_of S w.words c) (suc_is n)
      where
        suc_is : (n : ℕ) → suc n ≡ n + 1
        suc_is n = omega arith

    -- the call that the scan has come to is run, as far as its cells are known
    runs_at : (n : CallState) → IsSoundMeaning S.meaning Lawful (first_operation_cell S) S.cells → IsAtCaller S B w.words w.batches i n → HasLoadedAnnouncement S B w.words w.batches i n.seq n.scan n.heard
        → HasLoadedScript S (state_after B w.batches n.seq) w.words n.seq n.scan n.heard n.script (payload_of n.heard) → HoldsAtPlace S B w.words w.batches i (run_script S n) (run_script S n).place
    runs_at n sound at hs rs = go (S.meaning.walk (overlaid n.known n.log) n.script) refl (walk_fits S Lawful sound xs n.calls n.log size lawful v.over n.known n.script p.looks.state.agrees)
      where
        p : IsPastOwnTicket S B w.words w.batches i n
        p = at.past

        v : IsInScan S B w.words w.batches i n
        v = at.scan

        l : n.scan < S.callers
        l = at.in_range

        xs : List ℕ
        xs = numbers_after B w.batches n.seq

        size : length (numbers_after B w.batches n.seq) ≡ S.cells
        size = length-map (state_after B w.batches n.seq) payload_of ∙ state_length S B w.batches g.shared.start (logs_of g) n.seq p.looks.round.current_word.from (at_risen g h n p.looks)

        lawful : Lawful (numbers_after B w.batches n.seq)
        lawful = g.shared.stands.lawful n.seq p.looks.round.current_word.from (at_risen g h n p.looks)

        go : (r : WalkEnd) → S.meaning.walk (overlaid n.known n.log) n.script ≡ r → WalkFits S.meaning (first_operation_cell S) S.cells (overlaid n.known n.log) (with_writes_in xs n.log) n.script (S.meaning.walk (overlaid n.known n.log) n.script) → HoldsAtPlace S B w.words w.batches i (after_script_run S n r) (after_script_run S n r).place
        go (Needs a) e f =
            let f' = rw e at f in record {
              scanning = scanning_as at (past_as p refl refl refl refl refl refl refl refl refl) refl refl refl refl refl refl refl;
              heard = hs;
              loaded = rs;
              in_cells = f'.1;
              unknown = over_unknown n.known n.log a f'.2;
            }
        go (Gives es r) e f =
            next_at (with_call_run S n es r) (past_as p refl refl refl refl refl refl refl refl refl) at.calm (ran_over (rw e at f)) l (nat_lt (n.scan + 1) S.callers) refl
          where
            call : Call
            call = call_as_run n r

            many : length n.script ≡ payload_of n.heard
            many = rs.many

            few : length n.script ≤ S.instrs
            few = omega (arith, many, hs.small)

            ran_over : IsFinishedWalk S.meaning (first_operation_cell S) S.cells (with_writes_in xs n.log) n.script es r → HasScannedUpTo S B w.words w.batches i n.seq n.made n.op (own_reply_or r n.raw (n.scan == n.caller)) (n.calls ++ call_as_run n r ∷ []) (put_all n.log (es ++ own_cells (ticket_cell S n.scan) (seq_of n.heard) (length n.script) r)) (n.scan + 1)
            ran_over f = record {
              over = extended S Lawful sound xs n.calls n.log size lawful v.over n.scan (seq_of n.heard) n.script es r l hs.ticket few g.shared.own_in g.shared.narrow v.below v.short f;
              short = extended_short S Lawful sound xs n.calls n.log size lawful v.over n.scan (seq_of n.heard) n.script es r l hs.ticket few g.shared.own_in g.shared.narrow v.below v.short f;
              taken = All-push (WasTakenByScan S (state_after B w.batches n.seq)) n.calls call v.taken (record { caller = l; above = rs.new; words = few });
              below = All-push (λ (c : Call). c.caller < n.scan + 1) n.calls call (λ k d u. omega (arith, v.below k d u)) (omega arith);
              ordered = rising_push n.calls call v.ordered v.below;
              announced = λ q. All-push (IsAnnouncedCall S w.words) n.calls call (v.announced q) (this q);
              own = λ q u. own q u (cases_eq n.scan i);
              met = λ after c u t z. met after c u t z (cases_eq c n.scan);
            }
              where
                this : n.seq ≡ committed_seq w.words → IsAnnouncedCall S w.words call
                this q = record {
                  says = hs.fresh q rs.new ∙ sym (word_eta n.heard) ∙ ap (pack (seq_of n.heard)) (sym many);
                  script = ap (script_words_of S w.words n.scan) many ∙ sym (rs.words q);
                }

                longer : (y : ℕ) → y < length n.calls → y < length (n.calls ++ call ∷ [])
                longer y u = rw length-append (omega arith)

                own : n.seq ≡ committed_seq w.words → i < n.scan + 1 → (n.scan ≡ i) ⊎ (n.scan ≡ i → ⊥) → (y : ℕ) × (y < length (n.calls ++ call ∷ [])) × (get_or (n.calls ++ call ∷ []) y no_call ≡ record { caller = i; ticket = n.made; op = n.op; raw = own_reply_or r n.raw (n.scan == n.caller) })
                own q u (inr ne) =
                    let t = v.own q (omega arith) in
                    (t.0, longer t.0 t.1, get_or_append_left n.calls (call ∷ []) no_call t.0 t.1 ∙ t.2 ∙ ap (λ (x : RawReply). record { caller = i; ticket = n.made; op = n.op; raw = x }) (sym (kept_raw (n.scan == n.caller) refl)))
                  where
                    kept_raw : (b : Bool) → (n.scan == n.caller) ≡ b → own_reply_or r n.raw b ≡ n.raw
                    kept_raw false e = refl
                    kept_raw true e = absurd (ne (eqb-true n.scan n.caller e ∙ p.looks.round.begun.caller))
                own q u (inl e) = (length n.calls, rw length-append (omega arith), get_or_push n.calls call no_call (length n.calls) refl ∙ same)
                  where
                    begun : IsAnnounced S B w.words w.batches i n
                    begun = p.looks.round.begun

                    heard_is : n.heard ≡ pack n.made (length n.op)
                    heard_is = sym (hs.own e) ∙ ap (announcement_of S w.words) e ∙ begun.says

                    ticket : seq_of n.heard ≡ n.made
                    ticket = ap seq_of heard_is ∙ seq_word n.made (length n.op) (omega (arith, begun.words, g.shared.narrow))

                    count : payload_of n.heard ≡ length n.op
                    count = ap payload_of heard_is ∙ pay_word n.made (length n.op) (omega (arith, begun.words, g.shared.narrow))

                    script : n.script ≡ n.op
                    script = rs.words q ∙ ap (script_words_of S w.words n.scan) count ∙ ap (λ (c : ℕ). script_words_of S w.words c (length n.op)) e ∙ begun.script

                    new_raw : (b : Bool) → (n.scan == n.caller) ≡ b → own_reply_or r n.raw b ≡ r
                    new_raw true t = refl
                    new_raw false t = absurd (differ n.scan n.caller t (e ∙ sym begun.caller))

                    same_call : (c t : ℕ) (op : List ℕ) (x : RawReply) → n.scan ≡ c → seq_of n.heard ≡ t → n.script ≡ op → x ≡ r → call_as_run n r ≡ record { caller = c; ticket = t; op = op; raw = x }
                    same_call c t op x e1 e2 e3 e4 = cc

                    same : call_as_run n r ≡ record { caller = i; ticket = n.made; op = n.op; raw = own_reply_or r n.raw (n.scan == n.caller) }
                    same = same_call i n.made n.op (own_reply_or r n.raw (n.scan == n.caller)) e ticket script (new_raw (n.scan == n.caller) refl)

                met : B.seq < n.seq → (c : ℕ) → c < n.scan + 1 → c < S.callers → (batch_at B w.batches n.seq).announcements c ≡ announcement_of S w.words c → (c ≡ n.scan) ⊎ (c ≡ n.scan → ⊥)
                    → (seq_of (announcement_of S w.words c) ≤ last_ticket_by S B w.batches n.seq c) ⊎ ((y : ℕ) × (y < length (n.calls ++ call ∷ [])) × ((get_or (n.calls ++ call ∷ []) y no_call).caller ≡ c) × ((get_or (n.calls ++ call ∷ []) y no_call).ticket ≡ seq_of (announcement_of S w.words c)))
                met after c u t z (inr ne) = old (v.met after c (omega arith) t z)
                  where
                    old : (seq_of (announcement_of S w.words c) ≤ last_ticket_by S B w.batches n.seq c) ⊎ ((y : ℕ) × (y < length n.calls) × ((get_or n.calls y no_call).caller ≡ c) × ((get_or n.calls y no_call).ticket ≡ seq_of (announcement_of S w.words c)))
                        → (seq_of (announcement_of S w.words c) ≤ last_ticket_by S B w.batches n.seq c) ⊎ ((y : ℕ) × (y < length (n.calls ++ call ∷ [])) × ((get_or (n.calls ++ call ∷ []) y no_call).caller ≡ c) × ((get_or (n.calls ++ call ∷ []) y no_call).ticket ≡ seq_of (announcement_of S w.words c)))
                    old (inl x) = inl x
                    old (inr x) = let s = get_or_append_left n.calls (call ∷ []) no_call x.0 x.1 in inr (x.0, longer x.0 x.1, ap (λ (d : Call). d.caller) s ∙ x.2, ap (λ (d : Call). d.ticket) s ∙ x.3)
                met after c u t z (inl e) =
                    let s = get_or_push n.calls call no_call (length n.calls) refl in
                    let z' : (batch_at B w.batches n.seq).announcements n.scan ≡ announcement_of S w.words n.scan = rw e at z in
                    let y : announcement_of S w.words n.scan ≡ n.heard = hs.stood after z' in
                    inr (length n.calls, rw length-append (omega arith), ap (λ (d : Call). d.caller) s ∙ sym e, ap (λ (d : Call). d.ticket) s ∙ sym (ap seq_of y) ∙ ap (λ (x : ℕ). seq_of (announcement_of S w.words x)) (sym e))

    pub load_script_kept : (m : CallState) → IsSoundMeaning S.meaning Lawful (first_operation_cell S) S.cells → (j : ℕ) → HoldsAtPlace S B w.words w.batches i m (LoadScript j) → KeepsGuarantee S Lawful B i w (after_counted_step S i m (LoadScript j) w)
    load_script_kept m sound j a = assemble_read g h (take_word_at S m found (LoadScript j)) (same_words w (script_word_at S m.scan j)) (same_batches w) (
        go (nat_lt (j + 1) (payload_of m.heard)) refl)
      where
        found : ℕ
        found = script_word S w.words m.scan j

        reads : (k : ℕ) → k ≡ j + 1 → HasLoadedScript S (state_after B w.batches m.seq) w.words m.seq m.scan m.heard (with_script_word m found) k
        reads k e = record {
          new = a.loaded.new;
          words = λ q. ap (λ (xs : List ℕ). xs ++ found ∷ []) (a.loaded.words q) ∙ said_more m.scan j ∙ ap (script_words_of S w.words m.scan) (sym e);
          many = rw length-append (omega (arith, a.loaded.many));
          within = omega (arith, a.more);
        }

        go : (b : Bool) → nat_lt (j + 1) (payload_of m.heard) ≡ b → HoldsAtPlace S B w.words w.batches i (after_load_script S m j found b) (after_load_script S m j found b).place
        go true e = record {
          scanning = scanning_as a.scanning (past_as a.scanning.past refl refl refl refl refl refl refl refl refl) refl refl refl refl refl refl refl;
          heard = a.heard;
          loaded = reads (j + 1) refl;
          more = (let z : j + 1 < payload_of m.heard = grind (arith, nat_tests) in z);
        }
        go false e =
            runs_at (record m { script = with_script_word m found }) sound (scanning_as a.scanning (past_as a.scanning.past refl refl refl refl refl refl refl refl refl) refl refl refl refl refl refl refl) a.heard
            (reads (payload_of m.heard) (omega (arith, not_newer (j + 1) (payload_of m.heard) e, a.more)))

    pub load_cell_kept : (m : CallState) → IsSoundMeaning S.meaning Lawful (first_operation_cell S) S.cells → (x : ℕ) → HoldsAtPlace S B w.words w.batches i m (LoadCell x) → KeepsGuarantee S Lawful B i w (after_counted_step S i m (LoadCell x) w)
    load_cell_kept m sound x a = assemble_read g h (take_word_at S m (data_word S w.words x) (LoadCell x)) (same_words w (data_at S x)) (same_batches w) (
        go (nat_lt m.seq (seq_of (data_word S w.words x))) refl)
      where
        go : (b : Bool) → nat_lt m.seq (seq_of (data_word S w.words x)) ≡ b → HoldsAtPlace S B w.words w.batches i (after_load_cell S m x (data_word S w.words x) b) (after_load_cell S m x (data_word S w.words x) b).place
        go true e = again g h m a.scanning.past.looks.round a.scanning.calm (two_rounds g h m a.scanning.past) x a.in_cells (is_newer m.seq (seq_of (data_word S w.words x)) e)
        go false e = runs_at (record m { known = with_cell_known S m x (data_word S w.words x) }) sound (scanning_as a.scanning (learn_past g h m a.scanning.past x a.in_cells (not_newer m.seq (seq_of (data_word S w.words x)) e)) refl refl refl refl refl refl refl) a.heard a.loaded
