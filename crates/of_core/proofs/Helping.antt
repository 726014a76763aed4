-- A helper copies the log of the open transaction and looks at the request again.
use Rattle.std.proofs.Common.{◌≡◌, ℕ, ◌+◌, ◌*◌, ◌<◌, ◌≤◌, ◌⊎◌, ◌==◌, inl, inr, List, [], ◌∷◌, ◌++◌, length, get_or, take, refl, sym, ◌∙◌, ap, subst, arith, length-append, Bool, true, false, nat_lt}
use Rattle.std.proofs.lemmas.Bool.{cases_eq, cases_lt}
use Rattle.std.proofs.lemmas.Bool.Decides.{nat_tests}
use Rattle.std.proofs.lemmas.List.{take_more, take_all, get_or-take, length-take-le, get_or_push, get_or_append_left}
use Rattle.of_cell.specs.Words.{pack, payload_of}
use Rattle.of_cell.proofs.Order.{pay_word}
use Rattle.of_mem.specs.Meaning.{IsSoundMeaning}
use Rattle.of_core.specs.declared.place.Place.TheVariants.{CopyLog, LookAgain}
use Rattle.of_core.specs.Table.{most_entries, Setup, request_at, log_at, first_operation_cell, request_of, log_word_of, durable_request, committed_seq, committed_owner}
use Rattle.of_core.specs.Machine.{CallState, log_of, log_words}
use Rattle.of_core.specs.Steps.{after_copy_log, after_look_again, with_log_word_copied, take_word_at}
use Rattle.of_core.specs.TableMoment.{Moment, TableStart, after_counted_step}
use Rattle.of_core.specs.History.{batch_at}
use Rattle.of_core.specs.WordsMatch.{IsLastOpen, IsLog}
use Rattle.of_core.specs.Rounds.{WasCurrent}
use Rattle.of_core.specs.Transaction.{IsReorderingOf, IsApplying, AppliesAs, IsCopyingLog}
use Rattle.of_core.specs.Invariant.{HoldsAtPlace, MeetsCore}
use Rattle.of_core.specs.Guarantees.{KeepsGuarantee}
use Rattle.of_core.proofs.Logs.{turned_is, length-log_words}
use Rattle.of_core.proofs.Alike.{helping_as}
use Rattle.of_core.proofs.Puts.{log_of_words}
use Rattle.of_core.proofs.Assembling.{assemble_read, same_batches, same_words, small_words}
use Rattle.of_core.proofs.Rounds.{quiet_from}
use Rattle.of_core.proofs.Tries.{resumed_at}

module _ {S : Setup} {Lawful : List ℕ → Type 0} {B : TableStart} where
  -- the machine of caller i
  module _ {w : Moment} (g : MeetsCore S Lawful B w) {i : ℕ} (h : i < S.callers) where
    -- where the last transaction is open, its owner's log words are its log
    pub logged : IsLastOpen B w.words → (x : ℕ) → x < length (log_words (batch_at B w.batches (committed_seq w.words)).log) → log_word_of S w.words (committed_owner w.words) x ≡ pack (committed_seq w.words) (get_or (log_words (batch_at B w.batches (committed_seq w.words)).log) x 0)
    logged o x l =
        let own : committed_owner w.words ≡ (batch_at B w.batches (committed_seq w.words)).owner = g.shared.counted.owner o.any in
        let f : pack (committed_seq w.words) 0 ≤ durable_request S w.words (committed_owner w.words) = rw (← own) at (g.shared.durable.floor (committed_seq w.words) o.any (omega arith)) in
        let t : durable_request S w.words (committed_owner w.words) ≤ request_of w.words (committed_owner w.words) = g.shared.durable.low (request_at (committed_owner w.words)) (omega (arith, g.shared.counted.owner_in)) in
        (g.shared.durable.logs (committed_seq w.words) o.any (omega arith) (committed_owner w.words) (sym own) (omega (arith, o.asks)) x _ l refl).0

    -- a log word that is copied while the request is open is that of the batch's log
    copied_word : (n : CallState) (x : ℕ) → WasCurrent S B w.words w.batches n.seq n.owner → B.seq < n.seq → request_of w.words n.owner ≡ pack n.seq 0 → x < length (log_words (batch_at B w.batches n.seq).log)
        → log_word_of S w.words n.owner x ≡ pack n.seq (get_or (log_words (batch_at B w.batches n.seq).log) x 0)
    copied_word n x p l q u = at_last (cases_lt n.seq (committed_seq w.words))
      where
        o : (batch_at B w.batches n.seq).owner ≡ n.owner
        o = p.committed l

        at_last : (n.seq < committed_seq w.words) ⊎ (committed_seq w.words ≤ n.seq) → log_word_of S w.words n.owner x ≡ pack n.seq (get_or (log_words (batch_at B w.batches n.seq).log) x 0)
        at_last (inl v) = let z : pack n.seq 0 < request_of w.words n.owner = rw o at (g.shared.requests.closed n.seq l v) in absurd (omega (arith, q))
        at_last (inr v) =
            let e : n.seq ≡ committed_seq w.words = omega (arith, p.upto) in
            let s : n.owner ≡ committed_owner w.words = p.same e in
            let opened : IsLastOpen B w.words = record { any = omega (arith, l, e); asks = rw (← s, ← e) q } in
            subst (λ (k : ℕ). log_word_of S w.words n.owner x ≡ pack k (get_or (log_words (batch_at B w.batches k).log) x 0)) (sym e) (rw s (logged opened x (subst (λ (k : ℕ). x < length (log_words (batch_at B w.batches k).log)) e u)))

    -- the number of entries that was copied is at most that of the cells
    pub copied_count : (n : CallState) (x : ℕ) → IsCopyingLog S B w.words w.batches i n x → get_or (with_log_word_copied n (log_word_of S w.words n.owner x)) 0 0 ≤ most_entries S
    copied_count n x c = count_of (cases_eq x 0)
      where
        found : ℕ
        found = log_word_of S w.words n.owner x

        count_of : (x ≡ 0) ⊎ (x ≡ 0 → ⊥) → get_or (with_log_word_copied n found) 0 0 ≤ most_entries S
        count_of (inl z) =
            let e : get_or (n.copy ++ payload_of found ∷ []) 0 0 ≡ payload_of found = get_or_push n.copy (payload_of found) 0 0 (c.many ∙ z) in
            let f : payload_of (log_word_of S w.words n.owner x) ≡ payload_of (log_word_of S w.words n.owner 0) = ap (λ (k : ℕ). payload_of (log_word_of S w.words n.owner k)) z in
            omega (arith, e, f, g.shared.heard.counts n.owner c.helping.current_word.owner_in)
        count_of (inr z) =
            let e : get_or (n.copy ++ payload_of found ∷ []) 0 0 ≡ get_or n.copy 0 0 = get_or_append_left n.copy (payload_of found ∷ []) 0 0 (omega (arith, c.many)) in
            omega (arith, e, c.count (omega arith))

    -- a value of a log word fits its payload
    pub copy_log_kept : (m : CallState) → (x : ℕ) → HoldsAtPlace S B w.words w.batches i m (CopyLog x) → KeepsGuarantee S Lawful B i w (after_counted_step S i m (CopyLog x) w)
    copy_log_kept m x a = assemble_read g h (take_word_at S m found (CopyLog x)) (same_words w (log_at S m.owner x)) (same_batches w) (
        go (nat_lt (x + 1) (2 * get_or (with_log_word_copied m found) 0 0 + 1)) refl)
      where
        found : ℕ
        found = log_word_of S w.words m.owner x

        ls : List ℕ
        ls = log_words (batch_at B w.batches m.seq).log

        c : IsCopyingLog S B w.words w.batches i m x
        c = a.copies

        longer : length (with_log_word_copied m found) ≡ x + 1
        longer = length-append m.copy (payload_of found ∷ []) ∙ rw c.many refl

        count : get_or (with_log_word_copied m found) 0 0 ≤ most_entries S
        count = copied_count m x c

        log_is : IsLog S (batch_at B w.batches m.seq).log
        log_is = g.shared.counted.logs m.seq c.after c.helping.current_word.upto

        more : request_of w.words m.owner ≡ pack m.seq 0 → (with_log_word_copied m found ≡ take (x + 1) ls) × (x + 1 ≤ length ls)
        more q =
            let u : x < length ls = a.more q in
            let e : found ≡ pack m.seq (get_or ls x 0) = copied_word m x c.helping.current_word c.after q u in
            let v : payload_of found ≡ get_or ls x 0 = ap payload_of e ∙ pay_word m.seq (get_or ls x 0) (small_words (batch_at B w.batches m.seq).log g.shared.little log_is x) in
            ((rw v (ap (λ (ys : List ℕ). ys ++ get_or ls x 0 ∷ []) (c.copied q).1)) ∙ sym (take_more ls x 0 u), omega arith)

        size : request_of w.words m.owner ≡ pack m.seq 0 → 2 * get_or (with_log_word_copied m found) 0 0 + 1 ≡ length ls
        size q =
            let e : with_log_word_copied m found ≡ take (x + 1) ls = (more q).0 in
            rw (e, get_or-take (x + 1) ls 0 0 (omega arith)) (sym (length-log_words (batch_at B w.batches m.seq).log))

        go : (b : Bool) → nat_lt (x + 1) (2 * get_or (with_log_word_copied m found) 0 0 + 1) ≡ b → HoldsAtPlace S B w.words w.batches i (after_copy_log m x found b) (after_copy_log m x found b).place
        go true e = record {
          copies = record { helping = helping_as c.helping refl refl refl refl refl refl refl refl refl; helps = c.helps; after = c.after; many = longer; count = λ l. count; copied = λ q. ((more q).1, (more q).0) };
          more = λ q. let z : x + 1 < 2 * get_or (with_log_word_copied m found) 0 0 + 1 = grind (arith, nat_tests) in omega (arith, size q);
          in_log = let z : x + 1 < 2 * get_or (with_log_word_copied m found) 0 0 + 1 = grind (arith, nat_tests) in omega (arith, count);
        }
        go false e = record {
          copies = record { helping = helping_as c.helping refl refl refl refl refl refl refl refl refl; helps = c.helps; after = c.after; many = refl; count = λ l. count; copied = λ q. (omega (arith, whole q), (more q).0 ∙ ap (λ (k : ℕ). take k ls) (sym (got_length q))) };
          whole = whole;
        }
          where
            past : 2 * get_or (with_log_word_copied m found) 0 0 + 1 ≤ x + 1
            past = grind (arith, nat_tests)

            got_length : request_of w.words m.owner ≡ pack m.seq 0 → length (with_log_word_copied m found) ≡ x + 1
            got_length q = ap length (more q).0 ∙ length-take-le (x + 1) ls (more q).1

            whole : request_of w.words m.owner ≡ pack m.seq 0 → length (with_log_word_copied m found) ≡ length ls
            whole q = omega (arith, got_length q, size q, past, (more q).1)

    pub look_again_kept : (m : CallState) → IsSoundMeaning S.meaning Lawful (first_operation_cell S) S.cells → HoldsAtPlace S B w.words w.batches i m LookAgain → KeepsGuarantee S Lawful B i w (after_counted_step S i m LookAgain w)
    look_again_kept m sound a = assemble_read g h (take_word_at S m found LookAgain) (same_words w (m.owner + 1)) (same_batches w) (
        go (found == pack m.seq 0) (m.rounds == 0) refl refl)
      where
        found : ℕ
        found = request_of w.words m.owner

        c : IsCopyingLog S B w.words w.batches i m (length m.copy)
        c = a.copies

        log : List (ℕ × ℕ)
        log = (batch_at B w.batches m.seq).log

        is_log : found ≡ pack m.seq 0 → log ≡ log_of m.copy
        is_log q =
            let e : m.copy ≡ log_words log = (c.copied q).1 ∙ take_all (length m.copy) (log_words log) (omega (arith, a.whole q)) in
            sym (ap log_of e ∙ log_of_words log)

        applies : (n : CallState) → n.caller ≡ m.caller → n.made ≡ m.made → n.op ≡ m.op → n.seq ≡ m.seq → n.owner ≡ m.owner → IsReorderingOf log n.log → n.helps ≡ true → n.kept ≡ m.kept → n.rounds ≡ m.rounds → n.first ≡ m.first → n.tries ≡ m.tries → IsApplying S B w.words w.batches i n 0
        applies n a1 b1 c1 d1 e1 f1 h1 x1 r1 s1 t1 = record {
          mode = mode_of n.helps h1;
          after = rw d1 c.after;
          upto = rw d1 c.helping.current_word.upto;
          committed = rw (d1, e1) (c.helping.current_word.committed c.after);
          log = rw d1 f1;
          done = λ k l. absurd (omega arith);
        }
          where
            mode_of : (b : Bool) → b ≡ true → AppliesAs S B w.words w.batches i n b
            mode_of true e = helping_as c.helping a1 b1 c1 d1 e1 x1 r1 s1 t1
            mode_of false e = cc

        go : (b d : Bool) → (found == pack m.seq 0) ≡ b → (m.rounds == 0) ≡ d → HoldsAtPlace S B w.words w.batches i (after_look_again S m b d) (after_look_again S m b d).place
        go true d eb ed =
            let q : found ≡ pack m.seq 0 = grind (arith, nat_tests) in
            applies _ refl refl refl refl refl (rw (is_log q) (turned_is (S.begins m.caller (length (log_of m.copy))) (log_of m.copy))) c.helps refl refl refl refl
        go false d eb ed = resumed_at g h m sound c.helping.helper c.helping.current_word c.helping.calm (quiet_from g h m.seq m.owner c.helping.current_word (λ l. (let y : found ≡ pack m.seq 0 → ⊥ = grind (arith, nat_tests) in y))) d ed
