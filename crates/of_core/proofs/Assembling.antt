-- What is to be shown of a step: what it guarantees the others, the facts of words and history after it, and those of its own place.
use Rattle.std.proofs.Common.{◌≡◌, ℕ, zero, suc, ◌+◌, ◌<◌, ◌≤◌, ◌⊎◌, inl, inr, List, [], ◌∷◌, ◌++◌, length, get_or, set, refl, sym, ◌∙◌, ap, subst, arith, length-set}
use Rattle.std.specs.List.{All}
use Rattle.std.proofs.lemmas.Bool.{cases_eq, cases_lt}
use Rattle.std.proofs.lemmas.List.{append-nil, set-get_or, length-map, get_or_past, get_or-map, get_or-set_same, get_or-set_other}
use Rattle.of_cell.specs.declared.word.TheConstants.{PAYLOADS}
use Rattle.of_cell.specs.Words.{payload_of}
use Rattle.of_cell.proofs.Order.{pay_zero}
use Rattle.of_cell.proofs.Rooms.{room_upto}
use Rattle.of_core.specs.Table.{Setup}
use Rattle.of_core.specs.Machine.{CallState, flat_entries, log_words}
use Rattle.of_core.specs.TableMoment.{Read, Moment, Batch, TableStart}
use Rattle.of_core.specs.History.{state_after, batch_at, data_word_after, numbers_after}
use Rattle.of_core.specs.WordsMatch.{WordsMatchHistory, IsLog}
use Rattle.of_core.specs.Invariant.{HoldsAtPlace, MeetsCore}
use Rattle.of_core.specs.Guarantees.{KeepsGuarantee, Guarantees}
use Rattle.of_core.proofs.Stability.{at_stable, loaded_stable}

small_flat : (es : List (ℕ × ℕ)) → All (λ (e : ℕ × ℕ). (e.0 < PAYLOADS) × (e.1 < PAYLOADS)) es → (x : ℕ) → get_or (flat_entries es) x 0 < PAYLOADS
small_flat [] h x = omega arith
small_flat (e ∷ es) h zero = (h 0 (0, 0) (omega arith)).0
small_flat (e ∷ es) h (suc zero) = (h 0 (0, 0) (omega arith)).1
small_flat (e ∷ es) h (suc (suc x)) = small_flat es (λ k d l. h (suc k) d (omega arith)) x

pub small_words : {S : Setup} (es : List (ℕ × ℕ)) → S.cells < PAYLOADS → IsLog S es → (x : ℕ) → get_or (log_words es) x 0 < PAYLOADS
small_words {S} es c h zero = omega (arith, h.few, room_upto S.callers S.cells)
small_words es c h (suc x) = small_flat es (λ k d l. (omega (arith, (h.entries k d l).0), (h.entries k d l).1)) x

pub number_at : (B : TableStart) (bs : List Batch) (k x : ℕ) → get_or (numbers_after B bs k) x 0 ≡ payload_of (data_word_after B bs k x)
number_at B bs k x = go (cases_lt x (length (state_after B bs k)))
  where
    go : (x < length (state_after B bs k)) ⊎ (length (state_after B bs k) ≤ x) → get_or (numbers_after B bs k) x 0 ≡ payload_of (data_word_after B bs k x)
    go (inl l) = get_or-map payload_of (state_after B bs k) x 0 0 l
    go (inr l) = get_or_past (numbers_after B bs k) x 0 (rw length-map l) ∙ sym (ap payload_of (get_or_past (state_after B bs k) x 0 l) ∙ pay_zero)

pub same_words : (w : Moment) (c : ℕ) → set w.words c (get_or w.words c 0) ≡ w.words
same_words w c = set-get_or w.words c 0

pub same_batches : (w : Moment) → w.batches ++ [] ≡ w.batches
same_batches w = append-nil w.batches

module _ {S : Setup} {Lawful : List ℕ → Type 0} {B : TableStart} where
  -- what has to be shown of a step
  pub assemble : {rs : List Read} {w : Moment} → MeetsCore S Lawful B w → {i : ℕ} → i < S.callers → (vs : List ℕ) (cs : List Batch) (m : CallState)
      → Guarantees S B i w.words w.batches vs cs → WordsMatchHistory S Lawful B vs cs → HoldsAtPlace S B vs cs i m m.place
      → KeepsGuarantee S Lawful B i w (record { words = vs; machines = set w.machines i m; batches = cs; reads = rs; loaded = w.loaded })
  assemble {w = w} g {i} h vs cs m v s a = record {
    moves = v;
    core = record {
      shared = s;
      members = length-set w.machines i m ∙ g.members;
      loaded = λ k d l. loaded_stable S Lawful B i w.words w.batches vs cs v g.shared s.kinds (get_or w.loaded k d) (g.loaded k d l);
      each = λ j n l e. go j n l e (cases_eq j i);
    };
  }
    where
      go : (j : ℕ) (n : CallState) → j < S.callers → get_or (set w.machines i m) j n ≡ n → (j ≡ i) ⊎ (j ≡ i → ⊥) → HoldsAtPlace S B vs cs j n n.place
      go j n l e (inl q) =
          let i_in : i < length w.machines = omega (arith, g.members) in
          let same : m ≡ n = sym (get_or-set_same w.machines i m n i_in) ∙ (rw q at e) in
          subst (λ (x : CallState). HoldsAtPlace S B vs cs j x x.place) same (rw q a)
      go j n l e (inr q) =
          at_stable S Lawful B i w.words w.batches vs cs v g.shared j l q n n.place (g.each j n l (sym (get_or-set_other w.machines i j m n q) ∙ e))

  pub moves_not : (i : ℕ) {ws : List ℕ} {bs : List Batch} → WordsMatchHistory S Lawful B ws bs → Guarantees S B i ws bs ws bs
  moves_not i g = record {
    same = λ e. refl;
    states = λ k l m. refl;
    batches = λ k l m. refl;
    limit = g.counted.limit;
    newer = λ k l m. absurd (omega arith);
    tickets = λ k j l m. absurd (omega arith);
    snapshot = λ k j l m. absurd (omega arith);
    script_of = λ j x l u. inl refl;
    announcements = λ j l. inl refl;
    newer_owner = λ k l m. absurd (omega arith);
    requests = λ j l n. inl refl;
    changes = λ a l. inl refl;
    logs = λ j l n x u. refl;
    log_how = λ j x l u. inl refl;
    newer_logs = λ k x l m. absurd (omega arith);
    rise = λ c l. omega arith;
    durs = λ c l. omega arith;
    low = g.durable.low;
  }

  -- a step that changes no word
  pub assemble_read : {rs : List Read} {w : Moment} → MeetsCore S Lawful B w → {i : ℕ} → i < S.callers → {vs : List ℕ} {cs : List Batch} (m : CallState)
      → vs ≡ w.words → cs ≡ w.batches → HoldsAtPlace S B w.words w.batches i m m.place
      → KeepsGuarantee S Lawful B i w (record { words = vs; machines = set w.machines i m; batches = cs; reads = rs; loaded = w.loaded })
  assemble_read {w = w} g {i} h m e f a = rw (e, f) (assemble g h w.words w.batches m (moves_not i g.shared) g.shared a)

  pub logs_of : {w : Moment} → MeetsCore S Lawful B w → (k : ℕ) → B.seq < k → k ≤ B.seq + length w.batches → IsLog S (batch_at B w.batches k).log
  logs_of g k l m = g.shared.counted.logs k l (omega (arith, g.shared.counted.count))
