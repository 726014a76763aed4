-- What the invariant says of the word that a wanted step finds, as far as the code needs it.
use Rattle.std.proofs.Common.{◌≡◌, ℕ, suc, ◌+◌, ◌<◌, ◌≤◌, ◌==◌, inl, inr, List, [], ◌∷◌, length, None, Bool, true, false, get_or, refl, sym, ◌∙◌, subst, arith}
use Rattle.std.proofs.lemmas.List.{take_all}
use Rattle.std.proofs.lemmas.Bool.Decides.{nat_tests}
use Rattle.of_cell.specs.declared.shape.TheConstants.{MOST_CALLERS, MOST_DATA_CELLS}
use Rattle.of_core.specs.declared.machine.trying.TheConstants.{MOST_TRIES}
use Rattle.of_cell.specs.Words.{pack, seq_of, payload_of}
use Rattle.of_cell.proofs.Places.{row_within}
use Rattle.of_mem.specs.Meaning.{Meaning, IsSoundMeaning, Agrees}
use Rattle.of_mem.specs.CellMap.{value_for}
use Rattle.of_mem.specs.Part.{overlaid}
use Rattle.of_core.specs.declared.place.Place.{Place}
use Rattle.of_core.specs.declared.place.Place.TheVariants.{RaiseOld, TryCurrent, TryRequest, TryCell, LoadCurrent, CopyLog, LookAgain, LoadAnnouncement, LoadTicket, LoadScript, LoadCell, RaiseClosed}
use Rattle.of_core.specs.Table.{most_entries, Setup, setup_of, first_operation_cell, ticket_cell, data_word}
use Rattle.of_core.specs.Machine.{CallState, no_call, log_words, with_cell_known}
use Rattle.of_core.specs.Steps.{want, want_at, with_log_word_copied, IsFoundBy}
use Rattle.of_core.specs.History.{batch_at}
use Rattle.of_core.specs.WordsMatch.{IsLog}
use Rattle.of_core.specs.Rounds.{MayHelp}
use Rattle.of_core.specs.Scan.{IsInScan}
use Rattle.of_core.specs.Transaction.{AppliesAs}
use Rattle.of_core.specs.Invariant.{HoldsAtPlace}
use Rattle.of_core.specs.Meets.{MayTake}
use Rattle.of_core.proofs.Rounds.{learn_past, watch_more}
use Rattle.of_core.proofs.Helping.{copied_count}
use Rattle.of_core.proofs.KnownStates.{try_state, scan_state}

-- a call's steps are still counted
pub few_steps : (n m l : ℕ) (M : Meaning) (Lawful : List ℕ → Type 0) (d : CallState) (found : ℕ) → n ≤ MOST_CALLERS → m ≤ MOST_DATA_CELLS → MayTake (setup_of n m l M) Lawful d found → d.steps + 1 < 18446744073709551616
few_steps n m l M Lawful d found p q h = let w = (h.good.within h.caller d h.in_range h.here).steps in omega arith

module _ (S : Setup) (Lawful : List ℕ → Type 0) (m : CallState) (found : ℕ) (h : MayTake S Lawful m found) where
  place_at : (p : Place) → m.place ≡ p → HoldsAtPlace S h.start h.world.words h.world.batches h.caller m p
  place_at p q = subst (HoldsAtPlace S h.start h.world.words h.world.batches h.caller m) q (h.good.core.each h.caller m h.in_range h.here)

  found_at : (p : Place) → m.place ≡ p → IsFoundBy (want_at S m p) h.world.words found
  unfolding want
  found_at p q = subst (λ (x : Place). IsFoundBy (want_at S m x) h.world.words found) q h.finds

  -- the current-transaction word
  pub try_current_owner : m.place ≡ TryCurrent → payload_of found < S.callers
  try_current_owner q = rw (found_at TryCurrent q) h.good.core.shared.counted.owner_in

  pub try_current_upto : m.place ≡ TryCurrent → seq_of found ≤ S.limit
  try_current_upto q = rw (found_at TryCurrent q) h.good.core.shared.counted.limit

  pub tries_few : m.place ≡ TryCurrent → m.tries < MOST_TRIES
  tries_few q = (place_at TryCurrent q).few

  pub load_current_owner : m.place ≡ LoadCurrent → payload_of found < S.callers
  load_current_owner q = rw (found_at LoadCurrent q) h.good.core.shared.counted.owner_in

  pub load_current_upto : m.place ≡ LoadCurrent → seq_of found ≤ S.limit
  load_current_upto q = rw (found_at LoadCurrent q) h.good.core.shared.counted.limit

  pub rounds_few : m.place ≡ LoadCurrent → m.rounds ≤ 2
  rounds_few q = (place_at LoadCurrent q).between.few

  -- the operation has words
  helper_words : MayHelp S h.start h.world.words h.world.batches h.caller m → 1 ≤ length m.op
  helper_words (inl r) = r.begun.some
  helper_words (inr t) = t.fresh.some

  mode_words : (b : Bool) → b ≡ true → AppliesAs S h.start h.world.words h.world.batches h.caller m b → 1 ≤ length m.op
  mode_words true e p = helper_words p.helper
  mode_words false e p = absurd (let z : ◌≡◌ {A = Bool} false true = e in cc)

  pub request_words : m.place ≡ TryRequest → 1 ≤ length m.op
  request_words q = (place_at TryRequest q).trying.fresh.some

  pub cell_words : (a : ℕ) → m.place ≡ TryCell a → 1 ≤ length m.op
  cell_words a q = (place_at (TryCell a) q).trying.fresh.some

  -- a try's operation only reads
  pub request_reads : m.place ≡ TryRequest → S.meaning.reads_only m.op ≡ true
  request_reads q = (place_at TryRequest q).trying.reads

  pub cell_reads : (a : ℕ) → m.place ≡ TryCell a → S.meaning.reads_only m.op ≡ true
  cell_reads a q = (place_at (TryCell a) q).trying.reads

  pub look_words : m.place ≡ LookAgain → 1 ≤ length m.op
  look_words q = helper_words (place_at LookAgain q).copies.helping.helper

  pub closed_words : m.place ≡ RaiseClosed → m.helps ≡ true → 1 ≤ length m.op
  closed_words q e = mode_words m.helps e (place_at RaiseClosed q).applies.mode

  -- the log that is helped with
  pub copy_count : (x : ℕ) → m.place ≡ CopyLog x → get_or (with_log_word_copied m found) 0 0 ≤ most_entries S
  copy_count x q = rw (found_at (CopyLog x) q) (copied_count h.good.core h.in_range m x (place_at (CopyLog x) q).copies)

  -- the log that is stored has room
  pub store_few : m.place ≡ RaiseOld → length m.log ≤ most_entries S
  store_few q = (place_at RaiseOld q).scan.over.is_log.few

  pub look_log : m.place ≡ LookAgain → found ≡ pack m.seq 0 → (es : List (ℕ × ℕ)) × (m.copy ≡ log_words es) × IsLog S es
  look_log q e =
      let f = found_at LookAgain q in
      let a = place_at LookAgain q in
      let b = a.copies.copied (sym f ∙ e) in
      let es : List (ℕ × ℕ) = (batch_at h.start h.world.batches m.seq).log in
      let whole : length m.copy ≡ length (log_words es) = a.whole (sym f ∙ e) in
      (es, b.1 ∙ take_all (length m.copy) (log_words es) (omega (arith, whole)), h.good.core.shared.counted.logs m.seq a.copies.after a.copies.helping.current_word.upto)

  -- what is known behind a load in a try agrees with its state
  pub try_agrees : (x : ℕ) → m.place ≡ TryCell x → seq_of found ≤ m.seq → (xs : List ℕ) × (length xs ≡ S.cells) × Lawful xs × Agrees (with_cell_known S m x found) xs
  try_agrees x q l =
      let f : found ≡ data_word S h.world.words x = found_at (TryCell x) q in
      let a = place_at (TryCell x) q in
      let fresh : seq_of (data_word S h.world.words x) ≤ m.seq = rw (← f) l in
      rw f (try_state h.good.core h.in_range m.seq m.owner (with_cell_known S m x (data_word S h.world.words x)) a.current_word (watch_more h.good.core h.in_range m.seq m.owner m a.current_word a.state x a.in_cells fresh))

  -- the announcement of the caller that the scan has come to
  pub announced_small : m.place ≡ LoadAnnouncement → payload_of found ≤ S.instrs
  announced_small q = rw (found_at LoadAnnouncement q) (h.good.core.shared.heard.small m.scan (place_at LoadAnnouncement q).in_range)

  pub announced_some : m.place ≡ LoadAnnouncement → 0 < seq_of found → 1 ≤ payload_of found
  announced_some q = rw (found_at LoadAnnouncement q) (h.good.core.shared.heard.some m.scan (place_at LoadAnnouncement q).in_range)

  pub heard_small : m.place ≡ LoadTicket → payload_of m.heard ≤ S.instrs
  heard_small q = (place_at LoadTicket q).heard.small

  pub heard_some : m.place ≡ LoadTicket → 0 < seq_of m.heard → 1 ≤ payload_of m.heard
  heard_some q = (place_at LoadTicket q).heard.some

  -- no call that was run is that caller's, so nothing lies over its ticket cell
  value_absent : (es : List (ℕ × ℕ)) (a : ℕ) → ((j : ℕ) → j < length es → (get_or es j (0, 0)).0 ≡ a → ⊥) → value_for es a ≡ None
  value_absent [] a n = refl
  value_absent (e ∷ es) a n =
      let z : (e.0 == a) ≡ false = let ne : e.0 ≡ a → ⊥ = n 0 (omega arith) in grind (arith, nat_tests) in
      rw z (value_absent es a (λ j l q. n (suc j) (omega arith) q))

  pub ticket_unnamed : m.place ≡ LoadAnnouncement → value_for m.log (ticket_cell S m.scan) ≡ None
  ticket_unnamed q = value_absent m.log (ticket_cell S m.scan) none
    where
      o : IsInScan S h.start h.world.words h.world.batches h.caller m
      o = (place_at LoadAnnouncement q).scan

      none : (j : ℕ) → j < length m.log → (get_or m.log j (0, 0)).0 ≡ ticket_cell S m.scan → ⊥
      none j l e =
          let low : (get_or m.log j (0, 0)).0 < first_operation_cell S = omega (arith, e, row_within m.scan S.callers (S.instrs + 2) (place_at LoadAnnouncement q).in_range) in
          let r = o.over.rows j l low in
          let c : ℕ = (get_or m.calls r.0 no_call).caller in
          let under : c < m.scan = o.below r.0 no_call r.1 in
          omega (arith, e, r.2.1, row_within c m.scan (S.instrs + 2) under)

  -- a script of which a word is loaded
  pub script_many : (j : ℕ) → m.place ≡ LoadScript j → length m.script ≡ j
  script_many j q = (place_at (LoadScript j) q).loaded.many

  pub script_some : (a : ℕ) → m.place ≡ LoadCell a → 1 ≤ length m.script
  script_some a q =
      let p = place_at (LoadCell a) q in
      let new : 0 < seq_of m.heard = omega (arith, p.loaded.new) in
      omega (arith, p.loaded.many, p.heard.some new)

  pub script_agrees : IsSoundMeaning S.meaning Lawful (first_operation_cell S) S.cells → (j : ℕ) → m.place ≡ LoadScript j → (xs : List ℕ) × (length xs ≡ S.cells) × Lawful xs × Agrees (overlaid m.known m.log) xs
  script_agrees sound j q = let a = place_at (LoadScript j) q in scan_state h.good.core h.in_range sound m a.scanning.past a.scanning.scan

  pub cell_agrees : IsSoundMeaning S.meaning Lawful (first_operation_cell S) S.cells → (x : ℕ) → m.place ≡ LoadCell x → seq_of found ≤ m.seq → (xs : List ℕ) × (length xs ≡ S.cells) × Lawful xs × Agrees (overlaid (with_cell_known S m x found) m.log) xs
  cell_agrees sound x q l =
      let f : found ≡ data_word S h.world.words x = found_at (LoadCell x) q in
      let a = place_at (LoadCell x) q in
      let fresh : seq_of (data_word S h.world.words x) ≤ m.seq = rw (← f) l in
      rw f (scan_state h.good.core h.in_range sound (record m { known = with_cell_known S m x (data_word S h.world.words x) }) (learn_past h.good.core h.in_range m a.scanning.past x a.in_cells fresh) a.scanning.scan)
