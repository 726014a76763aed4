-- What loads one after the other show of a table at rest: the last reply of a number, at the last of these loads.
use Rattle.std.proofs.Common.{◌≡◌, ℕ, ◌+◌, ◌<◌, ◌≤◌, ◌⊎◌, inl, inr, List, length, get_or, set, sym, ◌∙◌, ap, subst, arith}
use Rattle.std.proofs.lemmas.Bool.{cases_eq, cases_lt}
use Rattle.std.proofs.lemmas.List.{get_or-set_same, get_or-set_other}
use Rattle.std.specs.Prelude.{slice_range}
use mathlib.Core.List.{IsPrefix}
use Rattle.of_cell.specs.Words.{pack, seq_of, payload_of}
use Rattle.of_mem.proofs.Lists.{prefix_trans, part_at, part_long}
use Rattle.of_mem.specs.declared.work.RawReply.{RawReply}
use Rattle.of_mem.specs.declared.work.TheConstants.{MOST_INSTRS}
use Rattle.of_core.specs.Table.{Setup, cell_count, current_word, request_of, durable_word, data_word, committed_seq, committed_owner, ticket_cell, shape_cell, reply_cell}
use Rattle.of_core.specs.TableMoment.{TableStart}
use Rattle.of_core.specs.Claim.{IsSound}
use Rattle.of_row.specs.Views.{View}
use Rattle.of_row.specs.Trail.{moment}
use Rattle.of_row.specs.RowLaws.{RowLaws}
use Rattle.of_row.specs.Revivals.{HasOwnPast, LearnsWord}
use Rattle.of_row.specs.Replacing.{HasLearnt}
use Rattle.of_row.specs.Looking.{IsAtRest, AreOwnCells, FindsLast, WasNotStill, IsShownAtRest, StayedAtRest, AreFirstNumbers}
use Rattle.of_row.proofs.Pasts.{prefix_self}
use Rattle.of_row.proofs.RowLaws.{room_of}
use Rattle.of_row.proofs.Replacing.{learn_first, learn_more}
use Rattle.of_row.proofs.Resting.{Rises, good_after, rises, rest_on, cell_stays, recovers_so}

-- it was not still within a time, and so not within a longer one
pub busy_longer : (S : Setup) (B : TableStart) (v w x y : View) → IsPrefix x.past v.past → IsPrefix w.past y.past → WasNotStill S B v w → WasNotStill S B x y
busy_longer S B v w x y before behind b = (b.0, b.1, prefix_trans x.past v.past b.0 before b.2, b.3, prefix_trans b.1 w.past y.past b.4 behind, b.5)

module _ (S : Setup) (L : List ℕ → Type 0) (B : TableStart) (laws : RowLaws S L) where
  abbrev ws : View → List ℕ
  ws v = (moment S B v.past).words

  -- the word that a load of the table has found
  pub word_of : (c d n : ℕ) (v w : View) → LearnsWord S L B c v n w → c ≡ d → n ≡ get_or (ws w) d 0
  word_of c d n v w l at = l.word ∙ ap (λ (k : ℕ). get_or (ws w) k 0) at

  sound_at : (v : View) → HasOwnPast S L B v → IsSound S B (moment S B v.past)
  sound_at v own = laws.sound B (moment S B v.past) (good_after S L laws B own.from v.past own.schedule)

  -- the owner of the durable sequence is a caller
  pub durable_owner : (v : View) (n : ℕ) → HasOwnPast S L B v → n ≡ durable_word S (ws v) 0 → payload_of n < S.callers
  durable_owner v n own is = let o = (sound_at v own).owner in omega (arith, o, ap payload_of is)

  rise : (v w : View) → HasLearnt S L B v w → Rises S (ws v) (ws w)
  rise v w l = rises S L laws B l.own.from v.past w.past l.own.schedule l.past

  -- the current-transaction word is the same in between
  level : (v w u : View) → HasLearnt S L B v w → HasLearnt S L B w u → current_word (ws u) ≡ current_word (ws v) → current_word (ws w) ≡ current_word (ws v)
  level v w u a b same = let up = (rise v w a).cells 0 (omega arith) in let on = (rise w u b).cells 0 (omega arith) in omega (arith, up, on, same)

  -- a table that is at rest, and in which nothing is committed, keeps its data cells
  stays : (v w u : View) → HasLearnt S L B v w → HasLearnt S L B w u → StayedAtRest S B v u → (a : ℕ) → a < S.cells → data_word S (ws u) a ≡ data_word S (ws w) a
  stays v w u a b rest c low =
      let same : current_word (ws w) ≡ current_word (ws v) = level v w u a b rest.1 in
      cell_stays S L laws B b.own.from w.past u.past b.own.schedule b.past (rest.1 ∙ sym same) (rest_on S L laws B a.own.from v.past w.past a.own.schedule a.past same rest.0) c low

  -- ---- whether a table is at rest

  pub shown_at_rest : (v w u : View) → HasLearnt S L B v w → HasLearnt S L B w u → durable_word S (ws w) 0 ≡ current_word (ws v)
      → (committed_seq (ws v) ≡ 0) ⊎ (pack (committed_seq (ws v)) 0 < request_of (ws u) (committed_owner (ws v))) → IsShownAtRest S B v u
  shown_at_rest v w u a b durable closed same = record {
    closed = subst (λ (k : ℕ). (seq_of k ≡ 0) ⊎ (pack (seq_of k) 0 < request_of (ws u) (payload_of k))) (sym same) closed;
    durable =
        let d = (rise w u b).durs 0 (omega arith) in
        let low = (sound_at u b.own).low 0 (omega arith) in
        omega (arith, d, low, durable, same);
  }

  -- one was committed, or the table is not at rest at the second time
  busy_at : (v w : View) → HasLearnt S L B v w → (current_word (ws w) ≡ current_word (ws v) → IsAtRest S (ws w) → ⊥) → WasNotStill S B v w
  busy_at v w l none = go (cases_eq (current_word (ws w)) (current_word (ws v)))
    where
      go : (current_word (ws w) ≡ current_word (ws v)) ⊎ (current_word (ws w) ≡ current_word (ws v) → ⊥) → WasNotStill S B v w
      go (inl e) = (v.past, w.past, prefix_self v.past, l.past, prefix_self w.past, inl (none e))
      go (inr ne) = (v.past, w.past, prefix_self v.past, l.past, prefix_self w.past, inr (λ q. ne (sym q)))

  pub not_durable : (v w : View) → HasLearnt S L B v w → (durable_word S (ws w) 0 ≡ current_word (ws v) → ⊥) → WasNotStill S B v w
  not_durable v w l ne = busy_at v w l (λ e rest. ne (rest.durable ∙ e))

  pub not_closed : (v w : View) → HasLearnt S L B v w → (committed_seq (ws v) ≡ 0 → ⊥) → request_of (ws w) (committed_owner (ws v)) ≤ pack (committed_seq (ws v)) 0 → WasNotStill S B v w
  not_closed v w l some high = busy_at v w l (λ e rest. go (subst (λ (k : ℕ). (seq_of k ≡ 0) ⊎ (pack (seq_of k) 0 < request_of (ws w) (payload_of k))) e rest.closed))
    where
      go : (committed_seq (ws v) ≡ 0) ⊎ (pack (committed_seq (ws v)) 0 < request_of (ws w) (committed_owner (ws v))) → ⊥
      go (inl none) = some none
      go (inr past) = omega (arith, past, high)

  pub moved_on : (x v w : View) → IsPrefix x.past v.past → HasLearnt S L B v w → (n k : ℕ) → n ≡ current_word (ws v) → k ≡ current_word (ws w) → (k ≡ n → ⊥) → WasNotStill S B x w
  moved_on x v w before l n k is was ne = (v.past, w.past, before, l.past, prefix_self w.past, inr (λ q. ne (was ∙ (sym q ∙ sym is))))

  -- ---- a caller's own cells

  module _ (i : ℕ) where
    -- one number more
    pub numbers_more : (v w u : View) (n word : ℕ) (xs : List ℕ) → HasLearnt S L B v w → HasLearnt S L B w u → n < length xs → reply_cell S i n < S.cells
        → (StayedAtRest S B v w → AreFirstNumbers S (ws w) i n xs) → word ≡ data_word S (ws u) (reply_cell S i n)
        → StayedAtRest S B v u → AreFirstNumbers S (ws u) i (n + 1) (set xs n (payload_of word))
    numbers_more v w u n word xs a b long inside first is rest y l = go (cases_lt y n)
      where
        so_far : AreFirstNumbers S (ws w) i n xs
        so_far = first (rest.0, level v w u a b rest.1)

        go : (y < n) ⊎ (n ≤ y) → get_or (set xs n (payload_of word)) y 0 ≡ payload_of (data_word S (ws u) (reply_cell S i y))
        go (inl low) = get_or-set_other xs n y (payload_of word) 0 (λ e. omega (arith, low, e)) ∙ (so_far y low ∙ ap payload_of (sym (stays v w u a b rest (reply_cell S i y) (omega (arith, inside, low)))))
        go (inr high) =
            let last : y ≡ n = omega (arith, l, high) in
            ap (λ (k : ℕ). get_or (set xs n (payload_of word)) k 0) last ∙ (get_or-set_same xs n (payload_of word) 0 long ∙ (ap payload_of is ∙ ap (λ (k : ℕ). payload_of (data_word S (ws u) (reply_cell S i k))) (sym last)))

    -- the ticket, the shape and the numbers, which were loaded one after the other
    pub own_found : (v a b w : View) (ticket shape : ℕ) (xs : List ℕ) → HasLearnt S L B v a → HasLearnt S L B a b → HasLearnt S L B b w → shape_cell S i < S.cells
        → ticket ≡ data_word S (ws a) (ticket_cell S i) → shape ≡ data_word S (ws b) (shape_cell S i) → length xs ≡ MOST_INSTRS
        → (StayedAtRest S B b w → AreFirstNumbers S (ws w) i MOST_INSTRS xs)
        → StayedAtRest S B v w → AreOwnCells S (ws w) i (payload_of ticket) (record { shape = payload_of shape; values = xs })
    own_found v a b w ticket shape xs va ab bw inside ticket_is shape_is long numbers rest = record {
      ticket_is = ap payload_of (ticket_is ∙ sym (stays v a w va (learn_more S L B a b w ab bw) rest (ticket_cell S i) (omega (arith, inside))));
      shape = ap payload_of (shape_is ∙ sym (stays v b w vb bw rest (shape_cell S i) inside));
      long = long;
      numbers = numbers (rest_on S L laws B vb.own.from v.past b.past vb.own.schedule vb.past same rest.0, rest.1 ∙ sym same);
    }
      where
        vb : HasLearnt S L B v b
        vb = learn_more S L B v a b va ab

        same : current_word (ws b) ≡ current_word (ws v)
        same = level v b w vb bw rest.1

    -- all loads: of the current-transaction word, of what shows that the table is at rest, of the own cells, and of the
    -- current-transaction word again
    pub last_found : (v w x u : View) (n k ticket : ℕ) (raw : RawReply) → HasLearnt S L B v w → HasLearnt S L B w x → (l : LearnsWord S L B 0 x k u) → reply_cell S i MOST_INSTRS ≤ S.cells → 1 ≤ S.cells
        → n ≡ current_word (ws v) → k ≡ n → IsShownAtRest S B v w → (StayedAtRest S B w x → AreOwnCells S (ws x) i ticket raw)
        → FindsLast S L B u i ticket raw
    last_found v w x u n k ticket raw vw wx l inside some is same shown own = record {
      state = l.state;
      rule = l.rule;
      now = l.now;
      words = slice_range l.state.words (cell_count S) (cell_count S + cell_count S);
      durable = record {
        long = part_long l.state.words (cell_count S) (cell_count S) (omega (arith, room_of S L laws B l.state l.rule));
        each = λ c low. part_at l.state.words (cell_count S) (cell_count S) c low;
      };
      rest = rest_u;
      cells = record {
        ticket_is = cells_x.ticket_is ∙ ap payload_of (sym (still (ticket_cell S i) (omega (arith, inside))));
        shape = cells_x.shape ∙ ap payload_of (sym (still (shape_cell S i) (omega (arith, inside))));
        long = cells_x.long;
        numbers = λ y low. cells_x.numbers y low ∙ ap payload_of (sym (still (reply_cell S i y) (omega (arith, inside, low))));
      };
      recovers = recovers_so S B (moment S B u.past) (sound_at u l.own) rest_u;
    }
      where
        xu : HasLearnt S L B x u
        xu = learn_first S L B 0 k x u l

        vu : current_word (ws u) ≡ current_word (ws v)
        vu = sym l.word ∙ (same ∙ is)

        vx : HasLearnt S L B v x
        vx = learn_more S L B v w x vw wx

        wu : HasLearnt S L B w u
        wu = learn_more S L B w x u wx xu

        level_w : current_word (ws w) ≡ current_word (ws v)
        level_w = level v w u vw wu vu

        level_x : current_word (ws x) ≡ current_word (ws v)
        level_x = level v x u vx xu vu

        rest_w : IsAtRest S (ws w)
        rest_w = shown level_w

        cells_x : AreOwnCells S (ws x) i ticket raw
        cells_x = own (rest_w, level_x ∙ sym level_w)

        rest_u : IsAtRest S (ws u)
        rest_u = rest_on S L laws B wu.own.from w.past u.past wu.own.schedule wu.past (vu ∙ sym level_w) rest_w

        still : (a : ℕ) → a < S.cells → data_word S (ws u) a ≡ data_word S (ws x) a
        still = stays w x u wx xu (rest_w, vu ∙ sym level_w)
