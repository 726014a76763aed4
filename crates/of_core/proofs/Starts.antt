-- The words of a table at its start, place by place.
use Rattle.std.proofs.Common.{◌≡◌, ℕ, zero, suc, ◌+◌, ◌*◌, ◌-◌, ◌<◌, ◌≤◌, ◌⊎◌, inl, inr, List, [], ◌∷◌, ◌++◌, length, get_or, set, replicate, refl, sym, ◌∙◌, ap, arith, length-append, length-set, take, map}
use Rattle.std.proofs.lemmas.Bool.{cases_eq}
use Rattle.std.proofs.lemmas.List.{length-replicate, get_or_append_left, get_or-append_right, get_or-set_same, get_or-set_other, set-get_or, replicate-append-replicate, length-map, ext_get_or, append_assoc, take_all}
use Rattle.of_cell.specs.Words.{pack, seq_of, payload_of}
use Rattle.of_cell.specs.declared.word.TheConstants.{PAYLOADS}
use Rattle.of_cell.specs.Cells.{log_room, data_cell, durable_cells}
use Rattle.of_cell.proofs.Order.{seq_word, pay_word, seq_zero, pay_zero, word_eta}
use Rattle.of_mem.specs.Meaning.{IsSoundMeaning}
use Rattle.of_mem.proofs.Lists.{zero_at, part_at, part_long}
use Rattle.of_core.specs.Table.{Setup, first_operation_cell, cell_count, durable_at, ticket_cell}
use Rattle.of_core.specs.TableMoment.{TableStart}
use Rattle.of_core.specs.WordsMatch.{IsStart, MayStart}
use Rattle.of_core.specs.Events.{zero_start, start_ticket}
use Rattle.of_core.specs.Laws.{HoldsStart}
use Rattle.of_core.specs.Starts.{closed_request, first_cells, first_words, start_from_durable}

-- the closed request has its sequence, and is above the open one
pub closed_seq : (s : ℕ) → seq_of (closed_request s) ≡ s
closed_seq zero = seq_zero
closed_seq (suc s) = seq_word (suc s) 1 (omega arith)

pub closed_above : (s : ℕ) → 0 < s → pack s 0 < closed_request s
unfolding pack
closed_above zero l = absurd (omega arith)
closed_above (suc s) l = omega arith

module _ (S : Setup) (B : TableStart) (start : IsStart S B) where
  abbrev requests : List ℕ
  requests = set (replicate S.callers 0) B.owner (closed_request B.seq)

  abbrev logs : List ℕ
  logs = replicate (S.callers * (2 * log_room S.callers S.cells + 1)) 0

  requests_long : length (pack B.seq B.owner ∷ requests) ≡ S.callers + 1
  requests_long = omega (arith, length-set (replicate S.callers 0) B.owner (closed_request B.seq), length-replicate {A = ℕ} S.callers 0)

  pub cells_long : length (first_cells S.callers S.cells B) ≡ cell_count S
  unfolding first_cells
  cells_long =
      omega (arith, length-append (pack B.seq B.owner ∷ requests) (B.cells ++ logs), length-append B.cells logs, length-replicate {A = ℕ} (S.callers * (2 * log_room S.callers S.cells + 1)) 0, requests_long, start.size)

  pub first_is : get_or (first_cells S.callers S.cells B) 0 0 ≡ pack B.seq B.owner
  unfolding first_cells
  first_is = refl

  pub request_is : (i : ℕ) → i < S.callers → get_or (first_cells S.callers S.cells B) (i + 1) 0 ≡ get_or requests i 0
  unfolding first_cells
  request_is i l = get_or_append_left (pack B.seq B.owner ∷ requests) (B.cells ++ logs) 0 (i + 1) (omega (arith, requests_long)) ∙ ap (λ (k : ℕ). get_or (pack B.seq B.owner ∷ requests) k 0) (let e : i + 1 ≡ suc i = omega arith in e)

  -- the owner's is closed, and no other is stored
  pub owner_is : get_or (first_cells S.callers S.cells B) (B.owner + 1) 0 ≡ closed_request B.seq
  owner_is = request_is B.owner start.owner_in ∙ get_or-set_same (replicate S.callers 0) B.owner (closed_request B.seq) 0 (omega (arith, length-replicate {A = ℕ} S.callers 0, start.owner_in))

  pub request_old : (i : ℕ) → i < S.callers → seq_of (get_or (first_cells S.callers S.cells B) (i + 1) 0) ≤ B.seq
  request_old i l = go (cases_eq i B.owner)
    where
      go : (i ≡ B.owner) ⊎ (i ≡ B.owner → ⊥) → seq_of (get_or (first_cells S.callers S.cells B) (i + 1) 0) ≤ B.seq
      go (inl e) = rw (e, owner_is) (omega (arith, closed_seq B.seq))
      go (inr n) = let z : get_or (first_cells S.callers S.cells B) (i + 1) 0 ≡ 0 = request_is i l ∙ get_or-set_other (replicate S.callers 0) B.owner i (closed_request B.seq) 0 n ∙ zero_at S.callers i in rw (z, seq_zero) (omega arith)

  pub cell_is : (a : ℕ) → a < S.cells → get_or (first_cells S.callers S.cells B) (S.callers + 1 + a) 0 ≡ get_or B.cells a 0
  unfolding first_cells
  cell_is a l =
      get_or-append_right (pack B.seq B.owner ∷ requests) (B.cells ++ logs) (S.callers + 1) (S.callers + 1 + a) 0 requests_long (omega arith)
      ∙ ap (λ (k : ℕ). get_or (B.cells ++ logs) k 0) (let e : S.callers + 1 + a - (S.callers + 1) ≡ a = omega arith in e)
      ∙ get_or_append_left B.cells logs 0 a (omega (arith, start.size))

  pub log_is : (c : ℕ) → S.callers + 1 + S.cells ≤ c → get_or (first_cells S.callers S.cells B) c 0 ≡ 0
  unfolding first_cells
  log_is c l =
      get_or-append_right (pack B.seq B.owner ∷ requests) (B.cells ++ logs) (S.callers + 1) c 0 requests_long (omega arith)
      ∙ get_or-append_right B.cells logs S.cells (c - (S.callers + 1)) 0 start.size (omega arith)
      ∙ zero_at (S.callers * (2 * log_room S.callers S.cells + 1)) (c - (S.callers + 1) - S.cells)

  module _ (total : ℕ) where
    abbrev rest : List ℕ
    rest = replicate (total - (cell_count S + cell_count S)) 0

    pub word_is : (c : ℕ) → c < cell_count S → get_or (first_words S.callers S.cells B total) c 0 ≡ get_or (first_cells S.callers S.cells B) c 0
    unfolding first_words
    word_is c l = get_or_append_left (first_cells S.callers S.cells B) (first_cells S.callers S.cells B ++ rest) 0 c (omega (arith, cells_long))

    pub durable_is : (c : ℕ) → c < cell_count S → get_or (first_words S.callers S.cells B total) (durable_at S c) 0 ≡ get_or (first_cells S.callers S.cells B) c 0
    unfolding first_words
    durable_is c l =
        get_or-append_right (first_cells S.callers S.cells B) (first_cells S.callers S.cells B ++ rest) (cell_count S) (durable_at S c) 0 cells_long (omega arith)
        ∙ ap (λ (k : ℕ). get_or (first_cells S.callers S.cells B ++ rest) k 0) (let e : durable_at S c - cell_count S ≡ c = omega arith in e)
        ∙ get_or_append_left (first_cells S.callers S.cells B) rest 0 c (omega (arith, cells_long))

    pub behind_is : (c : ℕ) → cell_count S + cell_count S ≤ c → get_or (first_words S.callers S.cells B total) c 0 ≡ 0
    unfolding first_words
    behind_is c l =
        get_or-append_right (first_cells S.callers S.cells B) (first_cells S.callers S.cells B ++ rest) (cell_count S) c 0 cells_long (omega arith)
        ∙ get_or-append_right (first_cells S.callers S.cells B) rest (cell_count S) (c - cell_count S) 0 cells_long (omega arith)
        ∙ zero_at (total - (cell_count S + cell_count S)) (c - cell_count S - cell_count S)

    pub words_long : cell_count S + cell_count S ≤ total → length (first_words S.callers S.cells B total) ≡ total
    unfolding first_words
    words_long l = omega (arith, length-append (first_cells S.callers S.cells B) (first_cells S.callers S.cells B ++ rest), length-append (first_cells S.callers S.cells B) rest, length-replicate {A = ℕ} (total - (cell_count S + cell_count S)) 0, cells_long)

-- the words hold the start
pub words_hold : (S : Setup) (B : TableStart) → IsStart S B → (n : ℕ) → cell_count S + cell_count S ≤ n → HoldsStart S B (first_words S.callers S.cells B n) n
words_hold S B start n room = record {
  long = words_long S B start n room;
  current = word_is S B start n 0 (omega arith) ∙ first_is S B start;
  cells = λ a l. word_is S B start n (S.callers + 1 + a) (omega arith) ∙ cell_is S B start a l;
  durable = λ c l. durable_is S B start n c l ∙ sym (word_is S B start n c l);
  behind = behind_is S B start n;
}

-- the start of zeros is a start, and its words are 0
module _ (S : Setup) where
  pub zeros_start : (Lawful : List ℕ → Type 0) → IsSoundMeaning S.meaning Lawful (first_operation_cell S) S.cells → 0 < S.callers → MayStart S Lawful (zero_start S)
  zeros_start Lawful sound some = record {
    start = record { owner_in = some; size = length-replicate S.cells 0; old = λ a. rw (zero_at S.cells a, seq_zero) (omega arith) };
    lawful = sound.zeros (map payload_of (replicate S.cells 0)) (length-map (replicate S.cells 0) payload_of ∙ length-replicate S.cells 0) (number_zero (replicate S.cells 0) (zero_at S.cells));
    limit = omega arith;
  }
    where
      number_zero : (ws : List ℕ) → ((x : ℕ) → get_or ws x 0 ≡ 0) → (x : ℕ) → get_or (map payload_of ws) x 0 ≡ 0
      number_zero [] h x = refl
      number_zero (v ∷ ws) h zero = ap payload_of (h 0) ∙ pay_zero
      number_zero (v ∷ ws) h (suc x) = number_zero ws (λ y. h (suc y)) x

  zero_cells : first_cells S.callers S.cells (zero_start S) ≡ replicate (cell_count S) 0
  unfolding first_cells pack
  zero_cells =
      let none : set {A = ℕ} (replicate S.callers 0) 0 0 ≡ replicate S.callers 0 = ap (set (replicate S.callers 0) 0) (sym (zero_at S.callers 0)) ∙ set-get_or (replicate S.callers 0) 0 0 in
      ap (λ (xs : List ℕ). (0 ∷ xs) ++ (replicate S.cells 0 ++ replicate (S.callers * (2 * log_room S.callers S.cells + 1)) 0)) none
      ∙ ap (λ (xs : List ℕ). replicate (suc S.callers) 0 ++ xs) (replicate-append-replicate S.cells (S.callers * (2 * log_room S.callers S.cells + 1)) 0)
      ∙ replicate-append-replicate (suc S.callers) (S.cells + S.callers * (2 * log_room S.callers S.cells + 1)) 0
      ∙ ap (λ (n : ℕ). replicate n 0) (let e : suc S.callers + (S.cells + S.callers * (2 * log_room S.callers S.cells + 1)) ≡ cell_count S = omega arith in e)

  pub zero_words : (n : ℕ) → cell_count S + cell_count S ≤ n → first_words S.callers S.cells (zero_start S) n ≡ replicate n 0
  unfolding first_words
  zero_words n l =
      ap (λ (xs : List ℕ). xs ++ (xs ++ replicate (n - (cell_count S + cell_count S)) 0)) zero_cells
      ∙ ap (λ (xs : List ℕ). replicate (cell_count S) 0 ++ xs) (replicate-append-replicate (cell_count S) (n - (cell_count S + cell_count S)) 0)
      ∙ replicate-append-replicate (cell_count S) (cell_count S + (n - (cell_count S + cell_count S))) 0
      ∙ ap (λ (m : ℕ). replicate m 0) (let e : cell_count S + (cell_count S + (n - (cell_count S + cell_count S))) ≡ n = omega arith in e)

  -- and no call stands behind it
  pub zero_ticket : (i : ℕ) → start_ticket S (zero_start S) i ≡ 0
  zero_ticket i = ap payload_of (zero_at S.cells (ticket_cell S i)) ∙ pay_zero

module _ (callers cells : ℕ) (row : List ℕ) where
  pub data_long : length row ≡ durable_cells callers cells → length (start_from_durable callers cells row).cells ≡ cells
  data_long long = part_long row (data_cell callers 0) cells (omega (arith, long))

  pub data_is : (a : ℕ) → a < cells → get_or (start_from_durable callers cells row).cells a 0 ≡ get_or row (data_cell callers a) 0
  data_is a l = part_at row (data_cell callers 0) cells a l ∙ ap (λ (k : ℕ). get_or row k 0) (let e : data_cell callers 0 + a ≡ data_cell callers a = omega arith in e)

  -- current-transaction word and requests, written into zeros
  pub heads_are : (owner : ℕ) → owner ≡ (start_from_durable callers cells row).owner
      → set (set (replicate (callers + 1) 0) 0 (get_or row 0 0)) (owner + 1) (closed_request (start_from_durable callers cells row).seq)
      ≡ pack (start_from_durable callers cells row).seq (start_from_durable callers cells row).owner ∷ set (replicate callers 0) (start_from_durable callers cells row).owner (closed_request (start_from_durable callers cells row).seq)
  heads_are owner e =
      let n : callers + 1 ≡ suc callers = omega arith in
      let o : owner + 1 ≡ suc (start_from_durable callers cells row).owner = omega (arith, e) in
      rw (n, o) (ap (λ (w : ℕ). w ∷ set (replicate callers 0) (start_from_durable callers cells row).owner (closed_request (start_from_durable callers cells row).seq)) (sym (word_eta (get_or row 0 0))))

  abbrev heads : List ℕ
  heads = pack (start_from_durable callers cells row).seq (start_from_durable callers cells row).owner ∷ set (replicate callers 0) (start_from_durable callers cells row).owner (closed_request (start_from_durable callers cells row).seq)

  -- what is filled up with zeros are the cells
  pub cells_filled : length row ≡ durable_cells callers cells → (items : List ℕ) (n len : ℕ) → items ≡ heads ++ (start_from_durable callers cells row).cells → len ≡ length items → n ≡ durable_cells callers cells
      → take n items ++ replicate (n - len) 0 ≡ first_cells callers cells (start_from_durable callers cells row)
  unfolding first_cells
  cells_filled long items n len e l m =
      let h : length heads ≡ callers + 1 = omega (arith, length-set (replicate callers 0) (start_from_durable callers cells row).owner (closed_request (start_from_durable callers cells row).seq), length-replicate {A = ℕ} callers 0) in
      let k : length items ≡ callers + 1 + cells = ap length e ∙ length-append heads (start_from_durable callers cells row).cells ∙ omega (arith, h, data_long long) in
      let all : take n items ≡ items = take_all n items (omega (arith, k, m)) in
      let rest : n - len ≡ callers * (2 * log_room callers cells + 1) = omega (arith, k, l, m) in
      rw (all, rest, e) (append_assoc heads (start_from_durable callers cells row).cells (replicate (callers * (2 * log_room callers cells + 1)) 0))

  pub cells_count : length row ≡ durable_cells callers cells → (xs : List ℕ) → xs ≡ first_cells callers cells (start_from_durable callers cells row) → length xs ≡ durable_cells callers cells
  unfolding first_cells
  cells_count long xs e =
      let h : length heads ≡ callers + 1 = omega (arith, length-set (replicate callers 0) (start_from_durable callers cells row).owner (closed_request (start_from_durable callers cells row).seq), length-replicate {A = ℕ} callers 0) in
      ap length e ∙ length-append heads ((start_from_durable callers cells row).cells ++ replicate (callers * (2 * log_room callers cells + 1)) 0) ∙ omega (arith, h, length-append (start_from_durable callers cells row).cells (replicate (callers * (2 * log_room callers cells + 1)) 0), data_long long, length-replicate {A = ℕ} (callers * (2 * log_room callers cells + 1)) 0)

-- the cells twice, filled up with zeros, are the words
pub words_filled : (callers cells : ℕ) (B : TableStart) (xs ws : List ℕ) (n len : ℕ) → xs ≡ first_cells callers cells B → length xs ≡ durable_cells callers cells → ws ≡ xs ++ xs → len ≡ length ws → durable_cells callers cells + durable_cells callers cells ≤ n
    → take n ws ++ replicate (n - len) 0 ≡ first_words callers cells B n
unfolding first_words
words_filled callers cells B xs ws n len e k w l m =
    let long : length ws ≡ durable_cells callers cells + durable_cells callers cells = ap length w ∙ length-append xs xs ∙ omega (arith, k) in
    let all : take n ws ≡ ws = take_all n ws (omega (arith, long, m)) in
    let rest : n - len ≡ n - (durable_cells callers cells + durable_cells callers cells) = omega (arith, long, l) in
    rw (all, rest, w, ← e) (append_assoc xs xs (replicate (n - (durable_cells callers cells + durable_cells callers cells)) 0))

-- the words at a start tell it
pub start_back : (S : Setup) (B : TableStart) → IsStart S B → S.callers < PAYLOADS → (total : ℕ) → cell_count S + cell_count S ≤ total → start_from_durable S.callers S.cells (first_words S.callers S.cells B total) ≡ B
start_back S B start few total l =
    let ws : List ℕ = first_words S.callers S.cells B total in
    let head : get_or ws 0 0 ≡ pack B.seq B.owner = word_is S B start total 0 (omega arith) ∙ first_is S B start in
    let owner : B.owner < PAYLOADS = omega (arith, start.owner_in) in
    let s : seq_of (get_or ws 0 0) ≡ B.seq = ap seq_of head ∙ seq_word B.seq B.owner owner in
    let o : payload_of (get_or ws 0 0) ≡ B.owner = ap payload_of head ∙ pay_word B.seq B.owner owner in
    let long : length (start_from_durable S.callers S.cells ws).cells ≡ S.cells = part_long ws (data_cell S.callers 0) S.cells (omega (arith, words_long S B start total l)) in
    let each : (a : ℕ) → a < S.cells → get_or (start_from_durable S.callers S.cells ws).cells a 0 ≡ get_or B.cells a 0 =
    λ a m. data_is S.callers S.cells ws a m ∙ word_is S B start total (data_cell S.callers a) (omega (arith, m)) ∙ cell_is S B start a m in
    let cells : (start_from_durable S.callers S.cells ws).cells ≡ B.cells = ext_get_or 0 (start_from_durable S.callers S.cells ws).cells B.cells (long ∙ sym start.size) (λ a m. each a (omega (arith, m, long))) in
    rw (s, o, cells) refl

-- and a table whose words are zeros starts at zeros
pub zeros_back : (S : Setup) (Lawful : List ℕ → Type 0) → IsSoundMeaning S.meaning Lawful (first_operation_cell S) S.cells → 0 < S.callers → S.callers < PAYLOADS → (ws : List ℕ) (total : ℕ) → cell_count S + cell_count S ≤ total → ws ≡ replicate total 0 → start_from_durable S.callers S.cells ws ≡ zero_start S
zeros_back S Lawful sound some few ws total l words =
    ap (start_from_durable S.callers S.cells) (words ∙ sym (zero_words S total l)) ∙ start_back S (zero_start S) (zeros_start S Lawful sound some).start few total l
