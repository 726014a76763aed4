-- A lawful row that is moved to the layout of longer scripts has the words of the same meaning, and is lawful with the same store.
use Rattle.std.proofs.Common.{◌≡◌, ℕ, ◌+◌, ◌-◌, ◌*◌, ◌/◌, ◌%◌, ◌^◌, ◌<◌, ◌≤◌, ◌⊎◌, inl, inr, true, false, nat_lt, nat_le, Option, Some, None, List, [], ◌∷◌, ◌++◌, length, get_or, map, Ok, Err, Global, refl, sym, ap, subst, ◌∙◌, arith}
use Rattle.std.specs.List.{range_with_len}
use Rattle.std.proofs.lemmas.Bool.{cases_lt}
use Rattle.std.proofs.lemmas.Bool.Decides.{nat_tests}
use Rattle.std.proofs.Math.Nat.{div-lt_iff_lt-mul}
use Rattle.std.proofs.lemmas.Nat.{mul-add-lt, div-mul-add, mod-mul-add}
use Rattle.std.proofs.lemmas.List.{get_or_past}
use Rattle.std.proofs.lemmas.List.FromFn.{length-map-range_with_len, get_or-map-range_with_len}
use Rattle.of_cell.specs.Words.{seq_of, payload_of}
use Rattle.of_cell.specs.Cells.{request_cell, data_cell, durable_cells}
use Rattle.of_cell.proofs.Order.{seq_zero, pay_zero}
use Rattle.of_mem.specs.declared.work.RawReply.{RawReply}
use Rattle.of_mem.specs.Places.{buckets_behind, base_of, ticket_cell_at, shape_at, reply_at}
use Rattle.of_mem.specs.ProgramWork.{memory_of}
use Rattle.of_script.specs.declared.instr.TheConstants.{MOST_INSTRS}
use Rattle.of_plan.proofs.Lists.{map-same}
use Rattle.of_recover.specs.Row.{is_open}
use Rattle.of_recover.proofs.Rows.{left_alone}
use Rattle.of_recover.proofs.Kept.{closed_after}
use Rattle.of_eval.specs.Shapes.{IsHeldBy}
use Rattle.of_eval.specs.Stored.{cell_store}
use Rattle.of_eval.specs.Lawful.{reply_number, reply_in, OwnCellsAreSound, DataCellsStandFor}
use Rattle.of_report.specs.ImageRow.{DurableRow, IsRow, data_cell_count_for, data_numbers_in}
use Rattle.of_report.specs.Image.{Image, IsImage, IsRestored}
use Rattle.of_image.specs.Parsed.{ReadsImage, ImageIsRefused}
use Rattle.of_report.specs.ImageRow.{recovered_row}
use Rattle.std.specs.Prelude.{Result, IfOk, IfErr, MatchResult}
use Rattle.std.specs.declared.vec.Vec.{Vec}
use Rattle.std.proofs.lemmas.List.{map-append}
use Rattle.of_image.specs.declared.error.ImageErr.{ImageErr}
use Rattle.of_image.specs.declared.error.ImageErr.TheVariants.{Memory, Bad, Unlawful}
use Rattle.of_image.specs.declared.version.Version.TheVariants.{One, Two}
use Rattle.of_image.specs.Grammar.{plan_grammar}
use Rattle.of_image.specs.ImageText.{image_text}
use Rattle.of_report.proofs.Lines.{range_push}
use Rattle.of_image.proofs.ImageFacts.{read_is_image, one_image, unlawful_excludes}
use Rattle.of_image.proofs.PrintedImages.{printed_again}
use Rattle.of_image.specs.MovedRow.{earlier_address, word_from, moved_word, moved_words, moved_row, moved_image, HasMoved, Migrates}
use Rattle.of_image.proofs.Shifted.{stands_shifted}

-- ---- each cell

module _ (few many callers blocks : ℕ) (words : List ℕ) (le : few ≤ many) where
  abbrev vs : List ℕ
  vs = moved_words few many callers blocks words

  abbrev old : ℕ → ℕ
  old c = get_or words c 0

  abbrev size : ℕ
  size = durable_cells callers (data_cell_count_for many callers blocks)

  pub long : length (moved_words few many callers blocks words) ≡ durable_cells callers (data_cell_count_for many callers blocks)
  unfolding moved_words
  long = length-map-range_with_len (moved_word few many callers blocks old) 0 size

  moved_at : (c : ℕ) → c < size → get_or vs c 0 ≡ moved_word few many callers blocks old c
  unfolding moved_words
  moved_at c l = get_or-map-range_with_len (moved_word few many callers blocks old) 0 size c c 0 l (omega arith)

  front_at : (c : ℕ) → c ≤ callers → get_or vs c 0 ≡ get_or words c 0
  front_at c l = moved_at c (omega (arith, l)) ∙ (let e : nat_le c callers ≡ true = grind (arith, nat_tests) in rw e refl)

  -- a data cell has the word of its source
  data_at : (a : ℕ) → a < data_cell_count_for many callers blocks → get_or vs (data_cell callers a) 0 ≡ word_from callers old (earlier_address few many callers a)
  data_at a l =
      let one : nat_le (data_cell callers a) callers ≡ false = grind (arith, nat_tests) in
      let two : nat_lt (data_cell callers a) (data_cell callers (data_cell_count_for many callers blocks)) ≡ true = grind (arith, nat_tests) in
      let here : data_cell callers a - (callers + 1) ≡ a = omega arith in
      moved_at (data_cell callers a) (omega (arith, l)) ∙ rw (one, two, here) refl

  logs_at : (c : ℕ) → data_cell callers (data_cell_count_for many callers blocks) ≤ c → get_or vs c 0 ≡ 0
  logs_at c l = elim (cases_lt c size) [
    | inl k ↦ (let one : nat_le c callers ≡ false = grind (arith, nat_tests) in
        let two : nat_lt c (data_cell callers (data_cell_count_for many callers blocks)) ≡ false = grind (arith, nat_tests) in
        moved_at c k ∙ rw (one, two) refl)
    | inr k ↦ get_or_past vs c 0 (omega (arith, k, long))
  ]

  -- a caller's own cell
  own_below : (c x : ℕ) → c < callers → x < many + 2 → c * (many + 2) + x < callers * (many + 2)
  own_below c x l k = omega (arith, mul-add-lt c (many + 2) x callers l k)

  parts : (c x : ℕ) → x < many + 2 → ((c * (many + 2) + x) / (many + 2) ≡ c) × ((c * (many + 2) + x) % (many + 2) ≡ x)
  parts c x k = (div-mul-add c (many + 2) x k, mod-mul-add c (many + 2) x k)

  own_source : (c x : ℕ) → c < callers → x < few + 2 → earlier_address few many callers (c * (many + 2) + x) ≡ Some (c * (few + 2) + x)
  own_source c x l k =
      let p = parts c x (omega arith) in
      let one : nat_lt (c * (many + 2) + x) (callers * (many + 2)) ≡ true = (let b = own_below c x l (omega arith) in grind (arith, nat_tests)) in
      let two : nat_lt x (few + 2) ≡ true = grind (arith, nat_tests) in
      rw (one, p.0, p.1, two) refl

  own_none : (c x : ℕ) → c < callers → few + 2 ≤ x → x < many + 2 → earlier_address few many callers (c * (many + 2) + x) ≡ None
  own_none c x l low k =
      let p = parts c x k in
      let one : nat_lt (c * (many + 2) + x) (callers * (many + 2)) ≡ true = (let b = own_below c x l k in grind (arith, nat_tests)) in
      let two : nat_lt x (few + 2) ≡ false = grind (arith, nat_tests) in
      rw (one, p.1, two) refl

  own_at : (c x : ℕ) → c < callers → x < few + 2 → get_or vs (data_cell callers (c * (many + 2) + x)) 0 ≡ get_or words (data_cell callers (c * (few + 2) + x)) 0
  own_at c x l k = data_at (c * (many + 2) + x) (omega (arith, own_below c x l (omega arith))) ∙ ap (word_from callers old) (own_source c x l k)

  rest_at : (c x : ℕ) → c < callers → few + 2 ≤ x → x < many + 2 → get_or vs (data_cell callers (c * (many + 2) + x)) 0 ≡ 0
  rest_at c x l low k = data_at (c * (many + 2) + x) (omega (arith, own_below c x l k)) ∙ ap (word_from callers old) (own_none c x l low k)

  -- a cell of the store
  store_at : (k : ℕ) → k < 63 + 3 * blocks + buckets_behind blocks → get_or vs (data_cell callers (base_of callers many + k)) 0 ≡ get_or words (data_cell callers (base_of callers few + k)) 0
  store_at k l =
      let one : nat_lt (base_of callers many + k) (base_of callers many) ≡ false = grind (arith, nat_tests) in
      let here : base_of callers many + k - base_of callers many ≡ k = omega arith in
      data_at (base_of callers many + k) (omega (arith, l)) ∙ rw (one, here) refl

pub has_moved : (few many : ℕ) (r : DurableRow) → few ≤ many → HasMoved few many r (moved_row few many r)
has_moved few many r le =
    let N = r.callers in
    let B = r.blocks in
    let ws = r.words in
    record {
      callers = refl;
      blocks = refl;
      current = front_at few many N B ws le 0 (omega arith);
      requests = λ c l. front_at few many N B ws le (request_cell c) (omega (arith, l));
      tickets = λ c l. (let e : ticket_cell_at many c ≡ c * (many + 2) + 0 = omega arith in let f : c * (few + 2) + 0 ≡ ticket_cell_at few c = omega arith in ap (λ (x : ℕ). get_or (moved_words few many N B ws) (data_cell N x) 0) e ∙ own_at few many N B ws le c 0 l (omega arith) ∙ ap (λ (x : ℕ). get_or ws (data_cell N x) 0) f);
      shapes = λ c l. own_at few many N B ws le c 1 l (omega arith);
      replies = λ c j l k. (let e : reply_at many c j ≡ c * (many + 2) + (2 + j) = omega arith in let f : c * (few + 2) + (2 + j) ≡ reply_at few c j = omega arith in ap (λ (x : ℕ). get_or (moved_words few many N B ws) (data_cell N x) 0) e ∙ own_at few many N B ws le c (2 + j) l (omega arith) ∙ ap (λ (x : ℕ). get_or ws (data_cell N x) 0) f);
      no_more = λ c j l low k. (let e : reply_at many c j ≡ c * (many + 2) + (2 + j) = omega arith in ap (λ (x : ℕ). get_or (moved_words few many N B ws) (data_cell N x) 0) e ∙ rest_at few many N B ws le c (2 + j) l (omega arith) (omega arith));
      store = λ k l. store_at few many N B ws le k (omega (arith, l));
      logs = λ c l. logs_at few many N B ws le c l;
    }

-- ---- the moved row is lawful

caller_below : (callers many a : ℕ) → a < base_of callers many → a / (many + 2) < callers
caller_below callers many a l = (div-lt_iff_lt-mul {k = many + 2} {x = a} {y = callers} (omega arith)).1 l

-- a caller's own cell of the old row
pub own_source_below : (few many callers a : ℕ) → a < base_of callers many → a % (many + 2) < few + 2 → a / (many + 2) * (few + 2) + a % (many + 2) < base_of callers few
own_source_below few many callers a l k = omega (arith, mul-add-lt (a / (many + 2)) (few + 2) (a % (many + 2)) callers (caller_below callers many a l) k)

-- a data cell of the old row, or no word
source_in : (few many callers blocks a : ℕ) → few ≤ many → a < data_cell_count_for many callers blocks → (earlier_address few many callers a ≡ None) ⊎ ((b : ℕ) × (earlier_address few many callers a ≡ Some b) × (b < data_cell_count_for few callers blocks))
source_in few many callers blocks a le l = elim (cases_lt a (base_of callers many)) [
  | inl k ↦ (let one : nat_lt a (base_of callers many) ≡ true = grind (arith, nat_tests) in
      let caller : a / (many + 2) < callers = caller_below callers many a k in
      elim (cases_lt (a % (many + 2)) (few + 2)) [
        | inl j ↦ (let two : nat_lt (a % (many + 2)) (few + 2) ≡ true = grind (arith, nat_tests) in
            inr (a / (many + 2) * (few + 2) + a % (many + 2), rw (one, two) refl, omega (arith, mul-add-lt (a / (many + 2)) (few + 2) (a % (many + 2)) callers caller j)))
        | inr j ↦ (let two : nat_lt (a % (many + 2)) (few + 2) ≡ false = grind (arith, nat_tests) in inl (rw (one, two) refl))
      ])
  | inr k ↦ (let one : nat_lt a (base_of callers many) ≡ false = grind (arith, nat_tests) in
      inr (base_of callers few + (a - base_of callers many), rw one refl, omega (arith, l, k)))
]

module _ (few many : ℕ) (i : Image) (h : IsImage few i) (le : few ≤ many) (low : many ≤ 16) where
  abbrev r : DurableRow
  r = i.row

  abbrev N : ℕ
  N = r.callers

  abbrev now : List ℕ
  now = moved_words few many N r.blocks r.words

  abbrev M : ℕ
  M = data_cell_count_for many N r.blocks

  has : HasMoved few many r (moved_row few many r)
  has = has_moved few many r le

  -- each word of the moved row is one of the row, or 0
  from_old : (P : ℕ → Type 0) → P 0 → ((c : ℕ) → P (get_or r.words c 0)) → (c : ℕ) → P (get_or now c 0)
  from_old P none each c = elim (cases_lt N c) [
    | inr k ↦ subst P (sym (front_at few many N r.blocks r.words le c k)) (each c)
    | inl k ↦ elim (cases_lt c (data_cell N M)) [
      | inr j ↦ subst P (sym (logs_at few many N r.blocks r.words le c j)) none
      | inl j ↦ (let here : data_cell N (c - (N + 1)) ≡ c = omega arith in
          subst (λ (x : ℕ). P (get_or now x 0)) here (subst P (sym (data_at few many N r.blocks r.words le (c - (N + 1)) (omega arith))) (go (earlier_address few many N (c - (N + 1))))))
    ]
  ]
    where
      go : (o : Option ℕ) → P (word_from N (λ x. get_or r.words x 0) o)
      go None = none
      go (Some b) = each (data_cell N b)

  pub moved_is_row : IsRow many (moved_row few many i.row)
  moved_is_row = record {
    some_callers = h.row.some_callers;
    few_callers = h.row.few_callers;
    few_blocks = h.row.few_blocks;
    size = long few many N r.blocks r.words le;
    words = from_old (λ (w : ℕ). w < 2 ^ 64) (omega arith) h.row.words;
  }

  -- no data cell is newer
  none_newer : (a : ℕ) → a < M → seq_of (get_or now (data_cell N a) 0) ≤ seq_of (get_or now 0 0)
  none_newer a l = elim (source_in few many N r.blocks a le l) [
    | inl none ↦ (let e : get_or now (data_cell N a) 0 ≡ 0 = data_at few many N r.blocks r.words le a l ∙ ap (word_from N (λ x. get_or r.words x 0)) none in let z = ap seq_of e ∙ seq_zero in omega (arith, z))
    | inr some ↦ (let e : get_or now (data_cell N a) 0 ≡ get_or r.words (data_cell N some.0) 0 = data_at few many N r.blocks r.words le a l ∙ ap (word_from N (λ x. get_or r.words x 0)) some.1 in
        let z = ap seq_of e in let y = ap seq_of has.current in omega (arith, z, y, h.lawful.none_newer some.0 some.2))
  ]

  -- no transaction is open
  moved_closed : is_open N (λ c. get_or now c 0) ≡ false
  moved_closed =
      let old_closed : is_open N (λ c. get_or r.words c 0) ≡ false = subst (λ (q : DurableRow). is_open N (λ c. get_or q.words c 0) ≡ false) h.settled (closed_after N (data_cell_count_for few N r.blocks) r.words h.row.size) in
      rw (has.current, has.requests (payload_of (get_or r.words 0 0)) h.lawful.owned) old_closed

  pub moved_settled : recovered_row many (moved_row few many i.row) ≡ moved_row few many i.row
  moved_settled = let e = sym (left_alone N M now (long few many N r.blocks r.words le) moved_closed) in λ j. record (moved_row few many r) { words = e j }

  -- the numbers of the data cells, before and after
  abbrev m : ℕ → ℕ
  m = memory_of (data_numbers_in few r)

  abbrev n : ℕ → ℕ
  n = memory_of (data_numbers_in many (moved_row few many r))

  m_at : (a : ℕ) → a < data_cell_count_for few N r.blocks → m a ≡ payload_of (get_or r.words (data_cell N a) 0)
  m_at a l = get_or-map-range_with_len (λ x. payload_of (get_or r.words (data_cell N x) 0)) 0 (data_cell_count_for few N r.blocks) a a 0 l (omega arith)

  n_at : (a : ℕ) → a < M → n a ≡ payload_of (get_or now (data_cell N a) 0)
  n_at a l = get_or-map-range_with_len (λ x. payload_of (get_or now (data_cell N x) 0)) 0 M a a 0 l (omega arith)

  own_low : (c x k : ℕ) → c < N → x < k + 2 → c * (k + 2) + x < base_of N k
  own_low c x k l j = omega (arith, mul-add-lt c (k + 2) x N l j)

  ticket_same : (c : ℕ) → c < N → n (ticket_cell_at many c) ≡ m (ticket_cell_at few c)
  ticket_same c l = n_at (ticket_cell_at many c) (omega (arith, own_low c 0 many l (omega arith))) ∙ ap payload_of (has.tickets c l) ∙ sym (m_at (ticket_cell_at few c) (omega (arith, own_low c 0 few l (omega arith))))

  shape_same : (c : ℕ) → c < N → n (shape_at many c) ≡ m (shape_at few c)
  shape_same c l = n_at (shape_at many c) (omega (arith, own_low c 1 many l (omega arith))) ∙ ap payload_of (has.shapes c l) ∙ sym (m_at (shape_at few c) (omega (arith, own_low c 1 few l (omega arith))))

  number_same : (c : ℕ) → c < N → (j : ℕ) → reply_number many n c j ≡ reply_number few m c j
  number_same c l j = elim (cases_lt j few) [
    | inl k ↦ (let one : nat_lt j many ≡ true = grind (arith, nat_tests) in let two : nat_lt j few ≡ true = grind (arith, nat_tests) in
        rw (one, two) (n_at (reply_at many c j) (omega (arith, own_low c (2 + j) many l (omega arith))) ∙ ap payload_of (has.replies c j l k) ∙ sym (m_at (reply_at few c j) (omega (arith, own_low c (2 + j) few l (omega arith))))))
    | inr k ↦ (let two : nat_lt j few ≡ false = grind (arith, nat_tests) in
        elim (cases_lt j many) [
          | inl i' ↦ (let one : nat_lt j many ≡ true = grind (arith, nat_tests) in
              rw (one, two) (n_at (reply_at many c j) (omega (arith, own_low c (2 + j) many l (omega arith))) ∙ ap payload_of (has.no_more c j l k i') ∙ pay_zero))
          | inr i' ↦ (let one : nat_lt j many ≡ false = grind (arith, nat_tests) in rw (one, two) refl)
        ])
  ]

  reply_same : (c : ℕ) → c < N → reply_in many n c ≡ reply_in few m c
  reply_same c l = λ x. record { shape = shape_same c l x; values = map-same (reply_number many n c) (reply_number few m c) (range_with_len 0 MOST_INSTRS) (number_same c l) x }

  own_moved : (c : ℕ) → c < N → OwnCellsAreSound few m c → OwnCellsAreSound many n c
  own_moved c l k = record {
    none = λ e. shape_same c l ∙ k.none (sym (ticket_same c l) ∙ e);
    some = λ e. (let s = k.some (λ z. e (ticket_same c l ∙ z)) in record { reply = s.reply; held = subst (λ (t : RawReply). IsHeldBy t s.reply) (sym (reply_same c l)) s.held; few = omega (arith, s.few) });
  }

  stored_same : (k : ℕ) → k < 63 + 3 * r.blocks + buckets_behind r.blocks → n (base_of N many + k) ≡ m (base_of N few + k)
  stored_same k l = n_at (base_of N many + k) (omega (arith, l)) ∙ ap payload_of (has.store k (omega (arith, l))) ∙ sym (m_at (base_of N few + k) (omega (arith, l)))

  pub moved_stands : DataCellsStandFor N many r.blocks n i.store
  moved_stands = record {
    own = λ c l. own_moved c l (h.lawful.stands.own c l);
    stored = record { state = h.lawful.stands.stored.state; stands = stands_shifted (base_of N few) (base_of N many) r.blocks m n stored_same (cell_store i.store) h.lawful.stands.stored.stands };
  }

  pub moved_restored : IsRestored many (moved_row few many i.row) (moved_image few many i)
  moved_restored = record {
    row = sym moved_settled;
    seq = h.seq ∙ ap seq_of (sym has.current);
    replayed = sym moved_closed;
    lawful = record { owned = (let e = ap payload_of has.current in omega (arith, e, h.lawful.owned)); none_newer = none_newer; stands = moved_stands };
  }

-- ---- what is migrated

pub moved_pushed : (few many callers blocks n : ℕ) (words items : List ℕ) → items ≡ map (moved_word few many callers blocks (λ c. get_or words c 0)) (range_with_len 0 n)
    → items ++ moved_word few many callers blocks (λ c. get_or words c 0) n ∷ [] ≡ map (moved_word few many callers blocks (λ c. get_or words c 0)) (range_with_len 0 (n + 1))
moved_pushed few many callers blocks n words items e =
    let f = moved_word few many callers blocks (λ c. get_or words c 0) in
    ap (λ (l : List ℕ). l ++ f n ∷ []) e ∙ sym (map-append f (range_with_len 0 n) (n ∷ [])) ∙ ap (map f) (sym (range_push 0 n n (omega arith)))

pub moved_whole : (few many callers blocks n : ℕ) (words items : List ℕ) → n ≡ durable_cells callers (data_cell_count_for many callers blocks) → items ≡ map (moved_word few many callers blocks (λ c. get_or words c 0)) (range_with_len 0 n) → items ≡ moved_words few many callers blocks words
unfolding moved_words
moved_whole few many callers blocks n words items e is = is ∙ ap (λ (k : ℕ). map (moved_word few many callers blocks (λ c. get_or words c 0)) (range_with_len 0 k)) e

-- the text of the moved row of a version 1 image
pub migrates : (before after : List ℕ) (i : Image) → ReadsImage One before i → after ≡ image_text Two (moved_row 8 MOST_INSTRS i.row) → Migrates before after
migrates before after i read is =
    let h = read_is_image (plan_grammar One) before i read in
    record {
      image = i;
      read = read;
      text = is;
      moved = has_moved 8 MOST_INSTRS i.row (omega arith);
      again = subst (λ (t : List ℕ). ReadsImage Two t (moved_image 8 MOST_INSTRS i)) (sym is) (record {
        raw = moved_row 8 MOST_INSTRS i.row;
        spelled = printed_again (plan_grammar Two) (moved_row 8 MOST_INSTRS i.row) (moved_is_row 8 MOST_INSTRS i h (omega arith) (omega arith));
        restored = moved_restored 8 MOST_INSTRS i h (omega arith) (omega arith);
      });
    }

-- a text with an image is answered by its moved row
pub only_migrated : (before : List ℕ) (r : Result (Vec ℕ Global) ImageErr) → IfOk r (λ v. Migrates before v.items) → IfErr r (ImageIsRefused One before) → (image : Image) → ReadsImage One before image
    → MatchResult r (λ v. v.items ≡ image_text Two (moved_row 8 MOST_INSTRS image.row)) (λ e. e ≡ Memory)
only_migrated before (Ok v) ok err image h = ok.text ∙ ap (λ (i : Image). image_text Two (moved_row 8 MOST_INSTRS i.row)) (one_image (plan_grammar One) before ok.image image ok.read h)
only_migrated before (Err Memory) ok err image h = refl
only_migrated before (Err (Bad line)) ok err image h = absurd (err.none (h.raw, h.spelled))
only_migrated before (Err (Unlawful cell)) ok err image h = absurd (unlawful_excludes (plan_grammar One) before cell image err h)
