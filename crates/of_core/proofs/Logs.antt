-- The log of a call: what its walk writes, and then its own cells.
use Rattle.std.proofs.Common.{◌≡◌, ℕ, zero, suc, ◌+◌, ◌-◌, ◌*◌, ◌<◌, ◌≤◌, ◌⊎◌, inl, inr, List, [], ◌∷◌, ◌++◌, length, get_or, set, take, drop, refl, sym, ◌∙◌, ap, arith, length-append, map, Bool, true, false, nat_lt, if◌then◌else◌, eqb, ◌≢◌}
use Rattle.std.specs.List.{All, AllPairs, Any, list_any}
use Rattle.std.proofs.lemmas.Map.Steps.{length-le_from_distinct_below}
use Rattle.std.proofs.lemmas.Map.Made.{IsDistinct-from_AllPairs}
use Rattle.std.proofs.lemmas.List.Folds.{Any-from_list_any}
use Rattle.std.proofs.lemmas.Bool.Decides.{Decides-eqb, nat_tests}
use Rattle.std.proofs.lemmas.Bool.{cases_lt}
use Rattle.std.proofs.lemmas.List.Elements.{All-append, All-tail}
use Rattle.std.proofs.lemmas.List.{get_or_append_left, get_or-append_right, get_or-drop, length-drop, drop-set-lt, map-set, get_or-take, length-take, length-map, get_or-map}
use Rattle.of_cell.specs.declared.word.TheConstants.{PAYLOADS}
use Rattle.of_cell.specs.Words.{pack, payload_of}
use Rattle.of_cell.proofs.Order.{pay_word}
use Rattle.of_cell.proofs.Places.{row_within}
use Rattle.of_mem.specs.declared.work.RawReply.{RawReply}
use Rattle.of_mem.specs.Meaning.{HasDistinctCells, with_writes_in, IsFinishedWalk}
use Rattle.of_mem.specs.declared.work.TheConstants.{LEAST_ABORT, FEW_DATA_CELLS}
use Rattle.of_cell.specs.declared.shape.TheConstants.{LOG_SHARE}
use Rattle.of_cell.proofs.Rooms.{room_share}
use Rattle.of_core.specs.Table.{Setup, most_entries, first_operation_cell, ticket_cell}
use Rattle.of_core.specs.Machine.{cells_from, own_cells, flat_entries, log_words, entries_going_round}
use Rattle.of_core.specs.History.{with_log_applied}
use Rattle.of_core.specs.WordsMatch.{IsEntry}
use Rattle.of_core.specs.Transaction.{IsReorderingOf}

pub written_append : (xs : List ℕ) (es ds : List (ℕ × ℕ)) → with_writes_in xs (es ++ ds) ≡ with_writes_in (with_writes_in xs es) ds
written_append xs [] ds = refl
written_append xs (e ∷ es) ds = written_append (set xs e.0 e.1) es ds

pub drop_written : (n : ℕ) (xs : List ℕ) (es : List (ℕ × ℕ)) → All (λ (e : ℕ × ℕ). e.0 < n) es → drop n (with_writes_in xs es) ≡ drop n xs
drop_written n xs [] h = refl
drop_written n xs (e ∷ es) h = drop_written n (set xs e.0 e.1) es (All-tail (λ (e : ℕ × ℕ). e.0 < n) e es h) ∙ drop-set-lt n xs e.0 e.1 (h 0 (0, 0) (omega arith))

pub pay_changed : (k : ℕ) (ws : List ℕ) (es : List (ℕ × ℕ)) → All (λ (e : ℕ × ℕ). e.1 < PAYLOADS) es → map payload_of (with_log_applied k ws es) ≡ with_writes_in (map payload_of ws) es
pay_changed k ws [] h = refl
pay_changed k ws (e ∷ es) h =
    pay_changed k (set ws e.0 (pack k e.1)) es (All-tail (λ (e : ℕ × ℕ). e.1 < PAYLOADS) e es h)
    ∙ ap (λ (xs : List ℕ). with_writes_in xs es) (map-set payload_of ws e.0 (pack k e.1) ∙ ap (λ (v : ℕ). set (map payload_of ws) e.0 v) (pay_word k e.1 (h 0 (0, 0) (omega arith))))

pub once_append : (xs ys : List (ℕ × ℕ)) → HasDistinctCells xs → HasDistinctCells ys → ((j k : ℕ) → j < length xs → k < length ys → (get_or xs j (0, 0)).0 ≡ (get_or ys k (0, 0)).0 → ⊥) → HasDistinctCells (xs ++ ys)
once_append xs ys ox oy away = λ j k lj lk q. go j k (rw length-append at lj) (rw length-append at lk) q (cases_lt j (length xs)) (cases_lt k (length xs))
  where
    left : (j : ℕ) → j < length xs → get_or (xs ++ ys) j (0, 0) ≡ get_or xs j (0, 0)
    left j l = get_or_append_left xs ys (0, 0) j l

    right : (j : ℕ) → length xs ≤ j → get_or (xs ++ ys) j (0, 0) ≡ get_or ys (j - length xs) (0, 0)
    right j l = get_or-append_right xs ys (length xs) j (0, 0) refl l

    go : (j k : ℕ) → j < length xs + length ys → k < length xs + length ys → (get_or (xs ++ ys) j (0, 0)).0 ≡ (get_or (xs ++ ys) k (0, 0)).0
        → (j < length xs) ⊎ (length xs ≤ j) → (k < length xs) ⊎ (length xs ≤ k) → j ≡ k
    go j k lj lk q (inl a) (inl b) = ox j k a b (rw (left j a, left k b) at q)
    go j k lj lk q (inl a) (inr b) = absurd (away j (k - length xs) a (omega arith) (rw (left j a, right k b) at q))
    go j k lj lk q (inr a) (inl b) = absurd (away k (j - length xs) b (omega arith) (sym (rw (right j a, left k b) at q)))
    go j k lj lk q (inr a) (inr b) = let e : j - length xs ≡ k - length xs = oy (j - length xs) (k - length xs) (omega arith) (omega arith) (rw (right j a, right k b) at q) in omega arith

pub length-listed : (a : ℕ) (vs : List ℕ) → length (cells_from a vs) ≡ length vs
length-listed a [] = refl
length-listed a (v ∷ vs) = ap suc (length-listed (a + 1) vs)

pub listed_at : (a : ℕ) (vs : List ℕ) (j : ℕ) (d : ℕ × ℕ) → j < length vs → get_or (cells_from a vs) j d ≡ (a + j, get_or vs j 0)
listed_at a [] j d l = absurd (omega arith)
listed_at a (v ∷ vs) zero d l = ap (λ (x : ℕ). (x, v)) (omega arith)
listed_at a (v ∷ vs) (suc j) d l = listed_at (a + 1) vs j d (omega arith) ∙ ap (λ (x : ℕ). (x, get_or vs j 0)) (omega arith)

-- the cells low, low + 1 .. low + size - 1
abbrev pub InOwn : ℕ → ℕ → ℕ × ℕ → Type 0
InOwn low size e = (low ≤ e.0) × (e.0 < low + size) × (e.1 < PAYLOADS)

pub record IsOwn (low size : ℕ) (es : List (ℕ × ℕ)) : Type 0 where
  pub inside : All (InOwn low size) es
  pub once : HasDistinctCells es
  pub few : length es ≤ size

two_own : (low size shape ticket : ℕ) → 2 ≤ size → shape < PAYLOADS → ticket < PAYLOADS → IsOwn low size ((low + 1, shape) ∷ (low, ticket) ∷ [])
two_own low size shape ticket h a b = record { inside = inside_of; once = once_of; few = h }
  where
    inside_of : All (InOwn low size) ((low + 1, shape) ∷ (low, ticket) ∷ [])
    inside_of zero d l = (omega arith, omega arith, a)
    inside_of (suc zero) d l = (omega arith, omega arith, b)
    inside_of (suc (suc k)) d l = absurd (omega arith)

    once_of : HasDistinctCells ((low + 1, shape) ∷ (low, ticket) ∷ [])
    once_of zero zero l m q = refl
    once_of zero (suc zero) l m q = absurd (omega arith)
    once_of (suc zero) zero l m q = absurd (omega arith)
    once_of (suc zero) (suc zero) l m q = refl
    once_of (suc (suc j)) k l m q = absurd (omega arith)
    once_of zero (suc (suc k)) l m q = absurd (omega arith)
    once_of (suc zero) (suc (suc k)) l m q = absurd (omega arith)

pub own_is : (low count size ticket : ℕ) (r : RawReply) → count + 2 ≤ size → r.shape < PAYLOADS → ticket < PAYLOADS → All (λ (v : ℕ). v < PAYLOADS) r.values → (b : Bool)
    → IsOwn low size ((if b then cells_from (low + 2) (take count r.values) else []) ++ (low + 1, r.shape) ∷ (low, ticket) ∷ [])
own_is low count size ticket r h a b vs false = two_own low size r.shape ticket (omega arith) a b
own_is low count size ticket r h a b vs true = record {
  inside = All-append (InOwn low size) (cells_from (low + 2) ts) two listed_in t.inside;
  once = once_append (cells_from (low + 2) ts) two listed_once t.once apart;
  few = rw length-append (omega (arith, length-listed (low + 2) ts, few));
}
  where
    ts : List ℕ
    ts = take count r.values

    two : List (ℕ × ℕ)
    two = (low + 1, r.shape) ∷ (low, ticket) ∷ []

    t : IsOwn low size two
    t = two_own low size r.shape ticket (omega arith) a b

    few : length ts ≤ count
    few = rw length-take (omega arith)

    listed_in : All (InOwn low size) (cells_from (low + 2) ts)
    listed_in k d l =
        let m : k < length ts = rw length-listed at l in
        let v : get_or ts k 0 < PAYLOADS = rw (get_or-take count r.values k 0 (omega (arith, few))) (vs k 0 (omega (arith, (let z : length ts ≤ length r.values = rw length-take (omega arith) in z)))) in
        rw (listed_at (low + 2) ts k d m) (omega arith, omega (arith, few), v)

    listed_once : HasDistinctCells (cells_from (low + 2) ts)
    listed_once j k l m q =
        let x : j < length ts = rw length-listed at l in
        let y : k < length ts = rw length-listed at m in
        let e : low + 2 + j ≡ low + 2 + k = rw (listed_at (low + 2) ts j (0, 0) x, listed_at (low + 2) ts k (0, 0) y) at q in
        omega arith

    apart : (j k : ℕ) → j < length (cells_from (low + 2) ts) → k < length two → (get_or (cells_from (low + 2) ts) j (0, 0)).0 ≡ (get_or two k (0, 0)).0 → ⊥
    apart j zero l m q = let x : j < length ts = rw length-listed at l in let e : low + 2 + j ≡ low + 1 = rw (listed_at (low + 2) ts j (0, 0) x) at q in omega arith
    apart j (suc zero) l m q = let x : j < length ts = rw length-listed at l in let e : low + 2 + j ≡ low = rw (listed_at (low + 2) ts j (0, 0) x) at q in omega arith
    apart j (suc (suc k)) l m q = omega arith

-- a log has no more entries than there are cells
pub once_few : (S : Setup) (es : List (ℕ × ℕ)) → All (IsEntry S) es → HasDistinctCells es → length es ≤ S.cells
once_few S es h o =
    rw (← length-map es (λ (e : ℕ × ℕ). e.0))
    (length-le_from_distinct_below xs S.cells (IsDistinct-from_AllPairs Decides-eqb xs apart) below)
  where
    xs : List ℕ
    xs = map (λ (e : ℕ × ℕ). e.0) es

    at_x : (k d : ℕ) → k < length es → get_or xs k d ≡ (get_or es k (0, 0)).0
    at_x k d l = get_or-map (λ (e : ℕ × ℕ). e.0) es k (0, 0) d l

    size : length xs ≡ length es
    size = length-map es (λ (e : ℕ × ℕ). e.0)

    apart : AllPairs (λ x y. x ≢ y) xs
    apart j k d l m q =
        let mk : k < length es = omega (arith, size) in
        let e : j ≡ k = o j k (omega arith) mk (sym (at_x j d (omega arith)) ∙ q ∙ at_x k d mk) in
        omega arith

    below : (q : ℕ) → list_any (eqb q) xs ≡ true → q < S.cells
    below q e =
        let f : Any (λ (x : ℕ). eqb q x ≡ true) xs = Any-from_list_any (eqb q) xs e in
        let mk : f.0 < length es = omega (arith, size, f.2) in
        let same : q ≡ f.1 = grind (arith, nat_tests, f.4) in
        let here : (get_or es f.0 (0, 0)).0 ≡ f.1 = sym (at_x f.0 f.1 mk) ∙ f.3 in
        omega (arith, (h f.0 (0, 0) mk).0)

-- entries of a log but for its room: each cell once
pub record AreWrites (S : Setup) (es : List (ℕ × ℕ)) : Type 0 where
  pub entries : All (IsEntry S) es
  pub once : HasDistinctCells es

-- a log has room for them in a small table, or if they are within the callers' shares
pub once_within : (S : Setup) (es : List (ℕ × ℕ)) → AreWrites S es → (S.cells ≤ FEW_DATA_CELLS) ⊎ (length es ≤ S.callers * LOG_SHARE) → length es ≤ most_entries S
once_within S es a short = go (room_share S.callers S.cells) short
  where
    all : length es ≤ S.cells
    all = once_few S es a.entries a.once

    go : (most_entries S ≡ S.cells) ⊎ (4096 + S.callers * 256 ≤ most_entries S) → (S.cells ≤ FEW_DATA_CELLS) ⊎ (length es ≤ S.callers * LOG_SHARE) → length es ≤ most_entries S
    go (inl e) k = omega (arith, all, e)
    go (inr e) (inl k) = omega (arith, all, e, k)
    go (inr e) (inr k) = omega (arith, e, k)

-- the walk's writes and the caller's own cells, each once
pub whole_log : (S : Setup) (i ticket count : ℕ) (xs op : List ℕ) (es : List (ℕ × ℕ)) (r : RawReply) → i < S.callers → count ≤ S.instrs → ticket < PAYLOADS → first_operation_cell S ≤ S.cells
    → IsFinishedWalk S.meaning (first_operation_cell S) S.cells xs op es r → AreWrites S (es ++ own_cells (ticket_cell S i) ticket count r)
whole_log S i ticket count xs op es r h c t b f = record {
  entries = entries_all;
  once = once_all;
}
  where
    own : List (ℕ × ℕ)
    own = own_cells (ticket_cell S i) ticket count r

    o : IsOwn (i * (S.instrs + 2)) (S.instrs + 2) own
    o = own_is (i * (S.instrs + 2)) count (S.instrs + 2) ticket r (omega arith) f.shape t f.values (nat_lt r.shape LEAST_ABORT)

    low : i * (S.instrs + 2) + (S.instrs + 2) ≤ first_operation_cell S
    low = row_within i S.callers (S.instrs + 2) h

    entries_all : All (IsEntry S) (es ++ own)
    entries_all = All-append (IsEntry S) es own (λ k d l. ((f.inside k d l).1, (f.inside k d l).2)) (λ k d l. (omega (arith, (o.inside k d l).1, low), (o.inside k d l).2))

    once_all : HasDistinctCells (es ++ own)
    once_all = once_append es own f.once o.once (λ j k l m q. omega (arith, (f.inside j (0, 0) l).0, (o.inside k (0, 0) m).1, low))

-- the caller's own cells are below the others
pub own_below : (S : Setup) (i ticket count : ℕ) (r : RawReply) → i < S.callers → count ≤ S.instrs → ticket < PAYLOADS → r.shape < PAYLOADS → All (λ (v : ℕ). v < PAYLOADS) r.values
    → All (λ (e : ℕ × ℕ). e.0 < first_operation_cell S) (own_cells (ticket_cell S i) ticket count r)
own_below S i ticket count r h c t a vs = λ k d l. omega (arith, (o.inside k d l).1, row_within i S.callers (S.instrs + 2) h)
  where
    o : IsOwn (i * (S.instrs + 2)) (S.instrs + 2) (own_cells (ticket_cell S i) ticket count r)
    o = own_is (i * (S.instrs + 2)) count (S.instrs + 2) ticket r (omega arith) a t vs (nat_lt r.shape LEAST_ABORT)

pub length-flat : (es : List (ℕ × ℕ)) → length (flat_entries es) ≡ 2 * length es
length-flat [] = refl
length-flat (e ∷ es) = omega (arith, length-flat es)

pub length-log_words : (es : List (ℕ × ℕ)) → length (log_words es) ≡ 2 * length es + 1
length-log_words es = omega (arith, length-flat es)

-- a log that is gone through from another entry on
pub turned_same : (es : List (ℕ × ℕ)) → IsReorderingOf es es
turned_same es = record { many = refl; each = λ j l. (j, l, refl); all = λ k l. (k, l, refl) }

pub turned_is : (f : ℕ) (es : List (ℕ × ℕ)) → IsReorderingOf es (entries_going_round f es)
turned_is f es = record { many = many; each = λ j l. each j (rw many at l) (cases_lt j (length es - f)); all = λ k l. all k l (cases_lt k f) }
  where
    ld : length (drop f es) ≡ length es - f
    ld = length-drop f es

    many : length (drop f es ++ take f es) ≡ length es
    many = length-append (drop f es) (take f es) ∙ rw (length-drop, length-take) (omega arith)

    left : (j : ℕ) → j < length es - f → get_or (drop f es ++ take f es) j (0, 0) ≡ get_or es (f + j) (0, 0)
    left j l = get_or_append_left (drop f es) (take f es) (0, 0) j (omega (arith, ld)) ∙ get_or-drop f es j (0, 0)

    right : (j : ℕ) → length es - f ≤ j → j < length es → get_or (drop f es ++ take f es) j (0, 0) ≡ get_or es (j - (length es - f)) (0, 0)
    right j l u = get_or-append_right (drop f es) (take f es) (length es - f) j (0, 0) ld l ∙ get_or-take f es (j - (length es - f)) (0, 0) (omega arith)

    each : (j : ℕ) → j < length es → (j < length es - f) ⊎ (length es - f ≤ j) → (k : ℕ) × (k < length es) × (get_or es k (0, 0) ≡ get_or (drop f es ++ take f es) j (0, 0))
    each j l (inl u) = (f + j, omega arith, sym (left j u))
    each j l (inr u) = (j - (length es - f), omega arith, sym (right j u l))

    all : (k : ℕ) → k < length es → (k < f) ⊎ (f ≤ k) → (j : ℕ) × (j < length (drop f es ++ take f es)) × (get_or (drop f es ++ take f es) j (0, 0) ≡ get_or es k (0, 0))
    all k l (inr u) = (k - f, rw many (omega arith), left (k - f) (omega arith) ∙ ap (λ (x : ℕ). get_or es x (0, 0)) (omega arith))
    all k l (inl u) = (k + (length es - f) - back, rw many (omega arith), right (k + (length es - f) - back) (omega arith) (omega arith) ∙ ap (λ (x : ℕ). get_or es x (0, 0)) (omega arith))
      where
        back : ℕ
        back = 0

-- log words 2j + 1 and 2j + 2 are entry j
flat_at : (es : List (ℕ × ℕ)) (j : ℕ) → j < length es → (get_or (flat_entries es) (2 * j) 0 ≡ (get_or es j (0, 0)).0) × (get_or (flat_entries es) (2 * j + 1) 0 ≡ (get_or es j (0, 0)).1)
flat_at [] j l = absurd (omega arith)
flat_at (e ∷ es) zero l = (refl, refl)
flat_at (e ∷ es) (suc j) l =
    let h = flat_at es j (omega arith) in
    let a : 2 * suc j ≡ suc (suc (2 * j)) = omega arith in
    let b : 2 * suc j + 1 ≡ suc (suc (2 * j + 1)) = omega arith in
    (rw a h.0, rw b h.1)

pub words_at : (es : List (ℕ × ℕ)) (j : ℕ) → j < length es → (get_or (log_words es) (2 * j + 1) 0 ≡ (get_or es j (0, 0)).0) × (get_or (log_words es) (2 * j + 2) 0 ≡ (get_or es j (0, 0)).1)
words_at es j l =
    let h = flat_at es j l in
    let a : 2 * j + 1 ≡ suc (2 * j) = omega arith in
    let b : 2 * j + 2 ≡ suc (2 * j + 1) = omega arith in
    (rw a h.0, rw b h.1)
