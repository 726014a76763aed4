-- A recovery that stops between two of its writes: a second one finds what the first would have left.
use Rattle.std.proofs.Common.{◌≡◌, ℕ, zero, suc, ◌+◌, ◌*◌, ◌-◌, ◌<◌, ◌≤◌, ◌⊎◌, inl, inr, ◌==◌, ◌&&◌, nat_lt, nat_le, Bool, true, false, if◌then◌else◌, List, [], ◌∷◌, ◌++◌, Option, Some, None, length, take, get_or, set, unwrap_or, refl, sym, ◌∙◌, ap, subst, arith, add-one, length-append}
use Rattle.std.specs.Option.{option_map, option_or, is_none}
use Rattle.std.specs.List.{find, flat_map, range_with_len}
use Rattle.std.proofs.lemmas.Bool.{cases_lt}
use Rattle.std.proofs.lemmas.Grind.{same_number_lists, flat_map-append}
use Rattle.std.proofs.lemmas.List.{append-nil, take_all, take-append-le}
use Rattle.std.proofs.Math.Seq.{take-nil}
use Rattle.std.proofs.lemmas.List.Sums.{fold-append}
use Rattle.std.proofs.lemmas.Bool.{ltb-true as below}
use Rattle.of_cell.specs.Words.{pack, seq_of, payload_of}
use Rattle.of_cell.specs.Cells.{log_room, data_cell, request_cell, log_cell}
use Rattle.of_cell.proofs.Order.{seq_word, pay_small}
use Rattle.of_recover.specs.Row.{IsDurableRow, current_seq, current_owner, is_open}
use Rattle.of_recover.specs.Log.{owner_log_word, entry_count, entry_addr, log_entry_value, entry_counts, entry_names, first_naming}
use Rattle.of_recover.specs.Recovered.{replayed_data, recovered_data, is_data, recovered_word, recovered_words}
use Rattle.of_recover.specs.Walk.{after_entry, HasReplayed}
use Rattle.of_recover.specs.Writes.{words_after_writes, entry_writes, log_writes, recovery_writes, IsUnderway}
use Rattle.of_recover.proofs.Entries.{picked, first_more, range_push, replays_none, replays_more, same_entry, entry_within, not_less_self}
use Rattle.of_recover.proofs.Rows.{length-recovered, recovered_at, left_alone, brought_to_end, inside, outside}
use Rattle.of_recover.proofs.Kept.{recovered_twice}

-- ---- what is underway recovers to the same row

find_ext : (p q : ℕ → Bool) → ((j : ℕ) → p j ≡ q j) → (xs : List ℕ) → find p xs ≡ find q xs
find_ext p q e [] = refl
find_ext p q e (x ∷ xs) = rw (e x) (ap (λ (o : Option ℕ). if q x then Some x else o) (find_ext p q e xs))

map_ext : (f g : ℕ → ℕ) → ((j : ℕ) → f j ≡ g j) → (o : Option ℕ) → option_map f o ≡ option_map g o
map_ext f g e None = refl
map_ext f g e (Some x) = ap Some (e x)

-- a picked word is picked again
picked_again : (older : Bool) (o : Option ℕ) (value : ℕ → ℕ) (own s : ℕ) → nat_lt (seq_of own) s ≡ older → ((k : ℕ) → seq_of (value k) ≡ s)
    → picked (nat_lt (seq_of (picked older o value own)) s) o value (picked older o value own) ≡ picked older o value own
picked_again true None value own s e f = rw e refl
picked_again true (Some k) value own s e f = rw (not_less_self (seq_of (value k)) s (f k)) refl
picked_again false o value own s e f = rw e refl

-- two readers that agree on every cell that isn't a data cell, and each data cell has the word of the one, or what recovery makes of it
module _ (N M : ℕ) (r q : ℕ → ℕ) (others : (c : ℕ) → (c ≤ N) ⊎ (data_cell N M ≤ c) → q c ≡ r c)
    (on_data : (a : ℕ) → a < M → (q (data_cell N a) ≡ r (data_cell N a)) ⊎ (q (data_cell N a) ≡ recovered_data N M r a)) where
  first : q 0 ≡ r 0
  first = others 0 (inl (omega arith))

  log_same : (x : ℕ) → owner_log_word N M q x ≡ owner_log_word N M r x
  log_same x = others (log_cell N M (payload_of (q 0)) x) (inr (omega arith)) ∙ ap (λ (w : ℕ). r (log_cell N M (payload_of w) x)) first

  count_same : entry_count N M q ≡ entry_count N M r
  count_same =
      ap (λ (w : ℕ). if (seq_of w == seq_of (q 0)) && nat_le (payload_of w) (log_room N M) then payload_of w else 0) (log_same 0)
      ∙ ap (λ (s : ℕ). if (seq_of (owner_log_word N M r 0) == seq_of s) && nat_le (payload_of (owner_log_word N M r 0)) (log_room N M) then payload_of (owner_log_word N M r 0) else 0) first

  names_same : (a j : ℕ) → entry_names N M q a j ≡ entry_names N M r a j
  names_same a j =
      ap (λ (w : ℕ). ((seq_of w == seq_of (q 0)) && (nat_lt (payload_of w) M && (seq_of (owner_log_word N M q (2 * j + 2)) == seq_of (q 0)))) && (payload_of w == a)) (log_same (2 * j + 1))
      ∙ ap (λ (w : ℕ). ((seq_of (owner_log_word N M r (2 * j + 1)) == seq_of (q 0)) && (nat_lt (payload_of (owner_log_word N M r (2 * j + 1))) M && (seq_of w == seq_of (q 0)))) && (payload_of (owner_log_word N M r (2 * j + 1)) == a)) (log_same (2 * j + 2))
      ∙ ap (λ (w : ℕ). ((seq_of (owner_log_word N M r (2 * j + 1)) == seq_of w) && (nat_lt (payload_of (owner_log_word N M r (2 * j + 1))) M && (seq_of (owner_log_word N M r (2 * j + 2)) == seq_of w))) && (payload_of (owner_log_word N M r (2 * j + 1)) == a)) first

  value_same : (j : ℕ) → pack (current_seq q) (log_entry_value N M q j) ≡ pack (current_seq r) (log_entry_value N M r j)
  value_same j = ap (λ (w : ℕ). pack (seq_of w) (log_entry_value N M q j)) first ∙ ap (λ (w : ℕ). pack (current_seq r) (payload_of w)) (log_same (2 * j + 2))

  logged_same : (a : ℕ) → option_map (λ j. pack (current_seq q) (log_entry_value N M q j)) (first_naming N M q (entry_count N M q) a) ≡ option_map (λ j. pack (current_seq r) (log_entry_value N M r j)) (first_naming N M r (entry_count N M r) a)
  logged_same a =
      map_ext (λ j. pack (current_seq q) (log_entry_value N M q j)) (λ j. pack (current_seq r) (log_entry_value N M r j)) value_same (first_naming N M q (entry_count N M q) a)
      ∙ ap (option_map (λ j. pack (current_seq r) (log_entry_value N M r j)))
      (find_ext (entry_names N M q a) (entry_names N M r a) (names_same a) (range_with_len 0 (entry_count N M q)) ∙ ap (first_naming_of a) count_same)
    where
      first_naming_of : (a n : ℕ) → Option ℕ
      first_naming_of a n = first_naming N M r n a

  open_same : is_open N q ≡ is_open N r
  open_same = go (nat_lt (payload_of (r 0)) N) refl
    where
      go : (b : Bool) → nat_lt (payload_of (r 0)) N ≡ b → is_open N q ≡ is_open N r
      go false e =
          ap (λ (w : ℕ). nat_le 1 (seq_of w) && (nat_lt (payload_of w) N && (q (request_cell (payload_of w)) == pack (seq_of w) 0))) first
          ∙ ap (λ (b : Bool). nat_le 1 (seq_of (r 0)) && (b && (q (request_cell (payload_of (r 0))) == pack (seq_of (r 0)) 0))) e
          ∙ sym (ap (λ (b : Bool). nat_le 1 (seq_of (r 0)) && (b && (r (request_cell (payload_of (r 0))) == pack (seq_of (r 0)) 0))) e)
      go true e =
          ap (λ (w : ℕ). nat_le 1 (seq_of w) && (nat_lt (payload_of w) N && (q (request_cell (payload_of w)) == pack (seq_of w) 0))) first
          ∙ ap (λ (w : ℕ). nat_le 1 (seq_of (r 0)) && (nat_lt (payload_of (r 0)) N && (w == pack (seq_of (r 0)) 0))) (others (request_cell (payload_of (r 0))) (inl (omega (arith, below (payload_of (r 0)) N e))))

  replayed_same : (a : ℕ) → replayed_data N M q (entry_count N M q) a
      ≡ picked (nat_lt (seq_of (q (data_cell N a))) (current_seq r)) (first_naming N M r (entry_count N M r) a) (λ j. pack (current_seq r) (log_entry_value N M r j)) (q (data_cell N a))
  replayed_same a =
      ap (λ (o : Option ℕ). if nat_lt (seq_of (q (data_cell N a))) (seq_of (q 0)) then unwrap_or o (q (data_cell N a)) else q (data_cell N a)) (logged_same a)
      ∙ ap (λ (w : ℕ). picked (nat_lt (seq_of (q (data_cell N a))) (seq_of w)) (first_naming N M r (entry_count N M r) a) (λ j. pack (current_seq r) (log_entry_value N M r j)) (q (data_cell N a))) first

  data_same : (a : ℕ) → a < M → recovered_data N M q a ≡ recovered_data N M r a
  data_same a l = go (is_open N r) refl (on_data a l)
    where
      go : (b : Bool) → is_open N r ≡ b → (q (data_cell N a) ≡ r (data_cell N a)) ⊎ (q (data_cell N a) ≡ recovered_data N M r a) → recovered_data N M q a ≡ recovered_data N M r a
      go false e (inl o) = rw (open_same ∙ e, e) o
      go false e (inr o) = rw (open_same ∙ e) o
      go true e (inl o) = rw (open_same ∙ e, e) (replayed_same a ∙ ap (λ (w : ℕ). picked (nat_lt (seq_of w) (current_seq r)) (first_naming N M r (entry_count N M r) a) (λ j. pack (current_seq r) (log_entry_value N M r j)) w) o)
      go true e (inr o) =
          let p : q (data_cell N a) ≡ replayed_data N M r (entry_count N M r) a = o ∙ rw e refl in
          rw (open_same ∙ e, e) (replayed_same a
          ∙ ap (λ (w : ℕ). picked (nat_lt (seq_of w) (current_seq r)) (first_naming N M r (entry_count N M r) a) (λ j. pack (current_seq r) (log_entry_value N M r j)) w) p
          ∙ picked_again (nat_lt (seq_of (r (data_cell N a))) (current_seq r)) (first_naming N M r (entry_count N M r) a) (λ j. pack (current_seq r) (log_entry_value N M r j)) (r (data_cell N a)) (current_seq r) refl
          (λ j. seq_word (current_seq r) (log_entry_value N M r j) (pay_small (owner_log_word N M r (2 * j + 2)))))

  word_same : (c : ℕ) → recovered_word N M q c ≡ recovered_word N M r c
  word_same c = go (is_data N M c) refl
    where
      go : (b : Bool) → is_data N M c ≡ b → (if b then recovered_data N M q (c - (N + 1)) else (if is_open N q && (c == request_cell (payload_of (q 0))) then pack (seq_of (q 0)) 1 else q c))
          ≡ (if b then recovered_data N M r (c - (N + 1)) else (if is_open N r && (c == request_cell (payload_of (r 0))) then pack (seq_of (r 0)) 1 else r c))
      go true e = let i = inside N M c e in data_same (c - (N + 1)) (omega (arith, i.0, i.1))
      go false e =
          ap (λ (b : Bool). if b && (c == request_cell (payload_of (q 0))) then pack (seq_of (q 0)) 1 else q c) open_same
          ∙ ap (λ (w : ℕ). if is_open N r && (c == request_cell (payload_of w)) then pack (seq_of w) 1 else q c) first
          ∙ ap (λ (w : ℕ). if is_open N r && (c == request_cell (payload_of (r 0))) then pack (seq_of (r 0)) 1 else w) (others c (outside N M c e))

pub underway_recovers : (N M : ℕ) (old new : List ℕ) → IsDurableRow N M old → IsUnderway N M old new → recovered_words N M new ≡ recovered_words N M old
underway_recovers N M old new size h =
    same_number_lists (recovered_words N M new) (recovered_words N M old) (length-recovered N M new ∙ h.size ∙ sym (length-recovered N M old ∙ size)) (λ c l.
    let m : c < length new = omega (arith, length-recovered N M new) in
    let n : c < length old = omega (arith, h.size, size) in
    recovered_at N M new c 0 m ∙ word_same N M (λ x. get_or old x 0) (λ x. get_or new x 0) h.others h.on_data c ∙ sym (recovered_at N M old c 0 n))

-- ---- the log's writes, entry by entry

-- a word that the first entries have picked is older where none of them named the cell
pub still_older : (older : Bool) (o : Option ℕ) (value : ℕ → ℕ) (own s : ℕ) → nat_lt (seq_of own) s ≡ older → ((k : ℕ) → seq_of (value k) ≡ s)
    → nat_lt (seq_of (picked older o value own)) s ≡ (is_none o && older)
still_older true None value own s e f = e
still_older true (Some k) value own s e f = not_less_self (seq_of (value k)) s (f k)
still_older false None value own s e f = e
still_older false (Some k) value own s e f = e

module _ (N M : ℕ) (row : ℕ → ℕ) where
  pub log_writes_more : (n : ℕ) → log_writes N M row (suc n) ≡ log_writes N M row n ++ entry_writes N M row n
  unfolding log_writes
  log_writes_more n =
      ap (flat_map (entry_writes N M row)) (range_push 0 n ∙ ap (λ (x : ℕ). range_with_len 0 n ++ x ∷ []) (omega arith))
      ∙ flat_map-append (entry_writes N M row) (range_with_len 0 n) (n ∷ [])
      ∙ ap (λ (x : List (ℕ × ℕ)). flat_map (entry_writes N M row) (range_with_len 0 n) ++ x) (append-nil (entry_writes N M row n))

  -- an entry makes one write at most
  pub one_at_most : (j : ℕ) → length (entry_writes N M row j) ≤ 1
  one_at_most j = go (entry_counts N M row j && (is_none (first_naming N M row j (entry_addr N M row j)) && nat_lt (seq_of (row (data_cell N (entry_addr N M row j)))) (current_seq row)))
    where
      go : (b : Bool) → length {A = ℕ × ℕ} (if b then (data_cell N (entry_addr N M row j), pack (current_seq row) (log_entry_value N M row j)) ∷ [] else []) ≤ 1
      go true = omega arith
      go false = omega arith

  -- entry n does what its write says
  pub entry_step : (n : ℕ) (ws : List ℕ) → HasReplayed N M row n ws → after_entry N M ws n ≡ words_after_writes (entry_writes N M row n) ws
  entry_step n ws h = same_entry N M row n ws h ∙ go (entry_counts N M row n) refl
    where
      done : (t : Bool) → (if t then set ws (data_cell N (entry_addr N M row n)) (pack (current_seq row) (log_entry_value N M row n)) else ws)
          ≡ words_after_writes (if t then (data_cell N (entry_addr N M row n), pack (current_seq row) (log_entry_value N M row n)) ∷ [] else []) ws
      done true = refl
      done false = refl

      go : (b : Bool) → entry_counts N M row n ≡ b
          → (if b && nat_lt (seq_of (get_or ws (data_cell N (entry_addr N M row n)) 0)) (current_seq row) then set ws (data_cell N (entry_addr N M row n)) (pack (current_seq row) (log_entry_value N M row n)) else ws)
          ≡ words_after_writes (if b && (is_none (first_naming N M row n (entry_addr N M row n)) && nat_lt (seq_of (row (data_cell N (entry_addr N M row n)))) (current_seq row)) then (data_cell N (entry_addr N M row n), pack (current_seq row) (log_entry_value N M row n)) ∷ [] else []) ws
      go false e = refl
      go true e =
          ap (λ (t : Bool). if t then set ws (data_cell N (entry_addr N M row n)) (pack (current_seq row) (log_entry_value N M row n)) else ws)
          (ap (λ (w : ℕ). nat_lt (seq_of w) (current_seq row)) (h.on_data (entry_addr N M row n) (entry_within N M row n ws h e))
          ∙ still_older (nat_lt (seq_of (row (data_cell N (entry_addr N M row n)))) (current_seq row)) (first_naming N M row n (entry_addr N M row n)) (λ j. pack (current_seq row) (log_entry_value N M row j)) (row (data_cell N (entry_addr N M row n))) (current_seq row) refl
          (λ j. seq_word (current_seq row) (log_entry_value N M row j) (pay_small (owner_log_word N M row (2 * j + 2)))))
          ∙ done (is_none (first_naming N M row n (entry_addr N M row n)) && nat_lt (seq_of (row (data_cell N (entry_addr N M row n)))) (current_seq row))

  -- so after n entries the words are those with the writes of n entries
  pub log_written : (n : ℕ) (old : List ℕ) → IsDurableRow N M old → ((c : ℕ) → get_or old c 0 ≡ row c) → HasReplayed N M row n (words_after_writes (log_writes N M row n) old)
  unfolding log_writes
  log_written zero old size same = replays_none N M row old size same
  log_written (suc n) old size same =
      let h = log_written n old size same in
      let e : words_after_writes (log_writes N M row (suc n)) old ≡ after_entry N M (words_after_writes (log_writes N M row n) old) n =
      ap (λ (x : List (ℕ × ℕ)). words_after_writes x old) (log_writes_more n)
      ∙ fold-append (λ ws w. set ws w.0 w.1) old (log_writes N M row n) (entry_writes N M row n)
      ∙ sym (entry_step n (words_after_writes (log_writes N M row n) old) h) in
      subst (λ (x : List ℕ). HasReplayed N M row (suc n) x) (sym e) (rw add-one at (replays_more N M row n (words_after_writes (log_writes N M row n) old) h))

  -- a front of the log's writes is the writes of its first entries
  pub front_of_log : (k n : ℕ) → (m : ℕ) × ((m ≤ n) × (take k (log_writes N M row n) ≡ log_writes N M row m))
  unfolding log_writes
  front_of_log k zero = (zero, (omega arith, take-nil k))
  front_of_log k (suc n) = go (cases_lt (length (log_writes N M row n)) k) (front_of_log k n)
    where
      go : (length (log_writes N M row n) < k) ⊎ (k ≤ length (log_writes N M row n))
          → ((m : ℕ) × ((m ≤ n) × (take k (log_writes N M row n) ≡ log_writes N M row m)))
          → (m : ℕ) × ((m ≤ suc n) × (take k (log_writes N M row (suc n)) ≡ log_writes N M row m))
      go (inl l) h = (suc n, (omega arith, take_all k (log_writes N M row (suc n)) (rw log_writes_more (omega (arith, length-append (log_writes N M row n) (entry_writes N M row n), one_at_most n)))))
      go (inr l) (m, (le, e)) = (m, (omega arith, rw log_writes_more (take-append-le k (log_writes N M row n) (entry_writes N M row n) l ∙ e)))

  -- the first of so many numbers that passes a test is none, or the first of more
  found_already : (p : ℕ → Bool) (m n : ℕ) → m ≤ n → (find p (range_with_len 0 m) ≡ None) ⊎ (find p (range_with_len 0 n) ≡ find p (range_with_len 0 m))
  found_already p m zero l = rw (let e : m ≡ 0 = omega arith in e) (inl refl)
  found_already p m (suc n) l = go (cases_lt n m) (found_already p m n)
    where
      go : (n < m) ⊎ (m ≤ n) → (m ≤ n → (find p (range_with_len 0 m) ≡ None) ⊎ (find p (range_with_len 0 n) ≡ find p (range_with_len 0 m)))
          → (find p (range_with_len 0 m) ≡ None) ⊎ (find p (range_with_len 0 (suc n)) ≡ find p (range_with_len 0 m))
      go (inl g) h = rw (let e : m ≡ suc n = omega arith in e) (inr refl)
      go (inr g) h = on (find p (range_with_len 0 m)) refl (h g)
        where
          on : (o : Option ℕ) → find p (range_with_len 0 m) ≡ o → (find p (range_with_len 0 m) ≡ None) ⊎ (find p (range_with_len 0 n) ≡ find p (range_with_len 0 m))
              → (find p (range_with_len 0 m) ≡ None) ⊎ (find p (range_with_len 0 (suc n)) ≡ find p (range_with_len 0 m))
          on None e h = inl e
          on (Some x) e (inl h) = inl h
          on (Some x) e (inr h) = inr (first_more p n ∙ ap (λ (o : Option ℕ). option_or o (if p n then Some n else None)) (h ∙ e) ∙ sym e)

  -- a data cell has its word still, or the one that all entries give it
  fewer : (a m n : ℕ) → m ≤ n → (replayed_data N M row m a ≡ row (data_cell N a)) ⊎ (replayed_data N M row m a ≡ replayed_data N M row n a)
  fewer a m n l = go (found_already (entry_names N M row a) m n l) (nat_lt (seq_of (row (data_cell N a))) (current_seq row))
    where
      go : (first_naming N M row m a ≡ None) ⊎ (first_naming N M row n a ≡ first_naming N M row m a) → (older : Bool)
          → (picked older (first_naming N M row m a) (λ j. pack (current_seq row) (log_entry_value N M row j)) (row (data_cell N a)) ≡ row (data_cell N a))
          ⊎ (picked older (first_naming N M row m a) (λ j. pack (current_seq row) (log_entry_value N M row j)) (row (data_cell N a)) ≡ picked older (first_naming N M row n a) (λ j. pack (current_seq row) (log_entry_value N M row j)) (row (data_cell N a)))
      go h false = inl refl
      go (inl e) true = inl (rw e refl)
      go (inr e) true = inr (rw e refl)

pub all_of : (xs : List (ℕ × ℕ)) (x : ℕ × ℕ) (k : ℕ) → length xs < k → take k (xs ++ x ∷ []) ≡ xs ++ x ∷ []
all_of xs x k l = take_all k (xs ++ x ∷ []) (omega (arith, length-append xs (x ∷ [])))

module _ (N M : ℕ) (old : List ℕ) (size : IsDurableRow N M old) where
  -- a front of the log's writes is underway
  front_underway : (m : ℕ) (new : List ℕ) → is_open N (λ c. get_or old c 0) ≡ true → m ≤ entry_count N M (λ c. get_or old c 0) → HasReplayed N M (λ c. get_or old c 0) m new → IsUnderway N M old new
  front_underway m new e l h = record {
    size = h.size;
    on_data = λ a b. elim (fewer N M (λ c. get_or old c 0) a m (entry_count N M (λ c. get_or old c 0)) l) [
      | inl q ↦ inl (h.on_data a b ∙ q)
      | inr q ↦ inr (h.on_data a b ∙ q ∙ rw e refl)
    ];
    others = h.others;
  }

  open_written : is_open N (λ c. get_or old c 0) ≡ true
      → words_after_writes (log_writes N M (λ c. get_or old c 0) (entry_count N M (λ c. get_or old c 0)) ++ (request_cell (current_owner (λ c. get_or old c 0)), pack (current_seq (λ c. get_or old c 0)) 1) ∷ []) old ≡ recovered_words N M old
  open_written e =
      fold-append (λ ws w. set ws w.0 w.1) old (log_writes N M (λ c. get_or old c 0) (entry_count N M (λ c. get_or old c 0))) ((request_cell (current_owner (λ c. get_or old c 0)), pack (current_seq (λ c. get_or old c 0)) 1) ∷ [])
      ∙ brought_to_end N M old size (words_after_writes (log_writes N M (λ c. get_or old c 0) (entry_count N M (λ c. get_or old c 0))) old) e (log_written N M (λ c. get_or old c 0) (entry_count N M (λ c. get_or old c 0)) old size (λ c. refl))

  -- all writes leave the recovered list
  pub all_written : words_after_writes (recovery_writes N M (λ c. get_or old c 0)) old ≡ recovered_words N M old
  all_written = go (is_open N (λ c. get_or old c 0)) refl
    where
      go : (b : Bool) → is_open N (λ c. get_or old c 0) ≡ b → words_after_writes (recovery_writes N M (λ c. get_or old c 0)) old ≡ recovered_words N M old
      go false e = rw e (left_alone N M old size e)
      go true e = rw e (open_written e)

  -- and each front of them leaves a row that recovers to it
  pub fronts_recover : (k : ℕ) → recovered_words N M (words_after_writes (take k (recovery_writes N M (λ c. get_or old c 0))) old) ≡ recovered_words N M old
  fronts_recover k = go (is_open N (λ c. get_or old c 0)) refl
    where
      go : (b : Bool) → is_open N (λ c. get_or old c 0) ≡ b → recovered_words N M (words_after_writes (take k (recovery_writes N M (λ c. get_or old c 0))) old) ≡ recovered_words N M old
      go false e = rw (e, take-nil k) refl
      go true e = rw e (on (cases_lt (length (log_writes N M (λ c. get_or old c 0) (entry_count N M (λ c. get_or old c 0)))) k))
        where
          on : (length (log_writes N M (λ c. get_or old c 0) (entry_count N M (λ c. get_or old c 0))) < k) ⊎ (k ≤ length (log_writes N M (λ c. get_or old c 0) (entry_count N M (λ c. get_or old c 0))))
              → recovered_words N M (words_after_writes (take k (log_writes N M (λ c. get_or old c 0) (entry_count N M (λ c. get_or old c 0)) ++ (request_cell (current_owner (λ c. get_or old c 0)), pack (current_seq (λ c. get_or old c 0)) 1) ∷ [])) old) ≡ recovered_words N M old
          on (inl l) = ap (recovered_words N M) (ap (λ (x : List (ℕ × ℕ)). words_after_writes x old) (all_of (log_writes N M (λ c. get_or old c 0) (entry_count N M (λ c. get_or old c 0))) (request_cell (current_owner (λ c. get_or old c 0)), pack (current_seq (λ c. get_or old c 0)) 1) k l) ∙ open_written e) ∙ recovered_twice N M old size
          on (inr l) = front (front_of_log N M (λ c. get_or old c 0) k (entry_count N M (λ c. get_or old c 0)))
            where
              front : (m : ℕ) × ((m ≤ entry_count N M (λ c. get_or old c 0)) × (take k (log_writes N M (λ c. get_or old c 0) (entry_count N M (λ c. get_or old c 0))) ≡ log_writes N M (λ c. get_or old c 0) m))
                  → recovered_words N M (words_after_writes (take k (log_writes N M (λ c. get_or old c 0) (entry_count N M (λ c. get_or old c 0)) ++ (request_cell (current_owner (λ c. get_or old c 0)), pack (current_seq (λ c. get_or old c 0)) 1) ∷ [])) old) ≡ recovered_words N M old
              front (m, (le, q)) =
                  ap (λ (x : List (ℕ × ℕ)). recovered_words N M (words_after_writes x old)) (take-append-le k (log_writes N M (λ c. get_or old c 0) (entry_count N M (λ c. get_or old c 0))) _ l ∙ q)
                  ∙ underway_recovers N M old (words_after_writes (log_writes N M (λ c. get_or old c 0) m) old) size (front_underway m (words_after_writes (log_writes N M (λ c. get_or old c 0) m) old) e le (log_written N M (λ c. get_or old c 0) m old size (λ c. refl)))
