-- A recovery that may make only a given number of writes.
use Rattle.std.proofs.Common.{◌≡◌, ℕ, zero, suc, ◌+◌, ◌*◌, ◌-◌, ◌<◌, ◌≤◌, ◌==◌, ◌&&◌, nat_lt, nat_le, Bool, true, false, if◌then◌else◌, List, [], ◌∷◌, ◌++◌, length, take, get_or, set, refl, sym, ◌∙◌, ap, arith, add-one, length-append}
use Rattle.std.specs.Option.{is_none}
use Rattle.std.proofs.lemmas.List.{take_all, take-append-le}
use Rattle.std.proofs.lemmas.List.Sums.{fold-append}
use Rattle.std.proofs.Math.Seq.{take-nil}
use Rattle.of_cell.specs.Words.{pack, seq_of, payload_of}
use Rattle.of_cell.proofs.Rooms.{room_upto}
use Rattle.of_cell.specs.Cells.{log_room, data_cell, request_cell}
use Rattle.of_cell.proofs.Order.{seq_word, pay_small}
use Rattle.of_recover.specs.Row.{IsDurableRow, current_seq, current_owner, is_open}
use Rattle.of_recover.specs.Log.{owner_log_word, entry_count, entry_addr, log_entry_value, entry_counts, first_naming}
use Rattle.of_recover.specs.Walk.{after_entry, lands, HasReplayed}
use Rattle.of_recover.specs.Writes.{words_after_writes, entry_writes, log_writes, recovery_writes}
use Rattle.of_recover.proofs.Entries.{same_zero, same_log, entry_within, replays_none, replays_more}
use Rattle.of_recover.proofs.Fronts.{still_older, log_writes_more, one_at_most, entry_step, log_written, all_of}
use Rattle.of_recover.proofs.Agreeing.{few}

-- n entries have made the row `words` of `old` by as many of their writes as may be made, of which
-- `left` are left; while more may be made these are all of their writes
pub record IsPartlyReplayed (callers cells : ℕ) (old : List ℕ) (most n left : ℕ) (words : List ℕ) : Type 0 where
  pub row : words ≡ words_after_writes (take most (log_writes callers cells (λ c. get_or old c 0) n)) old
  pub more : left ≡ most - length (log_writes callers cells (λ c. get_or old c 0) n)
  pub replays : 0 < left → HasReplayed callers cells (λ c. get_or old c 0) n words

-- whether an entry with these words lands
abbrev landing : (callers cells : ℕ) → List ℕ → (current addr value : ℕ) → Bool
landing callers cells ws current a v =
    ((seq_of a == seq_of current) && (nat_lt (payload_of a) cells && (seq_of v == seq_of current))) && nat_lt (seq_of (get_or ws (data_cell callers (payload_of a)) 0)) (seq_of current)

module _ (N M : ℕ) (row : ℕ → ℕ) where
  -- before the first entry there is no write
  pub no_writes : log_writes N M row 0 ≡ []
  unfolding log_writes
  no_writes = refl

  -- how many writes one entry more makes
  pub one_more : (n : ℕ) (ws : List ℕ) → HasReplayed N M row n ws → length (log_writes N M row (n + 1)) ≡ length (log_writes N M row n) + (if lands N M (λ c. get_or ws c 0) n then 1 else 0)
  one_more n ws h =
      rw (add-one n, log_writes_more N M row n) (length-append (log_writes N M row n) (entry_writes N M row n)
      ∙ ap (λ (x : ℕ). length (log_writes N M row n) + x) (sym (ap (λ (b : Bool). if b then 1 else 0) same ∙ go (entry_counts N M row n) refl)))
    where
      same : lands N M (λ c. get_or ws c 0) n ≡ landing N M ws (row 0) (owner_log_word N M row (2 * n + 1)) (owner_log_word N M row (2 * n + 2))
      same =
          ap (λ (w : ℕ). landing N M ws w (owner_log_word N M (λ c. get_or ws c 0) (2 * n + 1)) (owner_log_word N M (λ c. get_or ws c 0) (2 * n + 2))) (same_zero N M row n ws h)
          ∙ ap (λ (w : ℕ). landing N M ws (row 0) w (owner_log_word N M (λ c. get_or ws c 0) (2 * n + 2))) (same_log N M row n ws h (2 * n + 1))
          ∙ ap (λ (w : ℕ). landing N M ws (row 0) (owner_log_word N M row (2 * n + 1)) w) (same_log N M row n ws h (2 * n + 2))

      many : (t : Bool) → (if t then 1 else 0) ≡ length {A = ℕ × ℕ} (if t then (data_cell N (entry_addr N M row n), pack (current_seq row) (log_entry_value N M row n)) ∷ [] else [])
      many true = refl
      many false = refl

      go : (b : Bool) → entry_counts N M row n ≡ b
          → (if b && nat_lt (seq_of (get_or ws (data_cell N (entry_addr N M row n)) 0)) (current_seq row) then 1 else 0)
          ≡ length {A = ℕ × ℕ} (if b && (is_none (first_naming N M row n (entry_addr N M row n)) && nat_lt (seq_of (row (data_cell N (entry_addr N M row n)))) (current_seq row)) then (data_cell N (entry_addr N M row n), pack (current_seq row) (log_entry_value N M row n)) ∷ [] else [])
      go false e = refl
      go true e =
          ap (λ (t : Bool). if t then 1 else 0)
          (ap (λ (w : ℕ). nat_lt (seq_of w) (current_seq row)) (h.on_data (entry_addr N M row n) (entry_within N M row n ws h e))
          ∙ still_older (nat_lt (seq_of (row (data_cell N (entry_addr N M row n)))) (current_seq row)) (first_naming N M row n (entry_addr N M row n)) (λ j. pack (current_seq row) (log_entry_value N M row j)) (row (data_cell N (entry_addr N M row n))) (current_seq row) refl
          (λ j. seq_word (current_seq row) (log_entry_value N M row j) (pay_small (owner_log_word N M row (2 * j + 2)))))
          ∙ many (is_none (first_naming N M row n (entry_addr N M row n)) && nat_lt (seq_of (row (data_cell N (entry_addr N M row n)))) (current_seq row))

  -- where none may be made any more, the next entry makes none
  pub spent : (most n : ℕ) → most ≤ length (log_writes N M row n) → take most (log_writes N M row (n + 1)) ≡ take most (log_writes N M row n)
  spent most n l = rw (add-one n, log_writes_more N M row n) (take-append-le most (log_writes N M row n) (entry_writes N M row n) l)

  pub spent_length : (most n : ℕ) → most ≤ length (log_writes N M row n) → most - length (log_writes N M row (n + 1)) ≡ 0
  spent_length most n l = rw (add-one n, log_writes_more N M row n) (omega (arith, length-append (log_writes N M row n) (entry_writes N M row n)))

  -- where one may be made, the next entry's is
  pub made : (most n : ℕ) (ws old : List ℕ) → IsDurableRow N M old → ((c : ℕ) → get_or old c 0 ≡ row c) → length (log_writes N M row n) < most
      → ws ≡ words_after_writes (take most (log_writes N M row n)) old → after_entry N M ws n ≡ words_after_writes (take most (log_writes N M row (n + 1))) old
  made most n ws old size same l e =
      let all : take most (log_writes N M row (n + 1)) ≡ log_writes N M row n ++ entry_writes N M row n =
      take_all most (log_writes N M row (n + 1)) (rw (add-one n, log_writes_more N M row n) (omega (arith, length-append (log_writes N M row n) (entry_writes N M row n), one_at_most N M row n)))
      ∙ rw add-one (log_writes_more N M row n) in
      ap (λ (x : List ℕ). after_entry N M x n) (e ∙ ap (λ (x : List (ℕ × ℕ)). words_after_writes x old) (take_all most (log_writes N M row n) (omega arith)))
      ∙ entry_step N M row n (words_after_writes (log_writes N M row n) old) (log_written N M row n old size same)
      ∙ sym (fold-append (λ ws w. set ws w.0 w.1) old (log_writes N M row n) (entry_writes N M row n))
      ∙ ap (λ (x : List (ℕ × ℕ)). words_after_writes x old) (sym all)

  -- an entry makes one write at most, so n entries make n at most
  pub few_writes : (n : ℕ) → length (log_writes N M row n) ≤ n
  few_writes zero = rw no_writes (omega arith)
  few_writes (suc n) = rw (log_writes_more N M row n) (omega (arith, length-append (log_writes N M row n) (entry_writes N M row n), one_at_most N M row n, few_writes n))

-- the loop over the entries: before the first, and at each
module _ (N M : ℕ) (old : List ℕ) (size : IsDurableRow N M old) where
  pub begins : (most : ℕ) → IsPartlyReplayed N M old most 0 most old
  begins most = record {
    row = rw (no_writes N M (λ c. get_or old c 0), take-nil most) refl;
    more = rw no_writes (omega arith);
    replays = λ l. replays_none N M (λ c. get_or old c 0) old size (λ c. refl);
  }

  module _ (most n left : ℕ) (ws : List ℕ) (h : IsPartlyReplayed N M old most n left ws) where
    goes_on : (left' : ℕ) (ws' : List ℕ) → 0 < left → ws' ≡ after_entry N M ws n → left' ≡ most - length (log_writes N M (λ c. get_or old c 0) (n + 1)) → IsPartlyReplayed N M old most (n + 1) left' ws'
    goes_on left' ws' l e f = record {
      row = e ∙ made N M (λ c. get_or old c 0) most n ws old size (λ c. refl) (omega (arith, h.more)) h.row;
      more = f;
      replays = λ m. rw e (replays_more N M (λ c. get_or old c 0) n ws (h.replays l));
    }

    -- the entry lands
    pub lands_then : (left' : ℕ) (ws' : List ℕ) → 0 < left → ws' ≡ after_entry N M ws n → lands N M (λ c. get_or ws c 0) n ≡ true → left' ≡ left - 1 → IsPartlyReplayed N M old most (n + 1) left' ws'
    lands_then left' ws' l e b f = goes_on left' ws' l e (omega (arith, h.more, rw b at (one_more N M (λ c. get_or old c 0) n ws (h.replays l))))

    -- or it doesn't
    pub passed_over : (left' : ℕ) (ws' : List ℕ) → 0 < left → ws' ≡ after_entry N M ws n → lands N M (λ c. get_or ws c 0) n ≡ false → left' ≡ left → IsPartlyReplayed N M old most (n + 1) left' ws'
    passed_over left' ws' l e b f = goes_on left' ws' l e (omega (arith, h.more, rw b at (one_more N M (λ c. get_or old c 0) n ws (h.replays l))))

    -- or no more may be made
    pub stays : (left' : ℕ) (ws' : List ℕ) → left ≤ 0 → ws' ≡ ws → left' ≡ left → IsPartlyReplayed N M old most (n + 1) left' ws'
    stays left' ws' l e f = record {
      row = e ∙ h.row ∙ ap (λ (x : List (ℕ × ℕ)). words_after_writes x old) (sym (spent N M (λ c. get_or old c 0) most n (omega (arith, h.more))));
      more = omega (arith, spent_length N M (λ c. get_or old c 0) most n (omega (arith, h.more)));
      replays = λ m. absurd (omega arith);
    }

-- what a replay of at most so many writes leaves, and the closing behind it where one more may be made
module _ (N M : ℕ) (old : List ℕ) where
  -- where nothing is open
  pub nothing_open : (most : ℕ) → is_open N (λ c. get_or old c 0) ≡ false → old ≡ words_after_writes (take most (recovery_writes N M (λ c. get_or old c 0))) old
  nothing_open most e = rw (e, take-nil most) refl

  -- where no more may be made behind the log's writes
  pub left_open : (most : ℕ) (ws : List ℕ) → is_open N (λ c. get_or old c 0) ≡ true → most ≤ length (log_writes N M (λ c. get_or old c 0) (entry_count N M (λ c. get_or old c 0)))
      → ws ≡ words_after_writes (take most (log_writes N M (λ c. get_or old c 0) (entry_count N M (λ c. get_or old c 0)))) old → ws ≡ words_after_writes (take most (recovery_writes N M (λ c. get_or old c 0))) old
  left_open most ws e l h = h ∙ rw e (ap (λ (x : List (ℕ × ℕ)). words_after_writes x old) (sym (take-append-le most (log_writes N M (λ c. get_or old c 0) (entry_count N M (λ c. get_or old c 0))) _ l)))

  -- where one more may be made
  pub closed : (most : ℕ) (ws : List ℕ) → is_open N (λ c. get_or old c 0) ≡ true → length (log_writes N M (λ c. get_or old c 0) (entry_count N M (λ c. get_or old c 0))) < most
      → ws ≡ words_after_writes (take most (log_writes N M (λ c. get_or old c 0) (entry_count N M (λ c. get_or old c 0)))) old
      → set ws (request_cell (current_owner (λ c. get_or old c 0))) (pack (current_seq (λ c. get_or old c 0)) 1) ≡ words_after_writes (take most (recovery_writes N M (λ c. get_or old c 0))) old
  closed most ws e l h =
      rw e (ap (λ (x : List ℕ). set x (request_cell (current_owner (λ c. get_or old c 0))) (pack (current_seq (λ c. get_or old c 0)) 1))
      (h ∙ ap (λ (x : List (ℕ × ℕ)). words_after_writes x old) (take_all most (log_writes N M (λ c. get_or old c 0) (entry_count N M (λ c. get_or old c 0))) (omega arith)))
      ∙ sym (fold-append (λ ws w. set ws w.0 w.1) old (log_writes N M (λ c. get_or old c 0) (entry_count N M (λ c. get_or old c 0))) ((request_cell (current_owner (λ c. get_or old c 0)), pack (current_seq (λ c. get_or old c 0)) 1) ∷ []))
      ∙ ap (λ (x : List (ℕ × ℕ)). words_after_writes x old) (sym (all_of (log_writes N M (λ c. get_or old c 0) (entry_count N M (λ c. get_or old c 0))) (request_cell (current_owner (λ c. get_or old c 0)), pack (current_seq (λ c. get_or old c 0)) 1) most l)))

  few_entries : entry_count N M (λ c. get_or old c 0) ≤ log_room N M
  few_entries = few (seq_of (owner_log_word N M (λ c. get_or old c 0) 0) == current_seq (λ c. get_or old c 0)) (payload_of (owner_log_word N M (λ c. get_or old c 0) 0)) (log_room N M) (nat_le (payload_of (owner_log_word N M (λ c. get_or old c 0) 0)) (log_room N M)) refl

  -- a recovery makes at most one write for each data cell, and one more
  pub not_many : length (recovery_writes N M (λ c. get_or old c 0)) ≤ M + 1
  not_many = go (is_open N (λ c. get_or old c 0))
    where
      go : (b : Bool) → length {A = ℕ × ℕ} (if b then log_writes N M (λ c. get_or old c 0) (entry_count N M (λ c. get_or old c 0)) ++ (request_cell (current_owner (λ c. get_or old c 0)), pack (current_seq (λ c. get_or old c 0)) 1) ∷ [] else []) ≤ M + 1
      go false = omega arith
      go true = omega (arith, length-append (log_writes N M (λ c. get_or old c 0) (entry_count N M (λ c. get_or old c 0))) ((request_cell (current_owner (λ c. get_or old c 0)), pack (current_seq (λ c. get_or old c 0)) 1) ∷ []), few_writes N M (λ c. get_or old c 0) (entry_count N M (λ c. get_or old c 0)), few_entries, room_upto N M)

-- so a recovery that may make a write for each data cell and one more makes all of them
pub all_made : (N M : ℕ) (old : List ℕ) (most : ℕ) → M + 1 ≤ most → take most (recovery_writes N M (λ c. get_or old c 0)) ≡ recovery_writes N M (λ c. get_or old c 0)
all_made N M old most l = take_all most (recovery_writes N M (λ c. get_or old c 0)) (omega (arith, not_many N M old))
