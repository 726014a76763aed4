-- Sums that both bounds of a call's steps use: if the steps that were made and those that are left
-- make at most l, it is so after one step more. Each has the name of what the step does.
use Rattle.std.proofs.Common.{◌≡◌, ℕ, zero, suc, ◌+◌, ◌*◌, ◌-◌, ◌<◌, ◌≤◌, arith}

-- one step less is left
pub fewer : (s a b l : ℕ) → s + a ≤ l → b + 1 ≤ a → s + 1 + b ≤ l
fewer s a b l h k = omega arith

-- the rows of script words of the callers that are left
pub row_cost : (n s q : ℕ) → s + 1 < n → (n - (s + 1) - 1) * q + q ≡ (n - s - 1) * q
row_cost n s q l = let e : n - s - 1 ≡ n - (s + 1) - 1 + 1 = omega arith in rw e (plus (n - (s + 1) - 1))
  where
    plus : (d : ℕ) → d * q + q ≡ (d + 1) * q
    plus d = grind arith

pub first_row : (n s q : ℕ) → s ≡ 0 → 0 < n → q + (n - s - 1) * q ≡ n * q
first_row (suc n) s q e l = rw e (grind arith)
first_row zero s q e l = absurd (omega arith)

-- the scan goes on to the next caller, or is done
pub next_sum : (st k x y u t r l : ℕ) → x + k ≡ y → st + (y + u + t + r) ≤ l → st + (k + (x + u + t + r)) ≤ l
next_sum st k x y u t r l h e = omega arith

pub done_sum : (st y u t r l : ℕ) → st + (y + u + t + r) ≤ l → st + (t + r) ≤ l
done_sum st y u t r l h = omega arith

-- one cell more is known
pub known_sum : (st a y u v t r l : ℕ) → v + 1 ≡ u → st + (a + (y + u + t + r)) ≤ l → st + 1 + (a + (y + v + t + r)) ≤ l
known_sum st a y u v t r l h e = omega arith

pub known_sum0 : (st y u v t r l : ℕ) → v + 1 ≡ u → st + (y + u + t + r) ≤ l → st + 1 + (y + v + t + r) ≤ l
known_sum0 st y u v t r l h e = omega arith

-- the round begins again
pub again_sum : (st a y u t r l : ℕ) → 1 ≤ t → st + (a + (y + u + t + r)) ≤ l → st + 1 + r ≤ l
again_sum st a y u t r l h e = omega arith

pub again_sum0 : (st y u t r l : ℕ) → 1 ≤ t → st + (y + u + t + r) ≤ l → st + 1 + r ≤ l
again_sum0 st y u t r l h e = omega arith

-- a try
pub try_lost : (s u v r l : ℕ) → v + 1 ≡ u → s + (u + r) ≤ l → s + 1 + r ≤ l
try_lost s u v r l h e = omega arith

pub cell_learnt : (s u v r l : ℕ) → v + 1 ≡ u → s + (u + r) ≤ l → s + 1 + (v + r) ≤ l
cell_learnt s u v r l h e = omega arith

-- the own script words
pub word_stored : (s i j x l : ℕ) → j < i → s + (i - j + 1 + x) ≤ l → s + 1 + (i - (j + 1) + 1 + x) ≤ l
word_stored s i j x l h e = omega arith

pub words_stored : (s i j x l : ℕ) → j < i → s + (i - j + 1 + x) ≤ l → s + 1 + (1 + x) ≤ l
words_stored s i j x l h e = omega arith

-- a log is copied, and its request looked at again
pub word_copied : (s c x k r l : ℕ) → x < c → s + (c - x + 1 + k + r) ≤ l → s + 1 + (c - (x + 1) + 1 + k + r) ≤ l
word_copied s c x k r l h e = omega arith

pub words_copied : (s c x k r l : ℕ) → x < c → s + (c - x + 1 + k + r) ≤ l → s + 1 + (1 + k + r) ≤ l
words_copied s c x k r l h e = omega arith

pub still_open : (s k r l : ℕ) → s + (1 + k + r) ≤ l → s + 1 + (k + r) ≤ l
still_open s k r l h = omega arith

pub now_closed : (s k r l : ℕ) → s + (1 + k + r) ≤ l → s + 1 + r ≤ l
now_closed s k r l h = omega arith

-- a round
pub round_lost : (s x r l : ℕ) → 1 ≤ x → s + (x + r) ≤ l → s + 1 + r ≤ l
round_lost s x r l h e = omega arith

-- the own reply
pub shape_read : (s i l : ℕ) → s + (i + 1) ≤ l → s + 1 + (i - 0) ≤ l
shape_read s i l h = omega arith

pub reply_read : (s i j l : ℕ) → j < i → s + (i - j) ≤ l → s + 1 + (i - (j + 1)) ≤ l
reply_read s i j l h e = omega arith

pub replies_skipped : (s i x k l : ℕ) → s + (i - x) ≤ l → x ≤ k → s + (i - k) ≤ l
replies_skipped s i x k l h e = omega arith

-- the row of a caller
pub row_heard : (s k x l : ℕ) → s + (k + 1 + x) ≤ l → s + 1 + (k + x) ≤ l
row_heard s k x l h = omega arith

pub row_begun : (s k x l : ℕ) → s + (k + x) ≤ l → s + (k - 0 + x) ≤ l
row_begun s k x l h = omega arith

pub row_skipped : (s k x l : ℕ) → s + (k + x) ≤ l → s + x ≤ l
row_skipped s k x l h = omega arith

pub word_loaded : (s i j x l : ℕ) → j < i → s + (i - j + x) ≤ l → s + 1 + (i - (j + 1) + x) ≤ l
word_loaded s i j x l h e = omega arith

pub words_loaded : (s i j x l : ℕ) → j < i → s + (i - j + x) ≤ l → s + 1 + x ≤ l
words_loaded s i j x l h e = omega arith

-- the own log
pub log_word_stored : (s y r l : ℕ) → s + (y + 3 + r) ≤ l → s + 1 + (y + 2 + r) ≤ l
log_word_stored s y r l h = omega arith

pub log_word_raised : (s c x r l : ℕ) → x < c → s + (2 * (c - x) + 2 + r) ≤ l → s + 1 + (2 * (c - (x + 1)) + 3 + r) ≤ l
log_word_raised s c x r l h e = omega arith

pub log_raised : (s c x r l : ℕ) → x < c → s + (2 * (c - x) + 2 + r) ≤ l → s + 1 + (3 + r) ≤ l
log_raised s c x r l h e = omega arith

-- an entry is applied, and the request closed
pub older_found : (s y r l : ℕ) → s + (y + 2 + r) ≤ l → s + 1 + (y + 1 + r) ≤ l
older_found s y r l h = omega arith

pub newer_found : (s y r l : ℕ) → s + (y + 2 + r) ≤ l → s + 1 + (y - 1 + r) ≤ l
newer_found s y r l h = omega arith

pub entry_exchanged : (s y r l : ℕ) → s + (y + 1 + r) ≤ l → s + 1 + (y + r) ≤ l
entry_exchanged s y r l h = omega arith

pub entry_raised : (s c j r l : ℕ) → j < c → s + (4 * (c - j) - 1 + r) ≤ l → s + 1 + (4 * (c - (j + 1)) + 2 + r) ≤ l
entry_raised s c j r l h e = omega arith

pub entries_raised : (s c j r l : ℕ) → j < c → s + (4 * (c - j) - 1 + r) ≤ l → s + 1 + (2 + r) ≤ l
entries_raised s c j r l h e = omega arith

pub request_closed : (s r l : ℕ) → s + (2 + r) ≤ l → s + 1 + (1 + r) ≤ l
request_closed s r l h = omega arith

pub apply_ended : (s r l : ℕ) → s + (1 + r) ≤ l → s + 1 + r ≤ l
apply_ended s r l h = omega arith
