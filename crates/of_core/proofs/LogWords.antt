-- The words of a log by their place, as the code reads them off a write-set.
use Rattle.std.proofs.Common.{◌≡◌, ℕ, ◌+◌, ◌-◌, ◌*◌, ◌/◌, ◌%◌, ◌<◌, List, length, get_or, ap, ◌∙◌, arith}
use Rattle.of_core.specs.Machine.{log_words}
use Rattle.of_core.proofs.Logs.{length-log_words, words_at}

-- word x of a log, x above 0
pub word_address : (es : List (ℕ × ℕ)) (x : ℕ) → 0 < x → x < length (log_words es) → x % 2 ≡ 1 → get_or (log_words es) x 0 ≡ (get_or es ((x - 1) / 2) (0, 0)).0
word_address es x p l o =
    let s : x ≡ 2 * ((x - 1) / 2) + 1 = omega arith in
    ap (λ (k : ℕ). get_or (log_words es) k 0) s ∙ (words_at es ((x - 1) / 2) (omega (arith, length-log_words es))).0

pub word_value : (es : List (ℕ × ℕ)) (x : ℕ) → 0 < x → x < length (log_words es) → (x % 2 ≡ 1 → ⊥) → get_or (log_words es) x 0 ≡ (get_or es ((x - 1) / 2) (0, 0)).1
word_value es x p l o =
    let s : x ≡ 2 * ((x - 1) / 2) + 2 = omega arith in
    ap (λ (k : ℕ). get_or (log_words es) k 0) s ∙ (words_at es ((x - 1) / 2) (omega (arith, length-log_words es))).1

pub word_entry : (es : List (ℕ × ℕ)) (x : ℕ) → 0 < x → x < length (log_words es) → (x - 1) / 2 < length es
word_entry es x p l = omega (arith, length-log_words es)

pub ruleset word_laws = (word_address, word_value, word_entry, length-log_words)
