use Rattle.std.proofs.Common.{◌≡◌, ℕ, ◌<◌, Option, get_or}
use Rattle.of_c.specs.Replies.{given_flag, given_number}
use Rattle.of_c.proofs.reply.write_values.Given as goal

-- what is written so far
abbrev pub invariant-loop-place : goal.invariant-loop-place
invariant-loop-place l = record {
  given : (i : ℕ) (d : Option ℕ) (e : ℕ) → i < l.place → get_or l.given i e ≡ given_flag (get_or l.values i d);
  numbers : (i : ℕ) (d : Option ℕ) (e : ℕ) → i < l.place → get_or l.numbers i e ≡ given_number (get_or l.values i d);
}
