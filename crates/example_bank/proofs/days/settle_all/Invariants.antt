use Rattle.std.proofs.Common.{◌≡◌, ℕ, ◌<◌, ◌≤◌, length, get_or}
use Rattle.example_bank.specs.declared.clerk.Clerk.{Clerk}
use Rattle.example_bank.specs.Clerks.{Settles}
use Rattle.example_bank.proofs.days.settle_all.Given as goal

-- the clerks before this one have settled, and the others are as they were
abbrev pub invariant-loop-number : goal.invariant-loop-number
invariant-loop-number l = record {
  count : length l.clerks.items ≡ length l.fn.clerks.items;
  settled : (n : ℕ) (x : Clerk) → n < l.number → Settles n l.before l.after (get_or l.fn.clerks.items n x) (get_or l.clerks.items n x);
  others : (n : ℕ) (x : Clerk) → l.number ≤ n → n < length l.fn.clerks.items → get_or l.clerks.items n x ≡ get_or l.fn.clerks.items n x;
}
