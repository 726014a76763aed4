-- What the accounts have together if one of them gets another balance. These lemmas are in specs/
-- since the proof that accounts are a work uses them, and an impl may cite specs/ alone.
use Rattle.std.proofs.Common.{◌≡◌, ℕ, zero, suc, ◌+◌, ◌<◌, ◌≤◌, inl, inr, refl, arith}
use Rattle.std.proofs.lemmas.Bool.{cases_eq}
use Rattle.of_mem.specs.Programs.{with_value}
use Rattle.of_mem.proofs.Changes.{changed_same, changed_other}
use Rattle.example_accounts.specs.declared.accounts.Accounts.{Accounts}
use Rattle.example_accounts.specs.Accounts.{account_cell, flipped, balance_in, total_of, HasAllMoney}

pub flipped_low : (money a n : ℕ) → n ≤ money → flipped money a n ≤ money
flipped_low money zero n l = omega arith
flipped_low money (suc a) n l = l

flipped_twice : (money a n : ℕ) → n ≤ money → flipped money a (flipped money a n) ≡ n
flipped_twice money zero n l = omega arith
flipped_twice money (suc a) n l = refl

module _ (w : Accounts) where
  -- the memory in which an account has this balance
  abbrev pub with_balance : (ℕ → ℕ) → (account balance : ℕ) → ℕ → ℕ
  with_balance m a b = with_value m (account_cell w a) (flipped w.money a b)

  -- what the first k accounts have together depends only on their cells
  pub total_same : (m n : ℕ → ℕ) (k : ℕ)
      → ((a : ℕ) → a < k → m (account_cell w a) ≡ n (account_cell w a))
      → total_of w m k ≡ total_of w n k
  total_same m n zero same = refl
  total_same m n (suc k) same =
      let before = total_same m n k (λ a l. same a (omega (arith, l))) in
      rw (before, same k (omega arith)) refl

  -- if all cells are zeros, the accounts have all the money
  zeros_below : (m : ℕ → ℕ) → ((a : ℕ) → m a ≡ 0) → (k : ℕ) → total_of w m (suc k) ≡ w.money
  zeros_below m z zero = let e = z (account_cell w 0) in rw e (omega arith)
  zeros_below m z (suc k) =
      let e = z (account_cell w (suc k)) in
      rw (e, zeros_below m z k) (omega arith)

  pub zeros : (m : ℕ → ℕ) → ((a : ℕ) → m a ≡ 0) → HasAllMoney w m
  zeros m z = at w.accounts w.some_accounts
    where
      at : (n : ℕ) → 1 ≤ n → total_of w m n ≡ w.money
      at zero l = absurd (omega arith)
      at (suc k) l = zeros_below m z k

  total_past : (m : ℕ → ℕ) (a b k : ℕ) → k ≤ a
      → total_of w (with_balance m a b) k ≡ total_of w m k
  total_past m a b k l = total_same (with_balance m a b) m k (λ x low.
      changed_other m (account_cell w a) (flipped w.money a b) (account_cell w x)
      (λ e. omega (arith, low, l, e)))

  -- what the accounts have together, if the balance of one of them is replaced by another balance
  pub total_with : (m : ℕ → ℕ) (a b k : ℕ) → a < k → b ≤ w.money
      → total_of w (with_balance m a b) k + balance_in w m a ≡ total_of w m k + b
  total_with m a b zero l few = absurd (omega arith)
  total_with m a b (suc k) l few = elim (cases_eq a k) [
    | inl e ↦
        let past = total_past m a b a (omega arith) in
        let here = changed_same m (account_cell w a) (flipped w.money a b) in
        rw (← e, past, here, flipped_twice w.money a b few) (omega arith)
    | inr n ↦
        let before = total_with m a b k (omega (arith, n)) few in
        let other = changed_other m (account_cell w a) (flipped w.money a b) (account_cell w k)
        (λ e. omega arith) in
        rw other (omega (arith, before))
  ]

  pub balance_below : (m : ℕ → ℕ) (a k : ℕ) → a < k → balance_in w m a ≤ total_of w m k
  balance_below m a zero l = absurd (omega arith)
  balance_below m a (suc k) l = elim (cases_eq a k) [
    | inl e ↦ rw e (omega arith)
    | inr n ↦ let h = balance_below m a k (omega (arith, n)) in omega (arith, h)
  ]
