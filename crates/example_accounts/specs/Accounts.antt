-- Transfers as programs over cells, and what the accounts hold.
use Rattle.std.specs.Prelude.{◌≡◌, ℕ, zero, suc, ◌+◌, ◌*◌, ◌-◌, ◌==◌, ltb, Bool, true, false, not, ◌&&◌, List, [], ◌∷◌, length}
use Rattle.std.proofs.Common.{replicate}
use Rattle.of_mem.specs.declared.work.RawReply.{RawReply}
use Rattle.of_mem.specs.declared.work.TheConstants.{MOST_INSTRS}
use Rattle.of_mem.specs.Programs.{Program, Done, Read, Write}
use Rattle.example_accounts.specs.declared.accounts.Accounts.{Accounts}
use Rattle.example_accounts.specs.declared.transfer.Transfer.{Transfer}
use Rattle.example_accounts.specs.declared.transfer.Reply.{Reply}
use Rattle.example_accounts.specs.declared.transfer.Reply.TheVariants.{Done as Moved, Short, NoAccount}

-- an operation's words
abbrev pub transfer_words : Transfer → List ℕ
transfer_words t = t.from ∷ t.to ∷ t.amount ∷ []

-- a reply as cells hold it: its shape says that it has two numbers, or none
abbrev pub raw_reply : Reply → RawReply
raw_reply (Moved balance) =
    record { shape = 3; values = balance ∷ 1 ∷ replicate (MOST_INSTRS - 2) 0 }
raw_reply (Short balance) =
    record { shape = 3; values = balance ∷ 0 ∷ replicate (MOST_INSTRS - 2) 0 }
raw_reply NoAccount = record { shape = 0; values = replicate MOST_INSTRS 0 }

-- the first cell that is no caller's own
abbrev pub first_cell : Accounts → ℕ
first_cell w = w.callers * (MOST_INSTRS + 2)

abbrev pub account_cell : Accounts → (account : ℕ) → ℕ
account_cell w a = first_cell w + a

abbrev pub cell_count : Accounts → ℕ
cell_count w = first_cell w + w.accounts

-- The balance of an account whose cell holds the number n. Each cell is 0 at first, and account 0
-- has all the money then. So the cell of account 0 holds how much of the money the account does not
-- have; any other cell holds its account's balance. The same function gives the number that the
-- cell of an account with the balance n holds.
abbrev pub flipped : (money account number : ℕ) → ℕ
flipped money zero n = money - n
flipped money (suc a) n = n

abbrev pub balance_in : Accounts → (ℕ → ℕ) → (account : ℕ) → ℕ
balance_in w m a = flipped w.money a (m (account_cell w a))

-- what the first n accounts have together
abbrev pub total_of : Accounts → (ℕ → ℕ) → (n : ℕ) → ℕ
total_of w m zero = 0
total_of w m (suc n) = total_of w m n + balance_in w m n

-- all accounts together have all the money
abbrev pub HasAllMoney : Accounts → (ℕ → ℕ) → Type 0
HasAllMoney w m = total_of w m w.accounts ≡ w.money

-- the program that adds the amount to the balance of account `to`, and then answers the reply
abbrev pub paying_in : Accounts → (to amount : ℕ) → Reply → Program RawReply
paying_in w to amount reply =
    Read (account_cell w to) (λ n.
    Write (account_cell w to) (flipped w.money to (flipped w.money to n + amount))
    (Done (raw_reply reply)))

-- the program that takes the amount off the account `from`, which has this balance, and adds it to
-- the account `to`; if the balance is too small, it changes nothing
abbrev pub paying : Accounts → (from to amount balance : ℕ) → (is_short : Bool) → Program RawReply
paying w from to amount balance true = Done (raw_reply (Short balance))
paying w from to amount balance false =
    Write (account_cell w from) (flipped w.money from (balance - amount))
    (paying_in w to amount (Moved (balance - amount)))

abbrev pub moving : Accounts → (from to amount : ℕ) → Program RawReply
moving w from to amount =
    Read (account_cell w from) (λ n.
    paying w from to amount (flipped w.money from n) (ltb (flipped w.money from n) amount))

-- both accounts exist
abbrev pub has_both : Accounts → (from to : ℕ) → Bool
has_both w from to = ltb from w.accounts && ltb to w.accounts

abbrev pub moving_if : Accounts → (from to amount : ℕ) → (has_both : Bool) → Program RawReply
moving_if w from to amount true = moving w from to amount
moving_if w from to amount false = Done (raw_reply NoAccount)

-- the program of an operation: three words are a transfer between two accounts, and any other words
-- get the reply that an account doesn't exist
abbrev pub transferring : Accounts → List ℕ → Program RawReply
transferring w [] = Done (raw_reply NoAccount)
transferring w (from ∷ []) = Done (raw_reply NoAccount)
transferring w (from ∷ to ∷ []) = Done (raw_reply NoAccount)
transferring w (from ∷ to ∷ amount ∷ []) = moving_if w from to amount (has_both w from to)
transferring w (from ∷ to ∷ amount ∷ more ∷ words) = Done (raw_reply NoAccount)

-- whether an operation's words are no transfer; then it writes nothing
abbrev pub is_no_transfer : List ℕ → Bool
is_no_transfer op = not (length op == 3)
