-- Accounts meet the rules of a work. `impl Work for Accounts` cites these lemmas as its laws, and
-- an impl may cite specs/ alone.
use Rattle.std.proofs.Common.{◌≡◌, ℕ, inl, inr, zero, suc, ◌+◌, ◌-◌, ◌^◌, ◌<◌, ◌≤◌, Bool, true, false, ltb, ◌&&◌, List, [], ◌∷◌, length, get_or, replicate, refl, sym, ◌∙◌, arith}
use Rattle.std.specs.Int.{bit_at}
use Rattle.std.proofs.lemmas.Nat.Bits.{bit_at_above}
use Rattle.std.proofs.lemmas.Bool.{cases_lt, ltb-true, ltb-false, true≢false}
use Rattle.std.proofs.lemmas.List.{get_or-replicate}
use Rattle.of_mem.specs.declared.work.RawReply.{RawReply}
use Rattle.of_mem.specs.declared.work.TheConstants.{MOST_INSTRS}
use Rattle.of_mem.specs.Numbers.{FitsCell}
use Rattle.of_mem.specs.Meaning.{IsSoundMeaning, HasRoom, is_marked}
use Rattle.of_mem.specs.Programs.{Program, program_answer, memory_after, StaysBetween, StaysFrom, OnlyReads}
use Rattle.of_mem.specs.ProgramWork.{memory_of, IsReplyTo, AreSound}
use Rattle.of_mem.specs.Touching.{ReadsAtMost, WritesAtMost}
use Rattle.of_mem.specs.ProgramTouches.{HasSmallPrograms, few_reads, few_writes}
use Rattle.of_mem.proofs.Sounds.{sound}
use Rattle.example_accounts.specs.declared.accounts.Accounts.{Accounts}
use Rattle.example_accounts.specs.declared.transfer.Reply.TheVariants.{Done as Moved, NoAccount}
use Rattle.example_accounts.specs.Accounts.{first_cell, account_cell, cell_count, flipped, balance_in, total_of, HasAllMoney, raw_reply, paying_in, paying, has_both, moving_if, transferring, is_no_transfer}
use Rattle.example_accounts.specs.Meaning.{accounts_meaning, LawfulCells}
use Rattle.example_accounts.specs.Money.{flipped_low, with_balance, total_same, zeros, total_with, balance_below}

pub accounts_fit : (w : Accounts) → HasRoom w.callers (cell_count w)
accounts_fit w = record {
  some = w.some_callers;
  few = w.few_callers;
  own = omega arith;
  small = omega (arith, w.few_callers, w.few_accounts);
}

-- ---- replies

marks_below : (shape k j : ℕ) → shape < 2 ^ k → k ≤ j → is_marked shape j ≡ false
unfolding is_marked
marks_below shape k j small l =
    let b : bit_at shape j ≡ 0 = bit_at_above shape k j small l in
    rw b refl

-- the shape 3 marks two numbers
two_marks : (j : ℕ) → is_marked 3 j ≡ true → j < 2
two_marks j e = elim (cases_lt j 2) [
  | inl l ↦ l
  | inr l ↦ absurd (true≢false (sym e ∙ marks_below 3 2 j (omega arith) l))
]

abbrev two_numbers : (x y : ℕ) → List ℕ
two_numbers x y = x ∷ y ∷ replicate (MOST_INSTRS - 2) 0

is_reply : (x y : ℕ) (op : List ℕ) → FitsCell x → FitsCell y → 2 ≤ length op
    → IsReplyTo op (record { shape = 3; values = two_numbers x y })
unfolding is_marked
is_reply x y op fx fy l = record {
  shape = omega arith;
  values = λ k d m. fits k d m;
  marks = λ j m e.
      let b = two_marks j e in
      (omega arith, omega (arith, b, l), omega (arith, b));
  rest = λ j m e. rest j m e;
}
  where
    fits : (k d : ℕ) → k < MOST_INSTRS → FitsCell (get_or (two_numbers x y) k d)
    fits zero d m = fx
    fits (suc zero) d m = fy
    fits (suc (suc k)) d m =
        let z = get_or-replicate (MOST_INSTRS - 2) k 0 d (omega (arith, m)) in
        rw z (omega arith)

    rest : (j : ℕ) → j < MOST_INSTRS → is_marked 3 j ≡ false → get_or (two_numbers x y) j 0 ≡ 0
    rest zero m e = absurd (true≢false e)
    rest (suc zero) m e = absurd (true≢false e)
    rest (suc (suc k)) m e = get_or-replicate (MOST_INSTRS - 2) k 0 0 (omega (arith, m))

no_reply : (op : List ℕ) → IsReplyTo op (raw_reply NoAccount)
no_reply op = record {
  shape = omega arith;
  values = λ k d m.
      let z = get_or-replicate MOST_INSTRS k 0 d (omega (arith, m)) in
      rw z (omega arith);
  marks = λ j m e. absurd (true≢false (sym e ∙ marks_below 0 0 j (omega arith) (omega arith)));
  rest = λ j m e. get_or-replicate MOST_INSTRS j 0 0 m;
}

both : (a b : Bool) → (a && b) ≡ true → (a ≡ true) × (b ≡ true)
both true b e = (refl, e)
both false b e = absurd (true≢false (sym e))

module _ (w : Accounts) where
  -- ---- on a memory that has all the money

  pub record IsGood (op : List ℕ) (f : Program RawReply) (m : ℕ → ℕ) : Type 0 where
    pub inside : StaysBetween (first_cell w) (cell_count w) f m
    pub leads : HasAllMoney w (memory_after f m)
    pub reply : IsReplyTo op (program_answer f m)

  -- if an amount is taken off an account, all accounts together have that much less than all the
  -- money
  pub taken : (m : ℕ → ℕ) (from amount : ℕ) → HasAllMoney w m → from < w.accounts
      → amount ≤ balance_in w m from
      → total_of w (with_balance w m from (balance_in w m from - amount)) w.accounts + amount
      ≡ w.money
  taken m from amount h lt enough =
      let low = balance_below w m from w.accounts lt in
      let written = total_with w m from (balance_in w m from - amount) w.accounts lt
      (omega (arith, low, h)) in
      omega (arith, written, h, enough)

  paid_in : (m : ℕ → ℕ) (to amount balance : ℕ) (op : List ℕ)
      → total_of w m w.accounts + amount ≡ w.money → to < w.accounts → balance ≤ w.money
      → 2 ≤ length op → IsGood op (paying_in w to amount (Moved balance)) m
  paid_in m to amount balance op h lt few l =
      let low = balance_below w m to w.accounts lt in
      let most : balance_in w m to + amount ≤ w.money = omega (arith, low, h) in
      let written = total_with w m to (balance_in w m to + amount) w.accounts lt most in
      let small = flipped_low w.money to (balance_in w m to + amount) most in
      record {
        inside = (
          omega arith,
          omega (arith, lt),
          (omega arith, omega (arith, lt), omega (arith, small, w.small), tt),
        );
        leads = omega (arith, written, h);
        reply = is_reply balance 1 op (omega (arith, few, w.small)) (omega arith) l;
      }

  paid : (m : ℕ → ℕ) (from to amount : ℕ) (op : List ℕ) → HasAllMoney w m → from < w.accounts
      → to < w.accounts → 2 ≤ length op → (b : Bool) → ltb (balance_in w m from) amount ≡ b
      → IsGood op (paying w from to amount (balance_in w m from) b) m
  paid m from to amount op h lf lt l true e =
      let low = balance_below w m from w.accounts lf in
      let fits : FitsCell (balance_in w m from) = omega (arith, low, h, w.small) in
      record {
        inside = tt;
        leads = h;
        reply = is_reply (balance_in w m from) 0 op fits (omega arith) l;
      }
  paid m from to amount op h lf lt l false e =
      let enough : amount ≤ balance_in w m from = ltb-false (balance_in w m from) amount e in
      let low = balance_below w m from w.accounts lf in
      let left : ℕ = balance_in w m from - amount in
      let few : left ≤ w.money = omega (arith, low, h) in
      let small = flipped_low w.money from left few in
      let room = taken m from amount h lf enough in
      let next = paid_in (with_balance w m from left) to amount left op room lt few l in
      record {
        inside = (omega arith, omega (arith, lf), omega (arith, small, w.small), next.inside);
        leads = next.leads;
        reply = next.reply;
      }

  good_if : (m : ℕ → ℕ) (from to amount : ℕ) (op : List ℕ) → HasAllMoney w m → 2 ≤ length op
      → (b : Bool) → has_both w from to ≡ b → IsGood op (moving_if w from to amount b) m
  good_if m from to amount op h l true e =
      let exist = both (ltb from w.accounts) (ltb to w.accounts) e in
      let lf : from < w.accounts = ltb-true from w.accounts exist.0 in
      let lt : to < w.accounts = ltb-true to w.accounts exist.1 in
      let p = paid m from to amount op h lf lt l (ltb (balance_in w m from) amount) refl in
      record {
        inside = (omega arith, omega (arith, lf), p.inside);
        leads = p.leads;
        reply = p.reply;
      }
  good_if m from to amount op h l false e =
      record { inside = tt; leads = h; reply = no_reply op }

  none : (op : List ℕ) (m : ℕ → ℕ) → HasAllMoney w m → IsGood op (transferring w []) m
  none op m h = record { inside = tt; leads = h; reply = no_reply op }

  pub good : (m : ℕ → ℕ) (op : List ℕ) → HasAllMoney w m → IsGood op (transferring w op) m
  good m [] h = none [] m h
  good m (from ∷ []) h = none (from ∷ []) m h
  good m (from ∷ to ∷ []) h = none (from ∷ to ∷ []) m h
  good m (from ∷ to ∷ amount ∷ []) h =
      good_if m from to amount (from ∷ to ∷ amount ∷ []) h (omega arith) (has_both w from to) refl
  good m (from ∷ to ∷ amount ∷ more ∷ op) h = none (from ∷ to ∷ amount ∷ more ∷ op) m h

  -- ---- on every memory

  paying_stays : (from to amount balance : ℕ) (b : Bool)
      → StaysFrom (first_cell w) (paying w from to amount balance b)
  paying_stays from to amount balance true = tt
  paying_stays from to amount balance false = (omega arith, (omega arith, λ v. (omega arith, tt)))

  moving_stays : (from to amount : ℕ) (b : Bool)
      → StaysFrom (first_cell w) (moving_if w from to amount b)
  moving_stays from to amount true = (
    omega arith,
    λ n.
        let balance : ℕ = flipped w.money from n in
        paying_stays from to amount balance (ltb balance amount),
  )
  moving_stays from to amount false = tt

  stays : (op : List ℕ) → StaysFrom (first_cell w) (transferring w op)
  stays [] = tt
  stays (from ∷ []) = tt
  stays (from ∷ to ∷ []) = tt
  stays (from ∷ to ∷ amount ∷ []) = moving_stays from to amount (has_both w from to)
  stays (from ∷ to ∷ amount ∷ more ∷ words) = tt

  -- ---- how much they write

  paying_writes : (from to amount balance : ℕ) (b : Bool)
      → WritesAtMost 2 (paying w from to amount balance b)
  paying_writes from to amount balance true = tt
  paying_writes from to amount balance false = λ v. tt

  moving_writes : (from to amount : ℕ) (b : Bool) → WritesAtMost 2 (moving_if w from to amount b)
  moving_writes from to amount true = λ n.
      let balance : ℕ = flipped w.money from n in
      paying_writes from to amount balance (ltb balance amount)
  moving_writes from to amount false = tt

  -- a transfer writes at most the cells of its two accounts
  writes_two : (op : List ℕ) → WritesAtMost 2 (transferring w op)
  writes_two [] = tt
  writes_two (from ∷ []) = tt
  writes_two (from ∷ to ∷ []) = tt
  writes_two (from ∷ to ∷ amount ∷ []) = moving_writes from to amount (has_both w from to)
  writes_two (from ∷ to ∷ amount ∷ more ∷ words) = tt

  -- ---- and how much they read

  paying_reads : (from to amount balance : ℕ) (b : Bool)
      → ReadsAtMost 1 (paying w from to amount balance b)
  paying_reads from to amount balance true = tt
  paying_reads from to amount balance false = λ v. tt

  moving_reads : (from to amount : ℕ) (b : Bool) → ReadsAtMost 2 (moving_if w from to amount b)
  moving_reads from to amount true = λ n.
      let balance : ℕ = flipped w.money from n in
      paying_reads from to amount balance (ltb balance amount)
  moving_reads from to amount false = tt

  reads_two : (op : List ℕ) → ReadsAtMost 2 (transferring w op)
  reads_two [] = tt
  reads_two (from ∷ []) = tt
  reads_two (from ∷ to ∷ []) = tt
  reads_two (from ∷ to ∷ amount ∷ []) = moving_reads from to amount (has_both w from to)
  reads_two (from ∷ to ∷ amount ∷ more ∷ words) = tt

  no_transfer_reads : (op : List ℕ) → is_no_transfer op ≡ true → OnlyReads (transferring w op)
  no_transfer_reads [] e = tt
  no_transfer_reads (from ∷ []) e = tt
  no_transfer_reads (from ∷ to ∷ []) e = tt
  no_transfer_reads (from ∷ to ∷ amount ∷ []) e = absurd (true≢false (sym e))
  no_transfer_reads (from ∷ to ∷ amount ∷ more ∷ words) e = tt

  -- ---- so they are a work

  pub are_sound :
      AreSound (λ r. true) is_no_transfer (transferring w) (HasAllMoney w) (first_cell w)
      (cell_count w)
  are_sound = record {
    zeros = λ m z. zeros w m z;
    leads = λ m op h k. (good m op h).leads;
    lawful_from = λ m n same h.
        sym (total_same w m n w.accounts (λ a l. same (account_cell w a) (omega arith))) ∙ h;
    stays = stays;
    inside = λ m op h. (good m op h).inside;
    few = λ m op h.
        let two = few_writes 2 (transferring w op) m (writes_two op) in
        inr (omega (arith, two));
    replies = λ m op h. (good m op h).reply;
    reads_only = no_transfer_reads;
  }

  pub accounts_sound :
      IsSoundMeaning (accounts_meaning w) (LawfulCells w) (first_cell w) (cell_count w)
  accounts_sound =
      sound (λ r. true) is_no_transfer (transferring w) (HasAllMoney w) (first_cell w)
      (cell_count w) are_sound

  -- each operation reads at most two cells and writes at most two, however many accounts there are
  pub small_programs :
      HasSmallPrograms (accounts_meaning w) (LawfulCells w) (first_cell w) (cell_count w) 2 2
  small_programs = record {
    keeps = λ r. true;
    reads_only = is_no_transfer;
    program = transferring w;
    meaning = refl;
    inside = λ xs op sized h. (good (memory_of xs) op h).inside;
    few_reads = λ xs op sized h. few_reads 2 (transferring w op) (memory_of xs) (reads_two op);
    few_writes = λ xs op sized h. few_writes 2 (transferring w op) (memory_of xs) (writes_two op);
  }
