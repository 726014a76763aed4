-- Counts of calls.
use Rattle.std.proofs.Common.{◌≡◌, ℕ, ◌+◌, ◌==◌, Bool, true, false, if◌then◌else◌, List, [], ◌∷◌, ◌++◌, length, refl, ap, arith}
use Rattle.of_store.specs.Store.{Reply, Answered, Aborted}
use Rattle.of_memory.specs.History.{HistoryEntry}
use Rattle.example_bank.specs.Calls.{Call, calls_of, scripts_in, made_in, aborted_in, was_made, was_aborted}

pub made_join : (cs ds : List Call) → made_in (cs ++ ds) ≡ made_in cs + made_in ds
made_join [] ds = omega arith
made_join (c ∷ cs) ds = omega (arith, made_join cs ds)

pub aborted_join : (cs ds : List Call) → aborted_in (cs ++ ds) ≡ aborted_in cs + aborted_in ds
aborted_join [] ds = omega arith
aborted_join (c ∷ cs) ds = omega (arith, aborted_join cs ds)

pub scripts_join : (cs ds : List Call) → scripts_in (cs ++ ds) ≡ scripts_in cs ++ scripts_in ds
scripts_join [] ds = refl
scripts_join (c ∷ cs) ds = ap (λ l. c.0 ∷ l) (scripts_join cs ds)

pub one_each : (r : Reply) → was_made r + was_aborted r ≡ 1
one_each (Answered values) = refl
one_each (Aborted place cause) = refl

pub all_counted : (cs : List Call) → made_in cs + aborted_in cs ≡ length cs
all_counted [] = refl
all_counted (c ∷ cs) = omega (arith, one_each c.1, all_counted cs)

-- the calls of a caller in two histories, one after the other
pub calls_join : (n : ℕ) (h k : List HistoryEntry) → calls_of n (h ++ k) ≡ calls_of n h ++ calls_of n k
calls_join n [] k = refl
calls_join n (e ∷ h) k = go (e.caller == n) (calls_join n h k)
  where
    go : (b : Bool) → calls_of n (h ++ k) ≡ calls_of n h ++ calls_of n k
        → (if b then (e.script, e.reply) ∷ calls_of n (h ++ k) else calls_of n (h ++ k)) ≡ (if b then (e.script, e.reply) ∷ calls_of n h else calls_of n h) ++ calls_of n k
    go true is = ap (λ (l : List Call). (e.script, e.reply) ∷ l) is
    go false is = is
