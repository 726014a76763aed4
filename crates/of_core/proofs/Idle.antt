-- What an idle machine is, and one that takes a lost one's place.
use Rattle.std.proofs.Common.{◌≡◌, ℕ, ◌⊎◌, inl, inr, [], refl, ap, subst, Bool, true, false}
use Rattle.of_core.specs.declared.place.Place.{Place}
use Rattle.of_core.specs.declared.place.Place.TheVariants.{Idle}
use Rattle.of_core.specs.declared.remains.Remains.{Remains}
use Rattle.of_core.specs.Remains.{announces_open_call, revived_if, revived_machine}
use Rattle.of_core.specs.Table.{Setup}
use Rattle.of_core.specs.Machine.{CallState, IsOpen, is_idle}
use Rattle.of_core.specs.Steps.{take_word, take_word_at, with_step_counted}
use Rattle.of_core.specs.TableMoment.{step_reads, step_reads_if}
use Rattle.of_core.specs.Order.{HasBegunTry}
use Rattle.of_core.specs.Facts.{ReadsFrom, rests_on_seq, rests_on_seq_at}

-- a machine is idle, or a call of it is open
pub idle_or_open : (p : Place) → (p ≡ Idle) ⊎ IsOpen p
idle_or_open Idle = inl refl
idle_or_open p = inr refl

-- a step leaves an idle machine as it is, and answers nothing
pub idle_stays : (S : Setup) (m : CallState) (n : ℕ) → m.place ≡ Idle → (take_word S m n ≡ m) × (step_reads m m ≡ [])
unfolding take_word step_reads
idle_stays S m n e = (ap (λ (p : Place). take_word_at S (with_step_counted p m) n p) e, ap (λ (b : Bool). step_reads_if m b (is_idle m.place)) (ap is_idle e))

-- it rests on nothing
pub rests_idle : (m : CallState) → m.place ≡ Idle → rests_on_seq m ≡ 0
unfolding rests_on_seq
rests_idle m e = ap (rests_on_seq_at m) e

-- and no try of it has read
pub idle_reads : (m : CallState) → m.place ≡ Idle → (low : ℕ) → ReadsFrom low m
unfolding ReadsFrom
idle_reads m e low t = let z : HasBegunTry m Idle = subst (HasBegunTry m) e t in absurd z

-- a new machine is idle, or about to load the current-transaction word
pub revived_rests : (S : Setup) (r : Remains) (i made : ℕ) → (rests_on_seq (revived_machine S r i made) ≡ 0) × ((low : ℕ) → ReadsFrom low (revived_machine S r i made))
unfolding rests_on_seq ReadsFrom
revived_rests S r i made = go (announces_open_call r)
  where
    go : (b : Bool) → (rests_on_seq (revived_if S r i made b) ≡ 0) × ((low : ℕ) → ReadsFrom low (revived_if S r i made b))
    go true = (refl, λ low t. absurd t)
    go false = (refl, λ low t. absurd t)
