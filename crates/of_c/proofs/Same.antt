-- What is held is told by its memory, and by what it has saved.
use mathlib.Core.Logic.{∥∥₁_prop}
use Rattle.std.proofs.Common.{◌≡◌, ap, subst}
use Rattle.of_memory.specs.declared.memory.Memory.{Memory}
use Rattle.of_memory.specs.declared.saved.Saved.{Saved}
use Rattle.of_memory.specs.Memories.{IsMemory}
use Rattle.of_memory.specs.Saving.{IsSaved}
use Rattle.of_c.specs.declared.held.Home.{Home}
use Rattle.of_c.specs.declared.held.Kept.{Kept}

abbrev home_with : (m : Memory) → ∥ IsMemory m ∥₁ → Home
home_with m is = record { memory = m; is = is }

pub same_home : (a b : Home) → a.memory ≡ b.memory → a ≡ b
same_home a b same =
    subst (λ (m : Memory). (is : ∥ IsMemory m ∥₁) → a ≡ home_with m is) same
    (λ is. ap (home_with a.memory) (∥∥₁_prop a.is is)) b.is

abbrev kept_with : (d : Saved) → ∥ IsSaved d ∥₁ → Kept
kept_with d is = record { saved = d; is = is }

pub same_kept : (a b : Kept) → a.saved ≡ b.saved → a ≡ b
same_kept a b same =
    subst (λ (d : Saved). (is : ∥ IsSaved d ∥₁) → a ≡ kept_with d is) same
    (λ is. ap (kept_with a.saved) (∥∥₁_prop a.is is)) b.is
