-- A machine that begins to read knows no cell.
use Rattle.std.proofs.Common.{◌≡◌, ℕ, get_or, replicate, sym, ◌∙◌, Option, Some, None}
use Rattle.of_mem.proofs.Lists.{none_at}

pub known_not : (n i v : ℕ) → get_or {A = Option ℕ} (replicate n None) i None ≡ Some v → ⊥
known_not n i v q = away (sym (none_at n i) ∙ q)
  where
    away : ◌≡◌ {A = Option ℕ} None (Some v) → ⊥
    away e = cc
