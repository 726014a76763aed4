-- The walks on partial memory.
use Rattle.std.proofs.Common.{◌≡◌, ℕ, suc, ◌+◌, ◌-◌, ◌<◌, ◌≤◌, ◌≢◌, ◌∙◌, ap, arith, refl, Option}
use Rattle.of_mem.specs.Part.{Part}
use Rattle.of_mem.specs.Programs.{then_do, Ends, run_program}
use Rattle.of_order.specs.OrderPrograms.{least_in_program, least_buckets}
use Rattle.of_order.proofs.Rests.{turn, none_left}

pub is_suc : (f : ℕ) → f ≢ 0 → f ≡ suc (f - 1)
is_suc f n = omega arith

-- one bucket of so many
one_more : (o blocks low j i : ℕ) (best : Option ℕ) → least_buckets o blocks low (suc j) i best ≡ then_do (least_in_program o blocks i low best) (least_buckets o blocks low j (i + 1))
unfolding least_buckets
one_more o blocks low j i best = refl

no_more : (o blocks low i : ℕ) (best : Option ℕ) (p : Part) → run_program (least_buckets o blocks low 0 i best) p ≡ Ends best p
unfolding least_buckets
no_more o blocks low i best p = refl

pub one_bucket : (o blocks low n i : ℕ) (best : Option ℕ) → i < n → least_buckets o blocks low (n - i) i best ≡ then_do (least_in_program o blocks i low best) (least_buckets o blocks low (n - (i + 1)) (i + 1))
one_bucket o blocks low n i best l = ap (λ (j : ℕ). least_buckets o blocks low j i best) (turn n i l) ∙ one_more o blocks low (n - (i + 1)) i best

pub no_bucket : (o blocks low n i : ℕ) (best : Option ℕ) (p : Part) → n ≤ i → run_program (least_buckets o blocks low (n - i) i best) p ≡ Ends best p
no_bucket o blocks low n i best p l = ap (λ (j : ℕ). run_program (least_buckets o blocks low j i best) p) (none_left n i l) ∙ no_more o blocks low i best p
