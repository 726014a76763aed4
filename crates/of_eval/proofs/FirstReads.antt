-- The walks over all buckets, of First and of Next, begin with a read of the first bucket's cell,
-- where there are few enough blocks that they are run.
use Rattle.std.proofs.Common.{◌≡◌, ℕ, ◌+◌, ◌≤◌, Option, ap}
use Rattle.std.proofs.lemmas.Bool.{le-ltb}
use Rattle.of_mem.specs.Programs.{Program, Read, then_do}
use Rattle.of_mem.specs.Places.{bucket_at}
use Rattle.of_order.specs.OrderPrograms.{least_program}
use Rattle.of_order.proofs.Buckets.{least_begins}
use Rattle.of_script.specs.declared.instr.Instr.TheVariants.{First, Next}
use Rattle.of_store.specs.declared.store.TheConstants.{MOST_ORDERED_BLOCKS}
use Rattle.of_eval.specs.ScriptPrograms.{InstrResult, answer_program, instr_program}

module _ (o blocks : ℕ) (few : blocks ≤ MOST_ORDERED_BLOCKS) where
  begins : (low : ℕ)
      → (k : ℕ → Program InstrResult)
      × (then_do (least_program o blocks low) answer_program ≡ Read (bucket_at o blocks 0) k)
  begins low =
      let b = least_begins o blocks low in (
        (λ v. then_do (b.0 v) answer_program),
        ap (λ (f : Program (Option ℕ)). then_do f answer_program) b.1,
      )

  pub first_begins : (k : ℕ → Program InstrResult)
      × (instr_program o blocks First ≡ Read (bucket_at o blocks 0) k)
  first_begins = rw (le-ltb MOST_ORDERED_BLOCKS blocks few) (begins 0)

  pub next_begins : (key : ℕ)
      → (k : ℕ → Program InstrResult) × (instr_program o blocks (Next key) ≡ Read (bucket_at o blocks 0) k)
  next_begins key = rw (le-ltb MOST_ORDERED_BLOCKS blocks few) (begins (key + 1))
