-- An instruction that reads cells that it asks for: a call of a crate below, and what becomes of
-- its answer.
use Rattle.std.proofs.Common.{◌≡◌, ℕ, refl, sym, subst, false, ltb, Result, Ok}
use Rattle.of_mem.specs.declared.part.Need.{Need}
use Rattle.of_mem.specs.Part.{Part}
use Rattle.of_mem.specs.Programs.{Program, Done, then_do}
use Rattle.of_mem.specs.OnDemand.{Running, MayRun, RunsOn}
use Rattle.of_mem.proofs.OnDemand.{serves_first, runs_both, runs_done}
use Rattle.of_store.specs.declared.store.TheConstants.{MOST_ORDERED_BLOCKS}
use Rattle.of_eval.specs.ScriptPrograms.{InstrResult, ordered_program}

-- the first of two calls may run
pub may_first : {A B : Type 0} (f : Program A) (g : A → Program B) (R : Part → Type 0) (c : Running) → MayRun (then_do f g) R c → MayRun f R c
may_first f g R c h = record { knows = h.knows; always = h.always; serves = serves_first f g c h.serves }

-- a call whose answer is made of another's
pub answers_on : {A B : Type 0} (f : Program A) (g : A → Program B) (c d : Running) (x : A) (r : B) → RunsOn f c d (Ok x) → g x ≡ Done r → RunsOn (then_do f g) c d (Ok r)
answers_on f g c d x r first is = runs_both f g c d d x x (Ok r) first refl (subst (λ (p : Program _). RunsOn p d d (Ok r)) (sym is) (runs_done d r first.goes.knows))

-- where there are few blocks, an instruction on keys in their order runs as its program
module _ (blocks : ℕ) (few : ltb MOST_ORDERED_BLOCKS blocks ≡ false) (f : Program InstrResult) where
  pub may_ordered : (R : Part → Type 0) (c : Running) → MayRun (ordered_program blocks f) R c → MayRun f R c
  may_ordered R c h = rw few at h

  pub ordered_on : (c d : Running) (r : Result InstrResult Need) → RunsOn f c d r → RunsOn (ordered_program blocks f) c d r
  ordered_on c d r h = rw few h
