-- What comes behind the seeking of a key, and a get and a count, where more cells come to be known.
use Rattle.std.proofs.Common.{◌≡◌, ℕ, ◌<◌, Option, Some, Ok, sym, subst, length}
use Rattle.std.specs.Prelude.{Result}
use Rattle.std.specs.FinMap as fin
use Rattle.of_mem.specs.declared.part.Need.{Need}
use Rattle.of_mem.specs.declared.plot.Plot.{Plot}
use Rattle.of_mem.specs.Plots.{data_cell_count}
use Rattle.of_mem.specs.Part.{Part, with_known}
use Rattle.of_mem.specs.Programs.{Program, then_do}
use Rattle.of_mem.specs.Calls.{RunsProgram, HasStore, AnswersOfStore}
use Rattle.of_mem.specs.OnDemand.{Running, Always, MayRun, RunsOn, HasOnlyRead}
use Rattle.of_mem.proofs.OnDemand.{may_first, may_after_only_read, may_weaker, ran_alone, runs_over, extends_on, now}
use Rattle.of_map.specs.declared.answers.Position.{Position}
use Rattle.of_map.specs.Found.{HasBucketChain, IsPositionKept}
use Rattle.of_map.specs.MapPrograms.{seek, get, count}
use Rattle.of_map.proofs.Knows.{leads_bucket, seek_kept, kept_below}
use Rattle.of_map.proofs.Wholes.{get_answers, count_answers}

-- a call that seeks a key first
module _ {A : Type 0} (plot : Plot) (key : ℕ) (g : Option Position → Program A) (c : Running) (h : MayRun (then_do (seek plot key) g) (HasStore plot) c) where
  pub may_seek : MayRun (seek plot key) (λ p. HasBucketChain plot p key) c
  may_seek = may_first (seek plot key) g (HasStore plot) (λ p. HasBucketChain plot p key) c (λ p. leads_bucket plot p key) h

  module _ (d : Running) (x : Option Position) (same : HasOnlyRead c.part d.part) (r : RunsOn (seek plot key) c d (Ok x)) where
    pub may_after_seek : (y : Option Position) → x ≡ y → MayRun (g y) (HasStore plot) d
    may_after_seek y is = may_after_only_read (seek plot key) g (HasStore plot) c d x y h same r is

    module _ (place : Position) (is : x ≡ Some place) where
      place_kept : Always (λ p. IsPositionKept plot p key place) d
      place_kept more e k = subst (λ (p : Part). IsPositionKept plot (with_known more p) key place) (sym same)
          (seek_kept plot (with_known more c.part) (with_known more d.part) key x place (h.always more (extends_on c.part.known d.part.known more r.goes.more e) (r.goes.may_know more k)) (ran_alone (seek plot key) c d x more r e) is)

      pub may_at_place : MayRun (g (Some place)) (λ p. IsPositionKept plot p key place) d
      may_at_place = let m = may_after_seek (Some place) is in record { knows = m.knows; always = place_kept; serves = m.serves }

      pub may_at_block : MayRun (g (Some place)) (λ p. length p.known ≡ data_cell_count plot) d
      may_at_block = may_weaker (g (Some place)) (λ p. IsPositionKept plot p key place) (λ p. length p.known ≡ data_cell_count plot) d (λ p k. k.fits) may_at_place

      pub place_below : place.block < plot.blocks
      place_below = kept_below plot d.part key place (now (λ p. IsPositionKept plot p key place) d r.goes.knows place_kept)

-- what a get that ran answers
pub gets_on : (plot : Plot) (key : ℕ) (c d : Running) (result : Result (Option ℕ) Need) → HasOnlyRead c.part d.part → RunsOn (get plot key) c d result → AnswersOfStore plot d.part result (λ s. fin.get s.map key)
gets_on plot key c d result same r =
    get_answers plot key d.part result (subst (λ (p : Part). RunsProgram (get plot key) p d.part result) (sym same) (runs_over (get plot key) c d result r))

-- what a count that ran answers
pub counts_on : (plot : Plot) (c d : Running) (result : Result ℕ Need) → HasOnlyRead c.part d.part → RunsOn (count plot) c d result → AnswersOfStore plot d.part result (λ s. fin.len s.map)
counts_on plot c d result same r =
    count_answers plot d.part result (subst (λ (p : Part). RunsProgram (count plot) p d.part result) (sym same) (runs_over (count plot) c d result r))
