-- The walk to the least key where one more cell may come to be known at each read.
use Rattle.std.proofs.Common.{◌≡◌, ◌≢◌, ℕ, suc, ◌+◌, ◌-◌, ◌<◌, ◌⊎◌, ◌∙◌, Option, Some, None, Ok, length, ap, sym, subst, arith}
use Rattle.std.specs.Prelude.{Result}
use Rattle.of_mem.specs.declared.part.Need.{Need}
use Rattle.of_mem.specs.declared.plot.Plot.{Plot}
use Rattle.of_mem.specs.declared.walk.Sought.TheVariants.{LeastFrom}
use Rattle.of_mem.specs.declared.walk.Walk.{Walk}
use Rattle.of_mem.specs.Calls.{RunsProgram, HasStore, AnswersOfStore}
use Rattle.of_mem.specs.OnDemand.{Running, RunGoesOn, RunsOn, MayRun, HasOnlyRead, read_cell}
use Rattle.of_mem.specs.Part.{Part, newest_at, with_known}
use Rattle.of_mem.specs.Plots.{base}
use Rattle.of_mem.specs.Programs.{Program, run_program, NeedsAt}
use Rattle.of_mem.specs.Stores.{first_at}
use Rattle.of_mem.specs.Walks.{WeighsBuckets, HasCome}
use Rattle.of_mem.proofs.OnDemand.{extends_all, extends_on, now, read_gave, runs_over, still_known}
use Rattle.of_mem.proofs.Runs.{run_unknown}
use Rattle.of_mem.proofs.Walks.{came_more}
use Rattle.of_order.specs.Means.{least_from}
use Rattle.of_order.specs.OrderPrograms.{from_front, least}
use Rattle.of_order.specs.Passing.{HasWeighed}
use Rattle.of_order.proofs.Buckets.{least_answers}
use Rattle.of_order.proofs.LeastWalk.{rest_of, lacks_key, came_lacks, came_leads, came_below}
use Rattle.of_order.proofs.Rests.{turn}
use Rattle.of_order.proofs.Walking.{is_suc}

-- after reads alone, a program may still be run from its front
pub may_still : {A : Type 0} (f : Program A) (R : Part → Type 0) (c d : Running) → MayRun f R c → HasOnlyRead c.part d.part → RunGoesOn c d → MayRun f R d
may_still f R c d h same g = record {
  knows = g.knows;
  always = λ more e k. subst R (sym (ap (with_known more) same)) (h.always more (extends_on c.part.known d.part.known more g.more e) (g.may_know more k));
  serves = λ more e k a n. g.lacks more a (h.serves more (extends_on c.part.known d.part.known more g.more e) (g.may_know more k) a (subst (λ (p : Part). NeedsAt f p a) (ap (with_known more) same) n));
}

-- the cell that the program lacks may be asked for
may_ask : {A : Type 0} (f : Program A) (R : Part → Type 0) (c : Running) (a : ℕ) → MayRun f R c → NeedsAt f c.part a → c.lacks c.part.known a
may_ask f R c a h n = h.serves c.part.known (extends_all c.part.known) h.knows a n

module _ (plot : Plot) (low : ℕ) (w : Walk) where
  -- the walk came as far where more is known
  pub came_still : (c d : Running) → HasOnlyRead c.part d.part → RunGoesOn c d → HasCome plot (LeastFrom low) c.part w → HasCome plot (LeastFrom low) d.part w
  came_still c d same g came = came_more (base plot) plot.blocks (LeastFrom low) c.part d.part w (λ a v e. still_known c d a v same g e) came

  module _ (p : Part) (came : HasCome plot (LeastFrom low) p w) where
    -- if the pointer to which the walk came is not known, the program lacks it
    pub needs_cell : newest_at p w.cell ≡ None → NeedsAt (least plot low) p w.cell
    needs_cell none = came_lacks (base plot) low p plot.blocks w w.cell came (run_unknown w.cell (from_front (base plot) (plot.blocks - w.passed) low w.best) p none)

    -- the same of the key of the block to which it points
    pub needs_key : (f : ℕ) → f ≢ 0 → w.passed ≢ plot.blocks → newest_at p w.cell ≡ Some f → newest_at p (first_at (base plot) (f - 1)) ≡ None → NeedsAt (least plot low) p (first_at (base plot) (f - 1))
    needs_key f some more at none =
        let o : ℕ = base plot in
        let further : w.passed < plot.blocks = omega (arith, came.0, more) in
        came_lacks o low p plot.blocks w _ came
        (ap (λ (n : ℕ). run_program (rest_of o low n w.cell w.best) p) (turn plot.blocks w.passed further)
        ∙ lacks_key o low p (plot.blocks - (w.passed + 1)) w.cell w.best (f - 1) (at ∙ ap Some (is_suc f some)) none)

    -- if its bucket has no more blocks, the bucket is weighed
    pub bucket_over : (f : ℕ) → newest_at p w.cell ≡ Some f → (f ≡ 0) ⊎ (w.passed ≡ plot.blocks) → HasWeighed plot low p w w.best
    bucket_over f at over =
        let e : suc w.bucket ≡ w.bucket + 1 = omega arith in
        subst (λ (i : ℕ). WeighsBuckets (base plot) plot.blocks low p i w.best) e (
          came.2,
          came.3,
          record {
            passed = w.passed;
            to = w.cell;
            last = f;
            weighs = came.4;
            known = at;
            few = came.0;
            ends = over;
          },
        )

  module _ (c : Running) (may : MayRun (least plot low) (HasStore plot) c) (came : HasCome plot (LeastFrom low) c.part w) where
    stands : HasStore plot c.part
    stands = now (HasStore plot) c may.knows may.always

    pub cell_inside : w.cell < length c.part.known
    cell_inside = let g = came_leads plot low c.part w stands came in omega (arith, g.inside, stands.fits)

    pub asks_cell : newest_at c.part w.cell ≡ None → c.lacks c.part.known w.cell
    asks_cell none = may_ask (least plot low) (HasStore plot) c w.cell may (needs_cell c.part came none)

    -- after the read of the pointer
    module _ (d : Running) (f : ℕ) (same : HasOnlyRead c.part d.part) (read : RunsOn (read_cell w.cell) c d (Ok f)) where
      there : MayRun (least plot low) (HasStore plot) d
      there = may_still (least plot low) (HasStore plot) c d may same read.goes

      came_there : HasCome plot (LeastFrom low) d.part w
      came_there = came_still c d same read.goes came

      points : newest_at d.part w.cell ≡ Some f
      points = (read_gave w.cell f c d read).1

      module _ (some : f ≢ 0) where
        pub block_below : f - 1 < plot.blocks
        block_below = came_below plot low d.part w (f - 1) (now (HasStore plot) d there.knows there.always) came_there (points ∙ ap Some (is_suc f some))

        pub key_inside : (a : ℕ) → a ≡ first_at (base plot) (f - 1) → a < length d.part.known
        key_inside a is =
            let h : HasStore plot d.part = now (HasStore plot) d there.knows there.always in
            omega (arith, block_below, is, h.fits)

        pub asks_key : (a : ℕ) → a ≡ first_at (base plot) (f - 1) → w.passed ≢ plot.blocks → newest_at d.part a ≡ None → d.lacks d.part.known a
        asks_key a is more none = may_ask (least plot low) (HasStore plot) d a there
            (rw is (needs_key d.part came_there f some more points (rw is at none)))

-- what a call answers if it ran as the program
pub ran_answers : (plot : Plot) (low : ℕ) (c d : Running) (result : Result (Option ℕ) Need) → HasOnlyRead c.part d.part → RunsOn (least plot low) c d result → AnswersOfStore plot d.part result (λ s. least_from s.map low)
ran_answers plot low c d result same r = least_answers plot low d.part result (subst (λ (p : Part). RunsProgram (least plot low) p d.part result) (sym same) (runs_over (least plot low) c d result r))
