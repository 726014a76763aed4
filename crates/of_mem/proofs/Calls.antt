-- What a call that ran as a program says, and a call that is made of two.
use Rattle.std.proofs.Common.{◌≡◌, ◌∙◌, ℕ, subst, Ok}
use Rattle.std.specs.Prelude.{Result, IfOk}
use Rattle.std.proofs.lemmas.Result.{MatchResult-weaker}
use Rattle.of_mem.specs.declared.part.Need.{Need}
use Rattle.of_mem.specs.declared.plot.Plot.{Plot}
use Rattle.of_mem.specs.Plots.{base, data_cell_count}
use Rattle.of_mem.specs.Part.{Part}
use Rattle.of_mem.specs.Programs.{Program, then_do, RunsAs, IsPartOf, StaysBetween, program_answer, memory_after}
use Rattle.of_mem.specs.Stores.{CellStore}
use Rattle.of_mem.specs.Calls.{RunsProgram, PlotStandsForStore, AnswersOfStore, HasActedOnStore, ActsOnStore}
use Rattle.of_mem.proofs.Runs.{run_ended, after_ended}

-- what a run to the end says of the answer
pub so_ok : {A : Type 0} (f : Program A) (p q : Part) (R : A → Type 0) (result : Result A Need) → RunsProgram f p q result → ((r : A) → RunsAs f p r q → R r) → IfOk result R
so_ok f p q R result h k = MatchResult-weaker result h.walk k (λ _ _. tt)

-- what a program does over each memory that stands for a store
pub record Means {A : Type 0} (plot : Plot) (m : ℕ → ℕ) (s : CellStore) (f : Program A) (to_answer : CellStore → A) (next : CellStore → CellStore) : Type 0 where
  pub inside : StaysBetween (base plot) (data_cell_count plot) f m
  pub answers : program_answer f m ≡ to_answer s
  pub stands : PlotStandsForStore plot (memory_after f m) (next s)

-- a call acts on the store as its program does
pub acts : {A : Type 0} (plot : Plot) (f : Program A) (to_answer : CellStore → A) (next : CellStore → CellStore) → ((m : ℕ → ℕ) (s : CellStore) → PlotStandsForStore plot m s → Means plot m s f to_answer next)
    → (p q : Part) (result : Result A Need) → RunsProgram f p q result → ActsOnStore plot p q result to_answer next
acts plot f to_answer next means p q result h = so_ok f p q (λ r. (m : ℕ → ℕ) (s : CellStore) → IsPartOf p m → PlotStandsForStore plot m s → HasActedOnStore plot m s r q to_answer next) result h (λ r e m s is stands.
    let k = means m s stands in
    let d = run_ended (base plot) (data_cell_count plot) f p q m r is k.inside e in
    let same = after_ended f p q m r is d in
    record {
      answers = d.answers ∙ k.answers;
      part = subst (IsPartOf q) same d.part;
      stands = subst (λ (n : ℕ → ℕ). PlotStandsForStore plot n (next s)) same k.stands;
    })

-- a call answers what its program answers
pub answered : {A : Type 0} (plot : Plot) (f : Program A) (to_answer : CellStore → A) → ((m : ℕ → ℕ) (s : CellStore) → PlotStandsForStore plot m s → StaysBetween (base plot) (data_cell_count plot) f m × (program_answer f m ≡ to_answer s))
    → (p : Part) (result : Result A Need) → RunsProgram f p p result → AnswersOfStore plot p result to_answer
answered plot f to_answer means p result h = so_ok f p p (λ r. (m : ℕ → ℕ) (s : CellStore) → IsPartOf p m → PlotStandsForStore plot m s → r ≡ to_answer s) result h (λ r e m s is stands.
    let k = means m s stands in (run_ended (base plot) (data_cell_count plot) f p p m r is k.0 e).answers ∙ k.1)
