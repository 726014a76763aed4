-- What contracts see of what a run leaves.
use Rattle.std.specs.Prelude.{ℕ, max, List, [], ◌∷◌, slice_index_or}
use Rattle.of_plan.specs.declared.answer.Answer.{Answer}
use Rattle.of_plan.specs.declared.answer.Ending.{Ending}
use Rattle.of_plan.specs.declared.answer.Ending.TheVariants.{Done}

-- the answers of each caller in the order of its calls, how each ended, and the words of the shared
-- table
pub record Ended : Type 0 where
  pub answers : List (List Answer)
  pub endings : List Ending
  pub words : List ℕ

-- the answers of a caller
abbrev pub answers_of : Ended → ℕ → List Answer
answers_of e c = slice_index_or e.answers c []

-- how a caller ended
abbrev pub ending_of : Ended → ℕ → Ending
ending_of e c = slice_index_or e.endings c Done

-- the greatest number of steps that one of these answers names; 0 if there is no answer
abbrev pub longest_steps : List Answer → ℕ
longest_steps [] = 0
longest_steps (answer ∷ others) = max answer.steps (longest_steps others)
