-- How the code reads the marks of a shape, from the lowest bit on.
use Rattle.std.specs.Prelude.{ℕ, ◌/◌, ◌%◌, ◌==◌, List, [], ◌∷◌, Option}
use Rattle.std.specs.Bool.{then_some}

-- for each number of the list the number, if the mask's bit for it is 1, and otherwise None; the
-- first number has the lowest bit
abbrev pub marked_in : ℕ → List ℕ → List (Option ℕ)
marked_in mask [] = []
marked_in mask (c ∷ cs) = then_some (mask % 2 == 1) c ∷ marked_in (mask / 2) cs
