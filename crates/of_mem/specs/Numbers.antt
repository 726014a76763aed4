-- Which numbers fit into a cell, and which numbers scripts and stores use.
use Rattle.std.specs.Prelude.{ℕ, ◌<◌, ◌^◌}

-- the number is below 2 ^ 32, so it fits into a cell
abbrev pub FitsCell : ℕ → Type 0
FitsCell v = v < 2 ^ 32

-- the number is below 2 ^ 31, so scripts and stores may use it
abbrev pub IsNumber : ℕ → Type 0
IsNumber v = v < 2 ^ 31
