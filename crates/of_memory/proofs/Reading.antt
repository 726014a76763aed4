-- What is read off a saved row.
use Rattle.std.proofs.Common.{◌≡◌, ℕ, ◌+◌, ◌-◌, ◌<◌, sym, ◌∙◌, ap, arith, List, get_or, drop}
use Rattle.std.specs.Prelude.{slice_range}
use Rattle.std.proofs.lemmas.List.{get_or-take, get_or-drop}
use Rattle.of_cell.specs.Cells.{data_cell}

-- a word of a data cell
pub word_in : (row : List ℕ) (n cells a : ℕ) → a < cells → get_or row (data_cell n a) 0 ≡ get_or (slice_range row (data_cell n 0) (data_cell n 0 + cells)) a 0
word_in row n cells a lt =
    let e : data_cell n 0 + a ≡ data_cell n a = omega arith in
    sym (get_or-take (data_cell n 0 + cells - data_cell n 0) (drop (data_cell n 0) row) a 0 (omega (arith, lt)) ∙ get_or-drop (data_cell n 0) row a 0 ∙ ap (λ (k : ℕ). get_or row k 0) e)
