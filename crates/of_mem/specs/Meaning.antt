-- What a work means: what an operation does to a lawful list of cells, and how a run goes if only
-- some cells are known.
use Rattle.std.specs.Prelude.{◌≡◌, ℕ, ◌+◌, ◌*◌, ◌^◌, ◌/◌, ◌%◌, ◌==◌, ◌<◌, ◌≤◌, ◌⊎◌, List, [], ◌∷◌, length, Option, Some, None, Bool, true, false, Result, MatchResult}
use Rattle.std.specs.List.{All}
use Rattle.of_mem.specs.declared.work.TheConstants.{MOST_INSTRS, MOST_CALLERS, MOST_DATA_CELLS, FEW_DATA_CELLS, MOST_WRITES, LEAST_ABORT}
use Rattle.of_mem.specs.Numbers.{FitsCell}
use Rattle.std.proofs.Common.{get_or, set, drop}
use Rattle.of_mem.specs.declared.part.Need.{Need}
use Rattle.of_mem.specs.declared.work.RawReply.{RawReply}

-- How a run on known cells ends. With `Needs a` it must read cell a, which is not known. With
-- `Gives es r` it has finished with the writes es, in order of first writing, and the reply r.
pub data WalkEnd : Type 0 where
  Needs : ℕ → WalkEnd
  Gives : List (ℕ × ℕ) → RawReply → WalkEnd

-- The meaning of a work's operations, as functions of the cells and of an operation's words. Which
-- lists of cells are lawful is not part of it.
pub record Meaning : Type 0 where
  -- the cells after an operation, and the operation's reply
  pub cells : List ℕ → List ℕ → List ℕ
  pub reply : List ℕ → List ℕ → RawReply
  -- how a run of an operation ends if only these cells are known
  pub walk : List (Option ℕ) → List ℕ → WalkEnd
  -- whether an operation is known to write nothing
  pub reads_only : List ℕ → Bool

-- the list of cells after these writes, made in order; a write is a cell and its new number
abbrev pub with_writes_in : List ℕ → List (ℕ × ℕ) → List ℕ
with_writes_in xs [] = xs
with_writes_in xs (e ∷ es) = with_writes_in (set xs e.0 e.1) es

-- each cell that is known has the same number in the list
abbrev pub Agrees : List (Option ℕ) → List ℕ → Type 0
Agrees known xs = (a v : ℕ) → get_or known a None ≡ Some v → get_or xs a 0 ≡ v

-- some lawful list of `size` cells agrees with all known cells
abbrev pub KnowsSome : (List ℕ → Type 0) → ℕ → List (Option ℕ) → Type 0
KnowsSome lawful size known = (xs : List ℕ) × (length xs ≡ size) × lawful xs × Agrees known xs

-- The run ended as `walk` says for these known cells. Either it gave the writes and the reply of
-- the walk, or it named the cell that the walk needs; then it has no writes, and the reply is as
-- before.
abbrev pub RunsAsWalked : Meaning → List (Option ℕ) → List ℕ → Result (Unit {0}) Need
    → List (ℕ × ℕ) → RawReply → RawReply → Type 0
RunsAsWalked M known op result script before after =
    MatchResult result (λ _. M.walk known op ≡ Gives script after)
    (λ need. (M.walk known op ≡ Needs need.addr) × (script ≡ []) × (after ≡ before))

-- both lists have the same numbers from cell `base` on, the first cell that operations use
abbrev pub SameFrom : ℕ → List ℕ → List ℕ → Type 0
SameFrom base xs ys = drop base xs ≡ drop base ys

-- whether bit j of the shape is 1: answer j of the reply is a number
unfoldable pub is_marked : ℕ → ℕ → Bool
is_marked shape j = shape / 2 ^ j % 2 == 1

-- no two pairs of the list have the same cell
abbrev pub HasDistinctCells : List (ℕ × ℕ) → Type 0
HasDistinctCells es =
    (j k : ℕ) → j < length es → k < length es
    → (get_or es j (0, 0)).0 ≡ (get_or es k (0, 0)).0 → j ≡ k

-- A walk that finished with writes es and reply r is right about the list of cells xs: the
-- operation makes these writes on xs and gives this reply. The writes are of different cells from
-- `base` on, and all numbers fit into cells.
pub record IsFinishedWalk (M : Meaning) (base size : ℕ) (xs op : List ℕ) (es : List (ℕ × ℕ))
    (r : RawReply) : Type 0 where
  pub inside : All (λ (e : ℕ × ℕ). (base ≤ e.0) × (e.0 < size) × FitsCell e.1) es
  pub once : HasDistinctCells es
  -- with more than FEW_DATA_CELLS cells, it makes at most MOST_WRITES writes
  pub few : (size ≤ FEW_DATA_CELLS) ⊎ (length es ≤ MOST_WRITES)
  pub cells : M.cells xs op ≡ with_writes_in xs es
  pub reply : M.reply xs op ≡ r
  pub shape : FitsCell r.shape
  pub values : All FitsCell r.values
  -- the shape marks number j only if the script was not aborted and has an instruction j
  pub marks : (j : ℕ) → j < MOST_INSTRS → is_marked r.shape j ≡ true
      → (r.shape < LEAST_ABORT) × (j < length op) × (j < length r.values)
  -- a number that the shape does not mark is 0
  pub rest : (j : ℕ) → j < MOST_INSTRS → is_marked r.shape j ≡ false → get_or r.values j 0 ≡ 0
  -- an operation that is known to write nothing has no writes
  pub reads : M.reads_only op ≡ true → es ≡ []

-- The end of a walk is right about the list xs, with which the known cells agree. If the walk needs
-- a cell, the cell is in range and not known. If the walk has finished, its writes and its reply
-- are those of the operation on xs.
abbrev pub WalkFits : Meaning → ℕ → ℕ → List (Option ℕ) → List ℕ → List ℕ → WalkEnd → Type 0
WalkFits M base size known xs op (Needs a) = (base ≤ a) × (a < size) × (get_or known a None ≡ None)
WalkFits M base size known xs op (Gives es r) = IsFinishedWalk M base size xs op es r

-- there are 1 to MOST_CALLERS callers, and the `size` data cells include the own cells of all of
-- them, and are at most MOST_DATA_CELLS
pub record HasRoom (many size : ℕ) : Type 0 where
  pub some : 1 ≤ many
  pub few : many ≤ MOST_CALLERS
  pub own : many * (MOST_INSTRS + 2) ≤ size
  pub small : size ≤ MOST_DATA_CELLS

-- The rules that the meaning of every work keeps. Lists of cells have length `size`, and operations
-- use the cells from `base` on.
pub record IsSoundMeaning (M : Meaning) (lawful : List ℕ → Type 0) (base size : ℕ) : Type 0 where
  pub zeros : (xs : List ℕ) → length xs ≡ size → ((a : ℕ) → get_or xs a 0 ≡ 0) → lawful xs
  pub leads : (xs op : List ℕ) → length xs ≡ size → lawful xs → lawful (M.cells xs op)
  pub keeps_length : (xs op : List ℕ) → length xs ≡ size → length (M.cells xs op) ≡ size
  -- cells below `base` make no difference to what is lawful, to the cells from `base` on, to a
  -- reply or to a walk
  pub lawful_from : (xs ys : List ℕ) → length xs ≡ size → length ys ≡ size → SameFrom base xs ys
      → lawful xs → lawful ys
  pub cells_from : (xs ys op : List ℕ) → length xs ≡ size → length ys ≡ size → SameFrom base xs ys
      → SameFrom base (M.cells xs op) (M.cells ys op)
  pub reply_from : (xs ys op : List ℕ) → length xs ≡ size → length ys ≡ size → SameFrom base xs ys
      → M.reply xs op ≡ M.reply ys op
  pub walk_from : (known others : List (Option ℕ)) (op : List ℕ)
      → length known ≡ size → length others ≡ size → drop base known ≡ drop base others
      → M.walk known op ≡ M.walk others op
  pub walks : (known : List (Option ℕ)) (xs op : List ℕ)
      → length xs ≡ size → lawful xs → Agrees known xs
      → WalkFits M base size known xs op (M.walk known op)
