-- A recovered row is lawful, or has one first cell at fault, and not both. Only the numbers of the data cells are looked at.
use Rattle.std.proofs.Common.{◌≡◌, ℕ, zero, suc, ◌+◌, ◌<◌, inl, inr, List, [], ◌∷◌, length, get_or, map, refl, sym, ap, subst, ◌∙◌, arith}
use Rattle.std.specs.Prelude.{slice_range}
use Rattle.std.specs.List.{range_with_len}
use Rattle.std.proofs.lemmas.List.{length-map}
use Rattle.std.proofs.lemmas.List.FromFn.{fill_by_all}
use Rattle.std.proofs.lemmas.Bool.{cases_lt}
use Rattle.of_cell.specs.Words.{payload_of}
use Rattle.of_cell.specs.Cells.{data_cell, durable_cells}
use Rattle.of_mem.specs.declared.plot.Plot.{Plot}
use Rattle.of_mem.specs.Plots.{data_cell_count}
use Rattle.of_mem.specs.ProgramWork.{memory_of}
use Rattle.of_mem.proofs.Lists.{part_at, part_long}
use Rattle.of_recover.specs.Row.{IsDurableRow}
use Rattle.of_store.specs.Store.{Store}
use Rattle.of_eval.specs.Lawful.{DataCellsStandFor}
use Rattle.of_eval.specs.Faults.{IsFirstFault}
use Rattle.of_eval.proofs.FaultLaws.{first_excludes}
use Rattle.of_eval.proofs.OneFault.{one_fault}
use Rattle.of_eval.proofs.OneStore.{one_store}
use Rattle.of_report.specs.ImageRow.{DurableRow, row_in, data_numbers_in}
use Rattle.of_report.specs.ImageLaw.{NoneNewer, IsLawfulRow}
use Rattle.of_image.specs.declared.law.Law.{Law}
use Rattle.of_image.specs.declared.law.Law.TheVariants.{Owner, Newest, Store as StoreLaw}
use Rattle.of_image.specs.RowFault.{Breaks, IsRowFault}

get_or_map_at : (f : ℕ → ℕ) (xs : List ℕ) (i : ℕ) → i < length xs → get_or (map f xs) i 0 ≡ f (get_or xs i 0)
get_or_map_at f [] i l = absurd (omega arith)
get_or_map_at f (x ∷ xs) zero l = refl
get_or_map_at f (x ∷ xs) (suc i) l = get_or_map_at f xs i (omega arith)

-- the numbers of the data cells, as they are read
pub numbers_are : (callers cells : ℕ) (words : List ℕ) → IsDurableRow callers cells words → map payload_of (slice_range words (data_cell callers 0) (data_cell callers 0 + cells)) ≡ map (λ a. payload_of (get_or words (data_cell callers a) 0)) (range_with_len 0 cells)
numbers_are callers cells words data_cell_count =
    fill_by_all (λ a. payload_of (get_or words (data_cell callers a) 0)) (map payload_of (slice_range words (data_cell callers 0) (data_cell callers 0 + cells))) cells 0
    (length-map _ payload_of ∙ part_long words (data_cell callers 0) cells (omega (arith, data_cell_count)))
    (λ k l. get_or_map_at payload_of (slice_range words (data_cell callers 0) (data_cell callers 0 + cells)) k (omega (arith, l, part_long words (data_cell callers 0) cells (omega (arith, data_cell_count))))
    ∙ ap payload_of (part_at words (data_cell callers 0) cells k l) ∙ ap (λ (n : ℕ). payload_of (get_or words n 0)) (let here : data_cell callers 0 + k ≡ data_cell callers k = omega arith in here))

-- a row with a first cell at fault is not lawful
pub fault_excludes : (instrs : ℕ) (r : DurableRow) (s : Store) (cell : ℕ) → IsLawfulRow instrs r s → IsRowFault instrs r cell → ⊥
fault_excludes instrs r s cell h f = go f.law f.breaks
  where
    go : (law : Law) → Breaks law instrs r cell → ⊥
    go Owner b = omega (arith, b.unowned, h.owned)
    go Newest b = omega (arith, b.first.newer, h.none_newer b.at b.within)
    go StoreLaw b = first_excludes _ _ _ _ s b.at h.stands b.first

-- a row is lawful with one store
pub one_lawful : (instrs : ℕ) (r : DurableRow) (s t : Store) → IsLawfulRow instrs r s → IsLawfulRow instrs r t → s ≡ t
one_lawful instrs r s t h k = one_store _ _ _ s t h.stands.stored k.stands.stored

-- and has one first cell at fault
pub one_row_fault : (instrs : ℕ) (r : DurableRow) (x y : ℕ) → IsRowFault instrs r x → IsRowFault instrs r y → x ≡ y
one_row_fault instrs r x y f g = go f.law g.law f.breaks g.breaks
  where
    go : (l k : Law) → Breaks l instrs r x → Breaks k instrs r y → x ≡ y
    go Owner Owner b c = b.is ∙ sym c.is
    go Owner Newest b c = absurd (omega (arith, b.unowned, c.owned))
    go Owner StoreLaw b c = absurd (omega (arith, b.unowned, c.owned))
    go Newest Owner b c = absurd (omega (arith, c.unowned, b.owned))
    go Newest Newest b c = elim (cases_lt b.at c.at) [
      | inl i ↦ absurd (omega (arith, b.first.newer, c.first.before b.at i))
      | inr i ↦ elim (cases_lt c.at b.at) [
        | inl j ↦ absurd (omega (arith, c.first.newer, b.first.before c.at j))
        | inr j ↦ (let s : b.at ≡ c.at = omega arith in b.is ∙ ap (data_cell r.callers) s ∙ sym c.is)
      ]
    ]
    go Newest StoreLaw b c = absurd (omega (arith, b.first.newer, c.none_newer b.at b.within))
    go StoreLaw Owner b c = absurd (omega (arith, c.unowned, b.owned))
    go StoreLaw Newest b c = absurd (omega (arith, c.first.newer, b.none_newer c.at c.within))
    go StoreLaw StoreLaw b c = b.is ∙ ap (data_cell r.callers) (one_fault _ _ _ _ b.at c.at b.first c.first) ∙ sym c.is

-- the same where callers and data cells are a plot's
pub law_numbers : (callers cells : ℕ) (p : Plot) (words numbers : List ℕ) → callers ≡ p.callers → cells ≡ data_cell_count p → IsDurableRow p.callers (data_cell_count p) words → numbers ≡ map payload_of (slice_range words (data_cell callers 0) (data_cell callers 0 + cells)) → numbers ≡ data_numbers_in p.instrs (row_in p words)
law_numbers callers cells p words numbers one two row is =
    is ∙ numbers_are callers cells words (row ∙ (λ i. durable_cells (sym one i) (sym two i))) ∙ (λ i. map (λ a. payload_of (get_or words (data_cell (one i) a) 0)) (range_with_len 0 (two i)))

-- what is read of the numbers is read of the row
module _ (p : Plot) (words numbers : List ℕ) (is : numbers ≡ data_numbers_in p.instrs (row_in p words)) where
  pub law_stands : (s : Store) → DataCellsStandFor p.callers p.instrs p.blocks (memory_of numbers) s → DataCellsStandFor p.callers p.instrs p.blocks (memory_of (data_numbers_in p.instrs (row_in p words))) s
  law_stands s h = subst (λ (l : List ℕ). DataCellsStandFor p.callers p.instrs p.blocks (memory_of l) s) is h

  pub law_fault : (cell : ℕ) → IsFirstFault p.callers p.instrs p.blocks (memory_of numbers) cell → IsFirstFault p.callers p.instrs p.blocks (memory_of (data_numbers_in p.instrs (row_in p words))) cell
  law_fault cell h = subst (λ (l : List ℕ). IsFirstFault p.callers p.instrs p.blocks (memory_of l) cell) is h

-- no cell of the row is newer
pub law_newer : (callers cells : ℕ) (p : Plot) (words : List ℕ) → callers ≡ p.callers → cells ≡ data_cell_count p → NoneNewer callers words cells → NoneNewer p.callers words (data_cell_count p)
law_newer callers cells p words one two h = subst (λ (n : ℕ). NoneNewer n words (data_cell_count p)) one (subst (NoneNewer callers words) two h)
