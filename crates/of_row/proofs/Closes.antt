-- The close: what the closed table tells, and the part of its words that is handed out.
use Rattle.std.proofs.Common.{◌≡◌, ℕ, zero, suc, ◌+◌, ◌-◌, ◌<◌, ◌≤◌, List, [], ◌∷◌, length, get_or, subst, sym, ap, ◌∙◌, arith, take_all}
use Rattle.std.specs.Prelude.{slice_range}
use Rattle.std.proofs.lemmas.List.{ext_get_or}
use mathlib.Core.Option.{some, some-injective}
use lib.ListN.{get_elem?}
use Rattle.atomic_table.specs.Table.{Final, Seen}
use Rattle.of_mem.proofs.Lists.{part_at, part_long}
use Rattle.of_core.specs.Table.{Setup, cell_count, words_before_members}
use Rattle.of_core.specs.TableMoment.{TableStart}
use Rattle.of_core.specs.Starts.{IsDurable}
use Rattle.of_row.specs.Views.{View}
use Rattle.of_row.specs.Rule.{MeetsRule, ViewMeetsRule}

-- what the closed table tells
pub closes : (Z : Type 0) (S : Setup) (L : List ℕ → Type 0) (B : TableStart) (id : ℕ) (v : View) (ws : List ℕ) (slots : List (Unit {0})) → Final (Seen (λ s. Z × MeetsRule S L B s) id v) ws slots → ViewMeetsRule S L B ws v
closes Z S L B id v ws slots f = record { state = f.0; rule = f.1.0.1; words = f.2; seat = id; view = f.1.1 }

word_there : (ws : List ℕ) (k x : ℕ) → k < length ws → get_elem? ws k ≡ some x → get_or ws k 0 ≡ x
word_there [] k x l e = absurd (omega (arith, l))
word_there (w ∷ ws) zero x l e = some-injective w x e
word_there (w ∷ ws) (suc k) x l e = word_there ws k x (omega (arith, l)) e

-- words that are those of a part, one by one, are that part
pub part_copied : (ws xs : List ℕ) (a n : ℕ) → a + n ≤ length ws → length xs ≡ n → ((k : ℕ) → k < n → get_elem? ws (a + k) ≡ some (get_or xs k 0)) → xs ≡ slice_range ws a (a + n)
part_copied ws xs a n room long same =
    ext_get_or 0 xs (slice_range ws a (a + n)) (long ∙ sym (part_long ws a n room)) (λ k l.
    let low : k < n = subst (λ m. k < m) long l in
    sym (part_at ws a n k low ∙ word_there ws (a + k) (get_or xs k 0) (omega (arith, low, room)) (same k low)))

-- the part of all words is the words
pub whole_part : (ws xs : List ℕ) (n : ℕ) → n ≡ length ws → xs ≡ slice_range ws 0 (0 + n) → xs ≡ ws
whole_part ws xs n all is = is ∙ take_all (0 + n - 0) ws (omega (arith, all))

-- the durable words stand behind the words of the cells
pub durable_part : (S : Setup) (ws row : List ℕ) → length ws ≡ words_before_members S + 1 → row ≡ slice_range ws (cell_count S) (cell_count S + cell_count S) → IsDurable S ws row
durable_part S ws row long is = record {
  long = ap length is ∙ part_long ws (cell_count S) (cell_count S) (omega (arith, long));
  each = λ c l. ap (λ xs. get_or xs c 0) is ∙ part_at ws (cell_count S) (cell_count S) c l;
}
