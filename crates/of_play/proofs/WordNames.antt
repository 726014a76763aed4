-- Each word of a table has the name of what stands there: the layout, read backwards.
use Rattle.std.proofs.Common.{◌≡◌, ℕ, ◌+◌, ◌-◌, ◌*◌, ◌/◌, ◌%◌, ◌<◌, ◌≤◌, ◌==◌, nat_lt, Bool, true, false, if◌then◌else◌, refl, ◌∙◌, sym, arith}
use Rattle.std.proofs.Math.Nat.{mod-lt}
use Rattle.std.proofs.lemmas.Nat.{div-add-mod'}
use Rattle.std.proofs.lemmas.Bool.{eqb-true as is_eq, eqb-false as not_eq, ltb-false as not_less}
use Rattle.of_cell.specs.Cells.{log_room, data_cell, durable_cells, script_place, members_place}
use Rattle.of_mem.specs.declared.work.TheConstants.{MOST_INSTRS}
use Rattle.of_mem.specs.Places.{base_of, fresh_at, free_at, keys_at, head_at, length_at, block_at}
use Rattle.of_play.specs.declared.names.CellUse.{CellUse}
use Rattle.of_play.specs.declared.names.ShownCell.{ShownCell}
use Rattle.of_play.specs.declared.names.ShownWord.{ShownWord}
use Rattle.of_play.specs.Names.{address_of, shown_cell_number, shown_word_place, own_cell, queue_cell, store_cell, row_word, CellUsesAreNamed, CellsAreNamed, WordsAreNamed}

-- what holds of either case holds of the choice
either : {A : Type 0} (P : A → Type 0) (b : Bool) (x y : A) → (b ≡ true → P x) → (b ≡ false → P y) → P (if b then x else y)
either P true x y f g = f refl
either P false x y f g = g refl

own_named : (n i j : ℕ) → address_of n (own_cell i j) ≡ i * (MOST_INSTRS + 2) + j
own_named n i j = either (λ h. address_of n h ≡ i * (MOST_INSTRS + 2) + j) (j == 0) _ _
    (λ e. omega (arith, is_eq j 0 e))
    (λ e. either (λ h. address_of n h ≡ i * (MOST_INSTRS + 2) + j) (j == 1) _ _
    (λ f. omega (arith, is_eq j 1 f))
    (λ f. two j (not_eq j 0 e) (not_eq j 1 f)))
  where
    two : (j : ℕ) → (j ≡ 0 → ⊥) → (j ≡ 1 → ⊥) → i * (MOST_INSTRS + 2) + 2 + (j - 2) ≡ i * (MOST_INSTRS + 2) + j
    two j a b = omega (arith, a, b)

queue_named : (n q j : ℕ) → j < 3 → address_of n (queue_cell q j) ≡ head_at (base_of n MOST_INSTRS) 0 + (3 * q + j)
queue_named n q j h = either (λ x. address_of n x ≡ head_at (base_of n MOST_INSTRS) 0 + (3 * q + j)) (j == 0) _ _
    (λ e. omega (arith, is_eq j 0 e))
    (λ e. either (λ x. address_of n x ≡ head_at (base_of n MOST_INSTRS) 0 + (3 * q + j)) (j == 1) _ _
    (λ f. omega (arith, is_eq j 1 f))
    (λ f. last j h (not_eq j 0 e) (not_eq j 1 f)))
  where
    last : (j : ℕ) → j < 3 → (j ≡ 0 → ⊥) → (j ≡ 1 → ⊥) → length_at (base_of n MOST_INSTRS) q ≡ head_at (base_of n MOST_INSTRS) 0 + (3 * q + j)
    last j h a b = omega (arith, h, a, b)

store_named : (n a : ℕ) → base_of n MOST_INSTRS ≤ a → address_of n (store_cell (base_of n MOST_INSTRS) a) ≡ a
store_named n a h =
    let o = base_of n MOST_INSTRS in
    let P : CellUse → Type 0 = λ x. address_of n x ≡ a in
    either P (nat_lt a (fresh_at o)) _ _ (λ e. omega (arith, h))
    (λ e. either P (a == fresh_at o) _ _ (λ f. omega (arith, is_eq a (fresh_at o) f))
    (λ f. either P (a == free_at o) _ _ (λ g. omega (arith, is_eq a (free_at o) g))
    (λ g. either P (a == keys_at o) _ _ (λ k. omega (arith, is_eq a (keys_at o) k))
    (λ k. either P (nat_lt a (head_at o 0)) _ _
    (λ l. omega (arith, not_less a (fresh_at o) e, not_eq a (fresh_at o) f, not_eq a (free_at o) g, not_eq a (keys_at o) k))
    (λ l. either P (nat_lt a (block_at o 0 0)) _ _
    (λ m. let x = a - head_at o 0 in queue_named n (x / 3) (x % 3) (mod-lt x (omega arith)) ∙ (omega (arith, div-add-mod' x 3, not_less a (head_at o 0) l)))
    (λ m. let x = a - block_at o 0 0 in omega (arith, div-add-mod' x 3, not_less a (block_at o 0 0) m)))))))

pub cell_uses_named : CellUsesAreNamed
cell_uses_named n a = either (λ h. address_of n h ≡ a) (nat_lt a (base_of n MOST_INSTRS)) _ _
    (λ e. own_named n (a / (MOST_INSTRS + 2)) (a % (MOST_INSTRS + 2)) ∙ div-add-mod' a (MOST_INSTRS + 2))
    (λ e. store_named n a (not_less a (base_of n MOST_INSTRS) e))

pub cells_named : CellsAreNamed
cells_named n m c = either P (c == 0) _ _ (λ e. sym (is_eq c 0 e))
    (λ e. either P (nat_lt c (data_cell n 0)) _ _ (λ f. omega (arith, not_eq c 0 e))
    (λ f. either P (nat_lt c (data_cell n m)) _ _ (λ g. omega (arith, not_less c (data_cell n 0) f))
    (λ g. let x = c - data_cell n m in omega (arith, div-add-mod' x (2 * log_room n m + 1), not_less c (data_cell n m) g))))
  where
    P : ShownCell → Type 0
    P x = shown_cell_number n m x ≡ c

row_named : (n m i x : ℕ) → shown_word_place n m (row_word i x) ≡ script_place n MOST_INSTRS m 0 0 + (i * (MOST_INSTRS + 1) + x)
row_named n m i x = either (λ w. shown_word_place n m w ≡ script_place n MOST_INSTRS m 0 0 + (i * (MOST_INSTRS + 1) + x)) (x == MOST_INSTRS) _ _
    (λ e. omega (arith, is_eq x MOST_INSTRS e))
    (λ e. omega arith)

pub words_named : WordsAreNamed
words_named n m w h =
    let d = durable_cells n m in
    let r = script_place n MOST_INSTRS m 0 0 in
    let P : ShownWord → Type 0 = λ x. shown_word_place n m x ≡ w in
    either P (nat_lt w d) _ _ (λ e. cells_named n m w)
    (λ e. either P (nat_lt w r) _ _ (λ f. omega (arith, cells_named n m (w - d), not_less w d e))
    (λ f. either P (nat_lt w (members_place n MOST_INSTRS m)) _ _
    (λ g. let x = w - r in row_named n m (x / (MOST_INSTRS + 1)) (x % (MOST_INSTRS + 1)) ∙ (omega (arith, div-add-mod' x (MOST_INSTRS + 1), not_less w r f)))
    (λ g. omega (arith, not_less w (members_place n MOST_INSTRS m) g))))
