-- A renumbering that stops between two of its writes.
use Rattle.std.proofs.Common.{◌≡◌, ℕ, zero, suc, ◌+◌, ◌-◌, ◌<◌, ◌≤◌, ◌⊎◌, inl, inr, ◌==◌, ◌&&◌, nat_lt, nat_le, Bool, true, false, if◌then◌else◌, List, [], ◌∷◌, ◌++◌, length, map, min, take, get_or, set, refl, sym, ◌∙◌, ap, subst, arith, add-one, length-set}
use Rattle.std.specs.List.{range_with_len}
use Rattle.std.proofs.lemmas.Bool.Decides.{nat_tests}
use Rattle.std.proofs.lemmas.Bool.{cases_eq, cases_lt}
use Rattle.std.proofs.lemmas.List.{take_all, get_or-set_same, get_or-set_other}
use Rattle.std.proofs.lemmas.List.FromFn.{length-map-range_with_len, take-map-range_with_len, map-range_with_len_more}
use Rattle.std.proofs.lemmas.List.Sums.{fold-append}
use Rattle.std.proofs.lemmas.Bool.{ne_eqb as differs, ltb-true as below}
use Rattle.of_cell.specs.Words.{pack, seq_of, payload_of}
use Rattle.of_cell.specs.Cells.{data_cell, request_cell}
use Rattle.of_cell.proofs.Order.{seq_word, pay_word, pay_small, seq_zero}
use Rattle.of_recover.specs.Row.{IsDurableRow, is_open}
use Rattle.of_recover.specs.Recovered.{is_data}
use Rattle.of_recover.specs.Renumbered.{renumbered_word, renumbered_words, renumbering_writes, BeginsAnewPartly}
use Rattle.of_recover.specs.Writes.{words_after_writes}
use Rattle.of_recover.proofs.Rows.{left_alone, inside}
use Rattle.of_recover.proofs.Kept.{on_data, not_data}
use Rattle.of_recover.proofs.Anew.{length-renumbered, renumbered_at, same_renumbered}

-- the last k cells have their new words, and the others those that they had
pub record LastAnew (callers cells : ℕ) (ws : List ℕ) (k : ℕ) (vs : List ℕ) : Type 0 where
  pub size : length vs ≡ length ws
  pub left : (c : ℕ) → c + k < length ws → get_or vs c 0 ≡ get_or ws c 0
  pub done : (c : ℕ) → c < length ws → length ws ≤ c + k → get_or vs c 0 ≡ renumbered_word callers cells (λ c. get_or ws c 0) c

module _ (N M : ℕ) (ws : List ℕ) where
  pub length-writes : length (renumbering_writes N M ws) ≡ length ws
  unfolding renumbering_writes
  length-writes = length-map-range_with_len (λ j. (length ws - 1 - j, renumbered_word N M (λ c. get_or ws c 0) (length ws - 1 - j))) 0 (length ws)

  -- one write more
  pub write_more : (k : ℕ) → k < length ws → words_after_writes (take (k + 1) (renumbering_writes N M ws)) ws
      ≡ set (words_after_writes (take k (renumbering_writes N M ws)) ws) (length ws - 1 - k) (renumbered_word N M (λ c. get_or ws c 0) (length ws - 1 - k))
  unfolding renumbering_writes
  write_more k l =
      ap (λ (x : List (ℕ × ℕ)). words_after_writes x ws) (take-map-range_with_len (λ j. (length ws - 1 - j, renumbered_word N M (λ c. get_or ws c 0) (length ws - 1 - j))) 0 (length ws) (k + 1) (omega arith)
      ∙ map-range_with_len_more (λ j. (length ws - 1 - j, renumbered_word N M (λ c. get_or ws c 0) (length ws - 1 - j))) 0 k k (omega arith)
      ∙ ap (λ (x : List (ℕ × ℕ)). x ++ (length ws - 1 - k, renumbered_word N M (λ c. get_or ws c 0) (length ws - 1 - k)) ∷ []) (sym (take-map-range_with_len (λ j. (length ws - 1 - j, renumbered_word N M (λ c. get_or ws c 0) (length ws - 1 - j))) 0 (length ws) k (omega arith))))
      ∙ fold-append (λ ws w. set ws w.0 w.1) ws (take k (map (λ j. (length ws - 1 - j, renumbered_word N M (λ c. get_or ws c 0) (length ws - 1 - j))) (range_with_len 0 (length ws)))) ((length ws - 1 - k, renumbered_word N M (λ c. get_or ws c 0) (length ws - 1 - k)) ∷ [])

  pub last_anew : (k : ℕ) → k ≤ length ws → LastAnew N M ws k (words_after_writes (take k (renumbering_writes N M ws)) ws)
  last_anew zero l = record { size = refl; left = λ c m. refl; done = λ c m n. absurd (omega arith) }
  last_anew (suc k) l = subst (LastAnew N M ws (suc k)) (sym (rw add-one at (write_more k (omega arith)))) (go (last_anew k (omega arith)))
    where
      go : LastAnew N M ws k (words_after_writes (take k (renumbering_writes N M ws)) ws)
          → LastAnew N M ws (suc k) (set (words_after_writes (take k (renumbering_writes N M ws)) ws) (length ws - 1 - k) (renumbered_word N M (λ c. get_or ws c 0) (length ws - 1 - k)))
      go h = record {
        size = rw length-set h.size;
        left = λ c m. get_or-set_other (words_after_writes (take k (renumbering_writes N M ws)) ws) (length ws - 1 - k) c (renumbered_word N M (λ c. get_or ws c 0) (length ws - 1 - k)) 0 (λ e. omega arith) ∙ h.left c (omega arith);
        done = λ c m n. here c m n (cases_eq c (length ws - 1 - k));
      }
        where
          here : (c : ℕ) → c < length ws → length ws ≤ c + suc k → (c ≡ length ws - 1 - k) ⊎ (c ≡ length ws - 1 - k → ⊥)
              → get_or (set (words_after_writes (take k (renumbering_writes N M ws)) ws) (length ws - 1 - k) (renumbered_word N M (λ c. get_or ws c 0) (length ws - 1 - k))) c 0 ≡ renumbered_word N M (λ c. get_or ws c 0) c
          here c m n (inl e) = subst (λ (x : ℕ). get_or (set (words_after_writes (take k (renumbering_writes N M ws)) ws) (length ws - 1 - k) (renumbered_word N M (λ c. get_or ws c 0) (length ws - 1 - k))) x 0 ≡ renumbered_word N M (λ c. get_or ws c 0) x) (sym e)
              (get_or-set_same (words_after_writes (take k (renumbering_writes N M ws)) ws) (length ws - 1 - k) (renumbered_word N M (λ c. get_or ws c 0) (length ws - 1 - k)) 0 (omega (arith, h.size)))
          here c m n (inr d) = get_or-set_other (words_after_writes (take k (renumbering_writes N M ws)) ws) (length ws - 1 - k) c (renumbered_word N M (λ c. get_or ws c 0) (length ws - 1 - k)) 0 d ∙ h.done c m (omega arith)

  pub all_taken : take (length ws) (renumbering_writes N M ws) ≡ renumbering_writes N M ws
  all_taken = take_all (length ws) (renumbering_writes N M ws) (omega (arith, length-writes))

  -- the writes of all cells
  pub all_anew : words_after_writes (renumbering_writes N M ws) ws ≡ renumbered_words N M ws
  all_anew = ap (λ (x : List (ℕ × ℕ)). words_after_writes x ws) (sym all_taken) ∙ go (last_anew (length ws) (omega arith))
    where
      go : LastAnew N M ws (length ws) (words_after_writes (take (length ws) (renumbering_writes N M ws)) ws) → words_after_writes (take (length ws) (renumbering_writes N M ws)) ws ≡ renumbered_words N M ws
      go h = same_renumbered N M ws (words_after_writes (take (length ws) (renumbering_writes N M ws)) ws) h.size (λ c l. h.done c l (omega arith))

  -- as many writes as there are, or fewer
  pub at_most : (most n : ℕ) → n ≡ min most (length ws) → take n (renumbering_writes N M ws) ≡ take most (renumbering_writes N M ws)
  at_most most n e = elim (cases_lt most (length ws)) [
    | inl l ↦ ap (λ (x : ℕ). take x (renumbering_writes N M ws)) (omega arith)
    | inr l ↦ take_all n (renumbering_writes N M ws) (omega (arith, length-writes)) ∙ sym (take_all most (renumbering_writes N M ws) (omega (arith, length-writes)))
  ]

  -- the loop's next write
  pub next_anew : (k : ℕ) (vs : List ℕ) (x : ℕ) → k < length ws → vs ≡ words_after_writes (take k (renumbering_writes N M ws)) ws
      → x ≡ renumbered_word N M (λ c. get_or vs (length ws - 1 - k) 0) (length ws - 1 - k)
      → set vs (length ws - 1 - k) x ≡ words_after_writes (take (k + 1) (renumbering_writes N M ws)) ws
  next_anew k vs x l e f =
      let h : LastAnew N M ws k (words_after_writes (take k (renumbering_writes N M ws)) ws) = last_anew k (omega arith) in
      let old : get_or vs (length ws - 1 - k) 0 ≡ get_or ws (length ws - 1 - k) 0 = ap (λ (y : List ℕ). get_or y (length ws - 1 - k) 0) e ∙ h.left (length ws - 1 - k) (omega arith) in
      ap (λ (y : ℕ). set vs (length ws - 1 - k) y) (f ∙ ap (λ (w : ℕ). if is_data N M (length ws - 1 - k) then pack 0 (payload_of w) else 0) old)
      ∙ ap (λ (y : List ℕ). set y (length ws - 1 - k) (renumbered_word N M (λ c. get_or ws c 0) (length ws - 1 - k))) e
      ∙ sym (write_more k l)

-- ---- what is left midway

at_least : (a b : ℕ) → nat_le a b ≡ true → a ≤ b
at_least a b e = grind (arith, nat_tests)

module _ (N M : ℕ) (ws vs : List ℕ) (k : ℕ) (size : IsDurableRow N M ws) (closed : is_open N (λ c. get_or ws c 0) ≡ false) (l : k ≤ length ws) (h : LastAnew N M ws k vs) where
  -- before the last write the current transaction is what it was, and behind it there is none
  current : (get_or vs 0 0 ≡ get_or ws 0 0) ⊎ (get_or vs 0 0 ≡ 0)
  current = elim (cases_lt k (length ws)) [
    | inl m ↦ inl (h.left 0 (omega arith))
    | inr m ↦ inr (h.done 0 (omega (arith, size)) (omega arith) ∙ rw (not_data N M 0 (inl (omega arith))) refl)
  ]

  word_now : (c : ℕ) → c < length ws → (get_or vs c 0 ≡ get_or ws c 0) ⊎ (get_or vs c 0 ≡ renumbered_word N M (λ c. get_or ws c 0) c)
  word_now c m = elim (cases_lt (c + k) (length ws)) [ inl n ↦ inl (h.left c n) | inr n ↦ inr (h.done c m n) ]

  still_closed : is_open N (λ c. get_or vs c 0) ≡ false
  still_closed = elim current [
    | inl e ↦ ap (λ (w : ℕ). nat_le 1 (seq_of w) && (nat_lt (payload_of w) N && (get_or vs (request_cell (payload_of w)) 0 == pack (seq_of w) 0))) e ∙ same (nat_le 1 (seq_of (get_or ws 0 0))) (nat_lt (payload_of (get_or ws 0 0)) N) refl refl
    | inr e ↦ ap (λ (w : ℕ). nat_le 1 (seq_of w) && (nat_lt (payload_of w) N && (get_or vs (request_cell (payload_of w)) 0 == pack (seq_of w) 0))) e ∙ rw seq_zero refl
  ]
    where
      same : (a b : Bool) → nat_le 1 (seq_of (get_or ws 0 0)) ≡ a → nat_lt (payload_of (get_or ws 0 0)) N ≡ b
          → (nat_le 1 (seq_of (get_or ws 0 0)) && (nat_lt (payload_of (get_or ws 0 0)) N && (get_or vs (request_cell (payload_of (get_or ws 0 0))) 0 == pack (seq_of (get_or ws 0 0)) 0))) ≡ false
      same false b ea eb = rw ea refl
      same true false ea eb = rw (ea, eb) refl
      same true true ea eb = elim (word_now (request_cell (payload_of (get_or ws 0 0))) (omega (arith, size, below (payload_of (get_or ws 0 0)) N eb))) [
        | inl q ↦ ap (λ (w : ℕ). nat_le 1 (seq_of (get_or ws 0 0)) && (nat_lt (payload_of (get_or ws 0 0)) N && (w == pack (seq_of (get_or ws 0 0)) 0))) q ∙ closed
        | inr q ↦ rw (ea, eb) (differs (get_or vs (request_cell (payload_of (get_or ws 0 0))) 0) (pack (seq_of (get_or ws 0 0)) 0) (λ f. absurd (
            let none : seq_of (pack (seq_of (get_or ws 0 0)) 0) ≡ 0 = ap seq_of (sym f ∙ q ∙ rw (not_data N M (request_cell (payload_of (get_or ws 0 0))) (inl (omega (arith, below (payload_of (get_or ws 0 0)) N eb)))) refl) ∙ seq_zero in
            omega (arith, none, seq_word (seq_of (get_or ws 0 0)) 0 (omega arith), at_least 1 (seq_of (get_or ws 0 0)) ea))))
      ]

  number_kept : (a : ℕ) → a < M → payload_of (get_or vs (data_cell N a) 0) ≡ payload_of (get_or ws (data_cell N a) 0)
  number_kept a m = elim (word_now (data_cell N a) (omega (arith, size))) [
    | inl e ↦ ap payload_of e
    | inr e ↦ ap payload_of (e ∙ rw (on_data N M a m) refl) ∙ pay_word 0 (payload_of (get_or ws (data_cell N a) 0)) (pay_small (get_or ws (data_cell N a) 0))
  ]

  newer_none : ((a : ℕ) → a < M → seq_of (get_or ws (data_cell N a) 0) ≤ seq_of (get_or ws 0 0)) → (a : ℕ) → a < M → seq_of (get_or vs (data_cell N a) 0) ≤ seq_of (get_or vs 0 0)
  newer_none old a m = elim (cases_lt (data_cell N a + k) (length ws)) [
    | inl n ↦ rw (h.left (data_cell N a) n, h.left 0 (omega arith)) (old a m)
    | inr n ↦ rw (h.done (data_cell N a) (omega (arith, size)) n) (rw (on_data N M a m) (rw (seq_word 0 (payload_of (get_or ws (data_cell N a) 0)) (pay_small (get_or ws (data_cell N a) 0))) (omega arith)))
  ]

  again : renumbered_words N M vs ≡ renumbered_words N M ws
  again = same_renumbered N M ws (renumbered_words N M vs) (length-renumbered N M vs ∙ h.size) (λ c m. renumbered_at N M vs c 0 (omega (arith, h.size)) ∙ go c (is_data N M c) refl)
    where
      go : (c : ℕ) (b : Bool) → is_data N M c ≡ b → (if b then pack 0 (payload_of (get_or vs c 0)) else 0) ≡ (if b then pack 0 (payload_of (get_or ws c 0)) else 0)
      go c false e = refl
      go c true e =
          let i = inside N M c e in
          let at : data_cell N (c - (N + 1)) ≡ c = omega (arith, i.0) in
          ap (pack 0) (subst (λ (x : ℕ). payload_of (get_or vs x 0) ≡ payload_of (get_or ws x 0)) at (number_kept (c - (N + 1)) (omega (arith, i.0, i.1))))

  pub begins_partly : BeginsAnewPartly N M ws vs
  begins_partly = record {
    size = h.size ∙ size;
    settled = sym (left_alone N M vs (h.size ∙ size) still_closed);
    numbers = number_kept;
    current = current;
    none_newer = newer_none;
    again = again;
  }

-- each front of the writes
pub fronts_begin : (N M : ℕ) (ws : List ℕ) → IsDurableRow N M ws → is_open N (λ c. get_or ws c 0) ≡ false → (k : ℕ) → BeginsAnewPartly N M ws (words_after_writes (take k (renumbering_writes N M ws)) ws)
fronts_begin N M ws size closed k =
    subst (λ (x : List (ℕ × ℕ)). BeginsAnewPartly N M ws (words_after_writes x ws)) (at_most N M ws k (min k (length ws)) refl)
    (begins_partly N M ws (words_after_writes (take (min k (length ws)) (renumbering_writes N M ws)) ws) (min k (length ws)) size closed (omega arith) (last_anew N M ws (min k (length ws)) (omega arith)))
