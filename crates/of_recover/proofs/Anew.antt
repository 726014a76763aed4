-- A row whose sequences begin anew: recovery finds nothing to do in it, and the numbers of the data cells stay.
use Rattle.std.proofs.Common.{◌≡◌, ℕ, ◌<◌, inl, false, List, length, get_or, refl, sym, ◌∙◌, ap, arith}
use Rattle.std.proofs.lemmas.Grind.{same_number_lists}
use Rattle.std.proofs.lemmas.List.FromFn.{length-map-range_with_len, get_or-map-range_with_len}
use Rattle.of_cell.specs.Words.{seq_of, payload_of}
use Rattle.of_cell.specs.Cells.{data_cell}
use Rattle.of_cell.proofs.Order.{pay_zero, seq_zero}
use Rattle.of_recover.specs.Row.{IsDurableRow, current_seq, is_open}
use Rattle.of_recover.specs.Renumbered.{renumbered_word, renumbered_words, BeginsAnew}
use Rattle.of_recover.proofs.Rows.{left_alone}
use Rattle.of_recover.proofs.Kept.{on_data, not_data}

pub length-renumbered : (N M : ℕ) (ws : List ℕ) → length (renumbered_words N M ws) ≡ length ws
unfolding renumbered_words
length-renumbered N M ws = length-map-range_with_len (renumbered_word N M (λ c. get_or ws c 0)) 0 (length ws)

pub renumbered_at : (N M : ℕ) (ws : List ℕ) (c d : ℕ) → c < length ws → get_or (renumbered_words N M ws) c d ≡ renumbered_word N M (λ c. get_or ws c 0) c
unfolding renumbered_words
renumbered_at N M ws c d l = get_or-map-range_with_len (renumbered_word N M (λ c. get_or ws c 0)) 0 (length ws) c c d l (omega arith)

-- a row is the renumbered one where each of its words is
pub same_renumbered : (N M : ℕ) (ws vs : List ℕ) → length vs ≡ length ws → ((c : ℕ) → c < length ws → get_or vs c 0 ≡ renumbered_word N M (λ c. get_or ws c 0) c) → vs ≡ renumbered_words N M ws
same_renumbered N M ws vs size each = same_number_lists vs (renumbered_words N M ws) (size ∙ sym (length-renumbered N M ws)) (λ k l. let m : k < length ws = omega (arith, size) in each k m ∙ sym (renumbered_at N M ws k 0 m))

module _ (N M : ℕ) (ws : List ℕ) (size : IsDurableRow N M ws) where
  current_zero : get_or (renumbered_words N M ws) 0 0 ≡ 0
  current_zero = renumbered_at N M ws 0 0 (omega (arith, size)) ∙ rw (not_data N M 0 (inl (omega arith))) refl

  seq_is_zero : current_seq (λ c. get_or (renumbered_words N M ws) c 0) ≡ 0
  seq_is_zero = ap seq_of current_zero ∙ seq_zero

  -- no transaction is open
  none_open : is_open N (λ c. get_or (renumbered_words N M ws) c 0) ≡ false
  none_open = rw seq_is_zero refl

  pub begins_anew : BeginsAnew N M ws (renumbered_words N M ws)
  begins_anew = record {
    size = length-renumbered N M ws ∙ size;
    seq = seq_is_zero;
    owner = ap payload_of current_zero ∙ pay_zero;
    settled = sym (left_alone N M (renumbered_words N M ws) (length-renumbered N M ws ∙ size) none_open);
    numbers = λ a l. renumbered_at N M ws (data_cell N a) 0 (omega (arith, size)) ∙ rw (on_data N M a l) refl;
    others = λ c l e. renumbered_at N M ws c 0 l ∙ rw e refl;
  }
