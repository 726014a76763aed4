-- A table of scripts may start from the row.
use Rattle.std.proofs.Common.{◌≡◌, ℕ, zero, suc, ◌≤◌, List, refl, sym, ◌∙◌, arith, length, get_or, replicate, drop, [], ◌∷◌, ◌++◌, lit<, Bool, true, false, nat_le, if◌then◌else◌}
use Rattle.std.proofs.lemmas.Bool.Decides.{nat_tests}
use Rattle.of_cell.specs.Words.{pack, seq_of, payload_of}
use Rattle.of_cell.specs.Cells.{log_room}
use Rattle.of_cell.proofs.Order.{seq_zero}
use Rattle.of_mem.specs.Places.{buckets_behind}
use Rattle.of_mem.proofs.Lists.{zero_at}
use Rattle.of_recover.specs.Recovered.{recovered_words}
use Rattle.of_script.specs.Table.{form_at}
use Rattle.of_script.specs.Reading.{instr_at}
use Rattle.of_eval.specs.Scripts.{LawfulCells, scripts_meaning}
use Rattle.of_eval.specs.SoundScripts.{scripts_sound}
use Rattle.test_cells.specs.Starts.{alone, stored_row, MayStartFrom}

-- whether no word is newer than the sequence
abbrev are_old : ℕ → List ℕ → Bool
are_old s [] = true
are_old s (w ∷ ws) = if nat_le (seq_of w) s then are_old s ws else false

all_old : (s : ℕ) (ws : List ℕ) → are_old s ws ≡ true → (a : ℕ) → seq_of (get_or ws a 0) ≤ s
all_old s [] e a = omega (arith, seq_zero)
all_old s (w ∷ ws) e a = go (nat_le (seq_of w) s) refl e (λ h. all_old s ws h) a
  where
    go : (b : Bool) → nat_le (seq_of w) s ≡ b → (if b then are_old s ws else false) ≡ true → (are_old s ws ≡ true → (a : ℕ) → seq_of (get_or ws a 0) ≤ s) → (a : ℕ) → seq_of (get_or (w ∷ ws) a 0) ≤ s
    go true q e f zero = grind (arith, nat_tests)
    go true q e f (suc a) = f e a
    go false q e f a = cc

-- the words of its script store 3 7
abbrev store_3_7 : List ℕ
store_3_7 = 75161927687 ∷ []

-- what the script leaves of zeros stands for a store, and so do cells that are the same behind the
-- caller's own
lawful : (xs : List ℕ) → length xs ≡ 81 → drop 18 xs ≡ 0 ∷ 0 ∷ 0 ∷ 7 ∷ replicate 59 0 → LawfulCells alone xs
unfolding instr_at form_at buckets_behind
lawful xs l e =
    let sound = scripts_sound alone in
    let zeros = sound.zeros (replicate 81 0) refl (zero_at 81) in
    let left : List ℕ = (scripts_meaning alone).cells (replicate 81 0) store_3_7 in
    let same : drop 18 left ≡ 0 ∷ 0 ∷ 0 ∷ 7 ∷ replicate 59 0 = refl in
    sound.lawful_from left xs (sound.keeps_length (replicate 81 0) store_3_7 refl) l (same ∙ sym e) (sound.leads (replicate 81 0) store_3_7 refl zeros)

pub starts_at_zero : (limit : ℕ) → MayStartFrom alone limit (stored_row 0 0)
unfolding recovered_words pack seq_of payload_of log_room buckets_behind
starts_at_zero limit = record {
  long = refl;
  recovered = refl;
  may_start = record {
    start = record { owner_in = lit< tt; size = refl; old = all_old 0 (pack 0 1 ∷ pack 0 65536 ∷ pack 0 0 ∷ (replicate 18 0 ++ (pack 0 7 ∷ replicate 59 0))) refl };
    lawful = lawful (1 ∷ 65536 ∷ 0 ∷ (replicate 18 0 ++ (7 ∷ replicate 59 0))) refl refl;
    limit = omega arith;
  };
}
