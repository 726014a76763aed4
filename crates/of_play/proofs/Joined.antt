-- A text that was written piece by piece.
use Rattle.std.proofs.Common.{◌≡◌, ℕ, List, ◌++◌, ◌∙◌, ap, if◌then◌else◌}
use Rattle.std.specs.declared.result.Result.{Result}
use Rattle.std.specs.declared.result.Result.TheVariants.{Ok, Err}
use Rattle.std.specs.Result.{is_ok, OnOk}
use Rattle.std.proofs.lemmas.List.{append_assoc}

-- five pieces behind a text, the last of which may not have been written
pub five_joined : {A E : Type 0} (r : Result A E) (o a b c d e s t u v w : List ℕ) → s ≡ o ++ a → t ≡ s ++ b → u ≡ t ++ c → v ≡ u ++ d → w ≡ (if is_ok r then v ++ e else v) → OnOk r (w ≡ o ++ ((((a ++ b) ++ c) ++ d) ++ e))
five_joined (Ok x) o a b c d e s t u v w p q r n h =
    h ∙ ap (λ (xs : List ℕ). xs ++ e) (three o a b c d s t u v p q r n) ∙ append_assoc o (((a ++ b) ++ c) ++ d) e
  where
    three : (o a b c d s t u v : List ℕ) → s ≡ o ++ a → t ≡ s ++ b → u ≡ t ++ c → v ≡ u ++ d → v ≡ o ++ (((a ++ b) ++ c) ++ d)
    three o a b c d s t u v p q r n =
        n ∙ ap (λ (xs : List ℕ). xs ++ d) r ∙ ap (λ (xs : List ℕ). (xs ++ c) ++ d) q ∙ ap (λ (xs : List ℕ). ((xs ++ b) ++ c) ++ d) p
        ∙ ap (λ (xs : List ℕ). (xs ++ c) ++ d) (append_assoc o a b) ∙ ap (λ (xs : List ℕ). xs ++ d) (append_assoc o (a ++ b) c) ∙ append_assoc o ((a ++ b) ++ c) d
five_joined (Err x) o a b c d e s t u v w p q r n h = tt

-- four pieces, of which the last has its own contract
pub four_written : {A E : Type 0} (r : Result A E) (o a b c d s t u v : List ℕ) → s ≡ o ++ a → t ≡ s ++ b → u ≡ t ++ c → OnOk r (v ≡ u ++ d) → OnOk r (v ≡ o ++ (((a ++ b) ++ c) ++ d))
four_written (Ok x) o a b c d s t u v p q r n =
    n ∙ ap (λ (xs : List ℕ). xs ++ d) r ∙ ap (λ (xs : List ℕ). (xs ++ c) ++ d) q ∙ ap (λ (xs : List ℕ). ((xs ++ b) ++ c) ++ d) p
    ∙ ap (λ (xs : List ℕ). (xs ++ c) ++ d) (append_assoc o a b) ∙ ap (λ (xs : List ℕ). xs ++ d) (append_assoc o (a ++ b) c) ∙ append_assoc o ((a ++ b) ++ c) d
four_written (Err x) o a b c d s t u v p q r n = tt
