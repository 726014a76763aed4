-- The piece at which the words after a script's caller are no script.
use Rattle.std.proofs.Common.{◌≡◌, inl, inr, ℕ, ◌<◌, List, [], ◌∷◌, ◌++◌, length, refl, sym, ap, subst, ◌∙◌, arith}
use Rattle.of_script.specs.declared.instr.Instr.{Instr}
use Rattle.of_script.specs.declared.instr.TheConstants.{MOST_INSTRS}
use Rattle.of_script.specs.Text.{text_words, EndsWith, script_words, semicolon_byte}
use Rattle.of_script.proofs.InOnePass.{IsAhead}
use Rattle.of_plan.specs.declared.pieces.Piece.{Piece}
use Rattle.of_plan.specs.declared.reason.Reason.{Reason}
use Rattle.of_plan.specs.declared.reason.Reason.TheVariants.{TooManyInstructions}
use Rattle.of_plan.specs.Pieces.{IsBad, IsNextWord, first_word}
use Rattle.of_plan.specs.Fed.{TooMany, IsInstrFault, EndsInstr, IsScriptFault}
use Rattle.of_plan.proofs.BadPieces.{lift, lift_next, words_on, ends_all}

instr_bad : (bytes rest : List ℕ) (r : Reason) (b : Piece) (opening : List (List ℕ)) → IsBad rest b (IsInstrFault r) → EndsWith bytes rest → text_words bytes ≡ opening ++ text_words rest → EndsInstr opening → IsBad bytes b (IsScriptFault r)
instr_bad bytes rest r b opening h ends words e = lift rest bytes b (IsInstrFault r) (IsScriptFault r) opening h ends words (λ before piece k. inl (opening, before, e, refl, k))

pub first_bad : (bytes : List ℕ) (r : Reason) (b : Piece) → IsBad bytes b (IsInstrFault r) → IsBad bytes b (IsScriptFault r)
first_bad bytes r b h = instr_bad bytes bytes r b [] h (ends_all bytes) refl (inl refl)

pub next_bad : (bytes rest more : List ℕ) (is : List Instr) (r : Reason) (b : Piece) → IsAhead bytes rest is → text_words rest ≡ semicolon_byte ∷ text_words more → EndsWith bytes more → IsBad more b (IsInstrFault r) → IsBad bytes b (IsScriptFault r)
next_bad bytes rest more is r b ahead mark ends h =
    instr_bad bytes more r b (script_words is ++ semicolon_byte ∷ []) h ends (words_on (script_words is) (semicolon_byte ∷ []) (text_words rest) (text_words more) (text_words bytes) ahead.words mark) (inr (script_words is, refl))

pub no_empty : (ws others : List (List ℕ)) (w : List ℕ) → ws ≡ w ∷ others → 0 < length w → first_word ws ≡ [] → ⊥
no_empty ws others w e some none = let empty : w ≡ [] = sym (ap first_word e) ∙ none in absurd (omega (arith, some, ap length empty))

pub word_bad : (bytes rest : List ℕ) (is : List Instr) (w : List ℕ) (others : List (List ℕ)) (r : Reason) (b : Piece) → IsAhead bytes rest is → EndsWith bytes rest → text_words rest ≡ w ∷ others → 0 < length w → (w ≡ semicolon_byte → ⊥) → IsNextWord rest b → r ≡ TooMany → IsBad bytes b (IsScriptFault r)
word_bad bytes rest is w others r b ahead ends words some no_mark next reason =
    subst (λ (q : Reason). IsBad bytes b (IsScriptFault q)) (sym reason)
    (lift_next rest bytes b (IsScriptFault TooMany) (script_words is) next ends ahead.words
    (inr (is, ahead.fits, refl, (no_empty (text_words rest) others w words some, λ e. no_mark (sym (ap first_word words) ∙ e)))))

pub full_bad : (bytes rest : List ℕ) (is : List Instr) (others : List (List ℕ)) (r : Reason) (b : Piece) → IsAhead bytes rest is → EndsWith bytes rest → text_words rest ≡ semicolon_byte ∷ others → length is ≡ MOST_INSTRS → IsNextWord rest b → r ≡ TooManyInstructions → IsBad bytes b (IsScriptFault r)
full_bad bytes rest is others r b ahead ends words full next reason =
    subst (λ (q : Reason). IsBad bytes b (IsScriptFault q)) (sym reason)
    (lift_next rest bytes b (IsScriptFault TooManyInstructions) (script_words is) next ends ahead.words (inr (is, ahead.fits, refl, (full, ap first_word words))))
