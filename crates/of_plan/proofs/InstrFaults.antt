-- An instruction that comes next, or the piece at which there is none.
use Rattle.std.proofs.Common.{◌≡◌, inl, inr, ℕ, List, [], ◌∷◌, ◌++◌, Option, Some, refl, ap, ◌∙◌, arith}
use Rattle.of_script.specs.declared.instr.Instr.{Instr}
use Rattle.of_script.specs.Text.{text_words, EndsWith}
use Rattle.of_script.specs.Table.{form_named, first_most, second_most, with_numbers}
use Rattle.of_script.specs.Reading.{◌>>=◌, slot_and_rest, front_and_rest}
use Rattle.of_script.proofs.Forms.{slot_words, mosts}
use Rattle.of_plan.specs.declared.pieces.Piece.{Piece}
use Rattle.of_plan.specs.declared.reason.Reason.{Reason}
use Rattle.of_plan.specs.Pieces.{IsBad, IsNextWord, first_word}
use Rattle.of_plan.specs.Fed.{IsNumberFault, IsInstrFault}
use Rattle.of_plan.proofs.BadPieces.{lift_next, ends_on}
use Rattle.of_plan.proofs.NumberFaults.{of_instr, slot_read}

pub front_read : (name : List ℕ) (ws others rest : List (List ℕ)) (form : Instr) (x y : ℕ) → form_named name ≡ Some form → slot_and_rest (first_most form) ws ≡ Some (x, others) → slot_and_rest (second_most form) others ≡ Some (y, rest) → front_and_rest (name ∷ ws) ≡ Some (with_numbers form x y, rest)
unfolding front_and_rest
front_read name ws others rest form x y named one two =
    ap (λ (o : Option Instr). o >>= λ f. slot_and_rest (first_most f) ws >>= λ x. slot_and_rest (second_most f) x.1 >>= λ y. Some (with_numbers f x.0 y.0, y.1)) named
    ∙ ap (λ (o : Option (ℕ × List (List ℕ))). o >>= λ x. slot_and_rest (second_most form) x.1 >>= λ y. Some (with_numbers form x.0 y.0, y.1)) one
    ∙ ap (λ (o : Option (ℕ × List (List ℕ))). o >>= λ y. Some (with_numbers form x y.0, y.1)) two

pub first_missing : (bytes numbers name : List ℕ) (form : Instr) (b : Piece) (r : Reason) → text_words bytes ≡ name ∷ text_words numbers → EndsWith bytes numbers → form_named name ≡ Some form → IsNextWord numbers b → IsNumberFault r (first_most form) (first_word (text_words numbers)) → IsBad bytes b (IsInstrFault r)
first_missing bytes numbers name form b r words ends named next fault =
    lift_next numbers bytes b (IsInstrFault r) (name ∷ []) next ends words
    (of_instr r (name ∷ []) (first_word (text_words numbers)) (first_most form) (name, form, named, inl (refl, refl)) fault)

pub second_missing : (bytes numbers others name : List ℕ) (form : Instr) (x : ℕ) (b : Piece) (r : Reason) → text_words bytes ≡ name ∷ text_words numbers → EndsWith bytes numbers → form_named name ≡ Some form → slot_and_rest (first_most form) (text_words numbers) ≡ Some (x, text_words others) → EndsWith numbers others → IsNextWord others b → IsNumberFault r (second_most form) (first_word (text_words others)) → IsBad bytes b (IsInstrFault r)
second_missing bytes numbers others name form x b r words ends named read more next fault =
    let m = mosts form in
    let opening = name ∷ slot_words (first_most form) x in
    let all : text_words bytes ≡ opening ++ text_words others = words ∙ ap (λ (v : List (List ℕ)). name ∷ v) (slot_read (first_most form) (text_words numbers) x (text_words others) (omega (arith, m.0)) read) in
    lift_next others bytes b (IsInstrFault r) opening next (ends_on bytes numbers others ends more) all
    (of_instr r opening (first_word (text_words others)) (second_most form) (name, form, named, inr (x, refl, refl)) fault)
