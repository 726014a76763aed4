-- A piece that is at fault in the end of a line is at fault in the line.
use Rattle.std.proofs.Common.{◌≡◌, ℕ, inl, inr, List, [], ◌∷◌, ◌++◌, refl, sym, ap, subst, ◌∙◌, append_assoc}
use Rattle.std.proofs.lemmas.List.{append-nil}
use Rattle.of_script.specs.Text.{text_words, EndsWith}
use Rattle.of_plan.specs.declared.pieces.Piece.{Piece}
use Rattle.of_plan.specs.Pieces.{IsBad, IsNextWord, first_word}

-- no word comes next
pub none_next : (bytes : List ℕ) → text_words bytes ≡ [] → IsNextWord bytes (record { size = 0; left = 0 })
none_next bytes e = record {
  before = [];
  piece = [];
  after = [];
  parts = (bytes, sym (append-nil bytes));
  size = refl;
  left = refl;
  whole = inr (e, refl, refl);
  is = (refl, sym (ap first_word e));
}

pub ends_all : (bytes : List ℕ) → EndsWith bytes bytes
ends_all bytes = ([], refl)

pub ends_on : (line bytes rest : List ℕ) → EndsWith line bytes → EndsWith bytes rest → EndsWith line rest
ends_on line bytes rest e f = (e.0 ++ f.0, e.1 ∙ ap (λ (v : List ℕ). e.0 ++ v) f.1 ∙ sym (append_assoc e.0 f.0 rest))

pub words_on : (opening first others rest : List (List ℕ)) (ws : List (List ℕ)) → ws ≡ opening ++ others → others ≡ first ++ rest → ws ≡ (opening ++ first) ++ rest
words_on opening first others rest ws e f = e ∙ ap (λ (v : List (List ℕ)). opening ++ v) f ∙ sym (append_assoc opening first rest)

pub lift : (bytes line : List ℕ) (b : Piece) (P Q : List (List ℕ) → List ℕ → Type 0) (opening : List (List ℕ)) → IsBad bytes b P → EndsWith line bytes → text_words line ≡ opening ++ text_words bytes → ((before : List (List ℕ)) (piece : List ℕ) → P before piece → Q (opening ++ before) piece) → IsBad line b Q
lift bytes line b P Q opening h e words f = record {
  before = opening ++ h.before;
  piece = h.piece;
  after = h.after;
  parts = ends_on line bytes (h.piece ++ h.after) e h.parts;
  size = h.size;
  left = h.left;
  whole = elim h.whole [
    | inl k ↦ inl (words_on opening h.before (text_words bytes) (h.piece ∷ text_words h.after) (text_words line) words k)
    | inr k ↦ inr (words ∙ ap (λ (v : List (List ℕ)). opening ++ v) k.0, k.1, k.2)
  ];
  is = f h.before h.piece h.is;
}

-- the next word of the end of a line
pub lift_next : (bytes line : List ℕ) (b : Piece) (Q : List (List ℕ) → List ℕ → Type 0) (opening : List (List ℕ)) → IsNextWord bytes b → EndsWith line bytes → text_words line ≡ opening ++ text_words bytes → Q opening (first_word (text_words bytes)) → IsBad line b Q
lift_next bytes line b Q opening h e words is =
    lift bytes line b (λ before piece. (before ≡ []) × (piece ≡ first_word (text_words bytes))) Q opening h e words
    (λ before piece k.
    let first : Q (opening ++ before) (first_word (text_words bytes)) = subst (λ (v : List (List ℕ)). Q v (first_word (text_words bytes))) (sym (append-nil opening) ∙ ap (λ (v : List (List ℕ)). opening ++ v) (sym k.0)) is in
    subst (Q (opening ++ before)) (sym k.1) first)

-- the first word of a line
pub lift_first : (line : List ℕ) (b : Piece) (Q : List (List ℕ) → List ℕ → Type 0) (w : List ℕ) (ws : List (List ℕ)) → IsNextWord line b → text_words line ≡ w ∷ ws → Q [] w → IsBad line b Q
lift_first line b Q w ws h words is = lift_next line line b Q [] h (ends_all line) refl (subst (Q []) (sym (ap first_word words)) is)
