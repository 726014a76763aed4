-- From the piece of an image's line at fault to the fault of its text.
use Rattle.std.proofs.Common.{◌≡◌, false, inl, inr, ℕ, ◌+◌, ◌-◌, ◌≤◌, List, [], ◌∷◌, ◌++◌, length, take, drop, get_or, refl, sym, ap, subst, ◌∙◌, arith}
use Rattle.std.proofs.lemmas.List.{length-append, append-nil, take_at}
use Rattle.std.proofs.Math.Seq.{get_or-append_seam}
use Rattle.of_script.specs.Text.{text_words}
use Rattle.of_plan.specs.declared.pieces.Piece.{Piece}
use Rattle.of_plan.specs.declared.pieces.HiddenByte.{HiddenByte}
use Rattle.of_plan.specs.Flaws.{IsHiddenByte}
use Rattle.of_plan.specs.Lines.{text_lines, unskipped_words, is_skipped}
use Rattle.of_plan.specs.Above.{line_at}
use Rattle.of_plan.specs.BadLine.{HasBadLine}
use Rattle.of_plan.specs.Pieces.{IsWholePiece, IsBad}
use Rattle.of_plan.proofs.Faults.{between}
use Rattle.of_plan.proofs.Readings.{IsReading}
use Rattle.of_image.specs.declared.reading.Stage.TheVariants.{Ended}
use Rattle.of_image.specs.declared.reason.Reason.{Reason}
use Rattle.of_image.specs.declared.reason.Reason.TheVariants.{Flawed, EndMissing}
use Rattle.of_image.specs.declared.grammar.Grammar.{Grammar}
use Rattle.of_image.specs.ImageText.{IsTextIn}
use Rattle.of_image.specs.ImageReading.{RowReading, no_row_read, image_language, image_reader}
use Rattle.of_image.specs.Fed.{HasSomeCallers, IsBodyRow}
use Rattle.of_image.specs.Reasons.{ImageLinesLeadTo, IsUnendedImage, IsTrueInImage, IsLineFault}
use Rattle.of_image.proofs.ImageProgress.{said}

abbrev pub IsImageReading : Grammar → (text : List ℕ) → List (List ℕ) → ℕ → RowReading → Type 0
IsImageReading g = IsReading (image_language g) (image_reader g) no_row_read

pub word_fault : (g : Grammar) (text : List ℕ) (number : ℕ) (b : Piece) (r : Reason) (start end : ℕ) (Is : List (List ℕ) → List ℕ → Type 0) → HasBadLine (IsTextIn g) text number → IsBad (line_at (text_lines text) (number - 1)) b Is → ((before : List (List ℕ)) (piece : List ℕ) → Is before piece → IsTrueInImage g r text (number - 1) before piece) → end ≡ length (line_at (text_lines text) (number - 1)) - b.left → start ≡ end - b.size → IsLineFault g text (record { line = number; start = start; end = end; reason = r })
word_fault g text number b r start end Is bad h true_in to at =
    let line = line_at (text_lines text) (number - 1) in
    let long : length line ≡ length h.parts.0 + (length h.piece + length h.after) = ap length h.parts.1 ∙ length-append h.parts.0 (h.piece ++ h.after) ∙ ap (λ (n : ℕ). length h.parts.0 + n) (length-append h.piece h.after) in
    let ends : end ≡ length h.parts.0 + length h.piece = omega (arith, to, long, h.left) in
    let starts : start ≡ length h.parts.0 = omega (arith, at, ends, h.size) in
    let place = between line h.parts.0 h.piece h.after start end h.parts.1 starts ends in
    record {
      bad = bad;
      order = omega (arith, starts, ends);
      within = omega (arith, ends, long);
      is = inl (record {
        before = h.before;
        whole = subst (λ (u : List ℕ). IsWholePiece (text_words line) h.before u (drop end line)) (sym place.0) (subst (IsWholePiece (text_words line) h.before h.piece) (sym place.1) h.whole);
        is = subst (IsTrueInImage g r text (number - 1) h.before) (sym place.0) (true_in h.before h.piece h.is);
      });
    }

pub end_fault : (g : Grammar) (text line : List ℕ) (number : ℕ) → line ≡ line_at (text_lines text) (number - 1) → HasBadLine (IsTextIn g) text number → IsUnendedImage g text (number - 1) → IsLineFault g text (record { line = number; start = length line; end = length line; reason = EndMissing })
end_fault g text line number is bad none =
    let last = line_at (text_lines text) (number - 1) in
    let same : length line ≡ length last = ap length is in
    word_fault g text number (record { size = 0; left = 0 }) EndMissing (length line) (length line) (λ before piece. piece ≡ []) bad
    (record { before = text_words last; piece = []; after = []; parts = (last, sym (append-nil last)); size = refl; left = refl; whole = inr (refl, refl, refl); is = refl })
    (λ before piece e. (none, e)) (omega (arith, same)) (omega arith)

-- ---- where the reading stands

pub line_here : (g : Grammar) (text : List ℕ) (rest others : List (List ℕ)) (number above : ℕ) (p : RowReading) (l : List ℕ) → IsImageReading g text rest number p → rest ≡ l ∷ others → above ≡ number → l ≡ line_at (text_lines text) above
line_here g text rest others number above p l r e is =
    sym (get_or-append_seam r.done l others []) ∙ ap (λ (ls : List (List ℕ)). get_or ls (length r.done) []) (sym (r.parts ∙ ap (λ (u : List (List ℕ)). r.done ++ u) e)) ∙ ap (λ (n : ℕ). get_or (text_lines text) n []) (r.count ∙ sym is)

pub lead_here : (g : Grammar) (text : List ℕ) (rest : List (List ℕ)) (number above : ℕ) (p : RowReading) → IsImageReading g text rest number p → above ≡ number → ImageLinesLeadTo g text above p
lead_here g text rest number above p r is = record {
  said = r.said;
  says = ap unskipped_words (ap (take above) r.parts ∙ take_at r.done rest above (r.count ∙ sym is)) ∙ r.says;
  leads = r.leads;
}

pub no_end_here : (g : Grammar) (text : List ℕ) (number above : ℕ) (p : RowReading) → IsImageReading g text [] number p → above + 1 ≡ number → (p.stage ≡ Ended → ⊥) → IsUnendedImage g text above
no_end_here g text number above p r is unended = record {
  last = ap length (r.parts ∙ append-nil r.done) ∙ r.count ∙ sym is;
  reading = p;
  leads = lead_here g text [] number (above + 1) p r is;
  unended = unended;
}

pub hidden_fault : (g : Grammar) (text line : List ℕ) (number : ℕ) (byte : HiddenByte) → line ≡ line_at (text_lines text) (number - 1) → HasBadLine (IsTextIn g) text number → is_skipped (text_words line) ≡ false → IsHiddenByte (number - 1) line byte → IsLineFault g text (record { line = number; start = byte.start; end = byte.end; reason = Flawed byte.flaw })
hidden_fault g text line number byte is bad kept h = record {
  bad = bad;
  order = h.order;
  within = subst (λ (u : List ℕ). byte.end ≤ length u) is h.within;
  is = inr (record {
    flaw = byte.flaw;
    reason = refl;
    kept = subst (λ (u : List ℕ). is_skipped (text_words u) ≡ false) is kept;
    is = subst (λ (u : List ℕ). IsHiddenByte (number - 1) u byte) is h;
  });
}

-- below the heading a row has been begun
pub body_row : (g : Grammar) (text : List ℕ) (rest : List (List ℕ)) (number : ℕ) (p : RowReading) → IsImageReading g text rest number p → IsBodyRow g p
body_row g text rest number p r is = (let fits = (said g no_row_read p r.said tt r.range r.leads).fits in (rw is at fits).row)

-- below the line of callers there is a caller
pub some_callers_read : (g : Grammar) (text : List ℕ) (rest : List (List ℕ)) (number : ℕ) (p : RowReading) → IsImageReading g text rest number p → HasSomeCallers p
some_callers_read g text rest number p r is = (let fits = (said g no_row_read p r.said tt r.range r.leads).fits in (rw is at fits).0)
