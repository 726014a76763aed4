-- From the piece of a line at fault to the fault of its text.
use Rattle.std.proofs.Common.{◌≡◌, false, inl, inr, ℕ, ◌+◌, ◌-◌, ◌≤◌, List, [], ◌∷◌, ◌++◌, length, take, drop, get_or, refl, sym, ap, subst, ◌∙◌, append_assoc, arith}
use Rattle.std.specs.Prelude.{slice_range}
use Rattle.std.proofs.lemmas.List.{length-append, append-nil, take_at}
use Rattle.std.proofs.Math.Seq.{drop-append_seam, take-append_seam, get_or-append_seam}
use Rattle.of_script.specs.Text.{text_words}
use Rattle.of_plan.specs.declared.pieces.Piece.{Piece}
use Rattle.of_plan.specs.declared.reason.Reason.{Reason}
use Rattle.of_plan.specs.declared.reason.Reason.TheVariants.{Flawed, EndMissing}
use Rattle.of_plan.specs.declared.pieces.HiddenByte.{HiddenByte}
use Rattle.of_plan.specs.Flaws.{IsHiddenByte}
use Rattle.of_plan.specs.declared.parser.state.Stage.TheVariants.{Ended}
use Rattle.of_plan.specs.Lines.{text_lines, unskipped_words, is_skipped}
use Rattle.of_plan.specs.Above.{line_at}
use Rattle.of_plan.specs.BadLine.{HasBadLine}
use Rattle.of_plan.specs.Grammar.{IsPlanText}
use Rattle.of_plan.specs.Pieces.{IsWholePiece, IsBad}
use Rattle.of_plan.specs.Reading.{Reading}
use Rattle.of_plan.specs.Reasons.{LinesLeadTo, IsUnended, IsTrueIn, IsFaultOf}
use Rattle.of_plan.proofs.BadLine.{IsReading}

-- a piece between two others, by its place
pub between : (line front piece after : List ℕ) (start end : ℕ) → line ≡ front ++ (piece ++ after) → start ≡ length front → end ≡ length front + length piece → (slice_range line start end ≡ piece) × (drop end line ≡ after)
between line front piece after start end e at to =
    let back : drop start line ≡ piece ++ after = ap (λ (n : ℕ). drop n line) at ∙ ap (drop (length front)) e ∙ drop-append_seam front (piece ++ after) in
    let size : end - start ≡ length piece = omega (arith, at, to) in
    let whole : line ≡ (front ++ piece) ++ after = e ∙ sym (append_assoc front piece after) in
    let past : end ≡ length (front ++ piece) = to ∙ sym (length-append front piece) in (
      ap (λ (n : ℕ). take n (drop start line)) size ∙ ap (take (length piece)) back ∙ take-append_seam piece after,
      ap (λ (n : ℕ). drop n line) past ∙ ap (drop (length (front ++ piece))) whole ∙ drop-append_seam (front ++ piece) after,
    )

pub word_fault : (text : List ℕ) (number : ℕ) (b : Piece) (r : Reason) (start end : ℕ) (Is : List (List ℕ) → List ℕ → Type 0) → HasBadLine IsPlanText text number → IsBad (line_at (text_lines text) (number - 1)) b Is → ((before : List (List ℕ)) (piece : List ℕ) → Is before piece → IsTrueIn r text (number - 1) before piece) → end ≡ length (line_at (text_lines text) (number - 1)) - b.left → start ≡ end - b.size → IsFaultOf text (record { line = number; start = start; end = end; reason = r })
word_fault text number b r start end Is bad h true_in to at =
    let line = line_at (text_lines text) (number - 1) in
    let long : length line ≡ length h.parts.0 + (length h.piece + length h.after) = ap length h.parts.1 ∙ length-append h.parts.0 (h.piece ++ h.after) ∙ ap (λ (n : ℕ). length h.parts.0 + n) (length-append h.piece h.after) in
    let ends : end ≡ length h.parts.0 + length h.piece = omega (arith, to, long, h.left) in
    let starts : start ≡ length h.parts.0 = omega (arith, at, ends, h.size) in
    let place = between line h.parts.0 h.piece h.after start end h.parts.1 starts ends in
    record {
      bad = bad;
      order = omega (arith, starts, ends);
      within = omega (arith, ends, long);
      is = inl (record {
        before = h.before;
        whole = subst (λ (v : List ℕ). IsWholePiece (text_words line) h.before v (drop end line)) (sym place.0) (subst (IsWholePiece (text_words line) h.before h.piece) (sym place.1) h.whole);
        is = subst (IsTrueIn r text (number - 1) h.before) (sym place.0) (true_in h.before h.piece h.is);
      });
    }

pub end_fault : (text line : List ℕ) (number : ℕ) → line ≡ line_at (text_lines text) (number - 1) → HasBadLine IsPlanText text number → IsUnended text (number - 1) → IsFaultOf text (record { line = number; start = length line; end = length line; reason = EndMissing })
end_fault text line number is bad none =
    let last = line_at (text_lines text) (number - 1) in
    let same : length line ≡ length last = ap length is in
    word_fault text number (record { size = 0; left = 0 }) EndMissing (length line) (length line) (λ before piece. piece ≡ []) bad
    (record { before = text_words last; piece = []; after = []; parts = (last, sym (append-nil last)); size = refl; left = refl; whole = inr (refl, refl, refl); is = refl })
    (λ before piece e. (none, e)) (omega (arith, same)) (omega arith)

-- ---- where the reading stands

pub line_here : (text : List ℕ) (rest others : List (List ℕ)) (number above : ℕ) (p : Reading) (l : List ℕ) → IsReading text rest number p → rest ≡ l ∷ others → above ≡ number → l ≡ line_at (text_lines text) above
line_here text rest others number above p l r e is =
    sym (get_or-append_seam r.done l others []) ∙ ap (λ (ls : List (List ℕ)). get_or ls (length r.done) []) (sym (r.parts ∙ ap (λ (v : List (List ℕ)). r.done ++ v) e)) ∙ ap (λ (n : ℕ). get_or (text_lines text) n []) (r.count ∙ sym is)

pub lead_here : (text : List ℕ) (rest : List (List ℕ)) (number above : ℕ) (p : Reading) → IsReading text rest number p → above ≡ number → LinesLeadTo text above p
lead_here text rest number above p r is = record {
  said = r.said;
  says = ap unskipped_words (ap (take above) r.parts ∙ take_at r.done rest above (r.count ∙ sym is)) ∙ r.says;
  leads = r.leads;
}

pub no_end_here : (text : List ℕ) (number above : ℕ) (p : Reading) → IsReading text [] number p → above + 1 ≡ number → (p.stage ≡ Ended → ⊥) → IsUnended text above
no_end_here text number above p r is unended = record {
  last = ap length (r.parts ∙ append-nil r.done) ∙ r.count ∙ sym is;
  reading = p;
  leads = lead_here text [] number (above + 1) p r is;
  unended = unended;
}

pub hidden_fault : (text line : List ℕ) (number : ℕ) (byte : HiddenByte) → line ≡ line_at (text_lines text) (number - 1) → HasBadLine IsPlanText text number → is_skipped (text_words line) ≡ false → IsHiddenByte (number - 1) line byte → IsFaultOf text (record { line = number; start = byte.start; end = byte.end; reason = Flawed byte.flaw })
hidden_fault text line number byte is bad kept h = record {
  bad = bad;
  order = h.order;
  within = subst (λ (v : List ℕ). byte.end ≤ length v) is h.within;
  is = inr (record {
    flaw = byte.flaw;
    reason = refl;
    kept = subst (λ (v : List ℕ). is_skipped (text_words v) ≡ false) is kept;
    is = subst (λ (v : List ℕ). IsHiddenByte (number - 1) v byte) is h;
  });
}
