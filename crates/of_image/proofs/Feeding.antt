-- The lines of an image: each is taken, or refused with a reason that is true of a piece of it.
use Rattle.std.proofs.Common.{◌≡◌, inl, inr, ℕ, ◌+◌, ◌<◌, ◌≤◌, Bool, true, false, cond, List, [], ◌∷◌, ◌++◌, length, map, set, Option, Some, None, Ok, Err, refl, sym, ap, subst, ◌∙◌, arith, lit<, lit≤}
use Rattle.std.specs.Prelude.{codes, decimal, nat_lt, nat_le, ◌==◌, Result, IsErrAnd, MatchResult}
use Rattle.std.proofs.lemmas.Bool.Decides.{eqb_tells, nat_tests}
use Rattle.std.proofs.lemmas.Bool.{ne_eqb as eqb_other}
use Rattle.of_cell.specs.Words.{pack}
use Rattle.of_script.specs.Text.{text_words, EndsWith}
use Rattle.of_script.specs.Reading.{◌>>=◌, next_number, parsed_number}
use Rattle.of_script.proofs.Numbers.{number_again}
use Rattle.of_script.proofs.Instrs.{number_at_takes}
use Rattle.of_plan.specs.declared.flaw.Flaw.{Flaw}
use Rattle.of_plan.specs.declared.flaw.Flaw.TheVariants.{NumberMissing, NoNumber, TooGreat, Zero}
use Rattle.of_plan.specs.Flaws.{PieceIsNumber, HasFlaw, IsNumberFlaw}
use Rattle.of_plan.specs.Lines.{is_skipped}
use Rattle.of_plan.specs.Pieces.{IsNextWord, first_word}
use Rattle.of_plan.specs.Reader.{ReadsLine, RefusesLine}
use Rattle.of_plan.proofs.BadPieces.{lift_next}
use Rattle.of_plan.proofs.FormLaws.{same_read, unread}
use Rattle.of_image.specs.declared.feed.Bad.{Bad}
use Rattle.of_image.proofs.Bounds.{few_callers, few_blocks}
use Rattle.of_image.proofs.ImageLines.{kind, other_kind}
use Rattle.of_image.specs.declared.line.ImageLine.{ImageLine}
use Rattle.of_image.specs.declared.line.ImageLine.TheVariants.{Title, Callers, Blocks, Cell, End}
use Rattle.of_image.specs.declared.reading.Stage.{Stage}
use Rattle.of_image.specs.declared.reading.Stage.TheVariants.{Start, Named, Counted, Body}
use Rattle.of_image.specs.declared.reason.Reason.{Reason}
use Rattle.of_image.specs.declared.reason.Reason.TheVariants.{Flawed, TitleExpected, OtherVersion, NoCell, CellPassed, EmptyCell}
use Rattle.of_image.specs.declared.grammar.Grammar.{Grammar}
use Rattle.of_image.specs.Grammar.{most_callers, most_blocks}
use Rattle.of_image.specs.Version.{version_number}
use Rattle.of_image.specs.ImageText.{image_line_words}
use Rattle.of_image.specs.ImageReading.{RowReading, IsImageLineInRange, after_line_at, image_language, image_reader}
use Rattle.of_image.specs.Reasons.{WantsImageNumber, IsPlaceInImage, IsTrueOfImage}
use Rattle.of_image.specs.Fed.{TooManyWords, IsImageNumberFault, IsBodyRow, RefusesImageLine}

-- what a call has thrown
pub thrown : {A : Type 0} → (r : Result A Bad) (b : Bad) (P : A → Type 0) (Q : Bad → Type 0) → IsErrAnd r (λ e. e ≡ b) → Q b → MatchResult r P Q
thrown (Ok x) b P Q is q = absurd is
thrown (Err e) b P Q is q = subst Q (sym is) q

tail : {A : Type 0} (x y : A) (xs ys : List A) → x ∷ xs ≡ y ∷ ys → xs ≡ ys
tail x y xs ys e = cc

-- another word comes first than the wanted one
not_first : (ws : List (List ℕ)) (w : List ℕ) → ((others : List (List ℕ)) → ws ≡ w ∷ others → ⊥) → (w ≡ [] → ⊥) → first_word ws ≡ w → ⊥
not_first [] w h some e = some (sym e)
not_first (u ∷ us) w h some e = h us (ap (λ (x : List ℕ). x ∷ us) e)

-- ---- numbers

number_at_again : (most n : ℕ) (ws : List (List ℕ)) → most ≤ 4294967295 → n ≤ most → next_number most (decimal n ∷ ws) ≡ Some (n, ws)
number_at_again most n ws small le = ap (λ (o : Option ℕ). o >>= λ k. Some (k, ws)) (number_again most n (omega (arith, small)) le)

-- the words of a number that was read
record IsNumbered (most : ℕ) (ws : List (List ℕ)) (x : ℕ) (rest : List (List ℕ)) : Type 0 where
  pub words : ws ≡ decimal x ∷ rest
  pub small : x ≤ most
  pub piece : PieceIsNumber (first_word ws) x

numbered : (most : ℕ) (ws : List (List ℕ)) (x : ℕ) (rest : List (List ℕ)) → most ≤ 4294967295 → next_number most ws ≡ Some (x, rest) → IsNumbered most ws x rest
numbered most ws x rest le e =
    let t = number_at_takes most ws (x, rest) (omega (arith, le)) e in
    record {
      words = t.0;
      small = t.1;
      piece = ap (λ (u : List (List ℕ)). parsed_number 4294967295 (first_word u)) t.0 ∙ number_again 4294967295 x (lit< tt) (omega (arith, t.1, le));
    }

-- what was read is the number that the words begin with
known : (most : ℕ) (ws : List (List ℕ)) (x y : ℕ) (rest others : List (List ℕ)) → most ≤ 4294967295 → next_number most ws ≡ Some (x, rest) → y ≤ most → ws ≡ decimal y ∷ others → (x ≡ y) × (rest ≡ others)
known most ws x y rest others le e low is = same_read (next_number most ws) x y rest others e (ap (next_number most) is ∙ number_at_again most y others le low)

-- a number comes next after these words of a line
record HasNumber (most : ℕ) (ws : List (List ℕ)) : Type 0 where
  pub number : ℕ
  pub others : List (List ℕ)
  pub small : number ≤ most
  pub words : ws ≡ decimal number ∷ others

title_number : (g : Grammar) (ws : List (List ℕ)) (l : ImageLine) → IsImageLineInRange g l → codes "onefile" ∷ codes "image" ∷ ws ≡ image_line_words l → HasNumber 4294967295 ws
title_number g ws (Title x) r e = record { number = x; others = []; small = r; words = cc }
title_number g ws l r e = absurd (other_kind (codes "onefile" ∷ codes "image" ∷ ws) (image_line_words l) e (λ k. omega (arith, k)))

callers_number : (g : Grammar) (ws : List (List ℕ)) (l : ImageLine) → IsImageLineInRange g l → codes "callers" ∷ ws ≡ image_line_words l → HasNumber (most_callers g.limits) ws
callers_number g ws (Callers n) r e = record { number = n; others = []; small = r; words = cc }
callers_number g ws l r e = absurd (other_kind (codes "callers" ∷ ws) (image_line_words l) e (λ k. omega (arith, k)))

blocks_number : (g : Grammar) (ws : List (List ℕ)) (l : ImageLine) → IsImageLineInRange g l → codes "blocks" ∷ ws ≡ image_line_words l → HasNumber (most_blocks g.limits) ws
blocks_number g ws (Blocks n) r e = record { number = n; others = []; small = r; words = cc }
blocks_number g ws l r e = absurd (other_kind (codes "blocks" ∷ ws) (image_line_words l) e (λ k. omega (arith, k)))

cell_number : (g : Grammar) (numbers : List ℕ) (ws : List (List ℕ)) (l : ImageLine) → length numbers ≤ 2 → IsImageLineInRange g l → codes "cell" ∷ (map decimal numbers ++ ws) ≡ image_line_words l → HasNumber 4294967295 ws
cell_number g [] ws (Cell c s x) few r e = record { number = c; others = decimal s ∷ decimal x ∷ []; small = r.0; words = cc }
cell_number g (a ∷ []) ws (Cell c s x) few r e = record { number = s; others = decimal x ∷ []; small = r.1; words = cc }
cell_number g (a ∷ b ∷ []) ws (Cell c s x) few r e = record { number = x; others = []; small = r.2; words = cc }
cell_number g (a ∷ b ∷ d ∷ more) ws l few r e = absurd (omega (arith, few))
cell_number g numbers ws l few r e = absurd (other_kind (codes "cell" ∷ (map decimal numbers ++ ws)) (image_line_words l) e (λ k. omega (arith, k)))

wanted_number : (g : Grammar) (opening : List (List ℕ)) (most : ℕ) (ws : List (List ℕ)) (l : ImageLine) → WantsImageNumber g opening most → IsImageLineInRange g l → opening ++ ws ≡ image_line_words l → HasNumber most ws
wanted_number g opening most ws l wants r e = elim wants [
  | inl h ↦ subst (λ (m : ℕ). HasNumber m ws) (sym h.1) (title_number g ws l r (sym (ap (λ (o : List (List ℕ)). o ++ ws) h.0) ∙ e))
  | inr h ↦ elim h [
    | inl k ↦ subst (λ (m : ℕ). HasNumber m ws) (sym k.1) (callers_number g ws l r (sym (ap (λ (o : List (List ℕ)). o ++ ws) k.0) ∙ e))
    | inr k ↦ elim k [
      | inl m ↦ subst (λ (n : ℕ). HasNumber n ws) (sym m.1) (blocks_number g ws l r (sym (ap (λ (o : List (List ℕ)). o ++ ws) m.0) ∙ e))
      | inr m ↦ subst (λ (n : ℕ). HasNumber n ws) (sym m.3) (cell_number g m.0 ws l m.1 r (sym (ap (λ (o : List (List ℕ)). o ++ ws) m.2) ∙ e))
    ]
  ]
]

most_small : (g : Grammar) (opening : List (List ℕ)) (most : ℕ) → WantsImageNumber g opening most → most ≤ 4294967295
most_small g opening most wants = elim wants [
  | inl h ↦ subst (λ (n : ℕ). n ≤ 4294967295) (sym h.1) (lit≤ tt)
  | inr h ↦ elim h [
    | inl k ↦ omega (arith, k.1, few_callers g.limits)
    | inr k ↦ elim k [
      | inl m ↦ omega (arith, m.1, few_blocks g.limits)
      | inr m ↦ subst (λ (n : ℕ). n ≤ 4294967295) (sym m.3) (lit≤ tt)
    ]
  ]
]

-- a piece that is no number, where one comes next
flaw_true : (g : Grammar) (flaw : Flaw) (before : List (List ℕ)) (piece : List ℕ) (most : ℕ) → WantsImageNumber g before most → IsNumberFlaw flaw most piece → HasFlaw flaw piece × IsPlaceInImage g flaw before
flaw_true g NumberMissing before piece most wants h = (h, (most, wants))
flaw_true g NoNumber before piece most wants h = (h, (most, wants))
flaw_true g (TooGreat n) before piece most wants h =
    let same : most ≡ n = sym h.0 in
    ((h.1, subst (λ (m : ℕ). parsed_number m piece ≡ None) same h.2), subst (WantsImageNumber g before) same wants)
flaw_true g flaw before piece most wants h = absurd h

number_true : (g : Grammar) (r : Reason) (p : RowReading) (before : List (List ℕ)) (piece : List ℕ) (most : ℕ) → WantsImageNumber g before most → IsImageNumberFault r most piece → IsTrueOfImage g r p before piece
number_true g (Flawed flaw) p before piece most wants h = flaw_true g flaw before piece most wants h
number_true g r p before piece most wants h = absurd h

-- ---- any line

-- the next word of the end of a line that may not come next is at fault
bad_at : (g : Grammar) (p : RowReading) (line bytes : List ℕ) (bad : Bad) (r : Reason) (opening : List (List ℕ)) → RefusesLine (image_language g) (image_reader g) (text_words line) p → IsNextWord bytes bad.piece → EndsWith line bytes → text_words line ≡ opening ++ text_words bytes → bad.reason ≡ r → IsTrueOfImage g r p opening (first_word (text_words bytes)) → RefusesImageLine g p line bad
bad_at g p line bytes bad r opening refused next ends words is holds = (
  refused,
  lift_next bytes line bad.piece (IsTrueOfImage g bad.reason p) opening next ends words
      (subst (λ (s : Reason). IsTrueOfImage g s p opening (first_word (text_words bytes))) (sym is) holds),
)

-- no number comes next
pub no_number : (g : Grammar) (p : RowReading) (line bytes : List ℕ) (bad : Bad) (most : ℕ) (opening : List (List ℕ)) → is_skipped (text_words line) ≡ false → WantsImageNumber g opening most → text_words line ≡ opening ++ text_words bytes → EndsWith line bytes → next_number most (text_words bytes) ≡ None → IsNextWord bytes bad.piece → IsImageNumberFault bad.reason most (first_word (text_words bytes)) → RefusesImageLine g p line bad
no_number g p line bytes bad most opening kept wants words ends none next fault =
    bad_at g p line bytes bad bad.reason opening (record { kept = kept; none = λ l range e. absurd (unread (next_number most (text_words bytes)) _ none (again (wanted_number g opening most (text_words bytes) l wants range (sym words ∙ e)))) }) next ends words refl
    (number_true g bad.reason p opening (first_word (text_words bytes)) most wants fault)
  where
    again : (h : HasNumber most (text_words bytes)) → next_number most (text_words bytes) ≡ Some (h.number, h.others)
    again h = ap (next_number most) h.words ∙ number_at_again most h.number h.others (most_small g opening most wants) h.small

-- a line that begins with another line's words is none
longer : (l m : ImageLine) (ws : List (List ℕ)) → image_line_words l ++ ws ≡ image_line_words m → ws ≡ []
longer (Title x) (Title y) ws e = cc
longer (Callers x) (Callers y) ws e = cc
longer (Blocks x) (Blocks y) ws e = cc
longer (Cell c s x) (Cell d t y) ws e = cc
longer End End ws e = cc
longer l m ws e = absurd (other_kind (image_line_words l ++ ws) (image_line_words m) e (λ k. omega (arith, k)))

-- a word comes after a line
pub too_many : (g : Grammar) (p : RowReading) (line bytes : List ℕ) (bad : Bad) (l : ImageLine) → is_skipped (text_words line) ≡ false → IsImageLineInRange g l → text_words line ≡ image_line_words l ++ text_words bytes → EndsWith line bytes → (first_word (text_words bytes) ≡ [] → ⊥) → IsNextWord bytes bad.piece → bad.reason ≡ TooManyWords → RefusesImageLine g p line bad
too_many g p line bytes bad l kept range words ends some next is =
    bad_at g p line bytes bad TooManyWords (image_line_words l) (record { kept = kept; none = λ m r e. absurd (some (ap first_word (longer l m (text_words bytes) (sym words ∙ e)))) }) next ends words is
    (some, record { line = l; range = range; words = refl })

-- at a stage, where no line with these words may come next
refuses : (g : Grammar) (stage : Stage) (p : RowReading) (ws : List (List ℕ)) → p.stage ≡ stage → is_skipped ws ≡ false → ((l : ImageLine) → IsImageLineInRange g l → ws ≡ image_line_words l → after_line_at g stage p l ≡ None) → RefusesLine (image_language g) (image_reader g) ws p
refuses g stage p ws at kept none = record { kept = kept; none = λ l range e. subst (λ (t : Stage). after_line_at g t p l ≡ None) (sym at) (none l range e) }

-- a line that may come next
takes : (g : Grammar) (stage : Stage) (p q : RowReading) (ws : List (List ℕ)) (l : ImageLine) → p.stage ≡ stage → is_skipped ws ≡ false → ws ≡ image_line_words l → IsImageLineInRange g l → after_line_at g stage p l ≡ Some q → ReadsLine (image_language g) (image_reader g) ws p q
takes g stage p q ws l at kept words range leads = inr (l, record { kept = kept; words = words; range = range }, subst (λ (t : Stage). after_line_at g t p l ≡ Some q) (sym at) leads)

-- ---- titles

no_title : (g : Grammar) (p : RowReading) (ws : List (List ℕ)) → ((x : ℕ) → x ≤ 4294967295 → x ≡ version_number g.version → ws ≡ image_line_words (Title x) → ⊥) → (l : ImageLine) → IsImageLineInRange g l → ws ≡ image_line_words l → after_line_at g Start p l ≡ None
no_title g p ws none (Title x) r e = elim (eqb_tells x (version_number g.version)) [ inl own ↦ absurd (none x r own.1 e) | inr other ↦ rw other.0 refl ]
no_title g p ws none l r e = refl

pub not_image : (g : Grammar) (p : RowReading) (line kind : List ℕ) (bad : Bad) (n : ℕ) → p.stage ≡ Start → is_skipped (text_words line) ≡ false → n ≡ version_number g.version → text_words line ≡ codes "onefile" ∷ text_words kind → EndsWith line kind → ((others : List (List ℕ)) → text_words kind ≡ codes "image" ∷ others → ⊥) → IsNextWord kind bad.piece → bad.reason ≡ TitleExpected n → RefusesImageLine g p line bad
not_image g p line kind bad n at kept own words ends other next is =
    bad_at g p line kind bad (TitleExpected n) (codes "onefile" ∷ []) (refuses g Start p (text_words line) at kept (no_title g p (text_words line) (λ x le same e. other (decimal x ∷ []) (tail _ _ _ _ (sym words ∙ e))))) next ends words is
    (at, own, inr (refl, not_first (text_words kind) (codes "image") other (λ e. cc)))

pub other_version : (g : Grammar) (p : RowReading) (line bytes rest : List ℕ) (bad : Bad) (found read : ℕ) → p.stage ≡ Start → is_skipped (text_words line) ≡ false → read ≡ version_number g.version → text_words line ≡ codes "onefile" ∷ codes "image" ∷ text_words bytes → EndsWith line bytes → next_number 4294967295 (text_words bytes) ≡ Some (found, text_words rest) → (found ≡ read → ⊥) → IsNextWord bytes bad.piece → bad.reason ≡ OtherVersion found read → RefusesImageLine g p line bad
other_version g p line bytes rest bad found read at kept own words ends e other next is =
    bad_at g p line bytes bad (OtherVersion found read) (codes "onefile" ∷ codes "image" ∷ []) (refuses g Start p (text_words line) at kept (no_title g p (text_words line) (λ x le same k. other ((known 4294967295 (text_words bytes) found x (text_words rest) [] (lit≤ tt) e le (tail _ _ _ _ (tail _ _ _ _ (sym words ∙ k)))).0 ∙ same ∙ sym own)))) next ends words is
    (at, refl, (numbered 4294967295 (text_words bytes) found (text_words rest) (lit≤ tt) e).piece, own, other)

-- the words of a title that was read
pub title_words : (ws ns rest : List (List ℕ)) (x : ℕ) → ws ≡ codes "onefile" ∷ codes "image" ∷ ns → next_number 4294967295 ns ≡ Some (x, rest) → ws ≡ image_line_words (Title x) ++ rest
title_words ws ns rest x words e = words ∙ ap (λ (u : List (List ℕ)). codes "onefile" ∷ codes "image" ∷ u) (numbered 4294967295 ns x rest (lit≤ tt) e).words

pub title_taken : (g : Grammar) (p q : RowReading) (ws : List (List ℕ)) (x : ℕ) → p.stage ≡ Start → is_skipped ws ≡ false → x ≡ version_number g.version → x ≤ 4294967295 → ws ≡ image_line_words (Title x) → q ≡ record p { stage = Named } → ReadsLine (image_language g) (image_reader g) ws p q
title_taken g p q ws x at kept own low words is = takes g Start p q ws (Title x) at kept words low (elim (eqb_tells x (version_number g.version)) [ inl same ↦ rw same.0 (ap (λ (r : RowReading). Some r) (sym is)) | inr other ↦ absurd (other.1 own) ])

-- ---- the counts of the heading

no_callers : (g : Grammar) (p : RowReading) (ws : List (List ℕ)) → ((n : ℕ) → n ≤ most_callers g.limits → (n ≡ 0 → ⊥) → ws ≡ image_line_words (Callers n) → ⊥) → (l : ImageLine) → IsImageLineInRange g l → ws ≡ image_line_words l → after_line_at g Named p l ≡ None
no_callers g p ws none (Callers n) r e = elim (eqb_tells n 0) [ inl zero ↦ rw zero.0 refl | inr some ↦ absurd (none n r some.1 e) ]
no_callers g p ws none l r e = refl

pub zero_callers : (g : Grammar) (p : RowReading) (line bytes rest : List ℕ) (bad : Bad) (n : ℕ) → p.stage ≡ Named → is_skipped (text_words line) ≡ false → text_words line ≡ codes "callers" ∷ text_words bytes → EndsWith line bytes → next_number (most_callers g.limits) (text_words bytes) ≡ Some (n, text_words rest) → n ≡ 0 → IsNextWord bytes bad.piece → bad.reason ≡ Flawed Zero → RefusesImageLine g p line bad
zero_callers g p line bytes rest bad n at kept words ends e zero next is =
    bad_at g p line bytes bad (Flawed Zero) (codes "callers" ∷ []) (refuses g Named p (text_words line) at kept (no_callers g p (text_words line) (λ m le some k. some (sym (known (most_callers g.limits) (text_words bytes) n m (text_words rest) [] (omega (arith, few_callers g.limits)) e le (tail _ _ _ _ (sym words ∙ k))).0 ∙ zero)))) next ends words is
    (subst (PieceIsNumber (first_word (text_words bytes))) zero (numbered (most_callers g.limits) (text_words bytes) n (text_words rest) (omega (arith, few_callers g.limits)) e).piece, refl)

pub counted_words : (name : List ℕ) (most : ℕ) (ws ns rest : List (List ℕ)) (x : ℕ) → most ≤ 4294967295 → ws ≡ name ∷ ns → next_number most ns ≡ Some (x, rest) → ws ≡ (name ∷ decimal x ∷ []) ++ rest
counted_words name most ws ns rest x le words e = words ∙ ap (λ (u : List (List ℕ)). name ∷ u) (numbered most ns x rest le e).words

pub callers_taken : (g : Grammar) (p q : RowReading) (ws : List (List ℕ)) (n : ℕ) → p.stage ≡ Named → is_skipped ws ≡ false → (n ≡ 0 → ⊥) → n ≤ most_callers g.limits → ws ≡ image_line_words (Callers n) → q ≡ record p { stage = Counted; callers = n } → ReadsLine (image_language g) (image_reader g) ws p q
callers_taken g p q ws n at kept some few words is = takes g Named p q ws (Callers n) at kept words few (rw (eqb_other n 0 some) (ap (λ (r : RowReading). Some r) (sym is)))

pub blocks_taken : (g : Grammar) (p q : RowReading) (ws : List (List ℕ)) (n : ℕ) → p.stage ≡ Counted → is_skipped ws ≡ false → n ≤ most_blocks g.limits → ws ≡ image_line_words (Blocks n) → Some q ≡ after_line_at g Counted p (Blocks n) → ReadsLine (image_language g) (image_reader g) ws p q
blocks_taken g p q ws n at kept few words is = takes g Counted p q ws (Blocks n) at kept words few (sym is)

-- ---- cells and the end

-- where each of the three tests passes, the cell is taken
tests : (a b c : Bool) (q : RowReading) → (a ≡ false → b ≡ false → c ≡ false → ⊥) → cond a None (cond b None (cond c None (Some q))) ≡ None
tests true b c q h = refl
tests false true c q h = refl
tests false false true q h = refl
tests false false false q h = absurd (h refl refl refl)

word_zero : (s x : ℕ) → pack s x ≡ 0 → (s ≡ 0) × (x ≡ 0)
unfolding pack
word_zero s x e = (omega (arith, e), omega (arith, e))

no_body : (g : Grammar) (p : RowReading) (ws : List (List ℕ)) → ((c s x : ℕ) → c ≤ 4294967295 → s ≤ 4294967295 → x ≤ 4294967295 → p.from ≤ c → c < length p.words → (pack s x ≡ 0 → ⊥) → ws ≡ image_line_words (Cell c s x) → ⊥) → (ws ≡ image_line_words End → ⊥) → (l : ImageLine) → IsImageLineInRange g l → ws ≡ image_line_words l → after_line_at g Body p l ≡ None
no_body g p ws none more (Cell c s x) r e = tests (nat_lt c p.from) (nat_le (length p.words) c) (pack s x == 0) (record p { words = set p.words c (pack s x); from = c + 1 }) (λ one two three.
    let from : p.from ≤ c = grind (arith, nat_tests) in
    let within : c < length p.words = grind (arith, nat_tests) in
    let some : pack s x ≡ 0 → ⊥ = (λ z. grind (arith, nat_tests)) in
    none c s x r.0 r.1 r.2 from within some e)
no_body g p ws none more End r e = absurd (more e)
no_body g p ws none more l r e = refl

-- a line that begins with the name of cells
module _ (g : Grammar) (p : RowReading) (line rest : List ℕ) (at : p.stage ≡ Body) (words : text_words line ≡ codes "cell" ∷ text_words rest) where
  pub cell_kept : is_skipped (text_words line) ≡ false
  cell_kept = ap is_skipped words

  no_end : text_words line ≡ image_line_words End → ⊥
  no_end e = other_kind (codes "cell" ∷ text_words rest) (codes "end" ∷ []) (sym words ∙ e) (λ k. omega (arith, k))

  bad_cell : (bytes : List ℕ) (bad : Bad) (r : Reason) (opening : List (List ℕ)) → ((c s x : ℕ) → c ≤ 4294967295 → s ≤ 4294967295 → x ≤ 4294967295 → p.from ≤ c → c < length p.words → (pack s x ≡ 0 → ⊥) → text_words rest ≡ decimal c ∷ decimal s ∷ decimal x ∷ [] → ⊥) → IsNextWord bytes bad.piece → EndsWith line bytes → text_words line ≡ opening ++ text_words bytes → bad.reason ≡ r → IsTrueOfImage g r p opening (first_word (text_words bytes)) → RefusesImageLine g p line bad
  bad_cell bytes bad r opening none next ends says is holds =
      bad_at g p line bytes bad r opening (refuses g Body p (text_words line) at cell_kept (no_body g p (text_words line) (λ c s x low middle high from within some e. none c s x low middle high from within some (tail _ _ _ _ (sym words ∙ e))) no_end)) next ends says is holds

  pub no_cell : (after : List (List ℕ)) (bad : Bad) (cell cells : ℕ) → EndsWith line rest → next_number 4294967295 (text_words rest) ≡ Some (cell, after) → IsBodyRow g p → cells ≡ length p.words → cells ≤ cell → IsNextWord rest bad.piece → bad.reason ≡ NoCell cell cells → RefusesImageLine g p line bad
  no_cell after bad cell cells ends e row is past next reason =
      bad_cell rest bad (NoCell cell cells) (codes "cell" ∷ []) (λ c s x low middle high from within some k.
      let same = (known 4294967295 (text_words rest) cell c after (decimal s ∷ decimal x ∷ []) (lit≤ tt) e low k).0 in
      omega (arith, same, is, past, within)) next ends words reason
      (refl, (numbered 4294967295 (text_words rest) cell after (lit≤ tt) e).piece, is ∙ (row at).size, past)

  pub cell_passed : (after : List (List ℕ)) (bad : Bad) (cell : ℕ) → EndsWith line rest → next_number 4294967295 (text_words rest) ≡ Some (cell, after) → cell < p.from → IsNextWord rest bad.piece → bad.reason ≡ CellPassed cell → RefusesImageLine g p line bad
  cell_passed after bad cell ends e passed next reason =
      bad_cell rest bad (CellPassed cell) (codes "cell" ∷ []) (λ c s x low middle high from within some k.
      let same = (known 4294967295 (text_words rest) cell c after (decimal s ∷ decimal x ∷ []) (lit≤ tt) e low k).0 in
      omega (arith, same, passed, from)) next ends words reason
      (refl, (numbered 4294967295 (text_words rest) cell after (lit≤ tt) e).piece, passed)

  -- the words after a number of the line
  module _ (cell : ℕ) (after : List ℕ) (first : next_number 4294967295 (text_words rest) ≡ Some (cell, text_words after)) where
    pub words_one : text_words line ≡ codes "cell" ∷ decimal cell ∷ text_words after
    words_one = words ∙ ap (λ (w : List (List ℕ)). codes "cell" ∷ w) (numbered 4294967295 (text_words rest) cell (text_words after) (lit≤ tt) first).words

    module _ (seq : ℕ) (more : List ℕ) (second : next_number 4294967295 (text_words after) ≡ Some (seq, text_words more)) where
      pub words_two : text_words line ≡ codes "cell" ∷ decimal cell ∷ decimal seq ∷ text_words more
      words_two = words_one ∙ ap (λ (w : List (List ℕ)). codes "cell" ∷ decimal cell ∷ w) (numbered 4294967295 (text_words after) seq (text_words more) (lit≤ tt) second).words

      pub words_three : (payload : ℕ) (ends : List (List ℕ)) → next_number 4294967295 (text_words more) ≡ Some (payload, ends) → text_words line ≡ image_line_words (Cell cell seq payload) ++ ends
      words_three payload ends third = words_two ∙ ap (λ (w : List (List ℕ)). codes "cell" ∷ decimal cell ∷ decimal seq ∷ w) (numbered 4294967295 (text_words more) payload ends (lit≤ tt) third).words

      pub empty_cell : (bad : Bad) (payload : ℕ) (ends : List (List ℕ)) → EndsWith line more → next_number 4294967295 (text_words more) ≡ Some (payload, ends) → pack seq payload ≡ 0 → IsNextWord more bad.piece → bad.reason ≡ EmptyCell → RefusesImageLine g p line bad
      empty_cell bad payload ends tail_of third empty next reason =
          let zero = word_zero seq payload empty in
          bad_cell more bad EmptyCell (codes "cell" ∷ decimal cell ∷ decimal 0 ∷ []) (λ c s x low middle high from within some k.
          let one = (known 4294967295 (text_words rest) cell c (text_words after) (decimal s ∷ decimal x ∷ []) (lit≤ tt) first low k).1 in
          let two = known 4294967295 (text_words after) seq s (text_words more) (decimal x ∷ []) (lit≤ tt) second middle one in
          let three = (known 4294967295 (text_words more) payload x ends [] (lit≤ tt) third high two.1).0 in
          some (sym (λ i. pack (two.0 i) (three i)) ∙ empty)) next tail_of
          (words_two ∙ ap (λ (n : ℕ). codes "cell" ∷ decimal cell ∷ decimal n ∷ text_words more) zero.0) reason
          (cell, refl, subst (PieceIsNumber (first_word (text_words more))) zero.1 (numbered 4294967295 (text_words more) payload ends (lit≤ tt) third).piece)

pub cell_taken : (g : Grammar) (p q : RowReading) (ws : List (List ℕ)) (c s x : ℕ) → p.stage ≡ Body → is_skipped ws ≡ false → c ≤ 4294967295 → s ≤ 4294967295 → x ≤ 4294967295 → p.from ≤ c → c < length p.words → (pack s x ≡ 0 → ⊥) → ws ≡ image_line_words (Cell c s x) → q ≡ record p { words = set p.words c (pack s x); from = c + 1 } → ReadsLine (image_language g) (image_reader g) ws p q
cell_taken g p q ws c s x at kept low middle high from within some words is =
    let one : nat_lt c p.from ≡ false = grind (arith, nat_tests) in
    let two : nat_le (length p.words) c ≡ false = grind (arith, nat_tests) in
    let three : (pack s x == 0) ≡ false = eqb_other (pack s x) 0 some in
    takes g Body p q ws (Cell c s x) at kept words (low, middle, high) (rw (one, two, three) (ap (λ (r : RowReading). Some r) (sym is)))
