-- The lines of a row lead to that row, and lines that lead to an end are those of a row.
use Rattle.std.proofs.Common.{◌≡◌, inl, inr, ℕ, zero, suc, ◌+◌, ◌*◌, ◌^◌, ◌<◌, ◌≤◌, Bool, true, false, cond, eqb, List, [], ◌∷◌, ◌++◌, length, get_or, set, replicate, Option, Some, None, refl, sym, ap, subst, ◌∙◌, append_assoc, arith, length-set, get_or-set_other, lit≤}
use Rattle.std.specs.Prelude.{nat_lt, nat_le, ◌==◌}
use Rattle.std.specs.List.{AllByRecursion}
use Rattle.std.proofs.lemmas.Bool.{eqb-true}
use Rattle.std.proofs.lemmas.Bool.Decides.{eqb_tells, nat_tests}
use Rattle.std.proofs.lemmas.List.{append-nil, length-replicate, length-append}
use Rattle.std.proofs.lemmas.Bool.{ne_eqb as eqb_other}
use Rattle.of_cell.specs.Words.{pack, seq_of, payload_of}
use Rattle.of_cell.specs.Cells.{durable_cells}
use Rattle.of_cell.proofs.Order.{word_eta, seq_word, pay_word, pay_small, seq_small}
use Rattle.of_script.proofs.Instrs.{bind_some, chosen, some_is}
use Rattle.of_plan.proofs.Lists.{all-both}
use Rattle.of_image.specs.declared.grammar.Grammar.{Grammar}
use Rattle.of_image.specs.declared.version.Version.{Version}
use Rattle.of_image.specs.declared.version.Version.TheVariants.{One, Two}
use Rattle.of_image.specs.declared.line.ImageLine.{ImageLine}
use Rattle.of_image.specs.declared.line.ImageLine.TheVariants.{Title, Callers, Blocks, Cell, End}
use Rattle.of_image.specs.declared.reading.Stage.{Stage}
use Rattle.of_image.specs.declared.reading.Stage.TheVariants.{Start, Named, Counted, Body, Ended}
use Rattle.of_report.specs.ImageRow.{DurableRow, data_cell_count_for}
use Rattle.of_image.specs.Grammar.{most_callers, most_blocks, IsRowIn}
use Rattle.of_image.specs.Version.{version_number, instrs_of}
use Rattle.of_image.specs.ImageText.{cell_line, cell_lines, image_lines}
use Rattle.of_image.specs.ImageReading.{IsImageLineInRange, RowReading, row_read, no_row_read, with_cell, after_line_at, image_language, image_reader}
use Rattle.of_plan.specs.Reader.{after_lines}
use Rattle.of_image.proofs.Bounds.{few_callers, few_blocks, few_cells}

-- ---- the lines of cells

abbrev Words : List ℕ → Type 0
Words ws = (c : ℕ) → get_or ws c 0 < 2 ^ 64

zeros_lines : (c n : ℕ) → cell_lines c (replicate n 0) ≡ []
zeros_lines c zero = refl
zeros_lines c (suc n) = zeros_lines (c + 1) n

-- where all words are 0 there are none
none_lines : (c : ℕ) (ws : List ℕ) → ((k : ℕ) → get_or ws k 0 ≡ 0) → cell_lines c ws ≡ []
none_lines c [] h = refl
none_lines c (w ∷ ws) h = let first : w ≡ 0 = h 0 in rw first (none_lines (c + 1) ws (λ k. h (suc k)))

-- a word of a cell from which on all are 0 has the last line
set_lines : (c : ℕ) (ws : List ℕ) (i w : ℕ) → i < length ws → ((k : ℕ) → i ≤ k → get_or ws k 0 ≡ 0) → (w ≡ 0 → ⊥) → cell_lines c (set ws i w) ≡ cell_lines c ws ++ Cell (c + i) (seq_of w) (payload_of w) ∷ []
set_lines c [] i w lt h some = absurd (omega arith)
set_lines c (x ∷ xs) zero w lt h some =
    let first : x ≡ 0 = h 0 (omega arith) in
    let rest : cell_lines (c + 1) xs ≡ [] = none_lines (c + 1) xs (λ k. h (suc k) (omega arith)) in
    let is : eqb w 0 ≡ false = eqb_other w 0 some in
    let here : c ≡ c + 0 = omega arith in
    rw (is, first, rest) (ap (λ (n : ℕ). Cell n (seq_of w) (payload_of w) ∷ []) here)
set_lines c (x ∷ xs) (suc i) w lt h some =
    let later = set_lines (c + 1) xs i w (omega arith) (λ k le. h (suc k) (omega arith)) some in
    let here : c + 1 + i ≡ c + suc i = omega arith in
    ap (λ (ls : List ImageLine). cell_line c x ++ ls) (later ∙ ap (λ (n : ℕ). cell_lines (c + 1) xs ++ Cell n (seq_of w) (payload_of w) ∷ []) here)
    ∙ sym (append_assoc (cell_line c x) (cell_lines (c + 1) xs) (Cell (c + suc i) (seq_of w) (payload_of w) ∷ []))

-- ---- where a reading stands

-- the lines that lead there
abbrev pub lines_at : Grammar → Stage → RowReading → List ImageLine
lines_at g Start p = []
lines_at g Named p = Title (version_number g.version) ∷ []
lines_at g Counted p = Title (version_number g.version) ∷ Callers p.callers ∷ []
lines_at g Body p = Title (version_number g.version) ∷ Callers p.callers ∷ Blocks p.blocks ∷ cell_lines 0 p.words
lines_at g Ended p = image_lines g.version (row_read p)

-- a row whose words are 0 from some cell on
pub record IsBegun (g : Grammar) (p : RowReading) : Type 0 where
  pub row : IsRowIn g (row_read p)
  pub zeros : (c : ℕ) → p.from ≤ c → get_or p.words c 0 ≡ 0

abbrev pub Fits : Grammar → Stage → RowReading → Type 0
Fits g Start p = Unit {0}
Fits g Named p = Unit {0}
Fits g Counted p = (1 ≤ p.callers) × (p.callers ≤ most_callers g.limits)
Fits g Body p = IsBegun g p
Fits g Ended p = IsRowIn g (row_read p)

-- a line has led from p to q
record Stepped (g : Grammar) (stage : Stage) (p : RowReading) (l : ImageLine) (q : RowReading) : Type 0 where
  pub fits : Fits g q.stage q
  pub lines : lines_at g q.stage q ≡ lines_at g stage p ++ l ∷ []

zeros_are : (z n c : ℕ) → get_or (replicate n z) c z ≡ z
zeros_are z zero c = refl
zeros_are z (suc n) zero = refl
zeros_are z (suc n) (suc c) = zeros_are z n c

zeros_words : (n : ℕ) → Words (replicate n 0)
zeros_words n c = omega (arith, zeros_are 0 n c)

set_words : (ws : List ℕ) (i w : ℕ) → w < 2 ^ 64 → Words ws → Words (set ws i w)
set_words [] i w lt h c = h c
set_words (x ∷ xs) zero w lt h zero = lt
set_words (x ∷ xs) zero w lt h (suc c) = h (suc c)
set_words (x ∷ xs) (suc i) w lt h zero = h zero
set_words (x ∷ xs) (suc i) w lt h (suc c) = set_words xs i w lt (λ k. h (suc k)) c

word_fits : (s p : ℕ) → s ≤ 4294967295 → p ≤ 4294967295 → pack s p < 2 ^ 64
unfolding pack
word_fits s p h k = omega arith

-- where a test refuses, nothing is taken
passed : (b : Bool) (o : Option RowReading) (q : RowReading) → cond b None o ≡ Some q → (b ≡ false) × (o ≡ Some q)
passed true o q e = absurd cc
passed false o q e = (refl, e)

begun : (g : Grammar) (p : RowReading) (b : ℕ) → (1 ≤ p.callers) × (p.callers ≤ most_callers g.limits) → b ≤ most_blocks g.limits → IsBegun g (record p { stage = Body; blocks = b; words = replicate (durable_cells p.callers (data_cell_count_for (instrs_of g.version) p.callers b)) 0 })
begun g p b f r = record {
  row = record { some_callers = f.0; few_callers = f.1; few_blocks = r; size = length-replicate {A = ℕ} _ 0; words = zeros_words _ };
  zeros = λ c le. zeros_are 0 _ c;
}

celled_step : (g : Grammar) (p q : RowReading) (c s x : ℕ) → IsBegun g p → p.stage ≡ Body → (c ≤ 4294967295) × (s ≤ 4294967295) × (x ≤ 4294967295) → with_cell p c s x ≡ Some q → Stepped g Body p (Cell c s x) q
celled_step g p q c s x f body r e =
    let one = passed (nat_lt c p.from) _ q e in
    let two = passed (nat_le (length p.words) c) _ q one.1 in
    let three = passed (pack s x == 0) _ q two.1 in
    let from : p.from ≤ c = (let h = one.0 in grind (arith, nat_tests)) in
    let within : c < length p.words = (let h = two.0 in grind (arith, nat_tests)) in
    let some : pack s x ≡ 0 → ⊥ = (λ z. let h = three.0 in grind (arith, nat_tests)) in
    subst (Stepped g Body p (Cell c s x)) (some_is _ q three.1) (record {
      fits = subst (λ (t : Stage). Fits g t (record p { words = set p.words c (pack s x); from = c + 1 })) (sym body) (record {
        row = record { some_callers = f.row.some_callers; few_callers = f.row.few_callers; few_blocks = f.row.few_blocks; size = length-set p.words c (pack s x) ∙ f.row.size; words = set_words p.words c (pack s x) (word_fits s x r.1 r.2) f.row.words };
        zeros = λ k le. get_or-set_other p.words c k (pack s x) 0 (λ z. omega (arith, z, le)) ∙ f.zeros k (omega (arith, from, le));
      });
      lines = subst (λ (t : Stage). lines_at g t (record p { words = set p.words c (pack s x); from = c + 1 }) ≡ lines_at g Body p ++ Cell c s x ∷ []) (sym body)
          (ap (λ (ls : List ImageLine). Title (version_number g.version) ∷ Callers p.callers ∷ Blocks p.blocks ∷ ls) (set_lines 0 p.words c (pack s x) within (λ k le. f.zeros k (omega (arith, from, le))) some
          ∙ (λ i. cell_lines 0 p.words ++ Cell (let here : 0 + c ≡ c = omega arith in here i) (seq_word s x (omega (arith, r.2)) i) (pay_word s x (omega (arith, r.2)) i) ∷ [])));
    })

step : (g : Grammar) (stage : Stage) (p q : RowReading) (l : ImageLine) → p.stage ≡ stage → Fits g stage p → IsImageLineInRange g l → after_line_at g stage p l ≡ Some q → Stepped g stage p l q
step g Start p q (Title x) is f r e = elim (chosen (x == version_number g.version) (Some (record p { stage = Named })) None (Some q) e) [
  | inl h ↦ subst (Stepped g Start p (Title x)) (some_is _ q h.1) (record { fits = tt; lines = ap (λ (n : ℕ). Title n ∷ []) (sym (eqb-true x (version_number g.version) h.0)) })
  | inr h ↦ absurd (let k = h.1 in cc)
]
step g Named p q (Callers n) is f r e =
    let t = passed (n == 0) (Some (record p { stage = Counted; callers = n })) q e in
    let some : 1 ≤ n = (let h = t.0 in grind (arith, nat_tests)) in
    subst (Stepped g Named p (Callers n)) (some_is _ q t.1) (record { fits = (some, r); lines = refl })
step g Counted p q (Blocks b) is f r e = subst (Stepped g Counted p (Blocks b)) (some_is _ q e) (record {
  fits = begun g p b f r;
  lines = ap (λ (ls : List ImageLine). Title (version_number g.version) ∷ Callers p.callers ∷ Blocks b ∷ ls) (zeros_lines 0 (durable_cells p.callers (data_cell_count_for (instrs_of g.version) p.callers b)));
})
step g Body p q (Cell c s x) is f r e = celled_step g p q c s x f is r e
step g Body p q End is f r e = subst (Stepped g Body p End) (some_is _ q e) (record { fits = f.row; lines = refl })
step g stage p q l is f r e = absurd cc

-- lines that have led to some place are those of that place
pub record Said (g : Grammar) (p : RowReading) (ls : List ImageLine) (last : RowReading) : Type 0 where
  pub fits : Fits g last.stage last
  pub lines : lines_at g last.stage last ≡ lines_at g p.stage p ++ ls

pub said : (g : Grammar) (p last : RowReading) (ls : List ImageLine) → Fits g p.stage p → AllByRecursion (IsImageLineInRange g) ls → after_lines (image_language g) (image_reader g) p ls ≡ Some last → Said g p ls last
said g p last [] f r e = subst (Said g p []) (some_is p last e) (record { fits = f; lines = sym (append-nil _) })
said g p last (l ∷ ls) f r e =
    let q = bind_some (after_line_at g p.stage p l) (λ q. after_lines (image_language g) (image_reader g) q ls) last e in
    let one = step g p.stage p q.0 l refl f r.0 q.1 in
    let rest = said g q.0 last ls one.fits r.1 q.2 in
    record { fits = rest.fits; lines = rest.lines ∙ ap (λ (ks : List ImageLine). ks ++ ls) one.lines ∙ append_assoc (lines_at g p.stage p) (l ∷ []) ls }

-- ---- a row's lines

abbrev body : (callers blocks : ℕ) → List ℕ → ℕ → RowReading
body c b ws f = record { stage = Body; callers = c; blocks = b; words = ws; from = f }

abbrev ended : (callers blocks : ℕ) → List ℕ → ℕ → RowReading
ended c b ws f = record { stage = Ended; callers = c; blocks = b; words = ws; from = f }

set_at : (front : List ℕ) (x w : ℕ) (back : List ℕ) (k : ℕ) → length front ≡ k → set (front ++ x ∷ back) k w ≡ front ++ w ∷ back
set_at [] x w back k e = let z : k ≡ 0 = sym e in rw z refl
set_at (y ∷ front) x w back zero e = absurd (omega (arith, e))
set_at (y ∷ front) x w back (suc k) e = ap (λ (l : List ℕ). y ∷ l) (set_at front x w back k (omega (arith, e)))

-- the lines of the cells from here on, and what they lead to
record Led (g : Grammar) (c b : ℕ) (p : RowReading) (ls : List ImageLine) (ws : List ℕ) : Type 0 where
  pub from : ℕ
  pub leads : after_lines (image_language g) (image_reader g) p ls ≡ Some (ended c b ws from)

cells_lead : (g : Grammar) (c b : ℕ) (front ws : List ℕ) (k f : ℕ) → length front ≡ k → f ≤ k → Led g c b (body c b (front ++ replicate (length ws) 0) f) (cell_lines k ws ++ End ∷ []) (front ++ ws)
cells_lead g c b front [] k f e le = record { from = f; leads = refl }
cells_lead g c b front (w ∷ ws) k f e le = elim (eqb_tells w 0) [
  | inl p ↦ (let h = cells_lead g c b (front ++ 0 ∷ []) ws (k + 1) f (length-append front (0 ∷ []) ∙ ap (λ (n : ℕ). n + 1) e) (omega arith) in
      let is = p.1 in
      record {
        from = h.from;
        leads = rw (is) (ap (λ (l : List ℕ). after_lines (image_language g) (image_reader g) (body c b l f) (cell_lines (k + 1) ws ++ End ∷ [])) (sym (append_assoc front (0 ∷ []) (replicate (length ws) 0))) ∙ h.leads ∙ ap (λ (l : List ℕ). Some (ended c b l h.from)) (append_assoc front (0 ∷ []) ws));
      })
  | inr p ↦ (let h = cells_lead g c b (front ++ w ∷ []) ws (k + 1) (k + 1) (length-append front (w ∷ []) ∙ ap (λ (n : ℕ). n + 1) e) (omega arith) in
      let one : nat_lt k f ≡ false = grind (arith, nat_tests) in
      let two : nat_le (length (front ++ replicate (suc (length ws)) 0)) k ≡ false = (let n = length-append front (replicate (suc (length ws)) 0) in let m = length-replicate {A = ℕ} (suc (length ws)) 0 in grind (arith, nat_tests)) in
      let is : pack (seq_of w) (payload_of w) ≡ w = word_eta w in
      let some : eqb w 0 ≡ false = p.0 in
      record {
        from = h.from;
        leads = rw (some, one, two, is, some) (ap (λ (l : List ℕ). after_lines (image_language g) (image_reader g) (body c b l (k + 1)) (cell_lines (k + 1) ws ++ End ∷ [])) (set_at front 0 w (replicate (length ws) 0) k e ∙ sym (append_assoc front (w ∷ []) (replicate (length ws) 0))) ∙ h.leads ∙ ap (λ (l : List ℕ). Some (ended c b l h.from)) (append_assoc front (w ∷ []) ws));
      })
]

pub record LeadsTo (g : Grammar) (r : DurableRow) : Type 0 where
  pub from : ℕ
  pub leads : after_lines (image_language g) (image_reader g) no_row_read (image_lines g.version r) ≡ Some (ended r.callers r.blocks r.words from)

pub row_leads : (g : Grammar) (r : DurableRow) → IsRowIn g r → LeadsTo g r
row_leads g r h =
    let cells = cells_lead g r.callers r.blocks [] r.words 0 0 refl (omega arith) in
    let some : eqb r.callers 0 ≡ false = (let k = h.some_callers in grind (arith, nat_tests)) in
    let own : eqb (version_number g.version) (version_number g.version) ≡ true = elim (eqb_tells (version_number g.version) (version_number g.version)) [ inl p ↦ p.0 | inr p ↦ absurd (p.1 refl) ] in
    record {
      from = cells.from;
      leads = rw (own, some) (ap (λ (n : ℕ). after_lines (image_language g) (image_reader g) (body r.callers r.blocks (replicate n 0) 0) (cell_lines 0 r.words ++ End ∷ [])) (sym h.size) ∙ cells.leads);
    }

-- ---- the ranges of a row's lines

pub row_short : (g : Grammar) (r : DurableRow) → IsRowIn g r → length r.words ≤ 136839297
row_short g r h = omega (arith, h.size, few_cells g.version r.callers r.blocks (omega (arith, h.few_callers, few_callers g.limits)) (omega (arith, h.few_blocks, few_blocks g.limits)))

line_in_range : (g : Grammar) (c w : ℕ) → c ≤ 4294967295 → w < 2 ^ 64 → AllByRecursion (IsImageLineInRange g) (cell_line c w)
line_in_range g c w low h = go (eqb w 0)
  where
    go : (b : Bool) → AllByRecursion (IsImageLineInRange g) (cond b [] (Cell c (seq_of w) (payload_of w) ∷ []))
    go true = tt
    go false = ((low, omega (arith, seq_small w (omega arith)), omega (arith, pay_small w)), tt)

lines_in_range : (g : Grammar) (c : ℕ) (ws : List ℕ) → c + length ws ≤ 136839297 → Words ws → AllByRecursion (IsImageLineInRange g) (cell_lines c ws)
lines_in_range g c [] le h = tt
lines_in_range g c (w ∷ ws) le h = all-both (IsImageLineInRange g) (cell_line c w) (cell_lines (c + 1) ws) (line_in_range g c w (omega arith) (h 0)) (lines_in_range g (c + 1) ws (omega arith) (λ k. h (suc k)))

number_small : (v : Version) → version_number v ≤ 4294967295
number_small One = lit≤ tt
number_small Two = lit≤ tt

pub image_in_range : (g : Grammar) (r : DurableRow) → IsRowIn g r → AllByRecursion (IsImageLineInRange g) (image_lines g.version r)
image_in_range g r h = (number_small g.version, (h.few_callers, (h.few_blocks, all-both (IsImageLineInRange g) (cell_lines 0 r.words) (End ∷ []) (lines_in_range g 0 r.words (omega (arith, row_short g r h)) h.words) (tt, tt))))
