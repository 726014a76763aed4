-- A text that is cut behind some of its lines, and that an input has one pair of parts.
use Rattle.std.proofs.Common.{◌≡◌, ◌⊎◌, inl, inr, ℕ, ◌-◌, ◌<◌, false, eqb, List, [], ◌∷◌, ◌++◌, length, take, drop, refl, sym, ap, subst, ◌∙◌, append_assoc, arith, length-append}
use Rattle.std.specs.Prelude.{All, flat_map, codes}
use Rattle.std.specs.List.{AllByRecursion as Each, join_with_byte}
use Rattle.std.proofs.lemmas.List.{append-nil, take_all, take_at, drop_at}
use Rattle.std.proofs.lemmas.List.Elements.{All-from_recursion, recursion_from_All}
use Rattle.std.proofs.lemmas.List.Splits.{slice_split_at, join_with_byte-slice_split, length-slice_split}
use Rattle.std.proofs.lemmas.Grind.{flat_map-append}
use Rattle.of_plan.specs.Lines.{text_lines}
use Rattle.of_plan.specs.Parts.{IsEndLine, StopsAtEnd, NeverEnds, AreParts}
use Rattle.of_plan.proofs.Lists.{all-front, all-both}
use Rattle.of_plan.proofs.TextLines.{NoNewline, lines_clean}

-- ---- lines, each with its newline

abbrev pub closed : List (List ℕ) → List ℕ
closed ls = flat_map (λ l. l ++ codes "\n") ls

-- what stands behind a line's newline
tail_bytes : (rest l more : List ℕ) → text_lines rest ≡ l ∷ text_lines more → rest ≡ l ++ (10 ∷ more)
tail_bytes rest l more cut = go (text_lines more) refl
  where
    go : (ms : List (List ℕ)) → text_lines more ≡ ms → rest ≡ l ++ (10 ∷ more)
    go [] e = absurd (omega (arith, ap length e, length-slice_split (λ b. eqb b 10) more))
    go (m ∷ ms) e = sym (join_with_byte-slice_split 10 rest) ∙ ap (join_with_byte 10) (cut ∙ ap (λ (ls : List (List ℕ)). l ∷ ls) e) ∙ ap (λ (bs : List ℕ). l ++ (10 ∷ bs)) (ap (join_with_byte 10) (sym e) ∙ join_with_byte-slice_split 10 more)

closed_more : (front : List (List ℕ)) (l more : List ℕ) → closed front ++ (l ++ (10 ∷ more)) ≡ closed (front ++ l ∷ []) ++ more
closed_more front l more =
    sym (ap (λ (bs : List ℕ). bs ++ more) (flat_map-append (λ k. k ++ codes "\n") front (l ∷ []))
    ∙ append_assoc (closed front) (closed (l ∷ [])) more
    ∙ ap (λ (bs : List ℕ). closed front ++ bs) (ap (λ (bs : List ℕ). bs ++ more) (append-nil (l ++ codes "\n")) ∙ append_assoc l (codes "\n") more))

-- in front of any text
lines_on : (ls : List (List ℕ)) (rest : List ℕ) → Each NoNewline ls → text_lines (closed ls ++ rest) ≡ ls ++ text_lines rest
lines_on [] rest clean = refl
lines_on (l ∷ ls) rest clean =
    ap text_lines (append_assoc (l ++ codes "\n") (closed ls) rest ∙ append_assoc l (codes "\n") (closed ls ++ rest))
    ∙ slice_split_at (λ b. eqb b 10) l 10 (closed ls ++ rest) (All-from_recursion (λ b. eqb b 10 ≡ false) l clean.0) refl
    ∙ ap (λ (ks : List (List ℕ)). l ∷ ks) (lines_on ls rest clean.1)

closed_join : (ls : List (List ℕ)) → join_with_byte 10 (ls ++ [] ∷ []) ≡ closed ls
closed_join [] = refl
closed_join (l ∷ []) = sym (append-nil (l ++ codes "\n"))
closed_join (l ∷ m ∷ ls) = ap (λ (bs : List ℕ). l ++ (10 ∷ bs)) (closed_join (m ∷ ls)) ∙ sym (append_assoc l (codes "\n") (closed (m ∷ ls)))

-- ---- what the code has passed

-- the text is these lines, of which none is an end line, and then the rest
pub record IsBehind (text rest : List ℕ) : Type 0 where
  pub front : List (List ℕ)
  pub bytes : text ≡ closed front ++ rest
  pub clean : Each NoNewline front
  pub none : Each (λ line. IsEndLine line → ⊥) front

first_clean : (rest l : List ℕ) (ls : List (List ℕ)) → text_lines rest ≡ l ∷ ls → NoNewline l
first_clean rest l ls cut = (subst (Each NoNewline) cut (lines_clean rest)).0

bytes_on : (text rest l more : List ℕ) (h : IsBehind text rest) → text_lines rest ≡ l ∷ text_lines more → text ≡ closed (h.front ++ l ∷ []) ++ more
bytes_on text rest l more h cut = h.bytes ∙ ap (λ (bs : List ℕ). closed h.front ++ bs) (tail_bytes rest l more cut) ∙ closed_more h.front l more

clean_on : (text rest l more : List ℕ) (h : IsBehind text rest) → text_lines rest ≡ l ∷ text_lines more → Each NoNewline (h.front ++ l ∷ [])
clean_on text rest l more h cut = all-both NoNewline h.front (l ∷ []) h.clean (first_clean rest l (text_lines more) cut, tt)

pub behind_one_more : (text rest l more : List ℕ) → IsBehind text rest → text_lines rest ≡ l ∷ text_lines more → (IsEndLine l → ⊥) → IsBehind text more
behind_one_more text rest l more h cut other = record {
  front = h.front ++ l ∷ [];
  bytes = bytes_on text rest l more h cut;
  clean = clean_on text rest l more h cut;
  none = all-both (λ line. IsEndLine line → ⊥) h.front (l ∷ []) h.none (other, tt);
}

-- the text is cut behind this end line
pub parts_at : (text rest l more one two : List ℕ) → IsBehind text rest → text_lines rest ≡ l ∷ text_lines more → IsEndLine l → one ≡ take (length text - length more) text → two ≡ drop (length text - length more) text → AreParts text one two
parts_at text rest l more one two h cut ends front_is back_is =
    let front = h.front ++ l ∷ [] in
    let bytes = bytes_on text rest l more h cut in
    let n : length (closed front) ≡ length text - length more = omega (arith, ap length bytes, length-append (closed front) more) in
    let is_front : closed front ≡ one = sym (take_at (closed front) more (length text - length more) n) ∙ sym (ap (take (length text - length more)) bytes) ∙ sym front_is in
    let is_back : more ≡ two = sym (drop_at (closed front) more (length text - length more) n) ∙ sym (ap (drop (length text - length more)) bytes) ∙ sym back_is in
    subst (λ (bs : List ℕ). AreParts text bs two) is_front (subst (AreParts text (closed front)) is_back (record {
      whole = bytes;
      cut = inl (record {
        before = h.front;
        last = l;
        each = ap text_lines (sym (append-nil (closed front))) ∙ lines_on front [] (clean_on text rest l more h cut) ∙ append_assoc h.front (l ∷ []) ([] ∷ []);
        none_before = All-from_recursion (λ line. IsEndLine line → ⊥) h.front h.none;
        end = ends;
      });
    }))

-- the text is not cut
pub one_part : (text rest l one two : List ℕ) → IsBehind text rest → text_lines rest ≡ l ∷ [] → one ≡ take (length text) text → two ≡ drop (length text) text → AreParts text one two
one_part text rest l one two h cut front_is back_is =
    let none : two ≡ [] = back_is ∙ ap (drop (length text)) (sym (append-nil text)) ∙ drop_at text [] (length text) refl in
    record {
      whole = sym (append-nil text) ∙ (λ i. (sym (take_all (length text) text (omega arith)) ∙ sym front_is) i ++ sym none i);
      cut = inr (
        record {
          before = h.front;
          last = l;
          each = ap text_lines h.bytes ∙ lines_on h.front rest h.clean ∙ ap (λ (ls : List (List ℕ)). h.front ++ ls) cut;
          none = All-from_recursion (λ line. IsEndLine line → ⊥) h.front h.none;
        },
        none,
      );
    }

-- ---- there is one pair of parts

first_same : (l m : List ℕ) (ls ms : List (List ℕ)) → l ∷ ls ≡ m ∷ ms → l ≡ m
first_same l m ls ms e = cc

rest_same : (l m : List ℕ) (ls ms : List (List ℕ)) → l ∷ ls ≡ m ∷ ms → ls ≡ ms
rest_same l m ls ms e = cc

same_cut : (xs ys : List (List ℕ)) (l m : List ℕ) (bs ds : List (List ℕ)) → Each (λ line. IsEndLine line → ⊥) xs → Each (λ line. IsEndLine line → ⊥) ys → IsEndLine l → IsEndLine m → xs ++ l ∷ bs ≡ ys ++ m ∷ ds → (xs ++ l ∷ [] ≡ ys ++ m ∷ []) × (bs ≡ ds)
same_cut [] [] l m bs ds none other end last e = (ap (λ (k : List ℕ). k ∷ []) (first_same l m bs ds e), rest_same l m bs ds e)
same_cut [] (y ∷ ys) l m bs ds none other end last e = absurd (other.0 (subst IsEndLine (first_same l y bs (ys ++ m ∷ ds) e) end))
same_cut (x ∷ xs) [] l m bs ds none other end last e = absurd (none.0 (subst IsEndLine (sym (first_same x m (xs ++ l ∷ bs) ds e)) last))
same_cut (x ∷ xs) (y ∷ ys) l m bs ds none other end last e =
    let again = same_cut xs ys l m bs ds none.1 other.1 end last (rest_same x y (xs ++ l ∷ bs) (ys ++ m ∷ ds) e) in
    (λ i. first_same x y (xs ++ l ∷ bs) (ys ++ m ∷ ds) e i ∷ again.0 i, again.1)

no_cut : (xs ys : List (List ℕ)) (l last : List ℕ) (bs : List (List ℕ)) → 0 < length bs → Each (λ line. IsEndLine line → ⊥) ys → IsEndLine l → xs ++ l ∷ bs ≡ ys ++ last ∷ [] → ⊥
no_cut [] [] l last bs some none end e = omega (arith, some, ap length e)
no_cut [] (y ∷ ys) l last bs some none end e = none.0 (subst IsEndLine (first_same l y bs (ys ++ last ∷ []) e) end)
no_cut (x ∷ xs) [] l last bs some none end e = omega (arith, ap length e, length-append xs (l ∷ bs))
no_cut (x ∷ xs) (y ∷ ys) l last bs some none end e = no_cut xs ys l last bs some none.1 end (rest_same x y (xs ++ l ∷ bs) (ys ++ last ∷ []) e)

-- the bytes of a part that stops at an end line
stop_bytes : (one : List ℕ) (h : StopsAtEnd one) → one ≡ closed (h.before ++ h.last ∷ [])
stop_bytes one h =
    sym (join_with_byte-slice_split 10 one) ∙ ap (join_with_byte 10) (h.each ∙ sym (append_assoc h.before (h.last ∷ []) ([] ∷ []))) ∙ closed_join (h.before ++ h.last ∷ [])

-- the lines of a text that begins with such a part
stop_lines : (text one two : List ℕ) (h : StopsAtEnd one) → text ≡ one ++ two → text_lines text ≡ h.before ++ h.last ∷ text_lines two
stop_lines text one two h whole =
    let front = h.before ++ h.last ∷ [] in
    let clean = all-front NoNewline front ([] ∷ []) (subst (Each NoNewline) (h.each ∙ sym (append_assoc h.before (h.last ∷ []) ([] ∷ []))) (lines_clean one)) in
    ap text_lines (whole ∙ ap (λ (bs : List ℕ). bs ++ two) (stop_bytes one h)) ∙ lines_on front two clean ∙ append_assoc h.before (h.last ∷ []) (text_lines two)

some_lines : (text : List ℕ) → 0 < length (text_lines text)
some_lines text = omega (arith, length-slice_split (λ b. eqb b 10) text)

passed : (ls : List (List ℕ)) → All (λ line. IsEndLine line → ⊥) ls → Each (λ line. IsEndLine line → ⊥) ls
passed ls h = recursion_from_All (λ line. IsEndLine line → ⊥) ls h

one_stops : (text one two three four : List ℕ) → StopsAtEnd one → text ≡ one ++ two → text ≡ three ++ four → StopsAtEnd three ⊎ (NeverEnds text × (four ≡ [])) → (one ≡ three) × (two ≡ four)
one_stops text one two three four h whole other (inl k) =
    let both = sym (stop_lines text one two h whole) ∙ stop_lines text three four k other in
    let same = same_cut h.before k.before h.last k.last (text_lines two) (text_lines four) (passed h.before h.none_before) (passed k.before k.none_before) h.end k.end both in
    (stop_bytes one h ∙ ap closed same.0 ∙ sym (stop_bytes three k), sym (join_with_byte-slice_split 10 two) ∙ ap (join_with_byte 10) same.1 ∙ join_with_byte-slice_split 10 four)
one_stops text one two three four h whole other (inr k) =
    absurd (no_cut h.before k.0.before h.last k.0.last (text_lines two) (some_lines two) (passed k.0.before k.0.none) h.end (sym (stop_lines text one two h whole) ∙ k.0.each))

all_first : (text one two : List ℕ) → text ≡ one ++ two → two ≡ [] → text ≡ one
all_first text one two whole none = whole ∙ ap (λ (bs : List ℕ). one ++ bs) none ∙ append-nil one

pub one_cut : (text one two three four : List ℕ) → AreParts text one two → AreParts text three four → (one ≡ three) × (two ≡ four)
one_cut text one two three four a b = go a.cut b.cut
  where
    go : StopsAtEnd one ⊎ (NeverEnds text × (two ≡ [])) → StopsAtEnd three ⊎ (NeverEnds text × (four ≡ [])) → (one ≡ three) × (two ≡ four)
    go (inl h) other = one_stops text one two three four h a.whole b.whole other
    go (inr h) (inl k) = let same = one_stops text three four one two k b.whole a.whole (inr h) in (sym same.0, sym same.1)
    go (inr h) (inr k) = (sym (all_first text one two a.whole h.1) ∙ all_first text three four b.whole k.1, h.1 ∙ sym k.1)
