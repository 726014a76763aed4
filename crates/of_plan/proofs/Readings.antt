-- A text that is read line by line, by any reader: where the reading stands, and the first line with which no text of the reader begins.
use Rattle.std.proofs.Common.{◌≡◌, inl, inr, ℕ, ◌+◌, ◌≤◌, true, false, List, [], ◌∷◌, ◌++◌, length, take, drop, map, Option, Some, None, refl, sym, ap, subst, ◌∙◌, append_assoc, arith}
use Rattle.std.specs.List.{AllByRecursion, join_with_byte}
use Rattle.std.proofs.lemmas.List.{append-nil, length-append, map-append, take-append-drop, take-append-le, take_at}
use Rattle.of_script.specs.Text.{text_words}
use Rattle.of_script.specs.Reading.{◌>>=◌}
use Rattle.of_script.proofs.Instrs.{some_is}
use Rattle.of_plan.specs.Lines.{text_lines, unskipped_words, is_skipped}
use Rattle.of_plan.proofs.Lists.{all-front, all-both}
use Rattle.of_plan.proofs.TextLines.{NoNewline, lines_clean, lines_join_all, kept-append, kept-cons, kept-skipped}
use Rattle.of_plan.specs.BadLine.{BeginsSomeText, HasBadLine}
use Rattle.of_plan.specs.Reader.{Language, Reader, after_lines, SpellsLine, ReadsLine, RefusesLine}

-- ---- readers

-- a text that is read to an end
pub record Reads (L : Language) (R : Reader L) (start : R.Progress) (IsEnd : R.Progress → Type 0) (text : List ℕ) : Type 0 where
  pub said : List L.Line
  pub range : AllByRecursion L.InRange said
  pub each : unskipped_words (text_lines text) ≡ map L.words_of said
  pub last : R.Progress
  pub leads : after_lines L R start said ≡ Some last
  pub ended : IsEnd last

-- lines that bring a reading to an end
pub record Completed (L : Language) (R : Reader L) (IsEnd : R.Progress → Type 0) (p : R.Progress) : Type 0 where
  pub last : R.Progress
  pub first : List ℕ
  pub others : List (List ℕ)
  pub clean : AllByRecursion NoNewline (first ∷ others)
  pub more : List L.Line
  pub range : AllByRecursion L.InRange more
  pub says : unskipped_words (first ∷ others) ≡ map L.words_of more
  pub leads : after_lines L R p more ≡ Some last
  pub ended : IsEnd last

-- what is asked of a reader: no two lines have the same words, and each reading can be brought to an end
pub record IsReader (L : Language) (R : Reader L) (IsEnd : R.Progress → Type 0) : Type 0 where
  pub same : (l m : L.Line) → L.InRange l → L.InRange m → L.words_of l ≡ L.words_of m → l ≡ m
  pub completed : (p : R.Progress) → Completed L R IsEnd p

-- where a reading stands: these lines are left
pub record IsReading (L : Language) (R : Reader L) (start : R.Progress) (text : List ℕ) (left : List (List ℕ)) (number : ℕ) (p : R.Progress) : Type 0 where
  pub done : List (List ℕ)
  pub said : List L.Line
  pub parts : text_lines text ≡ done ++ left
  pub count : length done ≡ number
  pub range : AllByRecursion L.InRange said
  pub says : unskipped_words done ≡ map L.words_of said
  pub leads : after_lines L R start said ≡ Some p

-- the lines that are spelled by words of which the first are those of ys
record Front (L : Language) (xs ys : List L.Line) (more : List (List (List ℕ))) : Type 0 where
  pub rest : List L.Line
  pub lines : xs ≡ ys ++ rest
  pub words : map L.words_of rest ≡ more
  pub range : AllByRecursion L.InRange rest

-- no lines go on with these words
abbrev CannotFollow : (L : Language) (R : Reader L) → R.Progress → List (List ℕ) → Type 0
CannotFollow L R p ws = (l : L.Line) (others : List L.Line) (last : R.Progress) → L.InRange l → L.words_of l ≡ ws → after_lines L R p (l ∷ others) ≡ Some last → ⊥

heads : {A : Type 0} (x y : A) (xs ys : List A) → x ∷ xs ≡ y ∷ ys → (x ≡ y) × (xs ≡ ys)
heads x y xs ys e = (cc, cc)

-- ---- lines one after another

module _ (L : Language) (R : Reader L) where
  bind-bind : (o : Option R.Progress) (f g : R.Progress → Option R.Progress) (h : R.Progress → Option R.Progress) → ((q : R.Progress) → h q ≡ (f q >>= g)) → (o >>= h) ≡ ((o >>= f) >>= g)
  bind-bind None f g h e = refl
  bind-bind (Some q) f g h e = e q

  follow-append : (p : R.Progress) (xs ys : List L.Line) → after_lines L R p (xs ++ ys) ≡ (after_lines L R p xs >>= λ q. after_lines L R q ys)
  follow-append p [] ys = refl
  follow-append p (x ∷ xs) ys = bind-bind (R.next p x) (λ q. after_lines L R q xs) (λ q. after_lines L R q ys) (λ q. after_lines L R q (xs ++ ys)) (λ q. follow-append q xs ys)

  pub follow_on : (p q : R.Progress) (xs ys : List L.Line) → after_lines L R p xs ≡ Some q → after_lines L R p (xs ++ ys) ≡ after_lines L R q ys
  follow_on p q xs ys e = follow-append p xs ys ∙ ap (λ (o : Option R.Progress). o >>= λ r. after_lines L R r ys) e

-- ---- a reader's readings

module _ (L : Language) (R : Reader L) (start : R.Progress) (IsEnd : R.Progress → Type 0) (fit : IsReader L R IsEnd) where
  pub same_lines : (ls ms : List L.Line) → AllByRecursion L.InRange ls → AllByRecursion L.InRange ms → map L.words_of ls ≡ map L.words_of ms → ls ≡ ms
  same_lines [] [] p q e = refl
  same_lines [] (m ∷ ms) p q e = absurd cc
  same_lines (l ∷ ls) [] p q e = absurd cc
  same_lines (l ∷ ls) (m ∷ ms) p q e =
      let parts = heads (L.words_of l) (L.words_of m) (map L.words_of ls) (map L.words_of ms) e in
      let first : l ≡ m = fit.same l m p.0 q.0 parts.0 in
      let others : ls ≡ ms = same_lines ls ms p.1 q.1 parts.1 in
      ap (λ (k : L.Line). k ∷ ls) first ∙ ap (λ (ks : List L.Line). m ∷ ks) others

  -- a text is read to one end
  pub one_last : (text : List ℕ) (r s : Reads L R start IsEnd text) → r.last ≡ s.last
  one_last text r s =
      let said : r.said ≡ s.said = same_lines r.said s.said r.range s.range (sym r.each ∙ s.each) in
      some_is r.last s.last (sym r.leads ∙ ap (after_lines L R start) said ∙ s.leads)

  begins : (text : List ℕ) (rest : List (List ℕ)) (number : ℕ) (p : R.Progress) → IsReading L R start text rest number p → (k : ℕ) → k ≤ number → BeginsSomeText (Reads L R start IsEnd) text k
  begins text rest number p r k le =
      let c = fit.completed p in
      let all = lines_join_all r.done c.first c.others (all-both NoNewline r.done (c.first ∷ c.others) (all-front NoNewline r.done rest (subst (AllByRecursion NoNewline) r.parts (lines_clean text))) c.clean) in
      record {
        other = join_with_byte 10 (r.done ++ c.first ∷ c.others);
        is = record {
          said = r.said ++ c.more;
          range = all-both L.InRange r.said c.more r.range c.range;
          each = ap unskipped_words all ∙ kept-append r.done (c.first ∷ c.others) ∙ ap (λ (x : List (List (List ℕ))). x ++ unskipped_words (c.first ∷ c.others)) r.says ∙ ap (λ (x : List (List (List ℕ))). map L.words_of r.said ++ x) c.says ∙ sym (map-append L.words_of r.said c.more);
          last = c.last;
          leads = follow_on L R start p r.said c.more r.leads ∙ c.leads;
          ended = c.ended;
        };
        same = ap (take k) r.parts ∙ take-append-le k r.done rest (omega (arith, r.count)) ∙ sym (take-append-le k r.done (c.first ∷ c.others) (omega (arith, r.count))) ∙ ap (take k) (sym all);
      }

  -- ---- a line that no text has there

  front_of : (xs ys : List L.Line) (more : List (List (List ℕ))) → AllByRecursion L.InRange xs → AllByRecursion L.InRange ys → map L.words_of xs ≡ map L.words_of ys ++ more → Front L xs ys more
  front_of xs [] more p q e = record { rest = xs; lines = refl; words = e; range = p }
  front_of [] (y ∷ ys) more p q e = absurd cc
  front_of (x ∷ xs) (y ∷ ys) more p q e =
      let parts = heads (L.words_of x) (L.words_of y) (map L.words_of xs) (map L.words_of ys ++ more) e in
      let h = front_of xs ys more p.1 q.1 parts.1 in
      let first : x ≡ y = fit.same x y p.0 q.0 parts.0 in
      record { rest = h.rest; lines = ap (λ (l : L.Line). l ∷ xs) first ∙ ap (λ (ls : List L.Line). y ∷ ls) h.lines; words = h.words; range = h.range }

  refused_cannot : (p : R.Progress) (ws : List (List ℕ)) → RefusesLine L R ws p → CannotFollow L R p ws
  refused_cannot p ws h l others last range e f =
      let none = h.none l range (sym e) in
      let stuck : after_lines L R p (l ∷ others) ≡ None = ap (λ (o : Option R.Progress). o >>= λ q. after_lines L R q others) none in
      (let k = sym f ∙ stuck in cc)

  refuted : (p : R.Progress) (ws : List (List ℕ)) (said all : List L.Line) (more : List (List (List ℕ))) (last : R.Progress) → CannotFollow L R p ws → after_lines L R start said ≡ Some p → AllByRecursion L.InRange said → AllByRecursion L.InRange all → after_lines L R start all ≡ Some last → map L.words_of all ≡ map L.words_of said ++ ws ∷ more → ⊥
  refuted p ws said all more last cannot leads range range' leads' e = go (front_of all said (ws ∷ more) range' range e)
    where
      go : Front L all said (ws ∷ more) → ⊥
      go f = step f.rest f.lines f.words f.range
        where
          step : (rest : List L.Line) → all ≡ said ++ rest → map L.words_of rest ≡ ws ∷ more → AllByRecursion L.InRange rest → ⊥
          step [] l w r = absurd cc
          step (m ∷ others) l w r = cannot m others last r.0 (heads (L.words_of m) ws (map L.words_of others) more w).0 (sym (follow_on L R start p said (m ∷ others) leads) ∙ ap (after_lines L R start) (sym l) ∙ leads')

  cannot_begin : (text : List ℕ) (rest : List (List ℕ)) (number : ℕ) (p : R.Progress) (l : List ℕ) (others : List (List ℕ)) → IsReading L R start text rest number p → rest ≡ l ∷ others → is_skipped (text_words l) ≡ false → CannotFollow L R p (text_words l) → BeginsSomeText (Reads L R start IsEnd) text (number + 1) → ⊥
  cannot_begin text rest number p l others r e kept_is cannot w =
      let parts : text_lines text ≡ (r.done ++ l ∷ []) ++ others = r.parts ∙ ap (λ (x : List (List ℕ)). r.done ++ x) e ∙ sym (append_assoc r.done (l ∷ []) others) in
      let len : length (r.done ++ l ∷ []) ≡ number + 1 = length-append r.done (l ∷ []) ∙ ap (λ (n : ℕ). n + 1) r.count in
      let front : take (number + 1) (text_lines w.other) ≡ r.done ++ l ∷ [] = sym w.same ∙ ap (take (number + 1)) parts ∙ take_at (r.done ++ l ∷ []) others (number + 1) len in
      let back = drop (number + 1) (text_lines w.other) in
      let whole : text_lines w.other ≡ r.done ++ l ∷ back = sym (take-append-drop (number + 1) (text_lines w.other)) ∙ ap (λ (x : List (List ℕ)). x ++ back) front ∙ append_assoc r.done (l ∷ []) back in
      refuted p (text_words l) r.said w.is.said (unskipped_words back) w.is.last cannot r.leads r.range w.is.range w.is.leads
      (sym w.is.each ∙ ap unskipped_words whole ∙ kept-append r.done (l ∷ back) ∙ ap (λ (x : List (List (List ℕ))). x ++ unskipped_words (l ∷ back)) r.says ∙ ap (λ (x : List (List (List ℕ))). map L.words_of r.said ++ x) (kept-cons l back kept_is))

  bad_line : (text : List ℕ) (rest : List (List ℕ)) (number : ℕ) (p : R.Progress) (l : List ℕ) (others : List (List ℕ)) → IsReading L R start text rest number p → rest ≡ l ∷ others → is_skipped (text_words l) ≡ false → CannotFollow L R p (text_words l) → HasBadLine (Reads L R start IsEnd) text (number + 1)
  bad_line text rest number p l others r e kept_is cannot =
      let no = cannot_begin text rest number p l others r e kept_is cannot in
      record {
        bad = record {
          first = omega arith;
          last = omega (arith, ap length r.parts, ap length e, length-append r.done rest, r.count);
          before = λ k lt. begins text rest number p r k (omega arith);
          there = inl no;
        };
        none = λ is. no (record { other = text; is = is; same = refl });
      }

  -- ---- one line more

  read_line : (text : List ℕ) (rest : List (List ℕ)) (number : ℕ) (p q : R.Progress) (l : List ℕ) (after : List (List ℕ)) (line : L.Line) → IsReading L R start text rest number p → rest ≡ l ∷ after → SpellsLine L (text_words l) line → R.next p line ≡ Some q → IsReading L R start text after (number + 1) q
  read_line text rest number p q l after line r e s n = record {
    done = r.done ++ l ∷ [];
    said = r.said ++ line ∷ [];
    parts = r.parts ∙ ap (λ (x : List (List ℕ)). r.done ++ x) e ∙ sym (append_assoc r.done (l ∷ []) after);
    count = length-append r.done (l ∷ []) ∙ ap (λ (m : ℕ). m + 1) r.count;
    range = all-both L.InRange r.said (line ∷ []) r.range (s.range, tt);
    says = kept-append r.done (l ∷ []) ∙ ap (λ (x : List (List (List ℕ))). x ++ unskipped_words (l ∷ [])) r.says ∙ ap (λ (x : List (List (List ℕ))). map L.words_of r.said ++ x) (kept-cons l [] s.kept ∙ ap (λ (w : List (List ℕ)). w ∷ []) s.words) ∙ sym (map-append L.words_of r.said (line ∷ []));
    leads = follow_on L R start p r.said (line ∷ []) r.leads ∙ ap (λ (o : Option R.Progress). o >>= λ x. Some x) n;
  }

  read_skipped : (text : List ℕ) (rest : List (List ℕ)) (number : ℕ) (p : R.Progress) (l : List ℕ) (after : List (List ℕ)) → IsReading L R start text rest number p → rest ≡ l ∷ after → is_skipped (text_words l) ≡ true → IsReading L R start text after (number + 1) p
  read_skipped text rest number p l after r e h = record {
    done = r.done ++ l ∷ [];
    said = r.said;
    parts = r.parts ∙ ap (λ (x : List (List ℕ)). r.done ++ x) e ∙ sym (append_assoc r.done (l ∷ []) after);
    count = length-append r.done (l ∷ []) ∙ ap (λ (m : ℕ). m + 1) r.count;
    range = r.range;
    says = kept-append r.done (l ∷ []) ∙ ap (λ (x : List (List (List ℕ))). unskipped_words r.done ++ x) (kept-skipped l [] h) ∙ append-nil (unskipped_words r.done) ∙ r.says;
    leads = r.leads;
  }

  pub starts : (text : List ℕ) → IsReading L R start text (text_lines text) 0 start
  starts text = record { done = []; said = []; parts = refl; count = refl; range = tt; says = refl; leads = refl }

  pub fed_on : (text : List ℕ) (rest : List (List ℕ)) (number : ℕ) (p q : R.Progress) (l : List ℕ) (after : List (List ℕ)) → IsReading L R start text rest number p → rest ≡ l ∷ after → ReadsLine L R (text_words l) p q → IsReading L R start text after (number + 1) q
  fed_on text rest number p q l after r e h = elim h [
    | inl k ↦ subst (IsReading L R start text after (number + 1)) k.1 (read_skipped text rest number p l after r e k.0)
    | inr k ↦ read_line text rest number p q l after k.0 r e k.1 k.2
  ]

  pub stuck_at : (text : List ℕ) (rest : List (List ℕ)) (number : ℕ) (p : R.Progress) (l : List ℕ) (after : List (List ℕ)) → IsReading L R start text rest number p → rest ≡ l ∷ after → RefusesLine L R (text_words l) p → HasBadLine (Reads L R start IsEnd) text (number + 1)
  stuck_at text rest number p l after r e h = bad_line text rest number p l after r e h.kept (refused_cannot p (text_words l) h)

  -- ---- the end of the text

  pub read_at_end : (text : List ℕ) (number : ℕ) (p : R.Progress) → IsReading L R start text [] number p → IsEnd p → (r : Reads L R start IsEnd text) × (r.last ≡ p)
  read_at_end text number p r ended = (record { said = r.said; range = r.range; each = ap unskipped_words (r.parts ∙ append-nil r.done) ∙ r.says; last = p; leads = r.leads; ended = ended }, refl)

  pub bad_at_end : (text : List ℕ) (number : ℕ) (p : R.Progress) → IsReading L R start text [] number p → 1 ≤ number → (IsEnd p → ⊥) → HasBadLine (Reads L R start IsEnd) text number
  bad_at_end text number p r some not_ended = record {
    bad = record {
      first = some;
      last = omega (arith, ap length r.parts, length-append r.done [], r.count);
      before = λ k lt. begins text [] number p r k (omega arith);
      there = inr (let len : length (text_lines text) ≡ number = omega (arith, ap length r.parts, length-append r.done [], r.count) in sym len);
    };
    none = λ is. not_ended (finished is);
  }
    where
      finished : Reads L R start IsEnd text → IsEnd p
      finished s =
          let same : s.said ≡ r.said = same_lines s.said r.said s.range r.range (sym s.each ∙ ap unskipped_words (r.parts ∙ append-nil r.done) ∙ r.says) in
          let last : s.last ≡ p = (let k = sym s.leads ∙ ap (after_lines L R start) same ∙ r.leads in cc) in
          subst IsEnd last s.ended

-- a refusal for one set of texts is one for another with the same texts
pub same_refusal : (P Q : List ℕ → Type 0) → ((t : List ℕ) → P t → Q t) → ((t : List ℕ) → Q t → P t) → (text : List ℕ) (line : ℕ) → HasBadLine P text line → HasBadLine Q text line
same_refusal P Q to from text line h = record {
  bad = record {
    first = h.bad.first;
    last = h.bad.last;
    before = λ k lt. (let w = h.bad.before k lt in record { other = w.other; is = to w.other w.is; same = w.same });
    there = elim h.bad.there [
      | inl never ↦ inl (λ w. never (record { other = w.other; is = from w.other w.is; same = w.same }))
      | inr last ↦ inr last
    ];
  };
  none = λ is. h.none (from text is);
}
