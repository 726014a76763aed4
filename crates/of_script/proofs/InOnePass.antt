-- Reading a script in one pass, by its words.
use Rattle.std.proofs.Common.{◌≡◌, ℕ, ◌<◌, List, [], ◌∷◌, ◌++◌, length, map, Option, Some, None, refl, sym, ap, ◌∙◌, append_assoc, arith}
use Rattle.std.specs.Prelude.{Bool, true, false, not}
use Rattle.std.specs.List.{AllByRecursion, flat_map}
use Rattle.std.specs.Str.{bytes_eq}
use Rattle.std.proofs.lemmas.Slice.Eq.{bytes_eq-Decides}
use Rattle.std.proofs.lemmas.List.{length-append, append-nil, append_cancel_left, map-append}
use Rattle.std.proofs.lemmas.List.Concat.{flat_map-append}
use Rattle.of_script.specs.declared.instr.Instr.{Instr}
use Rattle.of_script.specs.declared.instr.TheConstants.{MOST_INSTRS}
use Rattle.of_script.specs.Language.{IsInstrInRange, IsScript}
use Rattle.of_script.specs.Text.{text_words, instr_words, script_words, semicolon_byte, SpellsScript}
use Rattle.of_script.specs.Reading.{front_and_rest}
use Rattle.of_script.proofs.Instrs.{some_is, front_takes, front_again}
use Rattle.of_script.proofs.Grown.{all-push}

-- the words of instructions, with a semicolon before each
abbrev pub marked_words : List Instr → List (List ℕ)
marked_words is = flat_map (λ h. semicolon_byte ∷ h) (map instr_words is)

-- what the words before the rest say, and what is left of any script that the text spells
pub record IsAhead (text rest : List ℕ) (is : List Instr) : Type 0 where
  pub words : text_words text ≡ script_words is ++ text_words rest
  pub fits : IsScript is
  pub all : (spelled : List Instr) → SpellsScript text spelled → (later : List Instr) × (spelled ≡ is ++ later)

joined : (is later : List Instr) → 0 < length is → script_words (is ++ later) ≡ script_words is ++ marked_words later
joined [] later some = absurd (omega arith)
joined (i ∷ is) later some =
    ap (λ (gs : List (List (List ℕ))). instr_words i ++ flat_map (λ h. semicolon_byte ∷ h) gs) (map-append instr_words is later)
    ∙ ap (λ (ws : List (List ℕ)). instr_words i ++ ws) (flat_map-append (λ h. semicolon_byte ∷ h) (map instr_words is) (map instr_words later))
    ∙ sym (append_assoc (instr_words i) (marked_words is) (marked_words later))

-- what is left, and its words
left : (text rest : List ℕ) (is spelled : List Instr) → IsAhead text rest is → SpellsScript text spelled → (later : List Instr) × (spelled ≡ is ++ later) × (text_words rest ≡ marked_words later)
left text rest is spelled h s =
    let l = h.all spelled s in
    let words = sym h.words ∙ s.each ∙ ap script_words l.1 ∙ joined is l.0 (omega (arith, h.fits.some)) in
    (l.0, l.1, append_cancel_left (script_words is) (text_words rest) (marked_words l.0) words)

-- a script's first instruction is what its words begin with
first_read : (text : List ℕ) (spelled : List Instr) → SpellsScript text spelled → (i : Instr) × (is : List Instr) × (spelled ≡ i ∷ is) × (front_and_rest (text_words text) ≡ Some (i, marked_words is))
first_read text [] s = absurd (omega (arith, s.fits.some))
first_read text (i ∷ is) s = (i, is, refl, ap front_and_rest s.each ∙ front_again i (marked_words is) s.fits.in_range.0)

all-right : {A : Type 0} (P : A → Type 0) (xs ys : List A) → AllByRecursion P (xs ++ ys) → AllByRecursion P ys
all-right P [] ys h = h
all-right P (x ∷ xs) ys h = all-right P xs ys h.1

-- and so is a later one after its semicolon
later_read : (is later : List Instr) (rest more : List (List ℕ)) → AllByRecursion IsInstrInRange (is ++ later) → rest ≡ marked_words later → rest ≡ semicolon_byte ∷ more → (i : Instr) × (others : List Instr) × (later ≡ i ∷ others) × (front_and_rest more ≡ Some (i, marked_words others))
later_read is [] rest more range e mark = absurd cc
later_read is (i ∷ others) rest more range e mark =
    let words : more ≡ instr_words i ++ marked_words others = cc in
    (i, others, refl, ap front_and_rest words ∙ front_again i (marked_words others) (all-right IsInstrInRange is (i ∷ others) range).0)

in_range : (is later spelled : List Instr) → spelled ≡ is ++ later → IsScript spelled → AllByRecursion IsInstrInRange (is ++ later)
in_range is later spelled e h = rw e at h.in_range

next_read : (text rest more : List ℕ) (is spelled : List Instr) → IsAhead text rest is → text_words rest ≡ semicolon_byte ∷ text_words more → SpellsScript text spelled → (i : Instr) × (others : List Instr) × (spelled ≡ is ++ i ∷ others) × (front_and_rest (text_words more) ≡ Some (i, marked_words others))
next_read text rest more is spelled h mark s =
    let l = left text rest is spelled h s in
    let r = later_read is l.0 (text_words rest) (text_words more) (in_range is l.0 spelled l.1 s.fits) l.2 mark in
    (r.0, r.1, l.1 ∙ ap (λ (js : List Instr). is ++ js) r.2, r.3)

same_first : (o : Option (Instr × List (List ℕ))) (i j : Instr) (v w : List (List ℕ)) → o ≡ Some (i, v) → o ≡ Some (j, w) → i ≡ j
same_first o i j v w e f = let both : (i, v) ≡ (j, w) = some_is (i, v) (j, w) (sym e ∙ f) in ap (λ (p : Instr × List (List ℕ)). p.0) both

pub first_ahead : (text after : List ℕ) (i : Instr) → front_and_rest (text_words text) ≡ Some (i, text_words after) → IsAhead text after (i ∷ [])
first_ahead text after i e =
    let b = front_takes (text_words text) (i, text_words after) e in
    record {
      words = b.words ∙ ap (λ (ws : List (List ℕ)). ws ++ text_words after) (sym (append-nil (instr_words i)));
      fits = record { some = omega arith; few = omega arith; in_range = (b.range, tt) };
      all = λ spelled s.
          let r = first_read text spelled s in
          let same = same_first _ i r.0 _ _ e r.3 in
          (r.1, r.2 ∙ ap (λ (j : Instr). j ∷ r.1) (sym same));
    }

pub one_ahead : (text rest more after : List ℕ) (is : List Instr) (i : Instr) → IsAhead text rest is → length is < MOST_INSTRS → text_words rest ≡ semicolon_byte ∷ text_words more → front_and_rest (text_words more) ≡ Some (i, text_words after) → IsAhead text after (is ++ i ∷ [])
one_ahead text rest more after is i h few mark e =
    let b = front_takes (text_words more) (i, text_words after) e in
    let len = length-append is (i ∷ []) in
    let one : script_words (is ++ i ∷ []) ≡ script_words is ++ (semicolon_byte ∷ instr_words i) =
    joined is (i ∷ []) (omega (arith, h.fits.some)) ∙ ap (λ (ws : List (List ℕ)). script_words is ++ ws) (append-nil (semicolon_byte ∷ instr_words i)) in
    record {
      words = h.words ∙ ap (λ (ws : List (List ℕ)). script_words is ++ ws) (mark ∙ ap (λ (ws : List (List ℕ)). semicolon_byte ∷ ws) b.words)
          ∙ sym (append_assoc (script_words is) (semicolon_byte ∷ instr_words i) (text_words after))
          ∙ ap (λ (ws : List (List ℕ)). ws ++ text_words after) (sym one);
      fits = record { some = omega (arith, len); few = omega (arith, len); in_range = all-push IsInstrInRange is i h.fits.in_range b.range };
      all = λ spelled s.
          let r = next_read text rest more is spelled h mark s in
          let same = same_first _ i r.0 _ _ e r.3 in
          (r.1, r.2 ∙ ap (λ (j : Instr). is ++ j ∷ r.1) (sym same) ∙ sym (append_assoc is (i ∷ []) r.1));
    }

-- where nothing is left, the script has been read
pub all_read : (text rest : List ℕ) (is : List Instr) → IsAhead text rest is → text_words rest ≡ [] → SpellsScript text is
all_read text rest is h end = record {
  fits = h.fits;
  each = h.words ∙ ap (λ (ws : List (List ℕ)). script_words is ++ ws) end ∙ append-nil (script_words is);
}

-- ---- texts that spell no script

none_some : {A : Type 0} (o : Option A) (x : A) → o ≡ None → o ≡ Some x → ⊥
none_some None x e f = cc
none_some (Some y) x e f = cc

pub no_first : (text : List ℕ) (spelled : List Instr) → front_and_rest (text_words text) ≡ None → SpellsScript text spelled → ⊥
no_first text spelled e s = let r = first_read text spelled s in none_some _ _ e r.3

pub no_next : (text rest more : List ℕ) (is spelled : List Instr) → IsAhead text rest is → text_words rest ≡ semicolon_byte ∷ text_words more → front_and_rest (text_words more) ≡ None → SpellsScript text spelled → ⊥
no_next text rest more is spelled h mark e s = let r = next_read text rest more is spelled h mark s in none_some _ _ e r.3

mark_first : (later : List Instr) (w : List ℕ) (ws : List (List ℕ)) → w ∷ ws ≡ marked_words later → (w ≡ semicolon_byte) × (0 < length later)
mark_first [] w ws e = absurd cc
mark_first (i ∷ later) w ws e = (cc, omega arith)

pub no_mark : (text rest : List ℕ) (is spelled : List Instr) (w : List ℕ) (ws : List (List ℕ)) → IsAhead text rest is → text_words rest ≡ w ∷ ws → (w ≡ semicolon_byte → ⊥) → SpellsScript text spelled → ⊥
no_mark text rest is spelled w ws h e other s =
    let l = left text rest is spelled h s in other (mark_first l.0 w ws (sym e ∙ l.2)).0

pub no_room : (text rest : List ℕ) (is spelled : List Instr) (w : List ℕ) (ws : List (List ℕ)) → IsAhead text rest is → text_words rest ≡ w ∷ ws → length is ≡ MOST_INSTRS → SpellsScript text spelled → ⊥
no_room text rest is spelled w ws h e full s =
    let l = left text rest is spelled h s in
    let more = (mark_first l.0 w ws (sym e ∙ l.2)).1 in
    absurd (omega (arith, full, more, ap length l.1, length-append is l.0, s.fits.few))

denied : (b : Bool) → false ≡ not b → b ≡ true
denied true e = refl
denied false e = absurd cc

-- words that don't differ are one
pub word_same : (v w : List ℕ) → false ≡ not (bytes_eq v w) → v ≡ w
word_same v w e = (bytes_eq-Decides v w).0 (denied (bytes_eq v w) e)

refused : (b : Bool) → true ≡ not b → b ≡ true → ⊥
refused true e h = cc
refused false e h = cc

-- words that differ are two
pub word_other : (v w : List ℕ) → true ≡ not (bytes_eq v w) → v ≡ w → ⊥
word_other v w e is = refused (bytes_eq v w) e ((bytes_eq-Decides v w).1 is)
