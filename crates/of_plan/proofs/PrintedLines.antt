-- The printed text of lines in range has these lines, each with its words.
use Rattle.std.proofs.Common.{◌≡◌, ℕ, ◌≤◌, false, eqb, List, [], ◌∷◌, ◌++◌, map, refl, sym, ap, subst, ◌∙◌, append_assoc, arith}
use Rattle.std.specs.Prelude.{codes, decimal}
use Rattle.std.specs.List.{AllByRecursion, flat_map, join_with_byte}
use Rattle.std.proofs.lemmas.List.Elements.{All-from_recursion}
use Rattle.std.proofs.lemmas.List.Splits.{slice_split_at}
use Rattle.of_script.specs.declared.instr.Instr.{Instr}
use Rattle.of_script.specs.declared.instr.Instr.TheVariants.{Load, Store, Add, Sub, Get, Put, Del, Need, Push, Pop, Len, Count, First, Next, DropBelow}
use Rattle.of_script.specs.Language.{IsInstrInRange, IsScript}
use Rattle.of_script.specs.Text.{text_words, instr_words, instr_text, script_text, script_words}
use Rattle.of_script.proofs.Again.{decimal_is_word, words-word, words-join}
use Rattle.of_script.proofs.Marks.{printed_again}
use Rattle.of_plan.specs.declared.parser.line.BodyLine.TheVariants.{Script, Stop, Turns, Evict}
use Rattle.of_plan.specs.declared.parser.line.PlanLine.{PlanLine}
use Rattle.of_plan.specs.declared.parser.line.PlanLine.TheVariants.{Title, Callers, Blocks, Limit, Body, End}
use Rattle.of_plan.specs.Lines.{text_lines, unskipped_words, is_skipped, line_words}
use Rattle.of_plan.specs.LineReading.{IsLineInRange}
use Rattle.of_plan.specs.PlanText.{line_body, line_text}
use Rattle.of_plan.proofs.Lists.{all-both}
use Rattle.of_plan.proofs.TextLines.{NoNewline, kept-cons}
use Rattle.of_plan.proofs.PlainWords.{Plains, clean_is, plain_name, plain_number, plain_words, join_clean}

-- ---- instructions have no newline

plain_instr : (i : Instr) → IsInstrInRange i → Plains (instr_words i)
plain_instr (Load r) h = (plain_name (codes "load") (omega arith) refl refl, (plain_number r (omega arith), tt))
plain_instr (Store r v) h = (plain_name (codes "store") (omega arith) refl refl, (plain_number r (omega (arith, h.0)), (plain_number v (omega (arith, h.1)), tt)))
plain_instr (Add r v) h = (plain_name (codes "add") (omega arith) refl refl, (plain_number r (omega (arith, h.0)), (plain_number v (omega (arith, h.1)), tt)))
plain_instr (Sub r v) h = (plain_name (codes "sub") (omega arith) refl refl, (plain_number r (omega (arith, h.0)), (plain_number v (omega (arith, h.1)), tt)))
plain_instr (Get k) h = (plain_name (codes "get") (omega arith) refl refl, (plain_number k (omega arith), tt))
plain_instr (Put k v) h = (plain_name (codes "put") (omega arith) refl refl, (plain_number k (omega (arith, h.0)), (plain_number v (omega (arith, h.1)), tt)))
plain_instr (Del k) h = (plain_name (codes "del") (omega arith) refl refl, (plain_number k (omega arith), tt))
plain_instr (Need k v) h = (plain_name (codes "need") (omega arith) refl refl, (plain_number k (omega (arith, h.0)), (plain_number v (omega (arith, h.1)), tt)))
plain_instr (Push q v) h = (plain_name (codes "push") (omega arith) refl refl, (plain_number q (omega (arith, h.0)), (plain_number v (omega (arith, h.1)), tt)))
plain_instr (Pop q) h = (plain_name (codes "pop") (omega arith) refl refl, (plain_number q (omega arith), tt))
plain_instr (Len q) h = (plain_name (codes "len") (omega arith) refl refl, (plain_number q (omega arith), tt))
plain_instr Count h = (plain_name (codes "count") (omega arith) refl refl, tt)
plain_instr First h = (plain_name (codes "first") (omega arith) refl refl, tt)
plain_instr (Next k) h = (plain_name (codes "next") (omega arith) refl refl, (plain_number k (omega arith), tt))
plain_instr (DropBelow k) h = (plain_name (codes "drop-below") (omega arith) refl refl, (plain_number k (omega arith), tt))

instr_clean : (i : Instr) → IsInstrInRange i → NoNewline (instr_text i)
instr_clean i h = join_clean (instr_words i) (plain_instr i h)

later_clean : (is : List Instr) → AllByRecursion IsInstrInRange is → NoNewline (flat_map (λ j. 59 ∷ 32 ∷ instr_text j) is)
later_clean [] h = tt
later_clean (i ∷ is) h = all-both (λ b. eqb b 10 ≡ false) (59 ∷ 32 ∷ instr_text i) (flat_map (λ j. 59 ∷ 32 ∷ instr_text j) is) (refl, (refl, instr_clean i h.0)) (later_clean is h.1)

script_clean : (s : List Instr) → AllByRecursion IsInstrInRange s → NoNewline (script_text s)
script_clean [] h = tt
script_clean (i ∷ is) h = all-both (λ b. eqb b 10 ≡ false) (instr_text i) (flat_map (λ j. 59 ∷ 32 ∷ instr_text j) is) (instr_clean i h.0) (later_clean is h.1)

-- ---- each line

record Printed (l : PlanLine) : Type 0 where
  pub words_are : text_words (line_body l) ≡ line_words l
  pub clean : NoNewline (line_body l)
  pub stays : is_skipped (line_words l) ≡ false

-- words with one space between two
spaced : (l : PlanLine) → Plains (line_words l) → join_with_byte 32 (line_words l) ≡ line_body l → is_skipped (line_words l) ≡ false → Printed l
spaced l h is stays = record {
  words_are = ap text_words (sym is) ∙ words-join (line_words l) (plain_words (line_words l) h);
  clean = subst NoNewline is (join_clean (line_words l) h);
  stays = stays;
}

two_numbers : (front a b : List ℕ) → front ++ (a ++ 32 ∷ b) ≡ ((front ++ a) ++ 32 ∷ []) ++ b
two_numbers front a b = sym (append_assoc (front ++ a) (32 ∷ []) b ∙ append_assoc front a (32 ∷ b))

script_words_are : (c : ℕ) (s : List Instr) → c ≤ 15 → IsScript s → text_words (line_body (Body (Script c s))) ≡ codes "script" ∷ decimal c ∷ script_words s
script_words_are c s le h =
    let tail = words-word (decimal c) (32 ∷ script_text s) (decimal_is_word c (omega arith)) refl in
    ap text_words (append_assoc (codes "script ") (decimal c ++ codes " ") (script_text s) ∙ ap (λ (t : List ℕ). codes "script " ++ t) (append_assoc (decimal c) (codes " ") (script_text s)))
    ∙ words-word (codes "script") (32 ∷ decimal c ++ 32 ∷ script_text s) (plain_name (codes "script") (omega arith) refl refl).word refl
    ∙ ap (λ (ws : List (List ℕ)). codes "script" ∷ ws) (tail ∙ ap (λ (ws : List (List ℕ)). decimal c ∷ ws) (printed_again s h).each)

printed : (l : PlanLine) → IsLineInRange l → Printed l
printed Title r = spaced Title (plain_name (codes "onefile") (omega arith) refl refl, (plain_name (codes "plan") (omega arith) refl refl, (plain_name (codes "1") (omega arith) refl refl, tt))) refl refl
printed (Callers n) r = spaced (Callers n) (plain_name (codes "callers") (omega arith) refl refl, (plain_number n (omega arith), tt)) refl refl
printed (Blocks n) r = spaced (Blocks n) (plain_name (codes "blocks") (omega arith) refl refl, (plain_number n (omega arith), tt)) refl refl
printed (Limit x) r = spaced (Limit x) (plain_name (codes "limit") (omega arith) refl refl, (plain_number x (omega arith), tt)) refl refl
printed (Body (Script c s)) r = record {
  words_are = script_words_are c s r.0 r.1;
  clean = all-both (λ b. eqb b 10 ≡ false) (codes "script " ++ decimal c ++ codes " ") (script_text s)
      (all-both (λ b. eqb b 10 ≡ false) (codes "script " ++ decimal c) (codes " ") (all-both (λ b. eqb b 10 ≡ false) (codes "script ") (decimal c) (clean_is (codes "script ") refl) (plain_number c (omega (arith, r.0))).clean) (clean_is (codes " ") refl))
      (script_clean s r.1.in_range);
  stays = refl;
}
printed (Body (Stop c x)) r = spaced (Body (Stop c x)) (plain_name (codes "stop") (omega arith) refl refl, (plain_number c (omega (arith, r.0)), (plain_number x (omega (arith, r.1)), tt))) (two_numbers (codes "stop ") (decimal c) (decimal x)) refl
printed (Body (Turns c x)) r = spaced (Body (Turns c x)) (plain_name (codes "turns") (omega arith) refl refl, (plain_number c (omega (arith, r.0)), (plain_number x (omega (arith, r.1)), tt))) (two_numbers (codes "turns ") (decimal c) (decimal x)) refl
printed (Body (Evict a)) r = spaced (Body (Evict a)) (plain_name (codes "evict") (omega arith) refl refl, (plain_number a (omega arith), tt)) refl refl
printed End r = spaced End (plain_name (codes "end") (omega arith) refl refl, tt) refl refl

-- ---- and all of them

pub printed_lines : (ls : List PlanLine) → AllByRecursion IsLineInRange ls → unskipped_words (text_lines (flat_map line_text ls)) ≡ map line_words ls
printed_lines [] r = refl
printed_lines (l ∷ ls) r =
    let h = printed l r.0 in
    let rest = flat_map line_text ls in
    ap unskipped_words (ap text_lines (append_assoc (line_body l) (codes "\n") rest) ∙ slice_split_at (λ b. eqb b 10) (line_body l) 10 rest (All-from_recursion _ (line_body l) h.clean) refl)
    ∙ kept-cons (line_body l) (text_lines rest) (ap is_skipped h.words_are ∙ h.stays)
    ∙ ap (λ (ws : List (List ℕ)). ws ∷ unskipped_words (text_lines rest)) h.words_are
    ∙ ap (λ (all : List (List (List ℕ))). line_words l ∷ all) (printed_lines ls r.1)
