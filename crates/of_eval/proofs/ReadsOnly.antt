-- Words that only read are those of a script.
use Rattle.std.proofs.Common.{◌≡◌, ℕ, refl, sym, ◌∙◌, ap, arith, true, ◌&&◌, leb, Option, Some, None, List, [], ◌∷◌, length, map}
use Rattle.std.specs.List.{AllByRecursion as Each}
use Rattle.std.proofs.lemmas.Bool.{false≢true, leb-true}
use Rattle.std.proofs.lemmas.List.{length-map}
use Rattle.of_script.specs.declared.instr.TheConstants.{MOST_INSTRS}
use Rattle.of_script.specs.declared.instr.Instr.{Instr}
use Rattle.of_script.specs.Language.{IsScript, IsInstrInRange, instr_word, reads_only}
use Rattle.of_script.specs.Reading.{instr_at}
use Rattle.of_script.proofs.Numbers.{both}
use Rattle.of_script.proofs.WordLaws.{instr_at_takes}
use Rattle.of_eval.specs.Scripts.{instr_reads, words_read, script_reads}

-- words that only read are those of instructions that only read
pub record OfScript (ws : List ℕ) : Type 0 where
  pub script : List Instr
  pub words : map instr_word script ≡ ws
  pub range : Each IsInstrInRange script
  pub reads : Each (λ i. reads_only i ≡ true) script

one_more : (w : ℕ) (ws : List ℕ) (o : Option Instr) → instr_at w ≡ o → instr_reads o ≡ true → OfScript ws → OfScript (w ∷ ws)
one_more w ws None e r h = absurd (false≢true r)
one_more w ws (Some i) e r h =
    let u = instr_at_takes w i e in
    let first : instr_word i ≡ w = u.word in
    let rest : map instr_word h.script ≡ ws = h.words in
    record { script = i ∷ h.script; words = λ j. first j ∷ rest j; range = (u.range, h.range); reads = (r, h.reads) }

of_script : (ws : List ℕ) → words_read ws ≡ true → OfScript ws
of_script [] e = record { script = []; words = refl; range = tt; reads = tt }
of_script (w ∷ ws) e = let b = both (instr_reads (instr_at w)) (words_read ws) e in one_more w ws (instr_at w) refl b.0 (of_script ws b.1)

pub reads_of : (op : List ℕ) → script_reads op ≡ true → (s : OfScript op) × IsScript s.script
reads_of op e =
    let a = both (leb 1 (length op)) (leb (length op) MOST_INSTRS && words_read op) e in
    let b = both (leb (length op) MOST_INSTRS) (words_read op) a.1 in
    let s = of_script op b.1 in
    let same : length s.script ≡ length op = sym (length-map s.script instr_word) ∙ ap length s.words in
    (s, record { some = omega (arith, same, leb-true _ _ a.0); few = omega (arith, same, leb-true _ _ b.0); in_range = s.range })
