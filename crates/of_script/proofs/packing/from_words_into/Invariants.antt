use Rattle.std.proofs.Common.{◌≡◌, length, map, take}
use Rattle.std.specs.List.{AllByRecursion}
use Rattle.of_script.specs.Language.{IsInstrInRange, instr_word}
use Rattle.of_script.proofs.packing.from_words_into.Given as goal

-- the instructions so far
abbrev pub invariant-loop-i : goal.invariant-loop-i
invariant-loop-i l = record {
  words : map instr_word l.script ≡ take l.i l.words;
  range : AllByRecursion IsInstrInRange l.script;
  count : length l.script ≡ l.i;
}
