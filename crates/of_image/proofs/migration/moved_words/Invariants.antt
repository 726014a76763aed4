use Rattle.std.proofs.Common.{◌≡◌, map, get_or}
use Rattle.std.specs.List.{range_with_len}
use Rattle.of_image.specs.MovedRow.{moved_word}
use Rattle.of_image.proofs.migration.moved_words.Given as goal

-- the cells so far
abbrev pub invariant-loop-cell : goal.invariant-loop-cell
invariant-loop-cell l = l.moved.items ≡ map (moved_word l.old.instrs l.new.instrs l.old.callers l.old.blocks (λ c. get_or l.words c 0)) (range_with_len 0 l.cell)
