use Rattle.std.proofs.Common.{ℕ, ◌<◌, get_or}
use Rattle.of_check.specs.declared.line_rule.LineRule.TheVariants.{AfterEnd}
use Rattle.of_check.specs.LineRules.{SaysOfLine}
use Rattle.of_check.proofs.line_rule.line_rule.Given as goal

-- none of the reasons so far is true
abbrev pub invariant-loop-rule : goal.invariant-loop-rule
invariant-loop-rule l = (k : ℕ) → k < l.rule-index → SaysOfLine (get_or l.rule-items k AfterEnd) l.found l.wanted → ⊥
