use Rattle.std.proofs.Common.{ℕ, ◌≡◌, ◌<◌, List, [], ◌∷◌, get_or, arith}
use borrow.Author.Count.{below_more}
use Rattle.of_check.specs.declared.line_rule.LineRule.{LineRule}
use Rattle.of_check.specs.declared.line_rule.LineRule.TheVariants.{AfterEnd, Store, Reply, Caller, Entries, Sequence, TooMany, Spelling}
use Rattle.of_check.specs.LineRules.{SaysOfLine}
use Rattle.of_check.proofs.line_rule.line_rule.Goals as goal

abbrev exact : List LineRule
exact = AfterEnd ∷ Store ∷ TooMany ∷ Reply ∷ Caller ∷ Entries ∷ Sequence ∷ []

-- each reason but the coarse one is among them
none : (found wanted : List ℕ) → ((k : ℕ) → k < 7 → SaysOfLine (get_or exact k AfterEnd) found wanted → ⊥) → (r : LineRule) → SaysOfLine r found wanted → ⊥
none found wanted never AfterEnd = never 0 (omega arith)
none found wanted never Store = never 1 (omega arith)
none found wanted never TooMany = never 2 (omega arith)
none found wanted never Reply = never 3 (omega arith)
none found wanted never Caller = never 4 (omega arith)
none found wanted never Entries = never 5 (omega arith)
none found wanted never Sequence = never 6 (omega arith)
none found wanted never Spelling = λ h. h

pub loop-rule-init : goal.loop-rule-init
loop-rule-init c = λ k lt. absurd (omega (arith, lt))

pub loop-rule-preserved : goal.loop-rule-preserved
loop-rule-preserved c =
    below_more (λ (k : ℕ). SaysOfLine (get_or exact k AfterEnd) c.args.found.now c.args.wanted.now → ⊥) c.loop-rule.rule-index c.loop-rule.invariant (λ h. absurd (let e = (c.if-says.ensures).1 h in cc))

pub returns : goal.returns
returns c = none c.args.found.now c.args.wanted.now (λ k lt. c.loop-rule.invariant k (omega (arith, lt, c.loop-rule-test.false)))
