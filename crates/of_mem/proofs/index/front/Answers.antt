use Rattle.std.proofs.Common.{ℕ, ◌%◌, ◌∙◌, inl, inr, ap, sym, arith}
use Rattle.of_mem.specs.declared.index.TheConstants.{HOMES}
use Rattle.of_mem.specs.Chains.{pairs_of}
use Rattle.of_mem.proofs.Chains.{entries_size, address_is, front_none, front_here, front_other}
use Rattle.of_mem.proofs.index.front.Goals as goal
use Rattle.of_mem.proofs.index.front.Goals.{then-number-eq0-via-then-number-eq0, then-number-eq0-via-else-number-eq0+then-number-entries}

pub returns-then-number-eq0 : goal.returns-then-number-eq0
returns-then-number-eq0 c =
    elim c.then-number-eq0.branch [
      | then-number-eq0-via-then-number-eq0 w ↦ sym (front_none HOMES (pairs_of c.args.entries.now) c.args.fronts.now c.args.home (c.requires.fronts _ c.requires.home) (inl w.if-number-eq0.true))
      | then-number-eq0-via-else-number-eq0+then-number-entries w ↦ sym (front_none HOMES (pairs_of c.args.entries.now) c.args.fronts.now c.args.home (c.requires.fronts _ c.requires.home) (inr (omega (arith, w.if-number-entries.true, entries_size c.args.entries.now))))
    ]

pub returns-then-entries-number : goal.returns-then-entries-number
returns-then-entries-number c =
    front_here HOMES (pairs_of c.args.entries.now) c.args.fronts.now c.args.home (c.requires.fronts _ c.requires.home) c.if-number-eq0.false (omega (arith, c.if-number-entries.false, entries_size c.args.entries.now)) (ap (λ (a : ℕ). a % HOMES) (address_is c.args.entries.now _) ∙ c.if-entries-number.true)

pub returns-else-entries-number : goal.returns-else-entries-number
returns-else-entries-number c =
    sym (front_other HOMES (pairs_of c.args.entries.now) c.args.fronts.now c.args.home (c.requires.fronts _ c.requires.home) (λ q. c.if-entries-number.false (sym (ap (λ (a : ℕ). a % HOMES) (address_is c.args.entries.now _)) ∙ q)))
