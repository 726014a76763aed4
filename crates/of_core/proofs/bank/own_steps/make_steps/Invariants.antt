use Rattle.std.proofs.Common.{◌≡◌, ◌≤◌, length}
use Rattle.of_core.specs.Table.{words_before_members}
use Rattle.of_core.specs.MachineValue.{machine_setup}
use Rattle.of_core.specs.OwnSteps.{IsOpenBefore, after_own_steps, call_on}
use Rattle.of_core.proofs.bank.own_steps.make_steps.Given as goal

-- so many steps are made, and the call was open before each
abbrev pub invariant-loop-made : goal.invariant-loop-made
invariant-loop-made g l =
    let S = machine_setup g.W.Work.meaning l.fn.machine in
    let first = call_on l.fn.machine l.fn.words.items in
    record {
      machine : l.machine ≡ record l.fn.machine { call = (after_own_steps S l.made first).call };
      words : l.words.items ≡ (after_own_steps S l.made first).words;
      room : words_before_members S ≤ length l.words.items;
      stays_open : IsOpenBefore S l.made first;
    }
