use Rattle.std.proofs.Common.{sym, subst}
use Rattle.std.specs.List.{All}
use Rattle.std.proofs.lemmas.List.Elements.{All-push}
use Rattle.of_cells.specs.Handles.{IsCellHandle}
use Rattle.example_accounts.specs.Meaning.{accounts_meaning}
use Rattle.example_accounts.proofs.meter.seat.Goals as goal

pub loop-number-preserved : goal.loop-number-preserved
loop-number-preserved c = record {
  memory = c.enrol.ensures.memory;
  handles = subst (All (IsCellHandle accounts_meaning)) (sym c.in_ok-push.ensures.items)
      (All-push (IsCellHandle accounts_meaning) c.loop-number.handles.items c.pay.new.handle c.loop-number.invariant.handles c.pay.ensures.handle);
}
