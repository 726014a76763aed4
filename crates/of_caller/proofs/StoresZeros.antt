-- A table of zeros starts where a plan's empty start is.
use Rattle.std.proofs.Common.{◌≡◌, ℕ, refl, sym, ap, ◌∙◌, arith}
use Rattle.std.proofs.lemmas.List.{length-replicate}
use Rattle.of_cell.specs.Words.{payload_of}
use Rattle.of_cell.proofs.Order.{pay_zero}
use Rattle.of_mem.specs.Places.{base_of, ticket_cell_at, shape_at}
use Rattle.of_mem.proofs.Lists.{zero_at}
use Rattle.of_script.specs.declared.instr.TheConstants.{MOST_INSTRS}
use Rattle.of_eval.specs.SoundScripts.{empty_is_stored}
use Rattle.of_plan.specs.Plan.{Plan, IsPlan}
use Rattle.of_plan.specs.Report.{empty_start, finished_of}
use Rattle.of_core.specs.Events.{zero_start}
use Rattle.of_caller.specs.Tables.{plan_setup}
use Rattle.of_caller.specs.Starts.{start_number, ZerosAreEmpty}
use Rattle.of_caller.proofs.StoresReplay.{number_at}

module _ (p : Plan) where
  number_zero : (a : ℕ) → start_number (zero_start (plan_setup p)) a ≡ 0
  number_zero a = number_at (zero_start (plan_setup p)).cells a ∙ ap payload_of (zero_at (plan_setup p).cells a) ∙ pay_zero

  none_finished : (c : ℕ) → finished_of (empty_start p) c ≡ 0
  none_finished c = zero_at p.callers c

pub zeros_are_empty : (p : Plan) → IsPlan p → ZerosAreEmpty p
zeros_are_empty p plan = record {
  seq = refl;
  size = length-replicate (plan_setup p).cells 0;
  stands = record {
    own = λ c lt. record { none = λ is. number_zero p (shape_at MOST_INSTRS c); some = λ not. absurd (not (number_zero p (ticket_cell_at MOST_INSTRS c))) };
    stored = empty_is_stored (base_of p.callers MOST_INSTRS) p.blocks (omega (arith, plan.few_blocks)) (start_number (zero_start (plan_setup p))) (number_zero p);
  };
  each_caller = length-replicate p.callers 0;
  tickets = λ c lt. number_zero p (ticket_cell_at MOST_INSTRS c) ∙ sym (none_finished p c);
}
