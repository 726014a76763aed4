use Rattle.of_core.proofs.laws.histories.Goals as goal
use Rattle.of_core.proofs.States.{state_same, batch_same, batch_new, batch_is, state_start, state_front, batch_front, legal_front}

pub returns : goal.returns
returns c = record {
  first = state_start;
  numbered = batch_is;
  next = batch_new;
  batches = batch_same;
  states = state_same;
  beginning_batches = batch_front;
  beginning_states = state_front;
  beginning_legal = legal_front;
}
