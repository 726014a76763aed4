use Rattle.of_row.proofs.protocol.protocol.Goals as goal

pub returns : goal.returns
returns g c = record {
  start = c.step_kept.ensures.start;
  words = c.starts.ensures.words;
  machines = c.starts.ensures.machines;
  runs = c.every_moment.ensures.runs;
  calls = c.every_call.ensures.calls;
  owners = c.batches.ensures.owners;
  touched = c.ends_in_time.ensures.touched;
  sound = c.step_kept.ensures.sound;
  grounds = c.step_kept.ensures.grounds;
  taken = c.step_kept.ensures.taken;
  durables = c.step_kept.ensures.durables;
  blind = c.step_kept.ensures.blind;
  begins = c.step_kept.ensures.begins;
  in_time = c.ends_in_time.ensures.in_time;
  guarantees = c.step_kept.ensures.moves;
  leave = c.taken_over_stands.ensures.steps;
  request = c.taken_over_stands.ensures.request;
  counted = c.taken_over_stands.ensures.counted;
  rests = c.taken_over_stands.ensures.rests;
  idle = c.machines.ensures.idle_rests;
  finds = c.machines.ensures.finds;
  turn_is = c.machines.ensures.turns;
  histories = record { next = c.histories.ensures.next; batches = c.histories.ensures.batches; states = c.histories.ensures.states };
}
