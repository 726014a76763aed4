-- Whatever meets the invariant has begun at a start that may be, and its states are lawful.
use Rattle.std.proofs.Common.{ℕ, List, subst, arith, map}
use Rattle.of_cell.specs.Words.{payload_of}
use Rattle.of_core.specs.Table.{Setup}
use Rattle.of_core.specs.TableMoment.{Moment, TableStart}
use Rattle.of_core.specs.WordsMatch.{WordsMatchHistory}
use Rattle.of_core.specs.Invariant.{MeetsInvariant}
use Rattle.of_core.specs.Grounds.{HasGrounds}
use Rattle.of_core.proofs.States.{state_start}

pub has_grounds : (S : Setup) (Lawful : List ℕ → Type 0) (B : TableStart) (w : Moment) → MeetsInvariant S Lawful B w → HasGrounds S Lawful B w
has_grounds S Lawful B w g = record {
  may_start = record {
    start = shared.start;
    lawful = subst (λ (st : List ℕ). Lawful (map payload_of st)) (state_start B w.batches) (shared.stands.lawful B.seq (omega arith) (omega arith));
    limit = omega (arith, shared.counted.count, shared.counted.limit);
  };
  states = shared.stands.lawful;
  logs = λ k l u. shared.counted.logs k l (omega (arith, u, shared.counted.count));
  room = omega (arith, shared.room);
  callers = shared.few;
  instrs = shared.narrow;
  cells = shared.little;
  own_in = shared.own_in;
}
  where
    shared : WordsMatchHistory S Lawful B w.words w.batches
    shared = g.core.shared
