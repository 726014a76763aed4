-- A member that has seen nothing since the row's start fits, whatever the others have done.
use Rattle.std.proofs.Common.{◌≡◌, ℕ, ◌+◌, ◌<◌, List, refl, arith}
use Rattle.std.specs.Int.{bit_at}
use Rattle.atomic_table.specs.Table.{State}
use Rattle.of_core.specs.Table.{Setup}
use Rattle.of_core.specs.Machine.{idle_machine}
use Rattle.of_core.specs.TableMoment.{TableStart}
use Rattle.of_row.specs.Views.{View}
use Rattle.of_row.specs.Trail.{HasDoneNothing, moment}
use Rattle.of_row.specs.Rule.{done_before, members_of, KnowsCallsOf, ViewFits, MeetsRule}
use Rattle.of_row.specs.RowLaws.{RowLaws}
use Rattle.of_row.specs.Turned.{new_known_caller}
use Rattle.of_row.specs.FreshMembers.{fresh_member_view}
use Rattle.of_row.proofs.Events.{new_runs}
use Rattle.of_row.proofs.Calls.{unowned}

pub fresh_fits : (S : Setup) (L : List ℕ → Type 0) → RowLaws S L → (B : TableStart) (s : State (Unit {0}) View) (r : MeetsRule S L B s) (n : ℕ)
    → n < S.callers → bit_at (members_of S s.words) n ≡ 1 → HasDoneNothing r.events n
    → ViewFits S B s.words r.events r.home r.chief (r.home n) (fresh_member_view S B n)
fresh_fits S L laws B s r n below on none = record {
  seen = record { few = omega arith; same = refl };
  past = (r.events, refl);
  met = tt;
  kept = (record { in_range = below; home_is = refl; taken = on }, tt);
  apart = (tt, tt);
  runs = (new_runs S B laws.machines r.events n B.seq below none, tt);
  knows = (known, tt);
  raised = tt;
  first = λ e. cc;
}
  where
    known : KnowsCallsOf S B (moment S B r.events).batches (B.seq + 0) (new_known_caller S B n B.seq)
    known =
        let rest = laws.idle (idle_machine S n (done_before S B n)) refl in
        record {
          rests_on = omega (arith, rest.0);
          own = λ k l u. unowned S L laws.calls laws.owners B r.from r.events r.schedule n below none k (omega (arith, l)) u;
          since_seen = omega arith;
          reads_from = rest.1 B.seq;
          new_call = λ o. cc;
          each = λ y l. absurd (omega (arith, l));
        }
