-- What is saved with the same store, tickets and replies: the same histories lead to it.
use Rattle.std.proofs.Common.{◌≡◌, ℕ, inl, inr, List, sym, subst, ◌∙◌}
use Rattle.of_memory.specs.declared.memory.Memory.{Memory}
use Rattle.of_memory.specs.declared.saved.Saved.{Saved}
use Rattle.of_memory.specs.History.{IsUpTo, HistoryEntry}
use Rattle.of_memory.specs.Memories.{HasHistory, HasNoHandleOut, TellsLastOf, callers_of, limit_of}
use Rattle.of_memory.specs.Renewing.{LeavesRenumbered}
use Rattle.of_memory.specs.Saving.{IsSaved, saved_callers, saved_limit, saved_seq}
use Rattle.of_memory.specs.Texts.{SavesSame}

module _ (m : Memory) (d e : Saved) (same : SavesSame d e) where
  last_same : (h : List HistoryEntry) (n : ℕ) → TellsLastOf m d h n → TellsLastOf m e h n
  last_same h n (inl none) = inl (same.tickets n ∙ none)
  last_same h n (inr one) =
      inr (one.0, one.1, one.2, one.3 ∙ sym (same.tickets n), same.replies n one.0.reply one.4)

  pub history_same : HasHistory m d → HasHistory m e
  history_same has s starts =
      let h = (has s starts).0 in
      let l = (has s starts).1 in (
        h,
        record {
          serial = l.serial;
          ends = same.store _ l.ends;
          order = l.order;
          sequences = l.sequences;
          by_seq = l.by_seq;
          made = l.made;
          own_seq = l.own_seq;
          only = l.only;
          callers = l.callers;
          last = λ n lt. last_same h n (l.last n lt);
          upto = λ n lt. subst (IsUpTo h n) (sym (same.tickets n)) (l.upto n lt);
          time = l.time;
        },
      )

  -- so a memory that has left the one has left the other, with other sequences
  pub leaves : HasNoHandleOut m → HasHistory m d → saved_callers d ≡ callers_of m → saved_limit d ≡ limit_of m → IsSaved e → saved_limit e ≡ saved_limit d → saved_seq e ≡ 0 → LeavesRenumbered m e
  leaves here has callers limit saved kept zero = record {
    here = here;
    saved = saved;
    history = history_same has;
    callers = same.callers ∙ callers;
    limit = kept ∙ limit;
    seq = zero;
  }
