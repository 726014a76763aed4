-- Serial histories one after the other, and what they keep.
use Rattle.std.proofs.Common.{◌≡◌, true, [], ◌∷◌, refl}
use Rattle.std.proofs.lemmas.List.Elements.{All-head, All-tail}
use Rattle.of_store.specs.Store.{run}
use Rattle.of_memory.specs.History.{HistoryEntry}
use Rattle.of_memory.specs.Joining.{HistoriesJoin, InvariantsHold}

pub histories_join : HistoriesJoin
histories_join s [] k one other = (other, refl)
histories_join s (e ∷ h) k one other = let r = histories_join (run s e.script).0 h k one.1 other in ((one.0, r.0), r.1)

pub invariants_hold : InvariantsHold
invariants_hold holds kind keeps s [] now all = now
invariants_hold holds kind keeps s (e ∷ h) now all =
    invariants_hold holds kind keeps (run s e.script).0 h
    (keeps s e.script now (All-head (λ (e : HistoryEntry). kind e.script ≡ true) e h all))
    (All-tail (λ (e : HistoryEntry). kind e.script ≡ true) e h all)
