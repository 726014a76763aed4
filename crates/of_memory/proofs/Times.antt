-- Calls that come one after the other stand in that order in the history.
use Rattle.std.proofs.Common.{ℕ, ◌+◌, List, length, Result, sym, subst, ◌∙◌}
use Rattle.of_store.specs.Store.{Store}
use Rattle.of_plan.specs.declared.answer.Answer.{Answer}
use Rattle.of_eval.specs.declared.scripts.Scripts.{Scripts}
use Rattle.of_eval.specs.Scripts.{scripts_meaning}
use Rattle.of_row.specs.declared.row.Row.{Row}
use Rattle.of_cells.specs.declared.error.RunError.{RunError}
use Rattle.of_cells.specs.Handles.{made_by}
use Rattle.of_cells.specs.Telling.{TellsOf}
use Rattle.of_memory.specs.declared.handle.Handle.{Handle}
use Rattle.of_memory.specs.declared.memory.Memory.{Memory}
use Rattle.of_memory.specs.declared.saved.Saved.{Saved}
use Rattle.of_memory.specs.History.{Made, ComeInOrder}
use Rattle.of_memory.specs.Called.{HasStarted}
use Rattle.of_memory.specs.Handles.{HasMade, home_of, number_of_handle}
use Rattle.of_memory.specs.Memories.{StartsWith, HasHistory, tickets_before}
use Rattle.of_memory.specs.Telling.{HasHeardOf, KnowsOrder, KeepsKnown, BeginsAfterHeard, LeavesOrder, ComeFirst, ToldCallsComeFirst, CallsComeInTurn}
use Rattle.of_memory.proofs.Called.{made_long}

-- handle b has heard of the calls of handle a, and begins a call, which leaves it as c; it leaves its memory as e
module _ (m : Memory) (d : Saved) (a b c e : Handle) (result : Result Answer RunError) (ms ks : List Made) (made : HasMade a ms) (made_too : HasMade b ks) (heard : HasHeardOf b (number_of_handle a) (length (made_by a.cells)))
    (started : HasStarted result) (begins : BeginsAfterHeard result b c) (keeps : KeepsKnown c e) (leaves : LeavesOrder e m) (history : HasHistory m d) (s : Store) (starts : StartsWith m s) where
  abbrev n : ℕ
  n = number_of_handle a

  abbrev k : ℕ
  k = number_of_handle b

  abbrev x : ℕ
  x = length (made_by a.cells)

  abbrev y : ℕ
  y = length (made_by b.cells)

  order : KnowsOrder c n x k y
  order = begins started n x heard

  come_first : ComeFirst m s d a b ms ks
  come_first =
      let found = history s starts in
      let time = found.1.time (number_of_handle e) n x k y (leaves n x k y (keeps.order n x k y order)) in
      (found.0, found.1, subst (λ (z : ℕ × ℕ). ComeInOrder found.0 n (tickets_before m n + z.0) k (tickets_before m k + z.1)) (λ i. (sym (made_long _ ms made) i, sym (made_long _ ks made_too) i)) time)

pub told_first : ToldCallsComeFirst
told_first m d a b c e news result ms ks of_m of_m_too made tells hears made_too started begins keeps leaves history s starts =
    let n = number_of_handle a in
    let x = length (made_by a.cells) in
    let told : TellsOf scripts_meaning (home_of b) news n x = subst (λ (r : Row Scripts). TellsOf scripts_meaning r news n x) (of_m ∙ sym of_m_too) tells in
    come_first m d a b c e result ms ks made made_too (hears n x told) started begins keeps leaves history s starts

pub in_turn : CallsComeInTurn
in_turn k l m d a b c e result ms ks still_k still_l of_m of_m_too made tells remember hears made_too started begins keeps leaves history s starts =
    let n = number_of_handle a in
    let x = length (made_by a.cells) in
    come_first m d a b c e result ms ks made made_too (hears n x (remember n x tells.own)) started begins keeps leaves history s starts
