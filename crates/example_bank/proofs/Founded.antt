-- What is saved after the founding script alone.
use Rattle.std.proofs.Common.{◌≡◌, ℕ, zero, suc, ◌<◌, List, [], ◌∷◌, get_or, Ok, refl, subst, ◌∙◌, arith}
use Rattle.of_script.specs.declared.instr.Instr.{Instr}
use Rattle.of_store.specs.Store.{empty_store, last_store}
use Rattle.of_store.specs.Replies.{reply_value_of}
use Rattle.of_plan.specs.declared.answer.Answer.{Answer}
use Rattle.of_memory.specs.declared.memory.Memory.{Memory}
use Rattle.of_memory.specs.declared.handle.Handle.{Handle}
use Rattle.of_memory.specs.declared.saved.Saved.{Saved}
use Rattle.of_memory.specs.History.{Made, Replied}
use Rattle.of_memory.specs.Handles.{HasMade, IsSame, MakesCall, StaysOpenOnlyIfStopped, number_of_handle}
use Rattle.of_memory.specs.Memories.{HasMadeOf, HasNoneOpen, HasHistory, IsStill, KnowsOthers, StartsWith, TakesOut, PutsBack, callers_of}
use Rattle.of_memory.specs.Joining.{MemoriesStay, NoneStaysOpen, LoneCallsAreSaved, HasMadeAlone, EndsWithReply}
use Rattle.example_bank.specs.Founding.{founding_script, IsFounded}

-- a call of this script was answered so
abbrev pub answered : List Instr → Answer → Made
answered script a = record { script = script; ended = Replied (reply_value_of a.reply) a.seq a.steps a.announced }

-- one handle of a memory that was just opened has made one call and has left
module _ (m k l : Memory) (h g : Handle) (script : List Instr) (a : Answer)
    (fresh : (n : ℕ) → n < callers_of m → HasMadeOf m n []) (none : HasNoneOpen m) (number : number_of_handle h ≡ 0) (some : 0 < callers_of m) (came : IsStill m k) (taken : TakesOut m k h) (knew : (ms : List Made) → HasMadeOf m 0 ms → HasMade h ms) (rest : KnowsOthers 0 m k)
    (same : IsSame h g) (made : MakesCall script (Ok a) h g) (closed : StaysOpenOnlyIfStopped script (Ok a) g)
    (left : IsStill k l) (back : PutsBack k l g) (knows : (ms : List Made) → HasMade g ms → HasMadeOf l (number_of_handle g) ms) (others : KnowsOthers (number_of_handle g) k l)
    (stay : MemoriesStay) (none_stays : NoneStaysOpen) where
  is_first : number_of_handle g ≡ 0
  is_first = same.number ∙ number

  replied : (i : ℕ) (d : Made) → i < 1 → EndsWithReply (get_or (answered script a ∷ []) i d).ended
  replied zero d low = tt
  replied (suc i) d low = absurd (omega (arith, low))

  pub alone : HasMadeAlone l 0 (answered script a ∷ [])
  alone = record {
    made = subst (λ (n : ℕ). HasMadeOf l n (answered script a ∷ [])) is_first (knows (answered script a ∷ []) (made [] (knew [] (fresh 0 some))));
    replied = λ i d low. replied i d low;
    others = λ i low ne. others i [] (λ is. ne (is ∙ is_first)) (rest i [] ne (fresh i (omega (arith, low, (stay k l left).callers, (stay m k came).callers))));
    none_open = none_stays m k l h g none taken same closed back;
  }

pub is_founded : LoneCallsAreSaved → (l : Memory) (d : Saved) (a : Answer) → StartsWith l (empty_store 0) → HasHistory l d → HasMadeAlone l 0 (answered founding_script a ∷ []) → IsFounded d
is_founded saved l d a starts history calls = record {
  store = last_store (empty_store 0) (founding_script ∷ []);
  holds = saved l 0 (answered founding_script a ∷ []) d calls history (empty_store 0) starts;
  money = refl;
}
