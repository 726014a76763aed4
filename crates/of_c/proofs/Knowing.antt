-- A memory from which no caller is taken knows what it knew, and so does what is held.
use Rattle.std.proofs.Common.{◌≡◌, ◌∙◌, ap, ℕ, get_or, Option, Some, None, refl, sym, subst}
use Rattle.of_memory.specs.declared.memory.Memory.{Memory as TheMemory}
use Rattle.of_memory.specs.Memories.{IsStill, TakesNone, RemembersAll, HasOrderOf}
use Rattle.of_memory.specs.Tasks.{KnowsSame}
use Rattle.of_c.specs.declared.held.Home.{Home}
use Rattle.of_c.specs.declared.held.Held.{Held}
use Rattle.of_c.specs.declared.held.Held.TheVariants.{Nothing, Memory, Caller, Lost, Saved}
use Rattle.of_memory.specs.Lost.{EvictsRequest, EvictsNone}
use Rattle.of_c.specs.Causes.{KnowsAll, KeepsHeld, KeepsSlot}
use Rattle.of_c.specs.Losses.{IsHeldEvicted}

knows_same : (n : ℕ) (m k : TheMemory) → get_or k.cells.callers.items n None ≡ get_or m.cells.callers.items n None → KnowsSame n m k
knows_same n m k is = record {
  made = λ ms has. record { ended = has.ended; here = record { caller = has.here.caller; here = is ∙ has.here.here; made = has.here.made }; made = has.made };
  only = λ ms has. record { ended = has.ended; here = record { caller = has.here.caller; here = sym is ∙ has.here.here; made = has.here.made }; made = has.made };
  open_call = λ script has. record { is = has.is; opened = record { caller = has.opened.caller; here = is ∙ has.opened.here; opened = has.opened.opened } };
  only_open = λ script has. record { is = has.is; opened = record { caller = has.opened.caller; here = sym is ∙ has.opened.here; opened = has.opened.opened } };
}

keeps_order : (m k : TheMemory) → IsStill m k → TakesNone m k → (j n x i y : ℕ) → HasOrderOf m j n x i y → HasOrderOf k j n x i y
keeps_order m k still none j n x i y has = record {
  caller = has.caller;
  here = ap (λ items. get_or items j None) none ∙ has.here;
  order = rw (sym still) at has.order;
}

knows_all : (m k : TheMemory) → IsStill m k → TakesNone m k → RemembersAll m k → KnowsAll m k
knows_all m k still none remembers = record {
  still = still;
  none = none;
  knows = λ n. knows_same n m k (λ i. get_or (none i) n None);
  orders = keeps_order m k still none;
  remembers = remembers;
}

pub keeps_memory : (before : Held) (home now : Home) → before ≡ Memory home → IsStill home.memory now.memory → TakesNone home.memory now.memory → RemembersAll home.memory now.memory → KeepsHeld before (Memory now)
keeps_memory before home now is still none remembers =
    subst (λ (h : Held). KeepsHeld h (Memory now)) (sym is) (record { memory = now.memory; is = refl; so = knows_all home.memory now.memory still none remembers })

pub keeps_held : (h : Held) → KeepsHeld h h
keeps_held Nothing = refl
keeps_held (Memory home) = record { memory = home.memory; is = refl; so = knows_all home.memory home.memory refl refl (λ n count heard. heard) }
keeps_held (Caller s) = refl
keeps_held (Lost v) = refl
keeps_held (Saved d) = refl

-- what isn't touched stays
pub keeps_slot : (held : Option Held) → KeepsSlot held held
keeps_slot None = refl
keeps_slot (Some h) = keeps_held h

-- a memory that is held has evicted a request
pub evicts_held : (n : ℕ) (before : Held) (home now : Home) → before ≡ Memory home → EvictsRequest n home.memory now.memory → EvictsNone n home.memory now.memory → IsHeldEvicted n (Some before) (Some (Memory now))
evicts_held n before home now is evicted same =
    subst (λ (h : Held). IsHeldEvicted n (Some h) (Some (Memory now))) (sym is) (record { memory = home.memory; was = refl; next = now.memory; is = refl; evicted = evicted; same = same })
