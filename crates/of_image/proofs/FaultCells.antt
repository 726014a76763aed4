-- The first cell at fault is a data cell.
use Rattle.std.proofs.Common.{◌≡◌, ℕ, ◌+◌, ◌*◌, ◌<◌, ◌≤◌, List, [], ◌∷◌, sym, subst, arith}
use Rattle.std.specs.List.{AllByRecursion as Each}
use Rattle.std.proofs.lemmas.Nat.{mul-add-lt}
use Rattle.of_mem.specs.Places.{base_of, cells_at, fresh_at}
use Rattle.of_mem.specs.Stores.{front_at, link_at, cell_after}
use Rattle.of_mem.proofs.Heaps.{front_below}
use Rattle.of_eval.specs.Faults.{OwnFault, HasPassed, ChainFault, CountFault, IsFirstFault}
use Rattle.of_eval.specs.Faults.OwnFault.{Left, NoShape, GreatReply}
use Rattle.of_eval.specs.Faults.ChainFault.{Pointer, Key, Value, Item}
use Rattle.of_eval.specs.Faults.CountFault.{Keys, Tail, Length}
use Rattle.of_eval.specs.Faults.IsFirstFault.{Own, Register, Fresh, Chain, Count, Lost}

-- a caller's own cells
own_below : (callers instrs c x : ℕ) → c < callers → x < instrs + 2 → c * (instrs + 2) + x < callers * (instrs + 2)
own_below callers instrs c x l k = omega (arith, mul-add-lt c (instrs + 2) x callers l k)

own_fault : (callers instrs c cell : ℕ) (m : ℕ → ℕ) → c < callers → OwnFault instrs m c cell → cell < base_of callers instrs
own_fault callers instrs c cell m l (Left none some e) = omega (arith, e, own_below callers instrs c 1 l (omega arith))
own_fault callers instrs c cell m l (NoShape some none e) = omega (arith, e, own_below callers instrs c 1 l (omega arith))
own_fault callers instrs c cell m l (GreatReply some r shape j below has before bad e) =
    omega (arith, e, own_below callers instrs c (2 + j) l (let few = shape.few in omega arith))

-- the pointer cell behind blocks
after_below : (o blocks cell : ℕ) (bs : List ℕ) → cell < cells_at o blocks → Each (λ b. b < blocks) bs → cell_after o cell bs < cells_at o blocks
after_below o blocks cell [] l h = l
after_below o blocks cell (b ∷ bs) l h = after_below o blocks (link_at o b) bs (omega (arith, h.0)) h.1

each_below : (fresh blocks c : ℕ) (owner : ℕ → ℕ) (bs : List ℕ) → fresh ≤ blocks → Each (λ b. (b < fresh) × (owner b ≡ c)) bs → Each (λ b. b < blocks) bs
each_below fresh blocks c owner [] l h = tt
each_below fresh blocks c owner (b ∷ bs) l h = (omega (arith, h.0.0), each_below fresh blocks c owner bs l h.1)

chain_fault : (o blocks n cell : ℕ) (m : ℕ → ℕ) (chains : ℕ → List ℕ) → m (fresh_at o) ≤ blocks → HasPassed o blocks m n chains → ChainFault o blocks m n chains cell → cell < cells_at o blocks
chain_fault o blocks n cell m chains few p (Pointer l b leads bad e) =
    subst (λ (x : ℕ). x < cells_at o blocks) (sym e) (after_below o blocks (front_at o blocks n) (chains n) (front_below o blocks n l).1 (each_below (m (fresh_at o)) blocks n p.owner (chains n) few (p.owned n)))
chain_fault o blocks n cell m chains few p (Key k b l is on bad e) = omega (arith, e, on.below, few)
chain_fault o blocks n cell m chains few p (Value k b l is on right bad e) = omega (arith, e, on.below, few)
chain_fault o blocks n cell m chains few p (Item q b l is on bad e) = omega (arith, e, on.below, few)

count_fault : (o blocks n cell : ℕ) (m : ℕ → ℕ) (chains : ℕ → List ℕ) → CountFault o blocks m n chains cell → cell < cells_at o blocks
count_fault o blocks n cell m chains (Keys is bad e) = omega (arith, e)
count_fault o blocks n cell m chains (Tail q l is bad e) = omega (arith, e)
count_fault o blocks n cell m chains (Length q l is right bad e) = omega (arith, e)

pub fault_below : (callers instrs blocks cell : ℕ) (m : ℕ → ℕ) → IsFirstFault callers instrs blocks m cell → cell < cells_at (base_of callers instrs) blocks
fault_below callers instrs blocks cell m (Own c l before f) = omega (arith, own_fault callers instrs c cell m l f)
fault_below callers instrs blocks cell m (Register own r l before bad e) = omega (arith, e)
fault_below callers instrs blocks cell m (Fresh own registers bad e) = omega (arith, e)
fault_below callers instrs blocks cell m (Chain b n chains p c f) = chain_fault (base_of callers instrs) blocks n cell m chains b.few p f
fault_below callers instrs blocks cell m (Count b n chains p c start f) = count_fault (base_of callers instrs) blocks (1 + n) cell m chains f
fault_below callers instrs blocks cell m (Lost b chains p c start bad e) = omega (arith, e)
