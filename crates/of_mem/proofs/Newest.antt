-- What each cell holds, where a number is learnt, written, kept or undone.
use Rattle.std.proofs.Common.{◌≡◌, ℕ, suc, ◌+◌, ◌<◌, ◌==◌, Bool, true, false, if◌then◌else◌, List, [], ◌∷◌, length, Option, Some, None, get_or, set, drop, refl, sym, subst, ◌∙◌, ap, arith, length-set, ◌⊎◌, inl, inr}
use Rattle.std.proofs.lemmas.Bool.{cases_eq, eq-eqb}
use Rattle.std.proofs.lemmas.Bool.Decides.{nat_tests}
use Rattle.std.proofs.lemmas.List.{drop_more, get_or-drop, length-drop, get_or-set_same, get_or-set_other}
use Rattle.std.specs.Option.{option_or}
use Rattle.std.proofs.lemmas.Bool.{ne_eqb as differs}
use Rattle.of_mem.specs.CellMap.{value_for, put_pair, put_all, entry_address, IsAbsent}
use Rattle.of_mem.specs.WriteSet.{WriteSet, IsWriteSet}
use Rattle.of_mem.specs.Part.{Part, newest_at, newer_of, learn, write, keep}
use Rattle.of_mem.specs.Newest.{HasNewest, part_of, HoldsNewest}
use Rattle.of_mem.specs.TouchedCells.{TouchedCells, Meets}
use Rattle.of_mem.proofs.WriteSets.{value_at_put, value_at-absent}

-- the older of two lists of pairs has no address twice
absent_behind : (p : WriteSet) (i : ℕ) → IsWriteSet p → i < length p.entries → IsAbsent (drop (i + 1) p.entries) (entry_address p.entries i)
absent_behind p i h l k m e =
    let size : length (drop (i + 1) p.entries) + (i + 1) ≡ length p.entries = omega (arith, length-drop (i + 1) p.entries) in
    let there : entry_address p.entries (i + 1 + k) ≡ entry_address p.entries i = ap (λ (x : ℕ × ℕ). x.0) (sym (get_or-drop (i + 1) p.entries k (0, 0))) ∙ e in
    let same : i + 1 + k ≡ i = h.once (i + 1 + k) i (omega (arith, size, m)) l there in
    omega (arith, same)

-- what the numbers of one script over a batch make of the batch
value_at_put_all : (ds es : List (ℕ × ℕ)) (a : ℕ) → ((j k : ℕ) → j < length es → k < length es → entry_address es j ≡ entry_address es k → j ≡ k)
    → value_for (put_all ds es) a ≡ newer_of (value_for es a) (value_for ds a)
value_at_put_all ds [] a once = refl
value_at_put_all ds (e ∷ es) a once = value_at_put_all (put_pair ds e.0 e.1) es a rest ∙ ap (newer_of (value_for es a)) (value_at_put ds e.0 e.1 a) ∙ go (e.0 == a) refl
  where
    rest : (j k : ℕ) → j < length es → k < length es → entry_address es j ≡ entry_address es k → j ≡ k
    rest j k l m q = let s : suc j ≡ suc k = once (suc j) (suc k) (omega arith) (omega arith) q in omega arith

    absent : e.0 ≡ a → IsAbsent es a
    absent q k l r = let s : 0 ≡ suc k = once 0 (suc k) (omega arith) (omega arith) (q ∙ sym r) in omega arith

    go : (t : Bool) → (e.0 == a) ≡ t → newer_of (value_for es a) (if t then Some e.1 else value_for ds a) ≡ newer_of (if t then Some e.1 else value_for es a) (value_for ds a)
    go true q = ap (λ (x : Option ℕ). newer_of x (Some e.1)) (value_at-absent es a (absent (grind (arith, nat_tests))))
    go false q = refl

-- what is learnt shows where neither batch nor script has a number
newest_learnt : (p : Part) (cells : List (Option ℕ)) (a v : ℕ) → a < length p.known → HasNewest p cells
    → HasNewest (learn p a v) (set cells a (option_or (option_or (value_for p.script a) (value_for p.batch a)) (Some v)))
unfolding newest_at
newest_learnt p cells a v l h = record {
  size = length-set cells a _ ∙ h.size ∙ sym (length-set p.known a (Some v));
  at = λ b m. at b (rw (← length-set p.known a (Some v)) m) (cases_eq b a);
}
  where
    held : Option ℕ
    held = option_or (option_or (value_for p.script a) (value_for p.batch a)) (Some v)

    same : (o q : Option ℕ) → option_or (option_or o q) (Some v) ≡ newer_of o (newer_of q (Some v))
    same None None = refl
    same None (Some w) = refl
    same (Some w) q = refl

    at : (b : ℕ) → b < length p.known → (b ≡ a) ⊎ (b ≡ a → ⊥) → get_or (set cells a held) b None ≡ newer_of (value_for p.script b) (newer_of (value_for p.batch b) (get_or (set p.known a (Some v)) b None))
    at b m (inl q) = rw (q, get_or-set_same p.known a (Some v) None l) (get_or-set_same cells a held None (omega (arith, h.size, l)) ∙ same (value_for p.script a) (value_for p.batch a))
    at b m (inr n) = rw (get_or-set_other p.known a b (Some v) None n) (get_or-set_other cells a b held None n ∙ h.at b m)

pub cells_learnt : (c : TouchedCells) (b s : WriteSet) (a v : ℕ) → a < length c.known → HoldsNewest c b s
    → HoldsNewest (record { known = set c.known a (Some v); newest = set c.newest a (option_or (option_or (value_for s.entries a) (value_for b.entries a)) (Some v)) }) b s
cells_learnt c b s a v l h =
    let size = sym (length-set c.known a (Some v)) in
    record {
      batch = h.batch ∙ size;
      script = h.script ∙ size;
      newest = newest_learnt (part_of c b s) c.newest a v l h.newest;
    }

-- a cell that had no number holds the one that it gets
pub cells_met : (c d : TouchedCells) (b s : WriteSet) (a v : ℕ) → a < length c.known → Meets c d a v true → HoldsNewest c b s → HoldsNewest d b s
unfolding newest_at
cells_met c d b s a v l m h = rw m.2 (subst (λ (o : Option ℕ). HoldsNewest (record { known = set c.known a (Some v); newest = set c.newest a o }) b s) here (cells_learnt c b s a v l h))
  where
    first : (o q r : Option ℕ) → newer_of o (newer_of q r) ≡ None → option_or (option_or o q) (Some v) ≡ Some v
    first None None r e = refl
    first None (Some w) r e = cc
    first (Some w) q r e = cc

    here : option_or (option_or (value_for s.entries a) (value_for b.entries a)) (Some v) ≡ Some v
    here = first (value_for s.entries a) (value_for b.entries a) (get_or c.known a None) (sym (h.newest.at a l) ∙ m.1)

pub newest_wrote : (p : Part) (cells : List (Option ℕ)) (a v : ℕ) → a < length p.known → HasNewest p cells → HasNewest (write p a v) (set cells a (Some v))
unfolding newest_at write
newest_wrote p cells a v l h = record { size = length-set cells a (Some v) ∙ h.size; at = λ b m. at b m (cases_eq b a) }
  where
    at : (b : ℕ) → b < length p.known → (b ≡ a) ⊎ (b ≡ a → ⊥) → get_or (set cells a (Some v)) b None ≡ newer_of (value_for (put_pair p.script a v) b) (newer_of (value_for p.batch b) (get_or p.known b None))
    at b m (inl q) = rw (q, value_at_put p.script a v a, eq-eqb a a refl) (get_or-set_same cells a (Some v) None (omega (arith, h.size, l)))
    at b m (inr n) = rw (value_at_put p.script a v b, differs a b (λ q. n (sym q))) (get_or-set_other cells a b (Some v) None n ∙ h.at b m)

pub newest_kept : (p : Part) (room : ℕ) (cells : List (Option ℕ)) → IsWriteSet (record { room = room; entries = p.script }) → HasNewest p cells → HasNewest (keep p) cells
unfolding newest_at
newest_kept p room cells m h = record {
  size = h.size;
  at = λ a l. h.at a l ∙ sym (ap (λ (o : Option ℕ). newer_of o (get_or p.known a None)) (value_at_put_all p.batch p.script a m.once) ∙ one (value_for p.script a) (value_for p.batch a) (get_or p.known a None));
}
  where
    one : (o q r : Option ℕ) → newer_of (newer_of o q) r ≡ newer_of o (newer_of q r)
    one None q r = refl
    one (Some w) q r = refl

-- without the first of the script's numbers
pub newest_undone : (p : Part) (room : ℕ) (cells : List (Option ℕ)) (i : ℕ) → IsWriteSet (record { room = room; entries = p.script }) → i < length p.script → entry_address p.script i < length p.known
    → HasNewest (record p { script = drop i p.script }) cells
    → HasNewest (record p { script = drop (i + 1) p.script }) (set cells (entry_address p.script i) (option_or (value_for p.batch (entry_address p.script i)) (get_or p.known (entry_address p.script i) None)))
unfolding newest_at
newest_undone p room cells i m l below h = record { size = length-set cells x _ ∙ h.size; at = λ a k. at a k (cases_eq a x) }
  where
    x : ℕ
    x = entry_address p.script i

    held : Option ℕ
    held = option_or (value_for p.batch x) (get_or p.known x None)

    same : (o q : Option ℕ) → option_or o q ≡ newer_of o q
    same None q = refl
    same (Some w) q = refl

    at : (a : ℕ) → a < length p.known → (a ≡ x) ⊎ (a ≡ x → ⊥) → get_or (set cells x held) a None ≡ newer_of (value_for (drop (i + 1) p.script) a) (newer_of (value_for p.batch a) (get_or p.known a None))
    at a k (inl q) = rw (q, value_at-absent (drop (i + 1) p.script) x (absent_behind (record { room = room; entries = p.script }) i m l)) (get_or-set_same cells x held None (omega (arith, h.size, below)) ∙ same (value_for p.batch x) (get_or p.known x None))
    at a k (inr n) = get_or-set_other cells x a held None n ∙ h.at a k ∙ ap (λ (o : Option ℕ). newer_of o (newer_of (value_for p.batch a) (get_or p.known a None))) later
      where
        later : value_for (drop i p.script) a ≡ value_for (drop (i + 1) p.script) a
        later = ap (λ (xs : List (ℕ × ℕ)). value_for xs a) (drop_more p.script i (0, 0) l) ∙ rw (differs x a (λ q. n (sym q))) refl
