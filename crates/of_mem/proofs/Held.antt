-- What cells have of which some were set: a look-up, and what is set, at a place among them.
use Rattle.std.proofs.Common.{◌≡◌, ◌≢◌, ℕ, zero, suc, ◌<◌, List, [], ◌∷◌, ◌++◌, length, length-set, Option, None, get_or, set, refl, sym, ◌∙◌, ap, arith}
use Rattle.std.proofs.lemmas.List.{length-replicate, get_or-replicate, get_or-set_same, get_or-set_other, set-set, set_comm, set-get_or}
use Rattle.of_mem.specs.CellMap.{entry_address, IsAbsent, IsEntryFor}
use Rattle.of_mem.specs.WriteSet.{WriteSet, IsWriteSet}
use Rattle.of_mem.specs.TouchedCells.{cells_of, slots_of}
use Rattle.of_mem.proofs.Listed.{room_left}

module _ (part : Option ℕ × Option ℕ → Option ℕ) (n : ℕ) where
  pub slots_size : (es : List (ℕ × ℕ)) (hs : List (Option ℕ × Option ℕ)) → length (slots_of part n es hs) ≡ n
  slots_size [] hs = length-replicate {A = Option ℕ} n None
  slots_size (e ∷ es) [] = length-replicate {A = Option ℕ} n None
  slots_size (e ∷ es) (h ∷ hs) = length-set (slots_of part n es hs) e.0 (part h) ∙ slots_size es hs

  -- a cell that wasn't set has none
  pub none_set : (es : List (ℕ × ℕ)) (hs : List (Option ℕ × Option ℕ)) (a : ℕ) → IsAbsent es a → a < n → get_or (slots_of part n es hs) a None ≡ None
  none_set [] hs a absent l = get_or-replicate n a None None l
  none_set (e ∷ es) [] a absent l = get_or-replicate n a None None l
  none_set (e ∷ es) (h ∷ hs) a absent l = get_or-set_other (slots_of part n es hs) e.0 a (part h) None (λ q. absent 0 (omega arith) (sym q)) ∙ none_set es hs a (λ k m. absent (suc k) (omega arith)) l

  -- a cell that was set has what the first entry for it says
  pub first_set : (es : List (ℕ × ℕ)) (hs : List (Option ℕ × Option ℕ)) (a k : ℕ) (d : Option ℕ × Option ℕ) → length hs ≡ length es → k < length es → entry_address es k ≡ a → ((j : ℕ) → j < k → entry_address es j ≢ a) → a < n → get_or (slots_of part n es hs) a None ≡ part (get_or hs k d)
  first_set [] hs a k d s m q first l = absurd (omega arith)
  first_set (e ∷ es) [] a k d s m q first l = absurd (omega (arith, s))
  first_set (e ∷ es) (h ∷ hs) a zero d s m q first l = rw (← q) (get_or-set_same (slots_of part n es hs) e.0 (part h) None (omega (arith, slots_size es hs, q, l)))
  first_set (e ∷ es) (h ∷ hs) a (suc k) d s m q first l = get_or-set_other (slots_of part n es hs) e.0 a (part h) None (λ p. first 0 (omega arith) (sym p)) ∙ first_set es hs a k d (omega (arith, s)) (omega arith) q (λ j i. first (suc j) (omega arith)) l

  -- something else for a cell that was set
  pub set_again : (es : List (ℕ × ℕ)) (hs : List (Option ℕ × Option ℕ)) (a k : ℕ) (x : Option ℕ × Option ℕ) → length hs ≡ length es → k < length es → entry_address es k ≡ a → ((j : ℕ) → j < k → entry_address es j ≢ a) → slots_of part n es (set hs k x) ≡ set (slots_of part n es hs) a (part x)
  set_again [] hs a k x s m q first = absurd (omega arith)
  set_again (e ∷ es) [] a k x s m q first = absurd (omega (arith, s))
  set_again (e ∷ es) (h ∷ hs) a zero x s m q first = rw q (sym (set-set (slots_of part n es hs) a (part h) (part x)))
  set_again (e ∷ es) (h ∷ hs) a (suc k) x s m q first =
      ap (λ (xs : List (Option ℕ)). set xs e.0 (part h)) (set_again es hs a k x (omega (arith, s)) (omega arith) q (λ j i. first (suc j) (omega arith)))
      ∙ set_comm (slots_of part n es hs) a e.0 (part x) (part h) (λ p. first 0 (omega arith) (sym p))

  -- something for one that wasn't
  pub set_first : (es : List (ℕ × ℕ)) (hs : List (Option ℕ × Option ℕ)) (a v : ℕ) (x : Option ℕ × Option ℕ) → length hs ≡ length es → IsAbsent es a → slots_of part n (es ++ (a, v) ∷ []) (hs ++ x ∷ []) ≡ set (slots_of part n es hs) a (part x)
  set_first [] [] a v x s absent = refl
  set_first [] (h ∷ hs) a v x s absent = absurd (omega (arith, s))
  set_first (e ∷ es) [] a v x s absent = absurd (omega (arith, s))
  set_first (e ∷ es) (h ∷ hs) a v x s absent =
      ap (λ (xs : List (Option ℕ)). set xs e.0 (part h)) (set_first es hs a v x (omega (arith, s)) (λ k m. absent (suc k) (omega arith)))
      ∙ set_comm (slots_of part n es hs) a e.0 (part x) (part h) (λ p. absent 0 (omega arith) (sym p))

-- as many cells as there may be addresses
pub cells_size : (n : ℕ) (es : List (ℕ × ℕ)) (hs : List (Option ℕ × Option ℕ)) → length (cells_of n es hs).known ≡ n
cells_size n es hs = slots_size (λ (h : Option ℕ × Option ℕ). h.0) n es hs

-- The cells of an index and of what is held for each of its addresses.
module _ (w : WriteSet) (hs : List (Option ℕ × Option ℕ)) (map : IsWriteSet w) (size : length hs ≡ length w.entries) where
  -- an address that is absent
  module _ (a : ℕ) (absent : IsAbsent w.entries a) (inside : a < w.room) where
    pub known_none : get_or (cells_of w.room w.entries hs).known a None ≡ None
    known_none = none_set (λ (h : Option ℕ × Option ℕ). h.0) w.room w.entries hs a absent inside

    pub newest_none : get_or (cells_of w.room w.entries hs).newest a None ≡ None
    newest_none = none_set (λ (h : Option ℕ × Option ℕ). h.1) w.room w.entries hs a absent inside

    pub held_fits : length hs < w.room
    held_fits = omega (arith, size, room_left w.room w.entries a map.below map.once absent inside)

    pub both_first : (v : ℕ) (x : Option ℕ × Option ℕ) → cells_of w.room (w.entries ++ (a, v) ∷ []) (hs ++ x ∷ []) ≡ record { known = set (cells_of w.room w.entries hs).known a x.0; newest = set (cells_of w.room w.entries hs).newest a x.1 }
    both_first v x i = record {
      known = set_first (λ (h : Option ℕ × Option ℕ). h.0) w.room w.entries hs a v x size absent i;
      newest = set_first (λ (h : Option ℕ × Option ℕ). h.1) w.room w.entries hs a v x size absent i;
    }

    -- the known number of an absent one is none, and stays so
    pub newest_first : (v : ℕ) (o : Option ℕ) → cells_of w.room (w.entries ++ (a, v) ∷ []) (hs ++ (None, o) ∷ []) ≡ record (cells_of w.room w.entries hs) { newest = set (cells_of w.room w.entries hs).newest a o }
    newest_first v o =
        both_first v (None, o)
        ∙ ap (λ (xs : List (Option ℕ)). record { known = xs; newest = set (cells_of w.room w.entries hs).newest a o }) (ap (set (cells_of w.room w.entries hs).known a) (sym known_none) ∙ set-get_or (cells_of w.room w.entries hs).known a None)

  -- one that has an entry
  module _ (a k : ℕ) (f : IsEntryFor w.entries a k) where
    first : (j : ℕ) → j < k → entry_address w.entries j ≢ a
    first j m e = let s : j ≡ k = map.once j k (omega (arith, f.0)) f.0 (e ∙ sym f.1) in omega arith

    pub known_there : (d : Option ℕ × Option ℕ) → a < w.room → get_or (cells_of w.room w.entries hs).known a None ≡ (get_or hs k d).0
    known_there d inside = first_set (λ (h : Option ℕ × Option ℕ). h.0) w.room w.entries hs a k d size f.0 f.1 first inside

    pub newest_there : (d : Option ℕ × Option ℕ) → a < w.room → get_or (cells_of w.room w.entries hs).newest a None ≡ (get_or hs k d).1
    newest_there d inside = first_set (λ (h : Option ℕ × Option ℕ). h.1) w.room w.entries hs a k d size f.0 f.1 first inside

    pub both_again : (x : Option ℕ × Option ℕ) → cells_of w.room w.entries (set hs k x) ≡ record { known = set (cells_of w.room w.entries hs).known a x.0; newest = set (cells_of w.room w.entries hs).newest a x.1 }
    both_again x i = record {
      known = set_again (λ (h : Option ℕ × Option ℕ). h.0) w.room w.entries hs a k x size f.0 f.1 first i;
      newest = set_again (λ (h : Option ℕ × Option ℕ). h.1) w.room w.entries hs a k x size f.0 f.1 first i;
    }

    -- what is held alone changes
    pub newest_again : (d : Option ℕ × Option ℕ) (o : Option ℕ) → a < w.room → cells_of w.room w.entries (set hs k ((get_or hs k d).0, o)) ≡ record (cells_of w.room w.entries hs) { newest = set (cells_of w.room w.entries hs).newest a o }
    newest_again d o inside =
        both_again ((get_or hs k d).0, o)
        ∙ ap (λ (xs : List (Option ℕ)). record { known = xs; newest = set (cells_of w.room w.entries hs).newest a o }) (ap (set (cells_of w.room w.entries hs).known a) (sym (known_there d inside)) ∙ set-get_or (cells_of w.room w.entries hs).known a None)
