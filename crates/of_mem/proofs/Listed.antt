-- What a write-set keeps when an entry comes and its number is noted at its home, or gets another number.
use Rattle.std.proofs.Common.{◌≡◌, ◌≢◌, ℕ, suc, ◌+◌, ◌<◌, ◌≤◌, ◌⊎◌, inl, inr, ◌==◌, eqb, true, ◌%◌, Bool, if◌then◌else◌, List, [], ◌∷◌, ◌++◌, length, map, Some, get_or, set, refl, sym, ◌∙◌, ap, arith, length-append, length-set}
use Rattle.std.specs.List.{list_any, Any, AllPairs}
use Rattle.std.proofs.lemmas.Map.Steps.{length-le_from_distinct_below}
use Rattle.std.proofs.lemmas.Map.Made.{IsDistinct-from_AllPairs}
use Rattle.std.proofs.lemmas.List.Folds.{Any-from_list_any}
use Rattle.std.proofs.lemmas.Bool.Decides.{Decides-eqb, nat_tests}
use Rattle.std.proofs.lemmas.Bool.{cases_eq, eq-eqb as equals, ne_eqb as differs}
use Rattle.std.proofs.lemmas.List.{get_or-map, length-map, get_or_append_left, get_or_push, get_or-set_same, get_or-set_other}
use Rattle.of_mem.specs.CellMap.{value_for, put_pair, entry_address, IsAbsent, IsEntryFor}
use Rattle.of_mem.specs.WriteSet.{IsWriteSet}
use Rattle.of_mem.specs.Chains.{IsChained, note_at, latest}
use Rattle.std.proofs.lemmas.List.{map-append, map-set}
use Rattle.std.proofs.Math.Seq.{map-set_same}
use Rattle.of_mem.specs.declared.index.Entry.{Entry}
use Rattle.of_mem.specs.Chains.{pairs_of, olders_of}
use Rattle.of_mem.proofs.Chains.{no_entry, address_is, latest_same}
use Rattle.of_mem.proofs.WriteSets.{value_at-here, put-here}

-- of different addresses below n there are at most n
few_addresses : (es : List (ℕ × ℕ)) (n : ℕ) → ((k : ℕ) → k < length es → entry_address es k < n) → ((j k : ℕ) → j < length es → k < length es → entry_address es j ≡ entry_address es k → j ≡ k) → length es ≤ n
few_addresses es n below once = rw (← size) (length-le_from_distinct_below xs n (IsDistinct-from_AllPairs Decides-eqb xs apart) within)
  where
    xs : List ℕ
    xs = map (λ (e : ℕ × ℕ). e.0) es

    size : length xs ≡ length es
    size = length-map es (λ (e : ℕ × ℕ). e.0)

    at_x : (k d : ℕ) → k < length es → get_or xs k d ≡ entry_address es k
    at_x k d l = get_or-map (λ (e : ℕ × ℕ). e.0) es k (0, 0) d l

    apart : AllPairs (λ x y. x ≢ y) xs
    apart j k d l m q =
        let mk : k < length es = omega (arith, size) in
        let e : j ≡ k = once j k (omega arith) mk (sym (at_x j d (omega arith)) ∙ q ∙ at_x k d mk) in
        omega arith

    within : (q : ℕ) → list_any (eqb q) xs ≡ true → q < n
    within q e =
        let f : Any (λ (x : ℕ). eqb q x ≡ true) xs = Any-from_list_any (eqb q) xs e in
        let mk : f.0 < length es = omega (arith, size, f.2) in
        let same : q ≡ f.1 = grind (arith, nat_tests, f.4) in
        let here : entry_address es f.0 ≡ f.1 = sym (at_x f.0 f.1 mk) ∙ f.3 in
        omega (arith, below f.0 mk)

-- there was room for one more
pub room_left : (room : ℕ) (es : List (ℕ × ℕ)) (a : ℕ) → ((k : ℕ) → k < length es → entry_address es k < room) → ((j k : ℕ) → j < length es → k < length es → entry_address es j ≡ entry_address es k → j ≡ k) → IsAbsent es a → a < room → length es < room
room_left room es a below once absent inside = omega (arith, size, few_addresses (es ++ (a, 0) ∷ []) room (λ k m. below' k (cases_eq k (length es)) m) (λ j k l m q. once' j k (cases_eq j (length es)) (cases_eq k (length es)) l m q))
  where
    size : length (es ++ (a, 0) ∷ []) ≡ suc (length es)
    size = length-append es ((a, 0) ∷ []) ∙ omega arith

    old : (k : ℕ) → k < length es → entry_address (es ++ (a, 0) ∷ []) k ≡ entry_address es k
    old k l = ap (λ (e : ℕ × ℕ). e.0) (get_or_append_left es ((a, 0) ∷ []) (0, 0) k l)

    new : (k : ℕ) → k ≡ length es → entry_address (es ++ (a, 0) ∷ []) k ≡ a
    new k e = ap (λ (e : ℕ × ℕ). e.0) (get_or_push es (a, 0) (0, 0) k (sym e))

    below' : (k : ℕ) → (k ≡ length es) ⊎ (k ≢ length es) → k < length (es ++ (a, 0) ∷ []) → entry_address (es ++ (a, 0) ∷ []) k < room
    below' k (inl e) m = rw (new k e) inside
    below' k (inr d) m = let s : k < length es = omega (arith, size) in rw (old k s) (below k s)

    once' : (j k : ℕ) → (j ≡ length es) ⊎ (j ≢ length es) → (k ≡ length es) ⊎ (k ≢ length es) → j < length (es ++ (a, 0) ∷ []) → k < length (es ++ (a, 0) ∷ []) → entry_address (es ++ (a, 0) ∷ []) j ≡ entry_address (es ++ (a, 0) ∷ []) k → j ≡ k
    once' j k (inl e) (inl f) l m q = e ∙ sym f
    once' j k (inl e) (inr f) l m q = let s : k < length es = omega (arith, size) in absurd (absent k s (sym (old k s) ∙ sym q ∙ new j e))
    once' j k (inr e) (inl f) l m q = let s : j < length es = omega (arith, size) in absurd (absent j s (sym (old j s) ∙ q ∙ new k f))
    once' j k (inr e) (inr f) l m q =
        let s : j < length es = omega (arith, size) in
        let t : k < length es = omega (arith, size) in
        once j k s t (sym (old j s) ∙ q ∙ old k t)

module _ (homes room : ℕ) (es : List (ℕ × ℕ)) (os fs : List ℕ) (capacity : ℕ) (h : IsChained homes room es os fs capacity) where
  pub few : length es ≤ room
  few = few_addresses es room h.below h.once

  pub is_write_set : IsWriteSet (record { room = room; entries = es })
  is_write_set = record { once = h.once; below = h.below; few = few; room = h.fits }

  module _ (a k : ℕ) (f : IsEntryFor es a k) where
    first : (j : ℕ) → j < k → entry_address es j ≢ a
    first j m e = let s : j ≡ k = h.once j k (omega (arith, f.0)) f.0 (e ∙ sym f.1) in omega arith

    pub value_at-found : value_for es a ≡ Some (get_or es k (0, 0)).1
    value_at-found = value_at-here es a k f.0 f.1 first

    pub put-found : (v : ℕ) → put_pair es a v ≡ set es k (a, v)
    put-found v = put-here es a v k f.0 f.1 first

-- an entry more, whose number is noted at its home
module _ (homes room : ℕ) (es : List (ℕ × ℕ)) (os fs : List ℕ) (capacity a v : ℕ) (h : IsChained homes room es os fs capacity) (absent : IsAbsent es a) (inside : a < room) (home : a % homes < homes) where
  abbrev pub gs : List ℕ
  gs = set fs (a % homes) (length es + 1)

  size : length (es ++ (a, v) ∷ []) ≡ suc (length es)
  size = length-append es ((a, v) ∷ []) ∙ omega arith

  old : (k : ℕ) → k < length es → entry_address (es ++ (a, v) ∷ []) k ≡ entry_address es k
  old k l = ap (λ (e : ℕ × ℕ). e.0) (get_or_append_left es ((a, v) ∷ []) (0, 0) k l)

  new : (k : ℕ) → k ≡ length es → entry_address (es ++ (a, v) ∷ []) k ≡ a
  new k e = ap (λ (e : ℕ × ℕ). e.0) (get_or_push es (a, v) (0, 0) k (sym e))

  below : (k : ℕ) → (k ≡ length es) ⊎ (k ≢ length es) → k < length (es ++ (a, v) ∷ []) → entry_address (es ++ (a, v) ∷ []) k < room
  below k (inl e) m = rw (new k e) inside
  below k (inr d) m = let s : k < length es = omega (arith, size) in rw (old k s) (h.below k s)

  once : (j k : ℕ) → (j ≡ length es) ⊎ (j ≢ length es) → (k ≡ length es) ⊎ (k ≢ length es) → j < length (es ++ (a, v) ∷ []) → k < length (es ++ (a, v) ∷ []) → entry_address (es ++ (a, v) ∷ []) j ≡ entry_address (es ++ (a, v) ∷ []) k → j ≡ k
  once j k (inl e) (inl f) l m q = e ∙ sym f
  once j k (inl e) (inr f) l m q = let s : k < length es = omega (arith, size) in absurd (absent k s (sym (old k s) ∙ sym q ∙ new j e))
  once j k (inr e) (inl f) l m q = let s : j < length es = omega (arith, size) in absurd (absent j s (sym (old j s) ∙ q ∙ new k f))
  once j k (inr e) (inr f) l m q =
      let s : j < length es = omega (arith, size) in
      let t : k < length es = omega (arith, size) in
      h.once j k s t (sym (old j s) ∙ q ∙ old k t)

  -- the last entry of a home
  last : (x : ℕ) → latest homes (es ++ (a, v) ∷ []) x (length (es ++ (a, v) ∷ [])) ≡ (if a % homes == x then suc (length es) else latest homes es x (length es))
  last x =
      ap (latest homes (es ++ (a, v) ∷ []) x) size
      ∙ ap (λ (b : ℕ). if b % homes == x then suc (length es) else latest homes (es ++ (a, v) ∷ []) x (length es)) (new (length es) refl)
      ∙ ap (λ (y : ℕ). if a % homes == x then suc (length es) else y) (latest_same homes es (es ++ (a, v) ∷ []) x (length es) old)

  one : length es + 1 ≡ suc (length es)
  one = omega arith

  here : latest homes (es ++ (a, v) ∷ []) (a % homes) (length (es ++ (a, v) ∷ [])) ≡ suc (length es)
  here = last (a % homes) ∙ ap (λ (b : Bool). if b then suc (length es) else latest homes es (a % homes) (length es)) (equals (a % homes) (a % homes) refl)

  elsewhere : (x : ℕ) → x ≢ a % homes → latest homes (es ++ (a, v) ∷ []) x (length (es ++ (a, v) ∷ [])) ≡ latest homes es x (length es)
  elsewhere x d = last x ∙ ap (λ (b : Bool). if b then suc (length es) else latest homes es x (length es)) (differs (a % homes) x (λ q. d (sym q)))

  fronts : (x : ℕ) → (x ≡ a % homes) ⊎ (x ≢ a % homes) → (latest homes es x (length es) ≡ 0) ⊎ (note_at fs x ≡ latest homes es x (length es)) → (latest homes (es ++ (a, v) ∷ []) x (length (es ++ (a, v) ∷ [])) ≡ 0) ⊎ (note_at gs x ≡ latest homes (es ++ (a, v) ∷ []) x (length (es ++ (a, v) ∷ [])))
  fronts x (inl e) z = inr (rw e (get_or-set_same fs (a % homes) (length es + 1) 0 (omega (arith, h.homes_noted, home)) ∙ one ∙ sym here))
  fronts x (inr d) (inl z) = inl (elsewhere x d ∙ z)
  fronts x (inr d) (inr z) = inr (get_or-set_other fs (a % homes) x (length es + 1) 0 d ∙ z ∙ sym (elsewhere x d))

  chains : (k : ℕ) → (k ≡ length es) ⊎ (k ≢ length es) → k < length (es ++ (a, v) ∷ []) → note_at (os ++ latest homes es (a % homes) (length es) ∷ []) k ≡ latest homes (es ++ (a, v) ∷ []) (entry_address (es ++ (a, v) ∷ []) k % homes) k
  chains k (inl e) l =
      get_or_push os (latest homes es (a % homes) (length es)) 0 k (h.linked ∙ sym e)
      ∙ ap (latest homes es (a % homes)) (sym e)
      ∙ sym (ap (λ (b : ℕ). latest homes (es ++ (a, v) ∷ []) (b % homes) k) (new k e) ∙ latest_same homes es (es ++ (a, v) ∷ []) (a % homes) k (λ j m. old j (omega (arith, e))))
  chains k (inr d) l =
      let s : k < length es = omega (arith, size) in
      get_or_append_left os (latest homes es (a % homes) (length es) ∷ []) 0 k (omega (arith, h.linked))
      ∙ h.chains k s
      ∙ sym (ap (λ (b : ℕ). latest homes (es ++ (a, v) ∷ []) (b % homes) k) (old k s) ∙ latest_same homes es (es ++ (a, v) ∷ []) (entry_address es k % homes) k (λ j m. old j (omega arith)))

  pub pair_written : (c : ℕ) → capacity ≤ c → IsChained homes room (es ++ (a, v) ∷ []) (os ++ latest homes es (a % homes) (length es) ∷ []) gs c
  pair_written c more = record {
    fits = h.fits;
    spare = omega (arith, h.spare);
    homes_noted = length-set fs (a % homes) (length es + 1) ∙ h.homes_noted;
    linked = length-append os (latest homes es (a % homes) (length es) ∷ []) ∙ omega (arith, h.linked, size);
    below = λ k m. below k (cases_eq k (length es)) m;
    once = λ j k l m q. once j k (cases_eq j (length es)) (cases_eq k (length es)) l m q;
    fronts = λ x l. fronts x (cases_eq x (a % homes)) (h.fronts x l);
    chains = λ k l. chains k (cases_eq k (length es)) l;
  }

-- an entry with another value
module _ (homes room : ℕ) (es : List (ℕ × ℕ)) (os fs : List ℕ) (capacity a v k : ℕ) (h : IsChained homes room es os fs capacity) (f : IsEntryFor es a k) where
  kept_size : length (set es k (a, v)) ≡ length es
  kept_size = length-set es k (a, v)

  kept : (j : ℕ) → entry_address (set es k (a, v)) j ≡ entry_address es j
  kept j = go (cases_eq j k)
    where
      go : (j ≡ k) ⊎ (j ≢ k) → entry_address (set es k (a, v)) j ≡ entry_address es j
      go (inl e) = rw e (ap (λ (x : ℕ × ℕ). x.0) (get_or-set_same es k (a, v) (0, 0) f.0) ∙ sym f.1)
      go (inr d) = ap (λ (x : ℕ × ℕ). x.0) (get_or-set_other es k j (a, v) (0, 0) d)

  kept_last : (x : ℕ) → latest homes (set es k (a, v)) x (length (set es k (a, v))) ≡ latest homes es x (length es)
  kept_last x = ap (latest homes (set es k (a, v)) x) kept_size ∙ latest_same homes es (set es k (a, v)) x (length es) (λ j l. kept j)

  kept_front : (x : ℕ) → (latest homes es x (length es) ≡ 0) ⊎ (note_at fs x ≡ latest homes es x (length es)) → (latest homes (set es k (a, v)) x (length (set es k (a, v))) ≡ 0) ⊎ (note_at fs x ≡ latest homes (set es k (a, v)) x (length (set es k (a, v))))
  kept_front x (inl z) = inl (kept_last x ∙ z)
  kept_front x (inr z) = inr (z ∙ sym (kept_last x))

  pub pair_changed : IsChained homes room (set es k (a, v)) os fs capacity
  pair_changed = record {
    fits = h.fits;
    spare = h.spare;
    homes_noted = h.homes_noted;
    linked = h.linked ∙ sym kept_size;
    below = λ j l. rw (kept j) (h.below j (omega (arith, l, kept_size)));
    once = λ i j l m q. h.once i j (omega (arith, l, kept_size)) (omega (arith, m, kept_size)) (sym (kept i) ∙ q ∙ kept j);
    fronts = λ x l. kept_front x (h.fronts x l);
    chains = λ j l. h.chains j (omega (arith, l, kept_size)) ∙ sym (ap (λ (b : ℕ). latest homes (set es k (a, v)) (b % homes) j) (kept j) ∙ latest_same homes es (set es k (a, v)) (entry_address es j % homes) j (λ i m. kept i));
  }

-- the same of the entries themselves
module _ (homes room : ℕ) (es : List Entry) (fs : List ℕ) (capacity a v : ℕ) (h : IsChained homes room (pairs_of es) (olders_of es) fs capacity) where
  pub pairs_with : (x : ℕ) → pairs_of (es ++ record { pair = (a, v); older = x } ∷ []) ≡ pairs_of es ++ (a, v) ∷ []
  pairs_with x = map-append (λ (e : Entry). e.pair) es (record { pair = (a, v); older = x } ∷ [])

  pub entry_written : IsAbsent (pairs_of es) a → a < room → a % homes < homes → (c : ℕ) → capacity ≤ c → (x : ℕ) → x ≡ latest homes (pairs_of es) (a % homes) (length (pairs_of es)) → IsChained homes room (pairs_of (es ++ record { pair = (a, v); older = x } ∷ [])) (olders_of (es ++ record { pair = (a, v); older = x } ∷ [])) (set fs (a % homes) (length (pairs_of es) + 1)) c
  entry_written absent inside home c more x q =
      rw (pairs_with x, map-append (λ (e : Entry). e.older) es (record { pair = (a, v); older = x } ∷ []), q)
      (pair_written homes room (pairs_of es) (olders_of es) fs capacity a v h absent inside home c more)

  module _ (k : ℕ) (f : IsEntryFor (pairs_of es) a k) (x : Entry) (same : x ≡ get_or es k no_entry) where
    address : x.pair.0 ≡ a
    address = ap (λ (e : Entry). e.pair.0) same ∙ sym (address_is es k) ∙ f.1

    pub pairs_changed : pairs_of (set es k (record { pair = (x.pair.0, v); older = x.older })) ≡ set (pairs_of es) k (a, v)
    pairs_changed =
        map-set (λ (e : Entry). e.pair) es k (record { pair = (x.pair.0, v); older = x.older })
        ∙ ap (λ (b : ℕ). set (pairs_of es) k (b, v)) address

    olders_kept : olders_of (set es k (record { pair = (x.pair.0, v); older = x.older })) ≡ olders_of es
    olders_kept = map-set_same (λ (e : Entry). e.older) es k (record { pair = (x.pair.0, v); older = x.older }) no_entry (ap (λ (e : Entry). e.older) same)

    pub entry_changed : IsChained homes room (pairs_of (set es k (record { pair = (x.pair.0, v); older = x.older }))) (olders_of (set es k (record { pair = (x.pair.0, v); older = x.older }))) fs capacity
    entry_changed = rw (pairs_changed, olders_kept) (pair_changed homes room (pairs_of es) (olders_of es) fs capacity a v k h f)
