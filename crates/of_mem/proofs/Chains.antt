-- The chains of entries by their homes.
use Rattle.std.proofs.Common.{◌≡◌, ◌≢◌, ℕ, zero, suc, ◌-◌, ◌<◌, ◌≤◌, ◌⊎◌, inl, inr, ◌==◌, ◌%◌, Bool, true, false, if◌then◌else◌, List, length, get_or, refl, sym, ◌∙◌, ap, arith}
use Rattle.std.proofs.lemmas.Bool.{cases_eq, cases_lt, eqb-true as same, eqb-false as other}
use Rattle.std.proofs.lemmas.List.{length-map}
use Rattle.std.proofs.Math.ListN.{get_or-map}
use Rattle.of_mem.specs.declared.index.Entry.{Entry}
use Rattle.of_mem.specs.CellMap.{entry_address}
use Rattle.of_mem.specs.Chains.{pairs_of, olders_of, latest, note_at, HasChains}

-- an entry in place of one that isn't there
abbrev pub no_entry : Entry
no_entry = record { pair = (0, 0); older = 0 }

pub entries_size : (es : List Entry) → length (pairs_of es) ≡ length es
entries_size es = length-map es (λ (e : Entry). e.pair)

pub pair_is : (es : List Entry) (k : ℕ) → get_or (pairs_of es) k (0, 0) ≡ (get_or es k no_entry).pair
pair_is es k = get_or-map (λ (e : Entry). e.pair) es k no_entry

pub address_is : (es : List Entry) (k : ℕ) → entry_address (pairs_of es) k ≡ (get_or es k no_entry).pair.0
address_is es k = ap (λ (p : ℕ × ℕ). p.0) (pair_is es k)

pub noted_older : (es : List Entry) (k : ℕ) → note_at (olders_of es) k ≡ (get_or es k no_entry).older
noted_older es k = get_or-map (λ (e : Entry). e.older) es k no_entry

-- it is the number of one of the first n
pub latest_few : (H : ℕ) (es : List (ℕ × ℕ)) (h n : ℕ) → latest H es h n ≤ n
latest_few H es h zero = omega arith
latest_few H es h (suc n) = go (latest_few H es h n) (entry_address es n % H == h)
  where
    go : latest H es h n ≤ n → (b : Bool) → (if b then suc n else latest H es h n) ≤ suc n
    go l true = omega arith
    go l false = omega arith

-- the entry with this number has the home
pub latest_home : (H : ℕ) (es : List (ℕ × ℕ)) (h n : ℕ) → latest H es h n ≢ 0 → entry_address es (latest H es h n - 1) % H ≡ h
latest_home H es h zero p = absurd (p refl)
latest_home H es h (suc n) p = go (latest_home H es h n) (entry_address es n % H == h) refl p
  where
    go : (latest H es h n ≢ 0 → entry_address es (latest H es h n - 1) % H ≡ h) → (b : Bool) → (entry_address es n % H == h) ≡ b → (if b then suc n else latest H es h n) ≢ 0 → entry_address es ((if b then suc n else latest H es h n) - 1) % H ≡ h
    go again true e q = ap (λ (x : ℕ). entry_address es x % H) {x = suc n - 1} {y = n} (omega arith) ∙ same (entry_address es n % H) h e
    go again false e q = again q

-- no entry after it has the home
pub latest_last : (H : ℕ) (es : List (ℕ × ℕ)) (h n k : ℕ) → latest H es h n ≤ k → k < n → entry_address es k % H ≢ h
latest_last H es h zero k l m = absurd (omega arith)
latest_last H es h (suc n) k l m = go (latest_last H es h n k) (entry_address es n % H == h) refl l (cases_eq k n)
  where
    go : (latest H es h n ≤ k → k < n → entry_address es k % H ≢ h) → (b : Bool) → (entry_address es n % H == h) ≡ b → (if b then suc n else latest H es h n) ≤ k → (k ≡ n) ⊎ (k ≢ n) → entry_address es k % H ≢ h
    go again true e u c = absurd (omega arith)
    go again false e u (inl c) = λ q. other (entry_address es n % H) h e (ap (λ (x : ℕ). entry_address es x % H) (sym c) ∙ q)
    go again false e u (inr c) = again u (omega arith)

-- entries with equal addresses have the same chains
pub latest_same : (H : ℕ) (es ds : List (ℕ × ℕ)) (h n : ℕ) → ((k : ℕ) → k < n → entry_address ds k ≡ entry_address es k) → latest H ds h n ≡ latest H es h n
latest_same H es ds h zero s = refl
latest_same H es ds h (suc n) s =
    ap (λ (a : ℕ). if a % H == h then suc n else latest H ds h n) (s n (omega arith))
    ∙ ap (λ (x : ℕ). if entry_address es n % H == h then suc n else x) (latest_same H es ds h n (λ k l. s k (omega arith)))

-- What the note of a home says.
module _ (H : ℕ) (es : List (ℕ × ℕ)) (fs : List ℕ) (h : ℕ) (noted : (latest H es h (length es) ≡ 0) ⊎ (note_at fs h ≡ latest H es h (length es))) where
  -- if it is no number, no entry has the home
  pub front_none : (note_at fs h ≡ 0) ⊎ (length es < note_at fs h) → latest H es h (length es) ≡ 0
  front_none p = go noted p
    where
      few : latest H es h (length es) ≤ length es
      few = latest_few H es h (length es)

      go : (latest H es h (length es) ≡ 0) ⊎ (note_at fs h ≡ latest H es h (length es)) → (note_at fs h ≡ 0) ⊎ (length es < note_at fs h) → latest H es h (length es) ≡ 0
      go (inl z) q = z
      go (inr e) (inl q) = sym e ∙ q
      go (inr e) (inr q) = absurd (omega (arith, e, q, few))

  -- if it is the number of an entry with the home, it is the last
  pub front_here : note_at fs h ≢ 0 → note_at fs h ≤ length es → entry_address es (note_at fs h - 1) % H ≡ h → note_at fs h ≡ latest H es h (length es)
  front_here some few is = go noted
    where
      go : (latest H es h (length es) ≡ 0) ⊎ (note_at fs h ≡ latest H es h (length es)) → note_at fs h ≡ latest H es h (length es)
      go (inl z) = absurd (latest_last H es h (length es) (note_at fs h - 1) (omega (arith, z)) (omega (arith, some, few)) is)
      go (inr e) = e

  -- if it is the number of another one, no entry has the home
  pub front_other : (entry_address es (note_at fs h - 1) % H ≡ h → ⊥) → latest H es h (length es) ≡ 0
  front_other other = go noted (cases_eq (latest H es h (length es)) 0)
    where
      go : (latest H es h (length es) ≡ 0) ⊎ (note_at fs h ≡ latest H es h (length es)) → (latest H es h (length es) ≡ 0) ⊎ (latest H es h (length es) ≢ 0) → latest H es h (length es) ≡ 0
      go (inl z) q = z
      go (inr e) (inl q) = q
      go (inr e) (inr q) = absurd (other (ap (λ (x : ℕ). entry_address es (x - 1) % H) e ∙ latest_home H es h (length es) q))

-- A search that has come to this number: no entry with a greater one has the address.
module _ (H : ℕ) (es : List (ℕ × ℕ)) (os : List ℕ) (a at : ℕ) (chains : HasChains H es os) (some : at ≢ 0) (few : at ≤ length es) (home : entry_address es (at - 1) % H ≡ a % H) where
  older_is : note_at os (at - 1) ≡ latest H es (a % H) (at - 1)
  older_is = chains (at - 1) (omega (arith, some, few)) ∙ ap (λ (h : ℕ). latest H es h (at - 1)) home

  pub older_less : note_at os (at - 1) < at
  older_less = omega (arith, older_is, latest_few H es (a % H) (at - 1), some)

  pub older_home : note_at os (at - 1) ≢ 0 → entry_address es (note_at os (at - 1) - 1) % H ≡ a % H
  older_home p = ap (λ (x : ℕ). entry_address es (x - 1) % H) older_is ∙ latest_home H es (a % H) (at - 1) (λ z. p (older_is ∙ z))

  pub older_unmet : entry_address es (at - 1) ≢ a → ((k : ℕ) → at ≤ k → k < length es → entry_address es k ≢ a) → (k : ℕ) → note_at os (at - 1) ≤ k → k < length es → entry_address es k ≢ a
  older_unmet here unmet k l m = go (cases_lt k at) (cases_eq k (at - 1))
    where
      go : (k < at) ⊎ (at ≤ k) → (k ≡ at - 1) ⊎ (k ≢ at - 1) → entry_address es k ≢ a
      go (inr u) c = unmet k u m
      go (inl u) (inl c) = λ q. here (ap (entry_address es) (sym c) ∙ q)
      go (inl u) (inr c) = λ q. latest_last H es (a % H) (at - 1) k (omega (arith, older_is, l)) (omega (arith, u, c)) (ap (λ (x : ℕ). x % H) q)

-- where a search begins
module _ (H : ℕ) (es : List (ℕ × ℕ)) (a : ℕ) where
  pub begins_home : latest H es (a % H) (length es) ≢ 0 → entry_address es (latest H es (a % H) (length es) - 1) % H ≡ a % H
  begins_home = latest_home H es (a % H) (length es)

  pub begins_unmet : (k : ℕ) → latest H es (a % H) (length es) ≤ k → k < length es → entry_address es k ≢ a
  begins_unmet k l m q = latest_last H es (a % H) (length es) k l m (ap (λ (x : ℕ). x % H) q)
