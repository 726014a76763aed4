-- The walk along a chain of saved cells: what is so of the blocks from a pointer cell on.
use Rattle.std.proofs.Common.{◌≡◌, ◌≢◌, ℕ, suc, ◌+◌, ◌-◌, ◌%◌, ◌<◌, ◌≤◌, refl, sym, ap, ◌∙◌, subst, arith, eqb, true, false, Some, List, [], ◌∷◌, map, length}
use Rattle.std.specs.Prelude.{slice_get}
use Rattle.std.specs.List.{AllByRecursion as Each}
use Rattle.std.specs.FinMap as fin
use Rattle.std.proofs.lemmas.Bool.Decides.{nat_tests}
use Rattle.of_mem.specs.Places.{bucket_count, bucket_at, block_at, head_at, cells_at}
use Rattle.of_mem.specs.Stores.{IsChain, queue_chain, first_at, second_at, link_at, value_in}
use Rattle.of_mem.proofs.BucketPlaces.{bucket_in, key_bucket}
use Rattle.of_mem.proofs.Heaps.{front_bucket, front_head}
use Rattle.of_mem.proofs.Counts.{blocks_below, few_blocks}
use Rattle.of_mem.specs.ProgramWork.{memory_of}
use Rattle.of_store.specs.Store.{Store, queue}
use Rattle.of_eval.specs.Scripts.{store_at, scripts_data_cells}
use Rattle.of_eval.specs.Stored.{cell_store}
use Rattle.of_memory.specs.declared.saved.Saved.{Saved}
use Rattle.of_memory.specs.Saving.{IsSaved, SavedHolds, saved_scripts, saved_cells}

-- the chain from this cell on, with this many blocks of it passed, and what is so of its blocks
pub record Leads (o blocks : ℕ) (m : ℕ → ℕ) (So : List ℕ → Type 0) (cell passed : ℕ) : Type 0 where
  pub chain : List ℕ
  pub linked : IsChain o m cell chain
  pub below : Each (λ b. b < blocks) chain
  pub few : length chain + passed ≤ blocks
  pub so : So chain
  pub inside : cell < cells_at o blocks

module _ (o blocks : ℕ) (m : ℕ → ℕ) (So : List ℕ → Type 0) (cell passed : ℕ) where
  none_at : (l : List ℕ) → IsChain o m cell l → So l → m cell ≡ 0 → So []
  none_at [] h so e = so
  none_at (b ∷ l) h so e = absurd (omega (arith, h.0, e))

  -- at the end of the chain
  pub leads_end : Leads o blocks m So cell passed → m cell ≡ 0 → So []
  leads_end h e = none_at h.chain h.linked h.so e

  -- a block is left
  pub record Next (b : ℕ) : Type 0 where
    pub rest : List ℕ
    pub linked : IsChain o m (link_at o b) rest
    pub small : b < blocks
    pub below : Each (λ x. x < blocks) rest
    pub few : length rest + passed + 1 ≤ blocks
    pub so : So (b ∷ rest)

  next_at : (b : ℕ) (l : List ℕ) → IsChain o m cell l → Each (λ x. x < blocks) l → length l + passed ≤ blocks → So l → m cell ≡ b + 1 → Next b
  next_at b [] h low few so e = absurd (omega (arith, h, e))
  next_at b (c ∷ l) h low few so e =
      let same : c ≡ b = omega (arith, h.0, e) in
      record {
        rest = l;
        linked = subst (λ (x : ℕ). IsChain o m (link_at o x) l) same h.1;
        small = omega (arith, low.0, same);
        below = low.1;
        few = omega (arith, few);
        so = subst (λ (x : ℕ). So (x ∷ l)) same so;
      }

  pub leads_next : (b : ℕ) → Leads o blocks m So cell passed → m cell ≡ b + 1 → Next b
  leads_next b h e = next_at b h.chain h.linked h.below h.few h.so e

  -- and passed
  pub next_past : (b : ℕ) (To : List ℕ → Type 0) → Next b → ((l : List ℕ) → So (b ∷ l) → To l) → Leads o blocks m To (link_at o b) (passed + 1)
  next_past b To h to = record {
    chain = h.rest;
    linked = h.linked;
    below = h.below;
    few = omega (arith, h.few);
    so = to h.rest h.so;
    inside = omega (arith, h.small);
  }

-- ---- in what is saved

-- where its store begins, and how many blocks it has
abbrev pub saved_base : Saved → ℕ
saved_base d = store_at (saved_scripts d)

abbrev pub saved_blocks : Saved → ℕ
saved_blocks d = (saved_scripts d).blocks

-- of each store that is held: the rest of a chain
abbrev pub LeadsIn : (d : Saved) → (So : Store → List ℕ → Type 0) → (cell passed : ℕ) → Type 0
LeadsIn d So cell passed =
    (s : Store) → SavedHolds d s → Leads (saved_base d) (saved_blocks d) (memory_of (saved_cells d)) (So s) cell passed

module _ (d : Saved) (is : IsSaved d) (So : Store → List ℕ → Type 0) (cell passed : ℕ) (leads : LeadsIn d So cell passed) where
  held : Leads (saved_base d) (saved_blocks d) (memory_of (saved_cells d)) (So is.saved.row.may_start.lawful.0) cell passed
  held = leads is.saved.row.may_start.lawful.0 is.saved.row.may_start.lawful.1

  pub cell_inside : cell < scripts_data_cells (saved_scripts d)
  cell_inside = held.inside

  pub few_passed : passed ≤ saved_blocks d
  few_passed = omega (arith, held.few)

  module _ (pointer : ℕ) (read : pointer ≡ memory_of (saved_cells d) cell) where
    pub at_end : pointer ≡ 0 → (s : Store) → SavedHolds d s → So s []
    at_end zero s h = leads_end (saved_base d) (saved_blocks d) (memory_of (saved_cells d)) (So s) cell passed (leads s h) (sym read ∙ zero)

    module _ (some : pointer ≢ 0) where
      points : memory_of (saved_cells d) cell ≡ pointer - 1 + 1
      points = omega (arith, read, some)

      pub next_in : (s : Store) → SavedHolds d s → Next (saved_base d) (saved_blocks d) (memory_of (saved_cells d)) (So s) cell passed (pointer - 1)
      next_in s h = leads_next (saved_base d) (saved_blocks d) (memory_of (saved_cells d)) (So s) cell passed (pointer - 1) (leads s h) points

      pub block_below : pointer - 1 < saved_blocks d
      block_below = (next_in is.saved.row.may_start.lawful.0 is.saved.row.may_start.lawful.1).small

      pub leads_past : (To : Store → List ℕ → Type 0) → ((s : Store) (l : List ℕ) → So s ((pointer - 1) ∷ l) → To s l) → LeadsIn d To (link_at (saved_base d) (pointer - 1)) (passed + 1)
      leads_past To to s h = next_past (saved_base d) (saved_blocks d) (memory_of (saved_cells d)) (So s) cell passed (pointer - 1) (To s) (next_in s h) (to s)

-- a field of a block that was read
pub read_field : (d : Saved) (p b f cell found : ℕ) → found ≡ memory_of (saved_cells d) cell → cell ≡ block_at p b f → p ≡ saved_base d → found ≡ memory_of (saved_cells d) (block_at (saved_base d) b f)
read_field d p b f cell found is place base = is ∙ ap (memory_of (saved_cells d)) (place ∙ ap (λ (x : ℕ). block_at x b f) base)

-- ---- a key

module _ (d : Saved) (key : ℕ) where
  -- these blocks have the key's value in the store
  abbrev pub HasValueOf : Store → List ℕ → Type 0
  HasValueOf s l = value_in (saved_base d) (memory_of (saved_cells d)) key l ≡ fin.get s.keys key

  pub has_value : (b found value : ℕ) → found ≡ memory_of (saved_cells d) (first_at (saved_base d) b) → found ≡ key → value ≡ memory_of (saved_cells d) (second_at (saved_base d) b)
      → (s : Store) (l : List ℕ) → HasValueOf s (b ∷ l) → Some value ≡ fin.get s.keys key
  has_value b found value first same second s l is =
      let t : eqb (memory_of (saved_cells d) (first_at (saved_base d) b)) key ≡ true = grind (arith, nat_tests) in
      ap Some second ∙ (rw t refl) ∙ is

  pub past_value : (b found : ℕ) → found ≡ memory_of (saved_cells d) (first_at (saved_base d) b) → found ≢ key → (s : Store) (l : List ℕ) → HasValueOf s (b ∷ l) → HasValueOf s l
  past_value b found first other s l is =
      let t : eqb (memory_of (saved_cells d) (first_at (saved_base d) b)) key ≡ false = grind (arith, nat_tests) in
      (rw t refl) ∙ is

  pub leads_to_key : LeadsIn d HasValueOf (bucket_at (saved_base d) (saved_blocks d) (key % bucket_count (saved_blocks d))) 0
  leads_to_key s h =
      let o = saved_base d in
      let blocks = saved_blocks d in
      let m = memory_of (saved_cells d) in
      let n = key % bucket_count blocks in
      let l : n < bucket_count blocks = key_bucket blocks key in
      let short = few_blocks o blocks m (cell_store s) h.stands (1 + n) (omega (arith, l)) in
      record {
        chain = h.stands.chains (1 + n);
        linked = subst (λ (a : ℕ). IsChain o m a (h.stands.chains (1 + n))) (front_bucket o blocks n l) (h.stands.heap.linked (1 + n) (omega (arith, l)));
        below = blocks_below o blocks m (cell_store s) h.stands (1 + n) (omega (arith, l));
        few = omega (arith, short);
        so = sym (h.stands.holds.values key);
        inside = (bucket_in o blocks n l).1;
      }

-- the front of the key's bucket
pub key_front : (o blocks p q n key cell : ℕ) → cell ≡ bucket_at p q (key % n) → n ≡ bucket_count q → p ≡ o → q ≡ blocks → cell ≡ bucket_at o blocks (key % bucket_count blocks)
key_front o blocks p q n key cell is all base same =
    is ∙ ap (λ (x : ℕ). bucket_at p q (key % x)) all ∙ (λ i. bucket_at (base i) (same i) (key % bucket_count (same i)))

-- ---- an item

module _ (d : Saved) (q at : ℕ) where
  -- the blocks have the item at the place, with this many passed
  abbrev pub HasItemOf : (passed : ℕ) → Store → List ℕ → Type 0
  HasItemOf passed s l =
      slice_get (map (λ b. memory_of (saved_cells d) (first_at (saved_base d) b)) l) (at - passed) ≡ slice_get (queue s q) at

  pub past_item : (b passed : ℕ) → passed < at → (s : Store) (l : List ℕ) → HasItemOf passed s (b ∷ l) → HasItemOf (passed + 1) s l
  past_item b passed low s l is =
      let e : at - passed ≡ suc (at - (passed + 1)) = omega arith in
      subst (λ (n : ℕ). slice_get (map (λ b. memory_of (saved_cells d) (first_at (saved_base d) b)) (b ∷ l)) n ≡ slice_get (queue s q) at) e is

  pub has_item : (b passed item : ℕ) → at ≤ passed → item ≡ memory_of (saved_cells d) (first_at (saved_base d) b) → (s : Store) (l : List ℕ) → HasItemOf passed s (b ∷ l) → Some item ≡ slice_get (queue s q) at
  has_item b passed item all first s l is =
      let e : at - passed ≡ 0 = omega arith in
      ap Some first ∙ subst (λ (n : ℕ). slice_get (map (λ b. memory_of (saved_cells d) (first_at (saved_base d) b)) (b ∷ l)) n ≡ slice_get (queue s q) at) e is

  pub leads_to_item : q < 4 → LeadsIn d (HasItemOf 0) (head_at (saved_base d) q) 0
  leads_to_item l s h =
      let o = saved_base d in
      let blocks = saved_blocks d in
      let m = memory_of (saved_cells d) in
      let c = queue_chain blocks q in
      let short = few_blocks o blocks m (cell_store s) h.stands c (omega (arith, l)) in
      let all : at ≡ at - 0 = omega arith in
      record {
        chain = h.stands.chains c;
        linked = subst (λ (a : ℕ). IsChain o m a (h.stands.chains c)) (front_head o blocks q) (h.stands.heap.linked c (omega (arith, l)));
        below = blocks_below o blocks m (cell_store s) h.stands c (omega (arith, l));
        few = omega (arith, short);
        so = subst (λ (n : ℕ). slice_get (map (λ b. m (first_at o b)) (h.stands.chains c)) n ≡ slice_get (queue s q) at) all (ap (λ (xs : List ℕ). slice_get xs at) (h.stands.holds.queues q l).listed);
        inside = omega (arith, l);
      }
