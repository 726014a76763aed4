-- One block of a bucket stays, or leaves it.
use Rattle.std.proofs.Common.{◌≡◌, ℕ, suc, ◌+◌, ◌-◌, ◌%◌, ◌<◌, ◌≤◌, ◌≢◌, inl, inr, refl, sym, ◌∙◌, ap, subst, arith, cond, Option, None, List, [], ◌∷◌, ◌++◌, Bool, true, false, eq-eqb, append_assoc}
use Rattle.std.specs.List.{AllByRecursion as Each}
use Rattle.std.specs.Cmp.{nat_cmp_total}
use Rattle.std.specs.Ordering.{nat_cmp, eq_by_cmp}
use Rattle.std.specs.FinMap as fin
use Rattle.std.proofs.lemmas.Bool.{ne_eqb, cases_eq, cases_lt}
use Rattle.of_mem.specs.declared.plot.TheConstants.{MOST_BLOCKS}
use Rattle.of_mem.specs.Places.{bucket_count, free_at, keys_at, bucket_at, cells_at, fresh_at}
use Rattle.of_mem.specs.Programs.{Write, with_value, StaysBetween}
use Rattle.of_mem.specs.Stores.{CellStore, StandsForStore, IsChain, IsBucket, front_at, link_at, first_at, cell_after, value_in}
use Rattle.of_mem.proofs.BucketPlaces.{bucket_in}
use Rattle.of_mem.proofs.Changes.{changed_same, changed_other}
use Rattle.of_mem.proofs.Heaps.{front_bucket, front_no_block, each_weaker, each_left, each_right, each_append, cell_in, chain_copy, all_links, same_chain}
use Rattle.of_mem.proofs.Counts.{blocks_below}
use Rattle.of_mem.specs.Numbers.{FitsCell}
use Rattle.of_alloc.specs.Blocks.{IsFreeList, IsOut}
use Rattle.of_alloc.specs.Found.{HasKeyBlock}
use Rattle.of_alloc.specs.BlockPrograms.{give_program}
use Rattle.of_alloc.proofs.Leaving.{keys_tie, m1, m3, m4, chains1, keys3, one_key, list_after, out_after, del_stands, left_chain, one_less, leave_inside, at_place}
use Rattle.of_order.specs.Dropping.{IsBetweenBuckets, IsInsideBucket}

-- ---- memories that differ in the number of keys alone

module _ (o : ℕ) where
  abbrev pub But : (ℕ → ℕ) → (ℕ → ℕ) → Type 0
  But m n = (a : ℕ) → a ≢ keys_at o → n a ≡ m a

  but_changed : (m n : ℕ → ℕ) (a v w : ℕ) → But m n → v ≡ w → But (with_value m a v) (with_value n a w)
  but_changed m n a v w h e x other = elim (cases_eq x a) [
    | inl is ↦ rw is (changed_same n a w ∙ sym e ∙ sym (changed_same m a v))
    | inr not ↦ changed_other n a w x not ∙ h x other ∙ sym (changed_other m a v x not)
  ]

  but_keys : (m : ℕ → ℕ) (v : ℕ) → But m (with_value m (keys_at o) v)
  but_keys m v a other = changed_other m (keys_at o) v a other

  -- with the same number of keys they are the same
  but_same : (m n : ℕ → ℕ) (v w : ℕ) → But m n → v ≡ w → with_value m (keys_at o) v ≡ with_value n (keys_at o) w
  but_same m n v w h e = λ i a. at a i
    where
      at : (a : ℕ) → with_value m (keys_at o) v a ≡ with_value n (keys_at o) w a
      at a = elim (cases_eq a (keys_at o)) [
        | inl is ↦ rw is (changed_same m (keys_at o) v ∙ e ∙ sym (changed_same n (keys_at o) w))
        | inr not ↦ changed_other m (keys_at o) v a not ∙ sym (h a not) ∙ sym (changed_other n (keys_at o) w a not)
      ]

-- a free list is read past the number of keys
free_same : (o blocks : ℕ) (m n : ℕ → ℕ) (free : List ℕ) → But o m n → IsFreeList o blocks m free → IsFreeList o blocks n free
free_same o blocks m n free h k =
    let fresh : n (fresh_at o) ≡ m (fresh_at o) = h (fresh_at o) (λ e. omega arith) in
    record {
      linked = chain_copy o m n (free_at o) (free_at o) free (h (free_at o) (λ e. omega arith)) (links free) k.linked;
      below = rw fresh k.below;
      few = rw fresh k.few;
    }
  where
    links : (l : List ℕ) → Each (λ b. n (link_at o b) ≡ m (link_at o b)) l
    links [] = tt
    links (b ∷ l) = (h (link_at o b) (λ e. omega arith), links l)

none_either : (t : Bool) → ◌≡◌ {A = Option ℕ} (cond t None None) None
none_either true = refl
none_either false = refl

-- ---- chains

-- the chain behind blocks of a chain
chain_behind : (o : ℕ) (m : ℕ → ℕ) (c : ℕ) (xs ys : List ℕ) → IsChain o m c (xs ++ ys) → IsChain o m (cell_after o c xs) ys
chain_behind o m c [] ys h = h
chain_behind o m c (x ∷ xs) ys h = chain_behind o m (link_at o x) xs ys h.1

-- the pointer to a chain
same_head : (o : ℕ) (m n : ℕ → ℕ) (c d : ℕ) (l : List ℕ) → IsChain o m c l → IsChain o n d l → m c ≡ n d
same_head o m n c d [] h k = h ∙ sym k
same_head o m n c d (b ∷ l) h k = h.0 ∙ sym k.0

-- blocks with another key in front
pub value_past : (o : ℕ) (m : ℕ → ℕ) (key : ℕ) (xs ys : List ℕ) → Each (λ x. m (first_at o x) ≢ key) xs → value_in o m key (xs ++ ys) ≡ value_in o m key ys
value_past o m key [] ys h = refl
value_past o m key (x ∷ xs) ys h = rw (ne_eqb (m (first_at o x)) key h.0) (value_past o m key xs ys h.1)

each_same : (o blocks low : ℕ) (m n : ℕ → ℕ) (xs : List ℕ) → ((x : ℕ) → x < blocks → n (first_at o x) ≡ m (first_at o x)) → Each (λ x. x < blocks) xs → Each (λ x. low ≤ m (first_at o x)) xs → Each (λ x. low ≤ n (first_at o x)) xs
each_same o blocks low m n [] same below h = tt
each_same o blocks low m n (x ∷ xs) same below h = (omega (arith, same x below.0, h.0), each_same o blocks low m n xs same below.1 h.1)

here_in_bucket : (o blocks : ℕ) (m : ℕ → ℕ) (n b : ℕ) (xs ys : List ℕ) → IsBucket o blocks m n (xs ++ b ∷ ys) → (m (first_at o b) % bucket_count blocks ≡ n)
here_in_bucket o blocks m n b [] ys h = h.0
here_in_bucket o blocks m n b (x ∷ xs) ys h = here_in_bucket o blocks m n b xs ys h.4

after_push : (o c b : ℕ) (xs : List ℕ) → cell_after o c (xs ++ b ∷ []) ≡ link_at o b
after_push o c b [] = refl
after_push o c b (x ∷ xs) = after_push o (link_at o x) b xs

no_chain : (o : ℕ) (m : ℕ → ℕ) (c : ℕ) (l : List ℕ) → IsChain o m c l → m c ≡ 0 → l ≡ []
no_chain o m c [] h z = refl
no_chain o m c (b ∷ l) h z = absurd (omega (arith, h.0, z))

some_chain : (o : ℕ) (m : ℕ → ℕ) (c b : ℕ) (l : List ℕ) → IsChain o m c l → m c ≡ suc b → (k : List ℕ) × (l ≡ b ∷ k)
some_chain o m c b [] h e = absurd (omega (arith, h, e))
some_chain o m c b (x ∷ l) h e = let is : x ≡ b = omega (arith, h.0, e) in (l, ap (λ (y : ℕ). y ∷ l) is)

module _ (o blocks low i : ℕ) (small : i < bucket_count blocks) (first : CellStore) (m : ℕ → ℕ) (cell p gone : ℕ) (behind : List ℕ) (w : IsInsideBucket o blocks low i first m cell p gone behind) where
  abbrev pub M : ℕ → ℕ
  M = with_value m (keys_at o) (fin.len w.state.store.map)

  same_m : (a : ℕ) → a ≢ keys_at o → M a ≡ m a
  same_m a n = changed_other m (keys_at o) (fin.len w.state.store.map) a n

  abbrev front : ℕ
  front = front_at o blocks (1 + i)

  whole : IsChain o M front (w.before ++ behind)
  whole = subst (λ (q : List ℕ). IsChain o M front q) w.split (w.state.stands.heap.linked (1 + i) (omega (arith, small)))

  -- the pointer cell is no other cell than the bucket's front or a link
  apart : (a : ℕ) → a ≢ front → ((x : ℕ) → a ≢ link_at o x) → a ≢ cell
  apart a n k = rw w.place (cell_in o (λ c. a ≢ c) front w.before n (all_links o a k w.before))

  front_is : front ≡ bucket_at o blocks i
  front_is = front_bucket o blocks i small

  no_keys : keys_at o ≢ cell
  no_keys = apart (keys_at o) (λ e. omega (arith, e, front_is, bucket_in o blocks i small)) (λ x e. omega arith)

  chain : IsChain o M cell behind
  chain = subst (λ (a : ℕ). IsChain o M a behind) (sym w.place) (chain_behind o M front w.before behind whole)

  pointer : M cell ≡ p
  pointer = same_m cell (λ e. no_keys (sym e)) ∙ sym w.points

  pub at_end : p ≡ 0 → behind ≡ []
  at_end z = no_chain o M cell behind chain (pointer ∙ z)

  pub at_block : (b : ℕ) → p ≡ suc b → (k : List ℕ) × (behind ≡ b ∷ k)
  at_block b e = some_chain o M cell b behind chain (pointer ∙ e)

  first_same : (x : ℕ) → M (first_at o x) ≡ m (first_at o x)
  first_same x = same_m (first_at o x) (λ e. omega arith)

  -- no block that stays has a key below
  pub past : (key : ℕ) → key < low → Each (λ x. M (first_at o x) ≢ key) w.before
  past key l = each_weaker (λ x. low ≤ m (first_at o x)) (λ x. M (first_at o x) ≢ key) (λ x k e. omega (arith, first_same x, k, l, e)) w.before w.passed

  pub bucket_done : behind ≡ [] → IsBetweenBuckets o blocks low (i + 1) first m gone
  bucket_done none = record {
    store = w.state.store;
    stands = w.state.stands;
    fewer = w.state.fewer;
    counted = w.state.counted;
    few = w.state.few;
    cleared = λ key l k. elim (cases_lt (key % bucket_count blocks) i) [
      | inl less ↦ w.state.cleared key l less
      | inr not ↦ (let is : key % bucket_count blocks ≡ i = omega (arith, not, k) in
          w.state.stands.holds.values key ∙ ap (λ (x : ℕ). value_in o M key (w.state.stands.chains (1 + x))) is ∙ ap (value_in o M key) (w.split ∙ ap (λ (l : List ℕ). w.before ++ l) none) ∙ value_past o M key w.before [] (past key l))
    ];
  }

-- the block at the pointer
module _ (o blocks low i : ℕ) (small : i < bucket_count blocks) (first : CellStore) (m : ℕ → ℕ) (cell p gone b : ℕ) (l : List ℕ) (w : IsInsideBucket o blocks low i first m cell p gone (b ∷ l)) where
  pub block_below : b < blocks
  block_below = (each_right (λ x. x < blocks) w.before (b ∷ l) (subst (λ (q : List ℕ). Each (λ x. x < blocks) q) w.split (blocks_below o blocks (M o blocks low i small first m cell p gone (b ∷ l) w) w.state.store w.state.stands (1 + i) (omega (arith, small))))).0

  before_below : Each (λ x. x < blocks) w.before
  before_below = each_left (λ x. x < blocks) w.before (b ∷ l) (subst (λ (q : List ℕ). Each (λ x. x < blocks) q) w.split (blocks_below o blocks (M o blocks low i small first m cell p gone (b ∷ l) w) w.state.store w.state.stands (1 + i) (omega (arith, small))))

  -- its key stays
  pub stays : low ≤ m (first_at o b) → IsInsideBucket o blocks low i first m (link_at o b) (m (link_at o b)) gone l
  stays k = record {
    state = w.state;
    before = w.before ++ b ∷ [];
    split = w.split ∙ sym (append_assoc w.before (b ∷ []) l);
    place = sym (after_push o (front_at o blocks (1 + i)) b w.before);
    points = refl;
    passed = each_append (λ x. low ≤ m (first_at o x)) w.before (b ∷ []) w.passed (k, tt);
  }

  -- its key leaves
  module _ (few : blocks ≤ MOST_BLOCKS) (less : m (first_at o b) < low) where
    abbrev pub N : ℕ → ℕ
    N = M o blocks low i small first m cell p gone (b ∷ l) w

    abbrev pub s : CellStore
    s = w.state.store

    abbrev pub key : ℕ
    key = N (first_at o b)

    pub key_is : key ≡ m (first_at o b)
    key_is = first_same o blocks low i small first m cell p gone (b ∷ l) w b

    pub in_bucket : key % bucket_count blocks ≡ i
    in_bucket = here_in_bucket o blocks N i b w.before l (subst (λ (q : List ℕ). IsBucket o blocks N i q) w.split (w.state.stands.holds.buckets i small))

    abbrev pub found : HasKeyBlock o N key (bucket_at o blocks (key % bucket_count blocks)) (w.state.stands.chains (1 + key % bucket_count blocks)) cell b
    found = record {
      before = w.before;
      behind = l;
      split = ap (λ (x : ℕ). w.state.stands.chains (1 + x)) in_bucket ∙ w.split;
      place = w.place ∙ ap (λ (a : ℕ). cell_after o a w.before) (front_bucket o blocks i small ∙ ap (bucket_at o blocks) (sym in_bucket));
      same = refl;
      value = ap (value_in o N key) (ap (λ (x : ℕ). w.state.stands.chains (1 + x)) in_bucket ∙ w.split)
          ∙ value_past o N key w.before (b ∷ l) (past o blocks low i small first m cell p gone (b ∷ l) w key (omega (arith, key_is, less))) ∙ rw (eq-eqb key key refl) refl;
    }

    -- the cells after it, and with the number of keys that are left
    abbrev pub linked : ℕ → ℕ
    linked = with_value m cell (m (link_at o b))

    abbrev pub given : ℕ → ℕ
    given = with_value (with_value linked (link_at o b) (linked (free_at o))) (free_at o) (b + 1)

    abbrev pub next : CellStore
    next = record s { map = fin.remove s.map key }

    no_keys_here : keys_at o ≢ cell
    no_keys_here = no_keys o blocks low i small first m cell p gone (b ∷ l) w

    link_same : N (link_at o b) ≡ m (link_at o b)
    link_same = changed_other m (keys_at o) (fin.len s.map) (link_at o b) (λ e. omega arith)

    but_linked : But o linked (m1 o blocks N s w.state.stands key b cell found)
    but_linked = subst (λ (a : ℕ). But o linked (with_value N a (N (link_at o b)))) (at_place o blocks N s w.state.stands key b cell found)
        (but_changed o m N cell (m (link_at o b)) (N (link_at o b)) (but_keys o m (fin.len s.map)) (sym link_same))

    but_given : But o given (m3 o blocks N s w.state.stands key b cell found)
    but_given =
        let n1 = m1 o blocks N s w.state.stands key b cell found in
        but_changed o (with_value linked (link_at o b) (linked (free_at o))) (with_value n1 (link_at o b) (n1 (free_at o))) (free_at o) (b + 1) (b + 1)
        (but_changed o linked n1 (link_at o b) (linked (free_at o)) (n1 (free_at o)) but_linked (sym (but_linked (free_at o) (λ e. omega arith)))) refl

    keys_given : given (keys_at o) ≡ m (keys_at o)
    keys_given = changed_other (with_value linked (link_at o b) (linked (free_at o))) (free_at o) (b + 1) (keys_at o) (λ e. omega arith)
        ∙ changed_other linked (link_at o b) (linked (free_at o)) (keys_at o) (λ e. omega arith) ∙ changed_other m cell (m (link_at o b)) (keys_at o) no_keys_here

    less_one : fin.len next.map ≡ fin.len s.map - 1
    less_one = one_less o blocks N s w.state.stands key b cell found

    some_key : 1 ≤ fin.len s.map
    some_key = omega (arith, one_key o blocks N s w.state.stands key b cell found, changed_same m (keys_at o) (fin.len s.map))

    same_cells : with_value given (keys_at o) (fin.len next.map) ≡ m4 o blocks N s w.state.stands key b cell found
    same_cells = but_same o given (m3 o blocks N s w.state.stands key b cell found) (fin.len next.map) (m3 o blocks N s w.state.stands key b cell found (keys_at o) - 1) but_given
        (omega (arith, less_one, keys3 o blocks N s w.state.stands key b cell found, changed_same m (keys_at o) (fin.len s.map)))

    next_stands : StandsForStore o blocks (with_value given (keys_at o) (fin.len next.map)) next
    next_stands = subst (λ (x : ℕ → ℕ). StandsForStore o blocks x next) (sym same_cells) (del_stands o blocks N s w.state.stands key b cell found)

    chain_left : IsChain o (with_value given (keys_at o) (fin.len next.map)) (front_at o blocks (1 + i)) (w.before ++ l)
    chain_left = subst (λ (x : ℕ → ℕ). IsChain o x (front_at o blocks (1 + i)) (w.before ++ l)) (sym same_cells)
        (subst (λ (x : ℕ). IsChain o (m4 o blocks N s w.state.stands key b cell found) (front_at o blocks (1 + x)) (w.before ++ l)) in_bucket (left_chain o blocks N s w.state.stands key b cell found))

    first_given : (x : ℕ) → x < blocks → given (first_at o x) ≡ m (first_at o x)
    first_given x x_in = changed_other (with_value linked (link_at o b) (linked (free_at o))) (free_at o) (b + 1) (first_at o x) (λ e. omega arith)
        ∙ changed_other linked (link_at o b) (linked (free_at o)) (first_at o x) (λ e. omega arith)
        ∙ changed_other m cell (m (link_at o b)) (first_at o x) (apart o blocks low i small first m cell p gone (b ∷ l) w (first_at o x) (λ e. front_no_block o blocks (1 + i) x 0 (omega (arith, small)) x_in (omega arith) (sym e)) (λ y e. omega arith))

    removed : (k : ℕ) → k ≢ key → fin.get next.map k ≡ fin.get s.map k
    removed k n = fin.get-remove nat_cmp_total s.map key k ∙ ap (λ (t : Bool). cond t None (fin.get s.map k)) (keys_tie k key ∙ ne_eqb k key n)

    still_none : (k : ℕ) → fin.get s.map k ≡ None → fin.get next.map k ≡ None
    still_none k e = fin.get-remove nat_cmp_total s.map key k ∙ ap (cond (eq_by_cmp nat_cmp k key) None) e ∙ none_either (eq_by_cmp nat_cmp k key)

    pub next_state : IsBetweenBuckets o blocks low i first given (gone + 1)
    next_state = record {
      store = next;
      stands = next_stands;
      fewer = record {
        stays = λ k le. removed k (λ e. omega (arith, e, key_is, less, le)) ∙ w.state.fewer.stays k le;
        others = ap (λ (t : CellStore). record t { map = next.map }) w.state.fewer.others;
        count = omega (arith, less_one, some_key, w.state.fewer.count);
      };
      counted = keys_given ∙ w.state.counted;
      few = w.state.few;
      cleared = λ k less in_it. still_none k (w.state.cleared k less in_it);
    }

    pub leaves : IsInsideBucket o blocks low i first given cell (m (link_at o b)) (gone + 1) l
    unfolding next_state
    leaves = record {
      state = next_state;
      before = w.before;
      split = same_chain o (with_value given (keys_at o) (fin.len next.map)) (front_at o blocks (1 + i)) (next_stands.chains (1 + i)) (w.before ++ l) (next_stands.heap.linked (1 + i) (omega (arith, small))) chain_left;
      place = w.place;
      points = sym link_same ∙ same_head o N (with_value given (keys_at o) (fin.len next.map)) (link_at o b) cell l (chain o blocks low i small first m cell p gone (b ∷ l) w).1
          (subst (λ (a : ℕ). IsChain o (with_value given (keys_at o) (fin.len next.map)) a l) (sym w.place) (chain_behind o (with_value given (keys_at o) (fin.len next.map)) (front_at o blocks (1 + i)) w.before l chain_left))
          ∙ changed_other given (keys_at o) (fin.len next.map) cell (λ e. no_keys_here (sym e));
      passed = each_same o blocks low m given w.before first_given before_below w.passed;
    }

    -- the pointer cell takes the link, and the block is given back
    pub leaves_inside : StaysBetween o (cells_at o blocks) (Write cell (m (link_at o b)) (give_program o b)) m
    leaves_inside =
        let t = leave_inside o blocks N s w.state.stands key b cell found few in
        let in_it : b < blocks = block_below in
        let free : with_value N cell (N (link_at o b)) (free_at o) ≡ linked (free_at o) = but_changed o m N cell (m (link_at o b)) (N (link_at o b)) (but_keys o m (fin.len s.map)) (sym link_same) (free_at o) (λ e. omega arith) in
        (t.0, t.1, subst FitsCell link_same t.2, (omega arith, omega arith, (omega arith, omega arith, subst FitsCell free t.3.2.2, (omega arith, omega arith, omega arith, tt))))

    pub list_left : IsFreeList o blocks linked (chains1 o blocks N s w.state.stands key b cell found 0)
    list_left = free_same o blocks (m1 o blocks N s w.state.stands key b cell found) linked (chains1 o blocks N s w.state.stands key b cell found 0)
        (λ a n. sym (but_linked a n)) (list_after o blocks N s w.state.stands key b cell found)

    pub block_out : IsOut o linked (chains1 o blocks N s w.state.stands key b cell found 0) b
    block_out = let t = out_after o blocks N s w.state.stands key b cell found in
        (subst (λ (x : ℕ). b < x) (but_linked (fresh_at o) (λ e. omega arith)) t.0, t.1)
