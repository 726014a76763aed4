-- What a write does to a heap, and how a block goes from one chain to another.
use Rattle.std.proofs.Common.{◌≡◌, ℕ, ◌+◌, ◌<◌, ◌≢◌, List, [], ◌∷◌, ◌++◌, length, refl, sym, ◌∙◌, ap, subst, arith, length-append}
use Rattle.std.specs.List.{AllByRecursion as Each}
use Rattle.of_mem.specs.Places.{fresh_at}
use Rattle.of_mem.specs.Programs.{with_value}
use Rattle.of_mem.specs.Stores.{out_chain, IsChain, IsHeap, front_at, link_at, cell_after, blocks_in_chains}
use Rattle.of_mem.proofs.Changes.{changed_same, changed_other, changed_cases, total_changed}
use Rattle.of_mem.proofs.Heaps.{front_apart, front_below, front_no_block, each_weaker, each_append, each_left, each_right, chain_copy, chain_changed, chain_unlink, chain_append, chain_apart, cell_in}

module _ (o blocks : ℕ) (m : ℕ → ℕ) (chains : ℕ → List ℕ) (owner : ℕ → ℕ) (h : IsHeap o blocks m chains owner) where
  -- a write beside pointers and fresh
  pub heap_changed : (a v : ℕ) → fresh_at o ≢ a → ((c : ℕ) → c < out_chain blocks → front_at o blocks c ≢ a) → ((b : ℕ) → link_at o b ≢ a) → IsHeap o blocks (with_value m a v) chains owner
  heap_changed a v fresh front link = record {
    linked = λ c l. chain_changed o m a v (front_at o blocks c) (chains c) (front c l) (all_links (chains c)) (h.linked c l);
    owned = λ c l. rw (changed_other m a v (fresh_at o) fresh) (h.owned c l);
    counted = h.counted ∙ sym (changed_other m a v (fresh_at o) fresh);
    few = rw (changed_other m a v (fresh_at o) fresh) h.few;
  }
    where
      all_links : (l : List ℕ) → Each (λ b. link_at o b ≢ a) l
      all_links [] = tt
      all_links (x ∷ xs) = (link x, all_links xs)

  pub links_apart : (c b : ℕ) → c < 1 + out_chain blocks → owner b ≢ c → Each (λ x. link_at o x ≢ link_at o b) (chains c)
  links_apart c b l n = each_weaker (λ x. (x < m (fresh_at o)) × (owner x ≡ c)) (λ x. link_at o x ≢ link_at o b) (λ x k e. let same : x ≡ b = omega arith in n (subst (λ (y : ℕ). owner y ≡ c) same k.1)) (chains c) (h.owned c l)

  pub blocks_apart : (c b : ℕ) → c < 1 + out_chain blocks → owner b ≢ c → Each (λ x. x ≢ b) (chains c)
  blocks_apart c b l n = each_weaker (λ x. (x < m (fresh_at o)) × (owner x ≡ c)) (λ x. x ≢ b) (λ x k e. n (subst (λ (y : ℕ). owner y ≡ c) e k.1)) (chains c) (h.owned c l)

  -- the link of a block that is out
  pub heap_changed_out : (b v : ℕ) → b < m (fresh_at o) → owner b ≡ out_chain blocks → IsHeap o blocks (with_value m (link_at o b) v) chains owner
  heap_changed_out b v taken out = record {
    linked = λ c l. chain_changed o m (link_at o b) v (front_at o blocks c) (chains c) (front_no_block o blocks c b 2 l b_in (omega arith)) (links_apart c b (omega arith) (λ (e : owner b ≡ c). omega arith)) (h.linked c l);
    owned = λ c l. rw (changed_other m (link_at o b) v (fresh_at o) fresh) (h.owned c l);
    counted = h.counted ∙ sym (changed_other m (link_at o b) v (fresh_at o) fresh);
    few = rw (changed_other m (link_at o b) v (fresh_at o) fresh) h.few;
  }
    where
      fresh : fresh_at o ≢ link_at o b
      fresh e = omega arith

      b_in : b < blocks
      b_in = omega (arith, h.few, taken)

  -- how owners change with a block, apart from the chains that change
  still_owned : (b d c : ℕ) → c < 1 + out_chain blocks → owner b ≢ c → Each (λ x. (x < m (fresh_at o)) × (with_value owner b d x ≡ c)) (chains c)
  still_owned b d c l n = each_weaker (λ x. (x < m (fresh_at o)) × (owner x ≡ c)) (λ x. (x < m (fresh_at o)) × (with_value owner b d x ≡ c))
      (λ x k. (k.0, changed_other owner b d x (λ (e : x ≡ b). n (subst (λ (y : ℕ). owner y ≡ c) e k.1)) ∙ k.1)) (chains c) (h.owned c l)

  -- a block that was never taken goes out
  pub heap_fresh : m (fresh_at o) < blocks → chains (out_chain blocks) ≡ [] → owner (m (fresh_at o)) ≡ owner (m (fresh_at o))
      → IsHeap o blocks (with_value m (fresh_at o) (m (fresh_at o) + 1)) (with_value chains (out_chain blocks) (m (fresh_at o) ∷ [])) (with_value owner (m (fresh_at o)) (out_chain blocks))
  heap_fresh less none _ = record {
    linked = λ c l. rw (changed_other chains (out_chain blocks) (m (fresh_at o) ∷ []) c (λ (e : c ≡ out_chain blocks). omega arith))
        (chain_changed o m (fresh_at o) (m (fresh_at o) + 1) (front_at o blocks c) (chains c) (λ (e : front_at o blocks c ≡ fresh_at o). omega (arith, front_below o blocks c l)) (no_links (chains c)) (h.linked c l));
    owned = λ c l. rw (changed_same m (fresh_at o) (m (fresh_at o) + 1)) (changed_cases (λ (d : ℕ) (bs : List ℕ). Each (λ x. (x < m (fresh_at o) + 1) × (with_value owner (m (fresh_at o)) (out_chain blocks) x ≡ d)) bs) chains (out_chain blocks) (m (fresh_at o) ∷ []) c
        (λ _. ((omega arith, changed_same owner (m (fresh_at o)) (out_chain blocks)), tt))
        (λ n. each_weaker (λ x. (x < m (fresh_at o)) × (owner x ≡ c)) (λ x. (x < m (fresh_at o) + 1) × (with_value owner (m (fresh_at o)) (out_chain blocks) x ≡ c))
        (λ x k. (omega (arith, k.0), changed_other owner (m (fresh_at o)) (out_chain blocks) x (λ (e : x ≡ m (fresh_at o)). omega (arith, k.0)) ∙ k.1)) (chains c) (h.owned c l)));
    counted = let t : blocks_in_chains (with_value chains (out_chain blocks) (m (fresh_at o) ∷ [])) (1 + out_chain blocks) + length (chains (out_chain blocks)) ≡ blocks_in_chains chains (1 + out_chain blocks) + 1 = total_changed chains (out_chain blocks) (m (fresh_at o) ∷ []) (1 + out_chain blocks) (omega arith) in
        rw (changed_same m (fresh_at o) (m (fresh_at o) + 1)) (omega (arith, ap length none, h.counted));
    few = rw (changed_same m (fresh_at o) (m (fresh_at o) + 1)) (omega arith);
  }
    where
      no_links : (l : List ℕ) → Each (λ b. link_at o b ≢ fresh_at o) l
      no_links [] = tt
      no_links (x ∷ xs) = (λ (e : link_at o x ≡ fresh_at o). omega arith, no_links xs)

  fronts_link : (c : ℕ) → c < out_chain blocks → (l : List ℕ) → Each (λ x. x < m (fresh_at o)) l → Each (λ x. link_at o x ≢ front_at o blocks c) l
  fronts_link c l [] taken = tt
  fronts_link c l (x ∷ xs) taken = ((λ (e : link_at o x ≡ front_at o blocks c). front_no_block o blocks c x 2 l (omega (arith, h.few, taken.0)) (omega arith) (sym e)), fronts_link c l xs taken.1)

  taken_in : (c : ℕ) → c < 1 + out_chain blocks → Each (λ x. x < m (fresh_at o)) (chains c)
  taken_in c l = each_weaker (λ x. (x < m (fresh_at o)) × (owner x ≡ c)) (λ x. x < m (fresh_at o)) (λ x k. k.0) (chains c) (h.owned c l)

  -- the pointer cell behind blocks of one chain is no cell of another
  cell_apart : (c d : ℕ) → c < out_chain blocks → d < out_chain blocks → d ≢ c → (xs : List ℕ) → Each (λ x. (x < m (fresh_at o)) × (owner x ≡ c)) xs
      → (front_at o blocks d ≢ cell_after o (front_at o blocks c) xs) × Each (λ y. link_at o y ≢ cell_after o (front_at o blocks c) xs) (chains d)
  cell_apart c d l k n xs own = (
    cell_in o (λ a. front_at o blocks d ≢ a) (front_at o blocks c) xs (λ (e : front_at o blocks d ≡ front_at o blocks c). n (front_apart o blocks d c k l e))
        (each_weaker (λ x. (x < m (fresh_at o)) × (owner x ≡ c)) (λ x. front_at o blocks d ≢ link_at o x) (λ x u. front_no_block o blocks d x 2 k (omega (arith, h.few, u.0)) (omega arith)) xs own),
    cell_in o (λ a. Each (λ y. link_at o y ≢ a) (chains d)) (front_at o blocks c) xs (fronts_link c l (chains d) (taken_in d (omega arith)))
        (each_weaker (λ x. (x < m (fresh_at o)) × (owner x ≡ c)) (λ x. Each (λ y. link_at o y ≢ link_at o x) (chains d)) (λ x u. links_apart d x (omega arith) (λ (q : owner x ≡ d). n (sym q ∙ u.1))) xs own),
  )

  cell_no_fresh : (c : ℕ) → c < out_chain blocks → (xs : List ℕ) → Each (λ x. owner x ≡ c) xs → fresh_at o ≢ cell_after o (front_at o blocks c) xs
  cell_no_fresh c l xs own = cell_in o (λ a. fresh_at o ≢ a) (front_at o blocks c) xs (λ (e : fresh_at o ≡ front_at o blocks c). omega (arith, front_below o blocks c l))
      (each_weaker (λ x. owner x ≡ c) (λ x. fresh_at o ≢ link_at o x) (λ x _ e. omega arith) xs own)

  owners : (c : ℕ) → c < 1 + out_chain blocks → Each (λ x. owner x ≡ c) (chains c)
  owners c l = each_weaker (λ x. (x < m (fresh_at o)) × (owner x ≡ c)) (λ x. owner x ≡ c) (λ x k. k.1) (chains c) (h.owned c l)

  -- a block goes from a chain out
  pub heap_unlink : (c b : ℕ) (xs ys : List ℕ) → c < out_chain blocks → chains c ≡ xs ++ b ∷ ys → chains (out_chain blocks) ≡ []
      → IsHeap o blocks (with_value m (cell_after o (front_at o blocks c) xs) (m (link_at o b))) (with_value (with_value chains c (xs ++ ys)) (out_chain blocks) (b ∷ [])) (with_value owner b (out_chain blocks))
  heap_unlink c b xs ys l is none = record {
    linked = λ d k. rw (changed_other (with_value chains c (xs ++ ys)) (out_chain blocks) (b ∷ []) d (λ (e : d ≡ out_chain blocks). omega arith)) (changed_cases (λ (d : ℕ) (bs : List ℕ). d < out_chain blocks → IsChain o after (front_at o blocks d) bs) chains c (xs ++ ys) d
        (λ e _. chain_unlink o m (front_at o blocks c) b xs ys whole (fronts_link c l (xs ++ b ∷ ys) taken))
        (λ n k. chain_changed o m cell (m (link_at o b)) (front_at o blocks d) (chains d) (cell_apart c d l k n xs owned).0 (cell_apart c d l k n xs owned).1 (h.linked d k)) k);
    owned = λ d k. rw same_fresh (changed_cases (λ (d : ℕ) (bs : List ℕ). d < 1 + out_chain blocks → Each (λ x. (x < m (fresh_at o)) × (with_value owner b (out_chain blocks) x ≡ d)) bs) (with_value chains c (xs ++ ys)) (out_chain blocks) (b ∷ []) d
        (λ e _. ((here.0, changed_same owner b (out_chain blocks)), tt))
        (λ n. changed_cases (λ (d : ℕ) (bs : List ℕ). d < 1 + out_chain blocks → Each (λ x. (x < m (fresh_at o)) × (with_value owner b (out_chain blocks) x ≡ d)) bs) chains c (xs ++ ys) d
        (λ e _. kept (xs ++ ys) rest (chain_apart o m (front_at o blocks c) b xs ys whole))
        (λ n k. still_owned b (out_chain blocks) d k (λ (e : owner b ≡ d). n (sym e ∙ here.1)))) k);
    counted = same_fresh_count;
    few = rw same_fresh h.few;
  }
    where
      cell : ℕ
      cell = cell_after o (front_at o blocks c) xs

      after : ℕ → ℕ
      after = with_value m (cell_after o (front_at o blocks c) xs) (m (link_at o b))

      whole : IsChain o m (front_at o blocks c) (xs ++ b ∷ ys)
      whole = subst (λ (q : List ℕ). IsChain o m (front_at o blocks c) q) is (h.linked c l)

      all : Each (λ x. (x < m (fresh_at o)) × (owner x ≡ c)) (xs ++ b ∷ ys)
      all = subst (λ (q : List ℕ). Each (λ x. (x < m (fresh_at o)) × (owner x ≡ c)) q) is (h.owned c (omega arith))

      here : (b < m (fresh_at o)) × (owner b ≡ c)
      here = (each_right (λ x. (x < m (fresh_at o)) × (owner x ≡ c)) xs (b ∷ ys) all).0

      rest : Each (λ x. (x < m (fresh_at o)) × (owner x ≡ c)) (xs ++ ys)
      rest = each_append (λ x. (x < m (fresh_at o)) × (owner x ≡ c)) xs ys (each_left (λ x. (x < m (fresh_at o)) × (owner x ≡ c)) xs (b ∷ ys) all) (each_right (λ x. (x < m (fresh_at o)) × (owner x ≡ c)) xs (b ∷ ys) all).1

      taken : Each (λ x. x < m (fresh_at o)) (xs ++ b ∷ ys)
      taken = each_weaker (λ x. (x < m (fresh_at o)) × (owner x ≡ c)) (λ x. x < m (fresh_at o)) (λ x k. k.0) (xs ++ b ∷ ys) all

      owned : Each (λ x. (x < m (fresh_at o)) × (owner x ≡ c)) xs
      owned = each_left (λ x. (x < m (fresh_at o)) × (owner x ≡ c)) xs (b ∷ ys) all

      own : Each (λ x. owner x ≡ c) xs
      own = each_weaker (λ x. (x < m (fresh_at o)) × (owner x ≡ c)) (λ x. owner x ≡ c) (λ x k. k.1) xs owned

      same_fresh : with_value m (cell_after o (front_at o blocks c) xs) (m (link_at o b)) (fresh_at o) ≡ m (fresh_at o)
      same_fresh = changed_other m (cell_after o (front_at o blocks c) xs) (m (link_at o b)) (fresh_at o) (cell_no_fresh c l xs own)

      kept : (q : List ℕ) → Each (λ x. (x < m (fresh_at o)) × (owner x ≡ c)) q → Each (λ x. x ≢ b) q → Each (λ x. (x < m (fresh_at o)) × (with_value owner b (out_chain blocks) x ≡ c)) q
      kept [] u v = tt
      kept (x ∷ q) u v = ((u.0.0, changed_other owner b (out_chain blocks) x v.0 ∙ u.0.1), kept q u.1 v.1)

      same_fresh_count : blocks_in_chains (with_value (with_value chains c (xs ++ ys)) (out_chain blocks) (b ∷ [])) (1 + out_chain blocks) ≡ with_value m (cell_after o (front_at o blocks c) xs) (m (link_at o b)) (fresh_at o)
      same_fresh_count =
          let t : blocks_in_chains (with_value (with_value chains c (xs ++ ys)) (out_chain blocks) (b ∷ [])) (1 + out_chain blocks) + length (with_value chains c (xs ++ ys) (out_chain blocks)) ≡ blocks_in_chains (with_value chains c (xs ++ ys)) (1 + out_chain blocks) + 1 = total_changed (with_value chains c (xs ++ ys)) (out_chain blocks) (b ∷ []) (1 + out_chain blocks) (omega arith) in
          let u : blocks_in_chains (with_value chains c (xs ++ ys)) (1 + out_chain blocks) + length (chains c) ≡ blocks_in_chains chains (1 + out_chain blocks) + length (xs ++ ys) = total_changed chains c (xs ++ ys) (1 + out_chain blocks) (omega arith) in
          let v : length (with_value chains c (xs ++ ys) (out_chain blocks)) ≡ 0 = rw (changed_other chains c (xs ++ ys) (out_chain blocks) (λ (e : out_chain blocks ≡ c). omega arith)) (ap length none) in
          let w : length (chains c) ≡ length xs + (1 + length ys) = ap length is ∙ length-append xs (b ∷ ys) ∙ (omega arith) in
          rw same_fresh (omega (arith, length-append xs ys, h.counted))

  -- what an insertion of the block that is out owes
  inserted : (c b : ℕ) (l : List ℕ) → c < out_chain blocks → chains (out_chain blocks) ≡ b ∷ [] → length l ≡ length (chains c) + 1 → Each (λ x. (x < m (fresh_at o)) × (with_value owner b c x ≡ c)) l
      → ((d : ℕ) → d < 1 + out_chain blocks → Each (λ x. (x < m (fresh_at o)) × (with_value owner b c x ≡ d)) (with_value (with_value chains (out_chain blocks) []) c l d)) × (blocks_in_chains (with_value (with_value chains (out_chain blocks) []) c l) (1 + out_chain blocks) ≡ m (fresh_at o))
  inserted c b l k out more own = (
    λ d e. changed_cases (λ (d : ℕ) (bs : List ℕ). d < 1 + out_chain blocks → Each (λ x. (x < m (fresh_at o)) × (with_value owner b c x ≡ d)) bs) (with_value chains (out_chain blocks) []) c l d
        (λ _ _. own)
        (λ n. changed_cases (λ (d : ℕ) (bs : List ℕ). d < 1 + out_chain blocks → Each (λ x. (x < m (fresh_at o)) × (with_value owner b c x ≡ d)) bs) chains (out_chain blocks) [] d
        (λ _ _. tt)
        (λ n k. still_owned b c d k (λ (e : owner b ≡ d). n (sym e ∙ here)))) e,
    count,
  )
    where
      here : owner b ≡ out_chain blocks
      here = (subst (λ (q : List ℕ). Each (λ x. owner x ≡ out_chain blocks) q) out (owners (out_chain blocks) (omega arith))).0

      count : blocks_in_chains (with_value (with_value chains (out_chain blocks) []) c l) (1 + out_chain blocks) ≡ m (fresh_at o)
      count =
          let t : blocks_in_chains (with_value (with_value chains (out_chain blocks) []) c l) (1 + out_chain blocks) + length (with_value chains (out_chain blocks) [] c) ≡ blocks_in_chains (with_value chains (out_chain blocks) []) (1 + out_chain blocks) + length l = total_changed (with_value chains (out_chain blocks) []) c l (1 + out_chain blocks) (omega arith) in
          let u : blocks_in_chains (with_value chains (out_chain blocks) []) (1 + out_chain blocks) + length (chains (out_chain blocks)) ≡ blocks_in_chains chains (1 + out_chain blocks) + 0 = total_changed chains (out_chain blocks) [] (1 + out_chain blocks) (omega arith) in
          let v : length (with_value chains (out_chain blocks) [] c) ≡ length (chains c) = rw (changed_other chains (out_chain blocks) [] c (λ (e : c ≡ out_chain blocks). omega arith)) refl in
          omega (arith, ap length out, h.counted)

  pub out_owner : (b : ℕ) → chains (out_chain blocks) ≡ b ∷ [] → (b < m (fresh_at o)) × (owner b ≡ out_chain blocks)
  out_owner b out = (subst (λ (q : List ℕ). Each (λ x. (x < m (fresh_at o)) × (owner x ≡ out_chain blocks)) q) out (h.owned (out_chain blocks) (omega arith))).0

  -- how the block that is out is owned by the chain that it goes to
  own_new : (c b : ℕ) → c < out_chain blocks → owner b ≡ out_chain blocks → Each (λ x. (x < m (fresh_at o)) × (with_value owner b c x ≡ c)) (chains c)
  own_new c b k out = still_owned b c c (omega arith) (λ (e : owner b ≡ c). omega arith)

  -- the block that is out goes in front of a chain
  pub heap_front : (c b : ℕ) → c < out_chain blocks → chains (out_chain blocks) ≡ b ∷ [] → m (link_at o b) ≡ m (front_at o blocks c)
      → IsHeap o blocks (with_value m (front_at o blocks c) (b + 1)) (with_value (with_value chains (out_chain blocks) []) c (b ∷ chains c)) (with_value owner b c)
  heap_front c b k out leads = record {
    linked = λ d e. changed_cases (λ (d : ℕ) (bs : List ℕ). d < out_chain blocks → IsChain o (with_value m (front_at o blocks c) (b + 1)) (front_at o blocks d) bs) (with_value chains (out_chain blocks) []) c (b ∷ chains c) d
        (λ _ _. (
          changed_same m (front_at o blocks c) (b + 1),
          chain_copy o m (with_value m (front_at o blocks c) (b + 1)) (front_at o blocks c) (link_at o b) (chains c) (changed_other m (front_at o blocks c) (b + 1) (link_at o b) (fronts_link c k (b ∷ []) (here.0, tt)).0 ∙ leads)
              (each_weaker (λ x. link_at o x ≢ front_at o blocks c) (λ x. with_value m (front_at o blocks c) (b + 1) (link_at o x) ≡ m (link_at o x)) (λ x n. changed_other m (front_at o blocks c) (b + 1) (link_at o x) n) (chains c) (fronts_link c k (chains c) (taken_in c (omega arith)))) (h.linked c k),
        ))
        (λ n e. rw (changed_other chains (out_chain blocks) [] d (λ (q : d ≡ out_chain blocks). omega arith))
        (chain_changed o m (front_at o blocks c) (b + 1) (front_at o blocks d) (chains d) (λ (q : front_at o blocks d ≡ front_at o blocks c). n (front_apart o blocks d c e k q)) (fronts_link c k (chains d) (taken_in d (omega arith))) (h.linked d e))) e;
    owned = λ d e. rw same_fresh (it.0 d e);
    counted = it.1 ∙ sym same_fresh;
    few = rw same_fresh h.few;
  }
    where
      here : (b < m (fresh_at o)) × (owner b ≡ out_chain blocks)
      here = out_owner b out

      same_fresh : with_value m (front_at o blocks c) (b + 1) (fresh_at o) ≡ m (fresh_at o)
      same_fresh = changed_other m (front_at o blocks c) (b + 1) (fresh_at o) (λ (e : fresh_at o ≡ front_at o blocks c). omega (arith, front_below o blocks c k))

      it : ((d : ℕ) → d < 1 + out_chain blocks → Each (λ x. (x < m (fresh_at o)) × (with_value owner b c x ≡ d)) (with_value (with_value chains (out_chain blocks) []) c (b ∷ chains c) d)) × (blocks_in_chains (with_value (with_value chains (out_chain blocks) []) c (b ∷ chains c)) (1 + out_chain blocks) ≡ m (fresh_at o))
      it = inserted c b (b ∷ chains c) k out (omega arith) ((here.0, changed_same owner b c), own_new c b k here.1)

  -- the block that is out goes behind a chain
  pub heap_append : (c b : ℕ) → c < out_chain blocks → chains (out_chain blocks) ≡ b ∷ [] → m (link_at o b) ≡ 0
      → IsHeap o blocks (with_value m (cell_after o (front_at o blocks c) (chains c)) (b + 1)) (with_value (with_value chains (out_chain blocks) []) c (chains c ++ b ∷ [])) (with_value owner b c)
  heap_append c b k out last = record {
    linked = λ d e. changed_cases (λ (d : ℕ) (bs : List ℕ). d < out_chain blocks → IsChain o (with_value m (cell_after o (front_at o blocks c) (chains c)) (b + 1)) (front_at o blocks d) bs) (with_value chains (out_chain blocks) []) c (chains c ++ b ∷ []) d
        (λ _ _. chain_append o m (front_at o blocks c) b (chains c) (h.linked c k) (fronts_link c k (chains c) (taken_in c (omega arith))) (fronts_link c k (b ∷ []) (here.0, tt)).0 (blocks_apart c b (omega arith) (λ (e : owner b ≡ c). omega (arith, here.1))) last)
        (λ n e. rw (changed_other chains (out_chain blocks) [] d (λ (q : d ≡ out_chain blocks). omega arith))
        (chain_changed o m (cell_after o (front_at o blocks c) (chains c)) (b + 1) (front_at o blocks d) (chains d) (cell_apart c d k e n (chains c) (h.owned c (omega arith))).0 (cell_apart c d k e n (chains c) (h.owned c (omega arith))).1 (h.linked d e))) e;
    owned = λ d e. rw same_fresh (it.0 d e);
    counted = it.1 ∙ sym same_fresh;
    few = rw same_fresh h.few;
  }
    where
      here : (b < m (fresh_at o)) × (owner b ≡ out_chain blocks)
      here = out_owner b out

      same_fresh : with_value m (cell_after o (front_at o blocks c) (chains c)) (b + 1) (fresh_at o) ≡ m (fresh_at o)
      same_fresh = changed_other m (cell_after o (front_at o blocks c) (chains c)) (b + 1) (fresh_at o) (cell_no_fresh c k (chains c) (owners c (omega arith)))

      it : ((d : ℕ) → d < 1 + out_chain blocks → Each (λ x. (x < m (fresh_at o)) × (with_value owner b c x ≡ d)) (with_value (with_value chains (out_chain blocks) []) c (chains c ++ b ∷ []) d)) × (blocks_in_chains (with_value (with_value chains (out_chain blocks) []) c (chains c ++ b ∷ [])) (1 + out_chain blocks) ≡ m (fresh_at o))
      it = inserted c b (chains c ++ b ∷ []) k out (length-append (chains c) (b ∷ []) ∙ (omega arith))
          (each_append (λ x. (x < m (fresh_at o)) × (with_value owner b c x ≡ c)) (chains c) (b ∷ []) (own_new c b k here.1) ((here.0, changed_same owner b c), tt))
