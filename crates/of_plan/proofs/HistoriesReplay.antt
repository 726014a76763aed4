-- Serial replay of a history's entries, from the store before a sequence to the one after it.
use Rattle.std.proofs.Common.{◌≡◌, ℕ, zero, suc, ◌+◌, ◌-◌, ◌<◌, ◌≤◌, false, List, [], ◌∷◌, ◌++◌, map, refl, sym, ap, subst, ◌∙◌, arith}
use Rattle.std.specs.Prelude.{IsTrue, All, flat_map}
use Rattle.std.specs.List.{range_with_len, AllByRecursion as Each}
use Rattle.std.proofs.lemmas.List.{map-append}
use Rattle.of_script.specs.Language.{reads_only}
use Rattle.of_store.specs.Store.{Store, Reply, replies_in_order, last_store, run}
use Rattle.of_store.proofs.Replays.{replies-append, last_store-append, run-reads}
use Rattle.of_plan.specs.Plan.{Plan}
use Rattle.of_plan.specs.Report.{Entry, Start}
use Rattle.of_plan.specs.Legal.{script_of_entry}
use Rattle.of_plan.specs.Histories.{History, IsBatch, EntryHasPlace, IsHistory, reads_at, history_entries}
use Rattle.of_plan.proofs.HistoriesLists.{each_weaker}
use Rattle.of_plan.proofs.HistoriesOrder.{IsAt, part, reads_are, batch_at, own_entry}

-- serial replay of these entries answers what they tell, and leads from one store to the other
pub record Leads (p : Plan) (before : Store) (es : List Entry) (after : Store) : Type 0 where
  pub told : map (λ (e : Entry). e.reply) es ≡ replies_in_order before (map (script_of_entry p) es)
  pub store : last_store before (map (script_of_entry p) es) ≡ after

leads_append : (p : Plan) (a b c : Store) (xs ys : List Entry) → Leads p a xs b → Leads p b ys c → Leads p a (xs ++ ys) c
leads_append p a b c xs ys first second =
    let told_of = λ (e : Entry). e.reply in
    let front = map (script_of_entry p) xs in
    let back = map (script_of_entry p) ys in
    record {
      told = map-append told_of xs ys ∙ ap (λ (t : List Reply). t ++ map told_of ys) first.told ∙ ap (λ (t : List Reply). replies_in_order a front ++ t) (second.told ∙ ap (λ (t : Store). replies_in_order t back) (sym first.store))
          ∙ sym (replies-append a front back) ∙ ap (replies_in_order a) (sym (map-append (script_of_entry p) xs ys));
      store = ap (last_store a) (map-append (script_of_entry p) xs ys) ∙ last_store-append a front back ∙ ap (λ (t : Store). last_store t back) first.store ∙ second.store;
    }

-- an entry reads this store
abbrev Reads : Plan → Store → Entry → Type 0
Reads p t e = All (λ i. IsTrue (reads_only i)) (script_of_entry p e) × (e.reply ≡ (run t (script_of_entry p e)).1)

leads_reads : (p : Plan) (t : Store) (es : List Entry) → Each (Reads p t) es → Leads p t es t
leads_reads p t [] all = record { told = refl; store = refl }
leads_reads p t (e ∷ es) all =
    let stays : (run t (script_of_entry p e)).0 ≡ t = run-reads t (script_of_entry p e) all.0.0 in
    let rest = leads_reads p t es all.1 in
    record {
      told = ap (λ (r : Reply). r ∷ map (λ (f : Entry). f.reply) es) all.0.1
          ∙ ap (λ (rs : List Reply). (run t (script_of_entry p e)).1 ∷ rs) (rest.told ∙ ap (λ (u : Store). replies_in_order u (map (script_of_entry p) es)) (sym stays));
      store = ap (λ (u : Store). last_store u (map (script_of_entry p) es)) stays ∙ rest.store;
    }

leads_over : (p : Plan) (stores : ℕ → Store) (f : ℕ → List Entry) (a n : ℕ) → ((k : ℕ) → a < k → k ≤ a + n → Leads p (stores (k - 1)) (f k) (stores k)) → Leads p (stores a) (flat_map f (range_with_len (a + 1) n)) (stores (a + n))
leads_over p stores f a zero h = let same : a ≡ a + zero = omega arith in subst (λ (m : ℕ). Leads p (stores a) [] (stores m)) same (record { told = refl; store = refl })
leads_over p stores f a (suc n) h =
    let back : a + 1 - 1 ≡ a = omega arith in
    let on : a + 1 + n ≡ a + suc n = omega arith in
    leads_append p (stores a) (stores (a + 1)) (stores (a + suc n)) (f (a + 1)) (flat_map f (range_with_len (a + 1 + 1) n))
    (subst (λ (m : ℕ). Leads p (stores m) (f (a + 1)) (stores (a + 1))) back (h (a + 1) (omega arith) (omega arith)))
    (subst (λ (m : ℕ). Leads p (stores (a + 1)) (flat_map f (range_with_len (a + 1 + 1) n)) (stores m)) on (leads_over p stores f (a + 1) n (λ k low high. h k (omega arith) (omega arith))))

batch_leads : (p : Plan) (h : History) (k : ℕ) → IsBatch p h k → Leads p (h.stores (k - 1)) (h.runs k) (h.stores k)
batch_leads p h k batch = record { told = batch.replies; store = batch.leads }

module _ (p : Plan) (s : Start) (h : History) (history : IsHistory p s h) where
  reads_lead : (k : ℕ) → Leads p (h.stores k) (reads_at p h k) (h.stores k)
  reads_lead k =
      leads_reads p (h.stores k) (reads_at p h k) (each_weaker (λ e. IsAt p h k e × (e.announced ≡ false)) (Reads p (h.stores k)) (λ e at.
      let place = subst (EntryHasPlace p s h e) at.1 (own_entry p s h history e (at.0.known, at.0.own)).3 in
      (place.0, place.1 ∙ ap (λ (m : ℕ). (run (h.stores m) (script_of_entry p e)).1) at.0.seq))
      (reads_at p h k) (reads_are p s h history k))

  part_leads : (k : ℕ) → IsBatch p h k → Leads p (h.stores (k - 1)) (part p h k) (h.stores k)
  part_leads k batch = leads_append p (h.stores (k - 1)) (h.stores k) (h.stores k) (h.runs k) (reads_at p h k) (batch_leads p h k batch) (reads_lead k)

  -- the entries of a history lead from the start's store to the last one
  pub entries_lead : Leads p s.store (history_entries p s h) (h.stores h.last)
  entries_lead =
      let last : s.seq + (h.last - s.seq) ≡ h.last = omega (arith, history.from) in
      let later = leads_over p h.stores (part p h) s.seq (h.last - s.seq) (λ k low high. part_leads k (batch_at p s h history k (omega arith) (omega arith))) in
      leads_append p s.store (h.stores s.seq) (h.stores h.last) (reads_at p h s.seq) (flat_map (part p h) (range_with_len (s.seq + 1) (h.last - s.seq)))
      (subst (λ (t : Store). Leads p t (reads_at p h s.seq) (h.stores s.seq)) history.begins (reads_lead s.seq))
      (subst (λ (m : ℕ). Leads p (h.stores s.seq) (flat_map (part p h) (range_with_len (s.seq + 1) (h.last - s.seq))) (h.stores m)) last later)
