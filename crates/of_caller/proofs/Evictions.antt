-- What a pass has evicted after so many items of a schedule.
use Rattle.std.proofs.Common.{◌≡◌, ℕ, ◌+◌, ◌<◌, List, [], ◌∷◌, ◌++◌, length, map, get_or, take, sym, ap, ◌∙◌, append_assoc}
use Rattle.std.specs.List.{filter_map}
use Rattle.std.proofs.lemmas.List.{append-nil, map-append, take_more}
use Rattle.std.proofs.lemmas.List.Elements.{filter_map-append}
use Rattle.of_plan.specs.declared.plan.Item.{Item}
use Rattle.of_plan.specs.declared.plan.Item.TheVariants.{Turns, Evict}
use Rattle.of_row.specs.Views.{View}
use Rattle.of_row.specs.Turned.{after_fetch, after_evict}
use Rattle.of_caller.specs.Teams.{evicted_by}
use Rattle.of_caller.specs.Seating.{EvictsCells}

module _ (items : List Item) (i : ℕ) (d : Item) (lt : i < length items) where
  more : filter_map evicted_by (take (i + 1) items) ≡ filter_map evicted_by (take i items) ++ filter_map evicted_by (get_or items i d ∷ [])
  more = ap (filter_map evicted_by) (take_more items i d lt) ∙ filter_map-append evicted_by (take i items) (get_or items i d ∷ [])

  -- an item of turns evicts nothing
  pub evicts_none : (c x : ℕ) → get_or items i d ≡ Turns c x → (v w : View) → EvictsCells (filter_map evicted_by (take i items)) v w → EvictsCells (filter_map evicted_by (take (i + 1) items)) v w
  evicts_none c x is v w h = record {
    first = h.first;
    asked = h.asked;
    kept = h.kept;
    loaded = h.loaded;
    evicted = h.evicted ∙ ap (λ (l : List ℕ). map (λ (f : ℕ × ℕ). f.0) v.evicted ++ l) (sym (more ∙ ap (λ (t : Item). filter_map evicted_by (take i items) ++ filter_map evicted_by (t ∷ [])) is ∙ append-nil (filter_map evicted_by (take i items))));
  }

  -- an eviction adds its cell
  pub evicts_one : (a n : ℕ) → get_or items i d ≡ Evict a → (v w u : View) → EvictsCells (filter_map evicted_by (take i items)) v w → u ≡ after_evict (after_fetch a n w) → EvictsCells (filter_map evicted_by (take (i + 1) items)) v u
  evicts_one a n is v w u h led = record {
    first = ap (λ (z : View). z.first) led ∙ h.first;
    asked = ap (λ (z : View). z.asked) led ∙ h.asked;
    kept = ap (λ (z : View). z.kept) led ∙ h.kept;
    loaded = λ none. ap (λ (z : View). z.loaded) led;
    evicted = ap (λ (z : View). map (λ (f : ℕ × ℕ). f.0) z.evicted) led ∙ (map-append (λ (f : ℕ × ℕ). f.0) w.evicted ((a, n) ∷ []) ∙ ap (λ (l : List ℕ). l ++ a ∷ []) h.evicted) ∙ append_assoc (map (λ (f : ℕ × ℕ). f.0) v.evicted) (filter_map evicted_by (take i items)) (a ∷ [])
        ∙ ap (λ (l : List ℕ). map (λ (f : ℕ × ℕ). f.0) v.evicted ++ l) (sym (more ∙ ap (λ (t : Item). filter_map evicted_by (take i items) ++ filter_map evicted_by (t ∷ [])) is));
  }
