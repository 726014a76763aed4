-- What a move of a row leaves as it is: words that agree, views in their list, and how a view goes on fitting.
use Rattle.std.proofs.Common.{◌≡◌, ◌≢◌, ℕ, zero, suc, ◌<◌, ◌≤◌, ◌⊎◌, inl, inr, ⊎_elim, max, cond, eqb, Bool, true, false, List, [], ◌∷◌, ◌++◌, length, get_or, set, refl, sym, ◌∙◌, ap, subst, arith, eq-eqb, ne_eqb}
use Rattle.std.specs.Int.{bit_at}
use Rattle.std.specs.List.{AllByRecursion as Each}
use Rattle.std.proofs.lemmas.Bool.{cases_eq}
use Rattle.std.proofs.lemmas.List.{get_or-set_same, get_or-set_other, set_comm}
use mathlib.Core.Option.{some, some-injective, some-ne-none}
use lib.ListN.{get_elem?}
use Rattle.atomic_table.proofs.Lists.{at_set}
use Rattle.of_core.specs.declared.place.Op.{Op}
use Rattle.of_core.specs.declared.place.Op.TheVariants.{Load, Store, Exchange, Raise}
use Rattle.of_core.specs.Table.{Setup, cell_count, durable_word}
use Rattle.of_core.specs.Steps.{word_of, word_left, words_after, IsFoundBy}
use Rattle.of_core.specs.TableMoment.{TableStart, Batch}
use Rattle.of_core.specs.Events.{Event}
use Rattle.of_row.specs.Views.{KnownCaller, View, IsSeenPrefix, seen_seq}
use Rattle.of_row.specs.Trail.{IsRunBy}
use Rattle.of_row.specs.Rule.{members_of, IsAsked, IsFirstPassView, IsRaised, IsAtHome, KnowsCallsOf, ViewFits}
use Rattle.of_row.specs.Turned.{after_look}
use Rattle.of_row.proofs.Pasts.{prefix_more}
use Rattle.of_row.proofs.Fronts.{each_map}
use Rattle.of_row.proofs.Events.{OfEviction, eviction_batches, eviction_runs}

-- ---- words that agree

-- a word set in a table whose members word is 0
pub set_apart : (ws : List ℕ) (T c x : ℕ) → c < T → set (set ws c x) T 0 ≡ set (set ws T 0) c x
set_apart ws T c x low = set_comm ws c T x 0 (λ e. omega (arith, low, e))

-- a step on the table's own words
pub step_apart : (o : Op) (ws : List ℕ) (T : ℕ) → word_of o < T → set (words_after o ws) T 0 ≡ words_after o (set ws T 0)
step_apart o ws T low =
    let same : get_or (set ws T 0) (word_of o) 0 ≡ get_or ws (word_of o) 0 = get_or-set_other ws T (word_of o) 0 0 (λ e. omega (arith, low, e)) in
    set_apart ws T (word_of o) (word_left o (get_or ws (word_of o) 0)) low ∙ ap (λ (n : ℕ). set (set ws T 0) (word_of o) (word_left o n)) (sym same)

pub found_as : (o : Op) (xs ys : List ℕ) (n : ℕ) → get_or xs (word_of o) 0 ≡ get_or ys (word_of o) 0 → IsFoundBy o xs n → IsFoundBy o ys n
found_as (Load c) xs ys n e f = f ∙ e
found_as (Store c v) xs ys n e f = tt
found_as (Exchange c a b) xs ys n e f = f ∙ e
found_as (Raise c v) xs ys n e f = f ∙ e

-- what was raised stays so where no durable word falls
pub raised_on : (S : Setup) (ws ws2 : List ℕ) → ((c : ℕ) → c < cell_count S → durable_word S ws c ≤ durable_word S ws2 c) → (l : List (ℕ × ℕ)) → Each (IsRaised S ws) l → Each (IsRaised S ws2) l
raised_on S ws ws2 rise l all = each_map (IsRaised S ws) (IsRaised S ws2) l (λ e q. (q.0, let up = rise e.0 q.0 in omega (arith, q.1, up))) all

-- no word falls where one is raised
pub raise_rises : (ws : List ℕ) (a x k : ℕ) → a < length ws → get_or ws k 0 ≤ get_or (set ws a (max (get_or ws a 0) x)) k 0
raise_rises ws a x k inside = go (cases_eq k a)
  where
    go : (k ≡ a) ⊎ (k ≡ a → ⊥) → get_or ws k 0 ≤ get_or (set ws a (max (get_or ws a 0) x)) k 0
    go (inl e) = subst (λ (z : ℕ). get_or ws z 0 ≤ get_or (set ws a (max (get_or ws a 0) x)) z 0) (sym e) (let same = get_or-set_same ws a (max (get_or ws a 0) x) 0 inside in omega (arith, same))
    go (inr ne) = let same = get_or-set_other ws a k (max (get_or ws a 0) x) 0 ne in omega (arith, same)

-- ---- views in their list

pub at_end : {A : Type 0} (l : List A) (a b : A) (j : ℕ) → get_elem? (l ++ a ∷ []) j ≡ some b → ((j < length l) × (get_elem? l j ≡ some b)) ⊎ ((j ≡ length l) × (a ≡ b))
at_end [] a b zero e = inr (refl, some-injective a b e)
at_end [] a b (suc j) e = absurd (some-ne-none b (sym e))
at_end (x ∷ xs) a b zero e = inl (omega arith, e)
at_end (x ∷ xs) a b (suc j) e = ⊎_elim (λ t. inl (omega (arith, t.0), t.1)) (λ t. inr (ap suc t.0, t.1)) (at_end xs a b j e)

-- a fact of each seat's view
abbrev pub EachSeat : (ℕ → View → Type 0) → List View → Type 0
EachSeat P vs = (j : ℕ) (v : View) → get_elem? vs j ≡ some v → v.spent ≡ false → P j v

-- another view for one seat
pub seats_set : (P Q : ℕ → View → Type 0) (vs : List View) (id : ℕ) (w : View) → EachSeat P vs → ((j : ℕ) (u : View) → j ≢ id → get_elem? vs j ≡ some u → u.spent ≡ false → P j u → Q j u) → (w.spent ≡ false → Q id w) → EachSeat Q (set vs id w)
seats_set P Q vs id w all other mine j u p alive = ⊎_elim
    (λ (t : (j ≡ id) × (w ≡ u)). subst (λ (z : ℕ × View). Q z.0 z.1) (λ k. (sym t.0 k, t.1 k)) (mine (ap (λ (z : View). z.spent) t.1 ∙ alive)))
    (λ (t : (j ≢ id) × (get_elem? vs j ≡ some u)). other j u t.0 t.1 alive (all j u t.1 alive))
    (at_set vs id j w u p)

-- one seat more
pub seats_push : (P : ℕ → View → Type 0) (vs : List View) (b : View) → EachSeat P vs → (b.spent ≡ false → P (length vs) b) → EachSeat P (vs ++ b ∷ [])
seats_push P vs b all new j u p alive = ⊎_elim
    (λ (t : (j < length vs) × (get_elem? vs j ≡ some u)). all j u t.1 alive)
    (λ (t : (j ≡ length vs) × (b ≡ u)). subst (λ (z : ℕ × View). P z.0 z.1) (λ k. (sym t.0 k, t.1 k)) (new (ap (λ (z : View). z.spent) t.1 ∙ alive)))
    (at_end vs b u j p)

-- ---- the homes of numbers

-- the seat of a number, after n came to id
abbrev pub moved : (ℕ → ℕ) → ℕ → ℕ → ℕ → ℕ
moved home n id i = cond (eqb i n) id (home i)

pub moved_own : (home : ℕ → ℕ) (n id : ℕ) → moved home n id n ≡ id
moved_own home n id = ap (λ (t : Bool). cond t id (home n)) (eq-eqb n n refl)

pub moved_else : (home : ℕ → ℕ) (n id i : ℕ) → i ≢ n → moved home n id i ≡ home i
moved_else home n id i ne = ap (λ (t : Bool). cond t id (home i)) (ne_eqb i n ne)

-- the seat of a number, after the seat other was taken in
abbrev pub taken_to : (ℕ → ℕ) → ℕ → ℕ → ℕ → ℕ
taken_to home other id i = cond (eqb (home i) other) id (home i)

pub taken_own : (home : ℕ → ℕ) (other id i : ℕ) → home i ≡ other → taken_to home other id i ≡ id
taken_own home other id i e = ap (λ (t : Bool). cond t id (home i)) (eq-eqb (home i) other e)

pub taken_else : (home : ℕ → ℕ) (other id i : ℕ) → home i ≢ other → taken_to home other id i ≡ home i
taken_else home other id i ne = ap (λ (t : Bool). cond t id (home i)) (ne_eqb (home i) other ne)

pub rehomed : (S : Setup) (home home2 : ℕ → ℕ) (m j j2 : ℕ) (y : KnownCaller) → home2 y.machine.caller ≡ j2 → IsAtHome S home m j y → IsAtHome S home2 m j2 y
rehomed S home home2 m j j2 y e q = record { in_range = q.in_range; home_is = e; taken = q.taken }

-- ---- views that go on fitting

-- the first pass, where members, evictions and its lists are the same
pub chief_as : (m m2 : ℕ) (l l2 : List (ℕ × ℕ)) (chief j : ℕ) (v w : View) → m2 ≡ m → l2 ≡ l → w.asked ≡ v.asked → w.evicted ≡ v.evicted → w.loaded ≡ v.loaded → IsFirstPassView m l chief j v → IsFirstPassView m2 l2 chief j w
chief_as m m2 l l2 chief j v w e d a b c q = record {
  here = q.here;
  asked = λ n on. subst (IsAsked n) (sym a) (q.asked n (sym (ap (λ (z : ℕ). bit_at z n) e) ∙ on));
  set = λ n on. ap (λ (z : ℕ). bit_at z n) e ∙ q.set n (subst (IsAsked n) a on);
  evicts = (λ k. b k ++ c k) ∙ (q.evicts ∙ sym d);
}

-- homes have changed, and none of its own
pub fits_home : (S : Setup) (B : TableStart) (ws : List ℕ) (es : List Event) (home home2 : ℕ → ℕ) (chief j : ℕ) (u : View) → ViewFits S B ws es home chief j u → ((i : ℕ) → home i ≡ j → home2 i ≡ j) → ViewFits S B ws es home2 chief j u
fits_home S B ws es home home2 chief j u f same = record {
  seen = f.seen;
  past = f.past;
  met = f.met;
  kept = each_map (IsAtHome S home (members_of S ws) j) (IsAtHome S home2 (members_of S ws) j) u.kept (λ y q. rehomed S home home2 (members_of S ws) j j y (same y.machine.caller q.home_is) q) f.kept;
  apart = f.apart;
  runs = f.runs;
  knows = f.knows;
  raised = f.raised;
  first = f.first;
}

-- its seat has made one load more
pub fits_look : (S : Setup) (B : TableStart) (ws : List ℕ) (es : List Event) (home : ℕ → ℕ) (chief j : ℕ) (u : View) → ViewFits S B ws es home chief j u → ViewFits S B ws es home chief j (after_look u)
fits_look S B ws es home chief j u f = record {
  seen = f.seen;
  past = f.past;
  met = f.met;
  kept = f.kept;
  apart = f.apart;
  runs = f.runs;
  knows = f.knows;
  raised = f.raised;
  first = λ t. chief_as (members_of S ws) (members_of S ws) _ _ chief j u (after_look u) refl refl refl refl refl (f.first t);
}

-- an event of an eviction has come, and its view isn't the first pass's
pub fits_eviction : (S : Setup) (B : TableStart) (ws ws2 : List ℕ) (es : List Event) (e : Event) (home : ℕ → ℕ) (chief j : ℕ) (u : View) → OfEviction e → members_of S ws2 ≡ members_of S ws → ((c : ℕ) → c < cell_count S → durable_word S ws c ≤ durable_word S ws2 c) → (u.first ≡ true → ⊥)
    → ViewFits S B ws es home chief j u → ViewFits S B ws2 (es ++ e ∷ []) home chief j u
fits_eviction S B ws ws2 es e home chief j u is still rise other f = record {
  seen = subst (IsSeenPrefix u.seen) (sym (eviction_batches S B es e is)) f.seen;
  past = prefix_more u.past es (e ∷ []) f.past;
  met = f.met;
  kept = each_map (IsAtHome S home (members_of S ws) j) (IsAtHome S home (members_of S ws2) j) u.kept (λ y q. record { in_range = q.in_range; home_is = q.home_is; taken = ap (λ (z : ℕ). bit_at z y.machine.caller) still ∙ q.taken }) f.kept;
  apart = f.apart;
  runs = each_map (IsRunBy S B es) (IsRunBy S B (es ++ e ∷ [])) u.kept (λ y q. eviction_runs S B es e is y q) f.runs;
  knows = subst (λ (bs : List Batch). Each (KnowsCallsOf S B bs (seen_seq B u.seen)) u.kept) (sym (eviction_batches S B es e is)) f.knows;
  raised = raised_on S ws ws2 rise u.evicted f.raised;
  first = λ q. absurd (other q);
}
