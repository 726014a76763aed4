-- What a change of memory leaves of buckets and queues.
use Rattle.std.proofs.Common.{◌≡◌, ℕ, ◌≢◌, refl, sym, ◌∙◌, ap, eqb, cond, Bool, true, false, Some, None, List, [], ◌∷◌, ◌++◌, map}
use Rattle.std.specs.List.{AllByRecursion as Each}
use Rattle.std.proofs.lemmas.Bool.{ne_eqb, eqb-false}
use Rattle.std.proofs.lemmas.Option.{none-some}
use Rattle.of_mem.specs.Places.{tail_at, length_at}
use Rattle.of_mem.specs.Stores.{IsBucket, IsQueue, first_at, second_at, value_in}
use Rattle.of_mem.proofs.Heaps.{each_left, each_right, each_append}

-- the first and second cells of these blocks are the same
abbrev pub SameBlocks : ℕ → (ℕ → ℕ) → (ℕ → ℕ) → List ℕ → Type 0
SameBlocks o m n l = Each (λ b. (n (first_at o b) ≡ m (first_at o b)) × (n (second_at o b) ≡ m (second_at o b))) l

pub value_same : (o : ℕ) (m n : ℕ → ℕ) (key : ℕ) (l : List ℕ) → SameBlocks o m n l → value_in o n key l ≡ value_in o m key l
value_same o m n key [] h = refl
value_same o m n key (b ∷ l) h = rw (h.0.0, h.0.1, value_same o m n key l h.1) refl

pub each_not : (o : ℕ) (m n : ℕ → ℕ) (x y : ℕ) (l : List ℕ) → SameBlocks o m n l → x ≡ y → Each (λ z. m (first_at o z) ≢ y) l → Each (λ z. n (first_at o z) ≢ x) l
each_not o m n x y [] h e k = tt
each_not o m n x y (z ∷ l) h e k = ((λ (q : n (first_at o z) ≡ x). k.0 (sym h.0.0 ∙ q ∙ e)), each_not o m n x y l h.1 e k.1)

pub bucket_same : (o blocks : ℕ) (m n : ℕ → ℕ) (b : ℕ) (l : List ℕ) → SameBlocks o m n l → IsBucket o blocks m b l → IsBucket o blocks n b l
bucket_same o blocks m n b [] h k = tt
bucket_same o blocks m n b (x ∷ l) h k =
    (rw h.0.0 k.0, rw h.0.0 k.1, rw h.0.1 k.2, each_not o m n (n (first_at o x)) (m (first_at o x)) l h.1 h.0.0 k.3, bucket_same o blocks m n b l h.1 k.4)

pub items_same : (o : ℕ) (m n : ℕ → ℕ) (l : List ℕ) → SameBlocks o m n l → map (λ b. n (first_at o b)) l ≡ map (λ b. m (first_at o b)) l
items_same o m n [] h = refl
items_same o m n (b ∷ l) h = let k : map (λ b. n (first_at o b)) l ≡ map (λ b. m (first_at o b)) l = items_same o m n l h.1 in let e : n (first_at o b) ≡ m (first_at o b) = h.0.0 in rw (e, k) refl

pub queue_same : (o : ℕ) (m n : ℕ → ℕ) (q : ℕ) (l items : List ℕ) → SameBlocks o m n l → n (tail_at o q) ≡ m (tail_at o q) → n (length_at o q) ≡ m (length_at o q) → IsQueue o m q l items → IsQueue o n q l items
queue_same o m n q l items h t s k = record {
  listed = items_same o m n l h ∙ k.listed;
  numbers = k.numbers;
  ends = t ∙ k.ends;
  counted = s ∙ k.counted;
}

-- a key that is in none of these blocks
pub value_none : (o : ℕ) (m : ℕ → ℕ) (key : ℕ) (l : List ℕ) → Each (λ z. m (first_at o z) ≢ key) l → value_in o m key l ≡ None
value_none o m key [] h = refl
value_none o m key (b ∷ l) h = rw (ne_eqb (m (first_at o b)) key h.0) (value_none o m key l h.1)

none_case : (o : ℕ) (m : ℕ → ℕ) (key b : ℕ) (l : List ℕ) → (value_in o m key l ≡ None → Each (λ z. m (first_at o z) ≢ key) l)
    → (t : Bool) → eqb (m (first_at o b)) key ≡ t → cond t (Some (m (second_at o b))) (value_in o m key l) ≡ None → Each (λ z. m (first_at o z) ≢ key) (b ∷ l)
none_case o m key b l rest true q k = absurd (none-some (m (second_at o b)) (sym k))
none_case o m key b l rest false q k = (eqb-false (m (first_at o b)) key q, rest k)

pub none_value : (o : ℕ) (m : ℕ → ℕ) (key : ℕ) (l : List ℕ) → value_in o m key l ≡ None → Each (λ z. m (first_at o z) ≢ key) l
none_value o m key [] e = tt
none_value o m key (b ∷ l) e = none_case o m key b l (none_value o m key l) (eqb (m (first_at o b)) key) refl e

-- a block in the middle of a bucket is found by its key, and what is left holds the other keys
pub bucket_split : (o blocks : ℕ) (m : ℕ → ℕ) (n b : ℕ) (xs ys : List ℕ) → IsBucket o blocks m n (xs ++ b ∷ ys) → IsBucket o blocks m n (xs ++ ys) × Each (λ z. m (first_at o z) ≢ m (first_at o b)) (xs ++ ys)
bucket_split o blocks m n b [] ys h = (h.4, h.3)
bucket_split o blocks m n b (x ∷ xs) ys h =
    let r = bucket_split o blocks m n b xs ys h.4 in
    let apart : m (first_at o b) ≢ m (first_at o x) = (each_right (λ z. m (first_at o z) ≢ m (first_at o x)) xs (b ∷ ys) h.3).0 in (
      (h.0, h.1, h.2, each_append (λ z. m (first_at o z) ≢ m (first_at o x)) xs ys (each_left (λ z. m (first_at o z) ≢ m (first_at o x)) xs (b ∷ ys) h.3) (each_right (λ z. m (first_at o z) ≢ m (first_at o x)) xs (b ∷ ys) h.3).1, r.0),
      ((λ (e : m (first_at o x) ≡ m (first_at o b)). apart (sym e)), r.1),
    )

pub value_without : (o : ℕ) (m : ℕ → ℕ) (key b : ℕ) (xs ys : List ℕ) → m (first_at o b) ≢ key → value_in o m key (xs ++ ys) ≡ value_in o m key (xs ++ b ∷ ys)
value_without o m key b [] ys n = rw (ne_eqb (m (first_at o b)) key n) refl
value_without o m key b (x ∷ xs) ys n = let k : value_in o m key (xs ++ ys) ≡ value_in o m key (xs ++ b ∷ ys) = value_without o m key b xs ys n in ap (λ r. cond (eqb (m (first_at o x)) key) (Some (m (second_at o x))) r) k
