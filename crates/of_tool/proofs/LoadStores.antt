-- What the scripts of a load leave, in whatever order the calls of its callers take effect: registers and keys are told by how many
-- calls each caller has made.
use Rattle.std.proofs.Common.{◌≡◌, ◌≢◌, ◌⊎◌, inl, inr, ℕ, zero, suc, ◌+◌, ◌*◌, ◌/◌, ◌%◌, ◌<◌, ◌≤◌, Bool, true, false, cond, eqb, leb, ltb, [], ◌∷◌, length, get_or, set, replicate, Option, Some, None, Ok, refl, sym, ap, subst, ◌∙◌, arith, ext_get_or, length-set, get_or-set_other}
use Rattle.std.specs.Prelude.{sum_by, is_none, is_some, ◌&&◌}
use Rattle.std.specs.FinMap as fm
use Rattle.std.specs.FinMap.{get-empty, get-insert, len-empty, len-insert, same_map, nat_cmp-IsAntisymmetric}
use Rattle.std.specs.Ordering.{nat_cmp, eq_by_cmp}
use Rattle.std.specs.Cmp.{nat_cmp_total, eq_by_cmp_equiv}
use Rattle.std.proofs.lemmas.Bool.Decides.{eqb_tells, leb_tells}
use Rattle.std.proofs.lemmas.Grind.{get_or-set_at}
use Rattle.of_script.specs.declared.instr.Instr.{Instr}
use Rattle.of_script.specs.declared.instr.Instr.TheVariants.{Add, Put}
use Rattle.of_store.specs.Store.{Store, register, stored_count, instr_effect, run, empty_store, with_register, with_key}
use Rattle.of_store.proofs.Keeps.{nat_same}
use Rattle.of_plan.specs.Generated.{load_script}

-- ---- what so many calls of a caller do

-- the last value that c calls put at key j of the caller's own
abbrev pub last_put : (j c : ℕ) → Option ℕ
last_put j zero = None
last_put j (suc c) = cond (eqb (c % 31) j) (Some c) (last_put j c)

-- how often c calls add to register r
abbrev pub adds : (r c : ℕ) → ℕ
adds r zero = 0
adds r (suc c) = cond (eqb (c % 16) r) 1 0 + adds r c

-- how many keys c calls put at
abbrev pub keys_put : (c : ℕ) → ℕ
keys_put c = cond (ltb c 31) c 31

-- all callers below n together
abbrev pub total : (f : ℕ → ℕ) → ℕ → ℕ
total f zero = 0
total f (suc n) = f n + total f n

-- one call more of caller t
abbrev pub one_more : ℕ → (ℕ → ℕ) → ℕ → ℕ
one_more t c u = cond (eqb u t) (suc (c u)) (c u)

total_same : (f g : ℕ → ℕ) (n : ℕ) → ((u : ℕ) → u < n → f u ≡ g u) → total f n ≡ total g n
total_same f g zero h = refl
total_same f g (suc n) h = omega (arith, h n (omega arith), total_same f g n (λ u lt. h u (omega (arith, lt))))

total_upto : (f : ℕ → ℕ) (n m : ℕ) → ((u : ℕ) → u < n → f u ≤ m) → total f n ≤ n * m
total_upto f zero m h = omega arith
total_upto f (suc n) m h = omega (arith, h n (omega arith), total_upto f n m (λ u lt. h u (omega (arith, lt))))

-- one number is raised by d
pub total_raised : (f g : ℕ → ℕ) (t d n : ℕ) → t < n → g t ≡ d + f t → ((u : ℕ) → u ≢ t → g u ≡ f u) → total g n ≡ d + total f n
total_raised f g t d zero lt at others = absurd (omega arith)
total_raised f g t d (suc n) lt at others = elim (eqb_tells n t) [
  | inl p ↦ (let here : g n ≡ d + f n = subst (λ (u : ℕ). g u ≡ d + f u) (sym p.1) at in
      omega (arith, here, total_same g f n (λ u lt_u. others u (λ e. let is = p.1 in omega (arith, e, is, lt_u)))))
  | inr p ↦ (let below : t < n = (let ne = p.1 in elim (eqb_tells t n) [ inl q ↦ absurd (ne (sym q.1)) | inr q ↦ (let nq = q.1 in omega arith) ]) in
      omega (arith, others n p.1, total_raised f g t d n below at others))
]

one_upto : (b : Bool) (n c : ℕ) → n ≤ c → cond b 1 0 + n ≤ suc c
one_upto true n c h = omega arith
one_upto false n c h = omega arith

adds_upto : (r c : ℕ) → adds r c ≤ c
adds_upto r zero = omega arith
adds_upto r (suc c) = one_upto (eqb (c % 16) r) (adds r c) c (adds_upto r c)

keys_put_upto : (c : ℕ) → keys_put c ≤ 31
keys_put_upto c = elim (leb_tells (suc c) 31) [ inl p ↦ (let yes = p.0 in let few = p.1 in rw yes (omega arith)) | inr p ↦ (let no = p.0 in rw no (omega arith)) ]

-- a key was put at where so many calls have come to it
put_at : (j c : ℕ) → j < 31 → ((j < c) × (is_some (last_put j c) ≡ true)) ⊎ ((c ≤ j) × (is_some (last_put j c) ≡ false))
put_at j zero small = inr (omega arith, refl)
put_at j (suc c) small = elim (eqb_tells (c % 31) j) [
  | inl p ↦ (let here = p.0 in let is = p.1 in inl (omega arith, rw here refl))
  | inr p ↦ (let other = p.0 in elim (put_at j c small) [
    | inl q ↦ inl (omega (arith, q.0), rw other q.1)
    | inr q ↦ (let no = p.1 in let low = q.0 in inr (elim (eqb_tells c j) [ inl e ↦ absurd (let is = e.1 in no (omega arith)) | inr e ↦ (let ne = e.1 in omega arith) ], rw other q.1))
  ])
]

-- ---- stores

-- a store that calls of a load leave, of which each caller has made so many
pub record Holds (n : ℕ) (c : ℕ → ℕ) (s : Store) : Type 0 where
  pub size : length s.registers ≡ 16
  pub sums : (r : ℕ) → get_or s.registers r 0 ≡ cond (ltb r 16) (total (λ u. adds r (c u)) n) 0
  pub keys : (k : ℕ) → fm.get s.keys k ≡ cond (ltb (k / 31) n) (last_put (k % 31) (c (k / 31))) None
  pub count : fm.len s.keys ≡ total (λ u. keys_put (c u)) n
  pub queues : s.queues ≡ replicate 4 []
  pub room : s.room ≡ 512

pub held_same : (n : ℕ) (c d : ℕ → ℕ) (s : Store) → ((u : ℕ) → u < n → c u ≡ d u) → Holds n c s → Holds n d s
held_same n c d s same h = record {
  size = h.size;
  sums = λ r. h.sums r ∙ ap (λ (k : ℕ). cond (ltb r 16) k 0) (total_same (λ u. adds r (c u)) (λ u. adds r (d u)) n (λ u lt. ap (adds r) (same u lt)));
  keys = λ k. h.keys k ∙ put_same (k / 31) (k % 31);
  count = h.count ∙ total_same (λ u. keys_put (c u)) (λ u. keys_put (d u)) n (λ u lt. ap keys_put (same u lt));
  queues = h.queues;
  room = h.room;
}
  where
    put_same : (t j : ℕ) → cond (ltb t n) (last_put j (c t)) None ≡ cond (ltb t n) (last_put j (d t)) None
    put_same t j = elim (leb_tells (suc t) n) [ inl p ↦ ap (λ (k : ℕ). cond (ltb t n) (last_put j k) None) (same t p.1) | inr p ↦ (let no = p.0 in rw no refl) ]

pub empty_holds : (n : ℕ) → Holds n (λ u. 0) (empty_store 512)
empty_holds n = record {
  size = refl;
  sums = λ r. get_or-replicate_any 16 r ∙ sym (nothing (ltb r 16) (total_nothing n));
  keys = λ k. get-empty nat_cmp k ∙ sym (none (ltb (k / 31) n));
  count = len-empty nat_cmp ℕ ∙ sym (total_nothing n);
  queues = refl;
  room = refl;
}
  where
    get_or-replicate_any : (k r : ℕ) → ◌≡◌ {A = ℕ} (get_or (replicate k 0) r 0) 0
    get_or-replicate_any zero r = refl
    get_or-replicate_any (suc k) zero = refl
    get_or-replicate_any (suc k) (suc r) = get_or-replicate_any k r

    total_nothing : (k : ℕ) → total (λ u. 0) k ≡ 0
    total_nothing zero = refl
    total_nothing (suc k) = omega (arith, total_nothing k)

    nothing : (b : Bool) → total (λ u. 0) n ≡ 0 → cond b (total (λ u. 0) n) 0 ≡ 0
    nothing true e = e
    nothing false e = refl

    none : (b : Bool) → ◌≡◌ {A = Option ℕ} (cond b None None) None
    none true = refl
    none false = refl

-- two stores with the same counts have the same registers and keys
pub one_load : (n : ℕ) (c : ℕ → ℕ) (s t : Store) → Holds n c s → Holds n c t → (s.registers ≡ t.registers) × (s.keys ≡ t.keys)
one_load n c s t h k = (
  ext_get_or 0 s.registers t.registers (h.size ∙ sym k.size) (λ r lt. h.sums r ∙ sym (k.sums r)),
  same_map nat_cmp_total nat_cmp-IsAntisymmetric s.keys t.keys (λ q. h.keys q ∙ sym (k.keys q)),
)

-- ---- one call

and_false : (b : Bool) → (b && false) ≡ false
and_false true = refl
and_false false = refl

two_done : (s t u : Store) (a b : Instr) (x y : Option ℕ) → instr_effect s a ≡ Ok (t, x) → instr_effect t b ≡ Ok (u, y) → (run s (a ∷ b ∷ [])).0 ≡ u
two_done s t u a b x y h k = rw h (rw k refl)

add_done : (s : Store) (r : ℕ) → register s r < 2147483647 → instr_effect s (Add r 1) ≡ Ok (with_register s r (register s r + 1), Some (register s r + 1))
add_done s r small =
    let no : ltb 2147483647 (register s r + 1) ≡ false = elim (leb_tells 2147483648 (register s r + 1)) [ inl p ↦ absurd (let q = p.1 in omega arith) | inr p ↦ p.0 ] in
    rw no refl

put_done : (s : Store) (k v : ℕ) → stored_count s < s.room → instr_effect s (Put k v) ≡ Ok (with_key s k v, fm.get s.keys k)
put_done s k v room =
    let no : leb s.room (stored_count s) ≡ false = elim (leb_tells s.room (stored_count s)) [ inl p ↦ absurd (let q = p.1 in omega arith) | inr p ↦ p.0 ] in
    rw no (rw (and_false (is_none (fm.get s.keys k))) refl)

if_true : {A : Type 0} (b : Bool) (x y : A) → b ≡ true → cond b x y ≡ x
if_true true x y e = refl
if_true false x y e = absurd cc

eq_is : (a b : ℕ) → a ≡ b → eq_by_cmp nat_cmp a b ≡ true
eq_is a b e = subst (λ (x : ℕ). eq_by_cmp nat_cmp a x ≡ true) e ((eq_by_cmp_equiv nat_cmp_total).refl a)

eq_not : (a b : ℕ) → a ≢ b → eq_by_cmp nat_cmp a b ≡ false
eq_not a b ne = by (eq_by_cmp nat_cmp a b) refl
  where
    by : (t : Bool) → eq_by_cmp nat_cmp a b ≡ t → eq_by_cmp nat_cmp a b ≡ false
    by true e = absurd (ne (nat_same a b e))
    by false e = e

-- how many keys there are
keys_many : (x : ℕ) → 31 ≤ x → keys_put x ≡ 31
keys_many x many = elim (leb_tells (suc x) 31) [ inl p ↦ absurd (let few = p.1 in omega arith) | inr p ↦ (let no = p.0 in rw no refl) ]

keys_few : (x : ℕ) → x < 31 → keys_put x ≡ x
keys_few x few = elim (leb_tells (suc x) 31) [ inl p ↦ (let yes = p.0 in rw yes refl) | inr p ↦ absurd (let many = p.1 in omega arith) ]

keys_upto : (x : ℕ) → x ≤ 31 → keys_put x ≡ x
keys_upto x few = elim (leb_tells (suc x) 31) [ inl p ↦ (let yes = p.0 in rw yes refl) | inr p ↦ (let no = p.0 in let many = p.1 in rw no (omega arith)) ]

same_place : (b : Bool) (n d : ℕ) → b ≡ true → cond b n d ≡ n
same_place true n d e = refl
same_place false n d e = absurd cc

-- the number of keys after one more was put
len_put : (m : fm.FinMap nat_cmp ℕ) (k v : ℕ) → fm.len (fm.insert m k v) ≡ cond (is_some (fm.get m k)) 0 1 + fm.len m
len_put m k v = len-insert nat_cmp_total m k v ∙ by (is_some (fm.get m k))
  where
    by : (b : Bool) → cond b (fm.len m) (fm.len m + 1) ≡ cond b 0 1 + fm.len m
    by true = omega arith
    by false = omega arith

module _ (n m : ℕ) (few : n ≤ 16) (all : n * m ≤ 20000) (c : ℕ → ℕ) (upto : (u : ℕ) → u < n → c u ≤ m) (t : ℕ) (lt : t < n) (s : Store) (h : Holds n c s) where
  -- the register and the key of the caller's next call
  abbrev place : ℕ
  place = c t % 16

  abbrev own : ℕ
  own = 31 * t + c t % 31

  owner : own / 31 ≡ t
  owner = omega arith

  own_key : own % 31 ≡ c t % 31
  own_key = omega arith

  register_upto : register s place ≤ 20000
  register_upto =
      let below : ltb place 16 ≡ true = elim (leb_tells (suc place) 16) [ inl p ↦ p.0 | inr p ↦ absurd (let q = p.1 in omega arith) ] in
      let sum = h.sums place ∙ same_place (ltb place 16) (total (λ u. adds place (c u)) n) 0 below in
      let most = total_upto (λ u. adds place (c u)) n m (λ u lt_u. (let one = adds_upto place (c u) in let two = upto u lt_u in omega arith)) in
      omega (arith, sum, most, all)

  no_items : sum_by length s.queues ≡ 0
  no_items = ap (sum_by length) h.queues

  kept_upto : stored_count s < s.room
  kept_upto =
      let most = total_upto (λ u. keys_put (c u)) n 31 (λ u lt_u. keys_put_upto (c u)) in
      omega (arith, h.count, most, no_items, h.room, few)

  -- the store behind it
  abbrev added : Store
  added = with_register s place (register s place + 1)

  abbrev behind : Store
  behind = with_key added own (c t)

  pub run_is : (run s (load_script t (c t))).0 ≡ behind
  run_is = two_done s added behind (Add place 1) (Put own (c t)) _ _ (add_done s place (omega (arith, register_upto))) (put_done added own (c t) (omega (arith, kept_upto)))

  at_t : one_more t c t ≡ suc (c t)
  at_t = elim (eqb_tells t t) [ inl p ↦ (let e = p.0 in rw e refl) | inr p ↦ absurd (p.1 refl) ]

  at_other : (u : ℕ) → u ≢ t → one_more t c u ≡ c u
  at_other u ne = elim (eqb_tells u t) [ inl p ↦ absurd (ne p.1) | inr p ↦ (let e = p.0 in rw e refl) ]

  raised : (r : ℕ) → total (λ u. adds r (one_more t c u)) n ≡ cond (eqb (c t % 16) r) 1 0 + total (λ u. adds r (c u)) n
  raised r = total_raised (λ u. adds r (c u)) (λ u. adds r (one_more t c u)) t (cond (eqb (c t % 16) r) 1 0) n lt (ap (adds r) at_t) (λ u ne. ap (adds r) (at_other u ne))

  sums_behind : (r : ℕ) → get_or (set s.registers place (register s place + 1)) r 0 ≡ cond (ltb r 16) (total (λ u. adds r (one_more t c u)) n) 0
  sums_behind r = elim (eqb_tells (c t % 16) r) [
    | inl p ↦ (
        let is = p.0 in
        let below : ltb r 16 ≡ true = elim (leb_tells (suc r) 16) [ inl q ↦ q.0 | inr q ↦ absurd (let here = p.1 in let no = q.1 in omega arith) ] in
        let here = h.sums r ∙ same_place (ltb r 16) (total (λ u. adds r (c u)) n) 0 below in
        let more = raised r in
        let one : ◌≡◌ {A = ℕ} (cond (eqb (c t % 16) r) 1 0) 1 = rw is refl in
        let at : get_or (set s.registers place (register s place + 1)) r 0 ≡ register s place + 1 = get_or-set_at s.registers place r (register s place + 1) 0 (sym p.1) (let e = p.1 in let size = h.size in omega arith) in
        let same : register s place ≡ get_or s.registers r 0 = ap (λ (k : ℕ). get_or s.registers k 0) p.1 in
        let goal_is : get_or (set s.registers place (register s place + 1)) r 0 ≡ total (λ u. adds r (one_more t c u)) n = omega (arith, at, same, here, more, one) in
        goal_is ∙ sym (same_place (ltb r 16) (total (λ u. adds r (one_more t c u)) n) 0 below)
        )
    | inr p ↦ (
        let other = p.0 in
        let none : ◌≡◌ {A = ℕ} (cond (eqb (c t % 16) r) 1 0) 0 = rw other refl in
        let same : total (λ u. adds r (c u)) n ≡ total (λ u. adds r (one_more t c u)) n = omega (arith, raised r, none) in
        get_or-set_other s.registers place r (register s place + 1) 0 (λ e. p.1 (sym e)) ∙ h.sums r ∙ ap (λ (k : ℕ). cond (ltb r 16) k 0) same
        )
  ]

  keys_behind : (k : ℕ) → fm.get (fm.insert s.keys own (c t)) k ≡ cond (ltb (k / 31) n) (last_put (k % 31) (one_more t c (k / 31))) None
  keys_behind k = get-insert nat_cmp_total s.keys own (c t) k ∙ elim (eqb_tells (k / 31) t) [
    | inl p ↦ (
        let known : ltb (k / 31) n ≡ true = elim (leb_tells (suc (k / 31)) n) [ inl q ↦ q.0 | inr q ↦ absurd (let here = p.1 in let no = q.1 in omega arith) ] in
        let counts : one_more t c (k / 31) ≡ suc (c t) = ap (one_more t c) p.1 ∙ at_t in
        let before : fm.get s.keys k ≡ last_put (k % 31) (c t) = h.keys k ∙ if_true (ltb (k / 31) n) (last_put (k % 31) (c (k / 31))) _ known ∙ ap (λ (u : ℕ). last_put (k % 31) (c u)) p.1 in
        ap (cond (eq_by_cmp nat_cmp k own) (Some (c t))) before
        ∙ elim (eqb_tells (c t % 31) (k % 31)) [
          | inl q ↦ (
              let same : k ≡ own = (let owner_is = p.1 in let place_is = q.1 in omega arith) in
              let equal = eq_is k own same in
              let here = q.0 in
              rw (equal, here) refl)
          | inr q ↦ (
              let apart : k ≢ own = (λ e. q.1 (sym own_key ∙ ap (λ (x : ℕ). x % 31) (sym e))) in
              let differ = eq_not k own apart in
              let here = q.0 in
              rw (differ, here) refl)
        ]
        ∙ sym (if_true (ltb (k / 31) n) (last_put (k % 31) (one_more t c (k / 31))) _ known ∙ ap (last_put (k % 31)) counts)
        )
    | inr p ↦ (
        let apart : k ≢ own = (λ e. p.1 (ap (λ (x : ℕ). x / 31) e ∙ owner)) in
        let differ = eq_not k own apart in
        let same = at_other (k / 31) p.1 in
        ap (λ (b : Bool). cond b (Some (c t)) (fm.get s.keys k)) differ ∙ h.keys k ∙ ap (λ (x : ℕ). cond (ltb (k / 31) n) (last_put (k % 31) x) None) (sym same)
        )
  ]

  -- the key is a new one up to the caller's call with number 30
  new_key : cond (is_some (fm.get s.keys own)) 0 1 + keys_put (c t) ≡ keys_put (suc (c t))
  new_key =
      let known : ltb (own / 31) n ≡ true = elim (leb_tells (suc (own / 31)) n) [ inl q ↦ q.0 | inr q ↦ absurd (let no = q.1 in let is = owner in omega arith) ] in
      let is : fm.get s.keys own ≡ last_put (c t % 31) (c t) = h.keys own ∙ if_true (ltb (own / 31) n) (last_put (own % 31) (c (own / 31))) _ known ∙ ap (λ (j : ℕ). last_put j (c (own / 31))) own_key ∙ ap (λ (u : ℕ). last_put (c t % 31) (c u)) owner in
      let there = ap is_some is in
      elim (put_at (c t % 31) (c t) (omega arith)) [
        | inl p ↦ (let many = p.0 in let no = there ∙ p.1 in let a = keys_many (c t) (omega arith) in let b = keys_many (suc (c t)) (omega arith) in
            (let flag : ◌≡◌ {A = ℕ} (cond (is_some (fm.get s.keys own)) 0 1) 0 = rw no refl in omega (arith, flag, a, b)))
        | inr p ↦ (let small = p.0 in let no = there ∙ p.1 in let a = keys_few (c t) (omega arith) in let b = keys_upto (suc (c t)) (omega arith) in
            (let flag : ◌≡◌ {A = ℕ} (cond (is_some (fm.get s.keys own)) 0 1) 1 = rw no refl in omega (arith, flag, a, b)))
      ]

  count_behind : fm.len (fm.insert s.keys own (c t)) ≡ total (λ u. keys_put (one_more t c u)) n
  count_behind =
      let raise = total_raised (λ u. keys_put (c u)) (λ u. keys_put (one_more t c u)) t (cond (is_some (fm.get s.keys own)) 0 1) n lt (ap keys_put at_t ∙ sym new_key) (λ u ne. ap keys_put (at_other u ne)) in
      omega (arith, len_put s.keys own (c t), h.count, raise)

  pub goes_on : Holds n (one_more t c) (run s (load_script t (c t))).0
  goes_on = subst (Holds n (one_more t c)) (sym run_is) (record {
    size = length-set s.registers place (register s place + 1) ∙ h.size;
    sums = sums_behind;
    keys = keys_behind;
    count = count_behind;
    queues = h.queues;
    room = h.room;
  })
