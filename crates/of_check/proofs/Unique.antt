-- The entries of a legal report are those that its claims make, and each of its calls may come
-- next.
use Rattle.std.proofs.Common.{◌≡◌, ℕ, zero, suc, ◌+◌, ◌-◌, ◌<◌, ◌≤◌, ◌⊎◌, inl, inr, Bool, true, false, List, [], ◌∷◌, length, get_or, drop, map, refl, sym, ap, subst, ◌∙◌, arith}
use Rattle.std.specs.Prelude.{IsTrue, All, Any}
use Rattle.std.specs.Bool.{MatchBool}
use Rattle.std.specs.List.{range_with_len, AllByRecursion as Each}
use Rattle.std.proofs.Math.Nat.{eq-or-lt_of_le}
use Rattle.std.proofs.lemmas.Bool.Decides.{eqb_tells}
use Rattle.of_script.specs.declared.instr.Instr.{Instr}
use Rattle.of_script.specs.Language.{reads_only}
use Rattle.of_store.specs.Store.{Reply, replies_in_order, run}
use Rattle.of_plan.specs.Plan.{Plan, scripts_of}
use Rattle.of_plan.specs.Report.{Entry, Start}
use Rattle.of_plan.specs.Legal.{script_of_entry, StandsBefore, StandsBeforeWithin, HasSequence}
use Rattle.of_plan.proofs.HistoriesLists.{InLine, each_weaker}
use Rattle.of_check.specs.declared.claims.CallClaim.{CallClaim}
use Rattle.of_check.specs.Claims.{call_claim}
use Rattle.of_check.specs.Replay.{Replay, index_for, script_for, entry_for, after_claimed_call, entries_from, course_end, MayFollowWithin, MayFollow, AllFollow}
use Rattle.of_check.proofs.Own.{own, own_first, own_other, count_same, count_other, still_wide}

-- an entry stands behind the last call
abbrev pub BehindWithin : Bool → Bool → CallClaim → Entry → Type 0
BehindWithin true true l e = l.caller < e.caller
BehindWithin true false l e = Unit {0}
BehindWithin false true l e = ⊥
BehindWithin false false l e = l.caller ≤ e.caller

abbrev pub Behind : CallClaim → Entry → Type 0
Behind l e = (l.seq < e.seq) ⊎ ((l.seq ≡ e.seq) × BehindWithin l.announced e.announced l e)

behind_within : (a b : Bool) (e f : Entry) → StandsBeforeWithin a b e f → BehindWithin a b (call_claim e) f
behind_within true true e f before = before
behind_within true false e f before = tt
behind_within false true e f before = before
behind_within false false e f (inl less) = omega (arith, less)
behind_within false false e f (inr same) = omega (arith, same.0)

behind : (e f : Entry) → StandsBefore e f → Behind (call_claim e) f
behind e f (inl up) = inl up
behind e f (inr here) = inr (here.0, behind_within e.announced f.announced e f here.1)

-- an announced entry at this sequence
abbrev IsRunAt : ℕ → Entry → Type 0
IsRunAt k e = IsTrue e.announced × (e.seq ≡ k)

-- entries that are legal from a course on, up to a last sequence
pub record GoOn (p : Plan) (s : Start) (c : Replay) (seq : ℕ) (es : List Entry) : Type 0 where
  pub callers : Each (λ (e : Entry). e.caller < p.callers) es
  pub indices : (d : ℕ) → d < p.callers → map (λ (e : Entry). e.index) (own d es) ≡ range_with_len (get_or c.counts d 0) (length (own d es))
  pub few : (d : ℕ) → d < p.callers → length (own d es) ≤ length (scripts_of p d) - get_or c.counts d 0
  pub order : InLine StandsBefore es
  pub behind_last : Each (Behind c.last) es
  pub sequences : Each (λ (e : Entry). HasSequence p s e × (e.seq ≤ seq)) es
  pub within : c.last.seq ≤ seq
  pub none_left_out : (k : ℕ) → c.last.seq < k → k ≤ seq → Any (IsRunAt k) es
  pub told : map (λ (e : Entry). e.reply) es ≡ replies_in_order c.store (map (script_of_entry p) es)

any_first : (k : ℕ) (e : Entry) (es : List Entry) (P : Type 0) → (IsRunAt k e → P) → (Any (IsRunAt k) es → P) → Any (IsRunAt k) (e ∷ es) → P
any_first k e es P first later (zero, x, lt, is, holds) = first (subst (IsRunAt k) (sym is) holds)
any_first k e es P first later (suc n, x, lt, is, holds) = later (n, x, omega (arith, lt), is, holds)

any_each : (k : ℕ) (Q : Entry → Type 0) (P : Type 0) → ((f : Entry) → Q f → IsRunAt k f → P) → (es : List Entry) → Each Q es → Any (IsRunAt k) es → P
any_each k Q P h [] all found = absurd (let lt = found.2 in omega (arith, lt))
any_each k Q P h (e ∷ es) all found = any_first k e es P (h e all.0) (any_each k Q P h es all.1) found

-- a run at the sequence after the last one, at or behind the first entry: the first entry is one
rise_within : (a b : Bool) (e f : Entry) → b ≡ true → StandsBeforeWithin a b e f → a ≡ true
rise_within true b e f is before = refl
rise_within false true e f is before = absurd before
rise_within false false e f is before = absurd cc

rise_at : (n : ℕ) (e f : Entry) → n < e.seq → StandsBefore e f → IsRunAt (n + 1) f → (e.seq ≡ n + 1) × (e.announced ≡ true)
rise_at n e f low (inl up) run = absurd (omega (arith, low, up, run.1))
rise_at n e f low (inr here) run = (omega (arith, here.0, run.1), rise_within e.announced f.announced e f run.0 here.1)

placed : (a b : Bool) (l : CallClaim) (e : Entry) → e.announced ≡ b → (l.seq < e.seq → (e.seq ≡ l.seq + 1) × (e.announced ≡ true)) → (l.seq < e.seq) ⊎ ((l.seq ≡ e.seq) × BehindWithin a b l e) → MayFollowWithin a b l (call_claim e)
placed true true l e is rises (inl up) = inl (rises up).0
placed true true l e is rises (inr here) = inr (sym here.0, here.1)
placed true false l e is rises (inl up) = absurd (let run = (rises up).1 in cc)
placed true false l e is rises (inr here) = sym here.0
placed false true l e is rises (inl up) = (rises up).0
placed false true l e is rises (inr here) = absurd here.1
placed false false l e is rises (inl up) = absurd (let run = (rises up).1 in cc)
placed false false l e is rises (inr here) = (sym here.0, here.1)

reads_when : (b : Bool) (P Q : Type 0) → b ≡ false → MatchBool b P Q → Q
reads_when true P Q is h = absurd cc
reads_when false P Q is h = h

module _ (p : Plan) (s : Start) (c : Replay) (seq : ℕ) (e : Entry) (es : List Entry) (wide : p.callers ≤ length c.counts) (go : GoOn p s c seq (e ∷ es)) where
  below : e.caller < p.callers
  below = go.callers.0

  -- the first entry is its caller's next script
  pub index_is : e.index ≡ get_or c.counts e.caller 0
  index_is =
      let both : map (λ (f : Entry). f.index) (e ∷ own e.caller es) ≡ range_with_len (get_or c.counts e.caller 0) (length (e ∷ own e.caller es)) =
      subst (λ (xs : List Entry). map (λ (f : Entry). f.index) xs ≡ range_with_len (get_or c.counts e.caller 0) (length xs)) (own_first e.caller e es refl) (go.indices e.caller below) in
      ap (λ (ns : List ℕ). get_or ns 0 0) both

  script_is : script_for p c (call_claim e) ≡ script_of_entry p e
  script_is = ap (λ (n : ℕ). get_or (scripts_of p e.caller) n []) (sym index_is)

  room : index_for c (call_claim e) < length (scripts_of p e.caller)
  room = omega (arith, go.few e.caller below, ap length (own_first e.caller e es refl))

  rises : c.last.seq < e.seq → (e.seq ≡ c.last.seq + 1) × (e.announced ≡ true)
  rises up =
      any_first (c.last.seq + 1) e es ((e.seq ≡ c.last.seq + 1) × (e.announced ≡ true)) (λ run. (run.1, run.0))
      (any_each (c.last.seq + 1) (StandsBefore e) ((e.seq ≡ c.last.seq + 1) × (e.announced ≡ true)) (λ f before run. rise_at c.last.seq e f up before run) es go.order.0)
      (go.none_left_out (c.last.seq + 1) (omega arith) (omega (arith, up, go.sequences.0.1)))

  pub may_follow : MayFollow p c (call_claim e)
  may_follow = record {
    caller = below;
    script = room;
    turn = index_is;
    place = placed c.last.announced e.announced c.last e refl rises go.behind_last.0;
    reads = λ read. subst (λ (script : List Instr). All (λ i. IsTrue (reads_only i)) script) (sym script_is) (reads_when e.announced (s.seq < e.seq) ((s.seq ≤ e.seq) × All (λ i. IsTrue (reads_only i)) (script_of_entry p e)) read go.sequences.0.0).1;
  }

  reply_is : e.reply ≡ (run c.store (script_of_entry p e)).1
  reply_is = heads e.reply (run c.store (script_of_entry p e)).1 (map (λ (f : Entry). f.reply) es) (replies_in_order (run c.store (script_of_entry p e)).0 (map (script_of_entry p) es)) go.told
    where
      heads : (x y : Reply) (xs ys : List Reply) → x ∷ xs ≡ y ∷ ys → x ≡ y
      heads x y xs ys same = cc

  pub entry_is : entry_for p c (call_claim e) ≡ e
  entry_is =
      let index = sym index_is in
      let reply : (run c.store (script_for p c (call_claim e))).1 ≡ e.reply = ap (λ (script : List Instr). (run c.store script).1) script_is ∙ sym reply_is in
      λ i. record { seq = e.seq; caller = e.caller; index = index i; announced = e.announced; reply = reply i }

  abbrev next : Replay
  next = after_claimed_call p c (call_claim e)

  raised : (d : ℕ) → e.caller ≡ d → get_or next.counts d 0 ≡ get_or c.counts d 0 + 1
  raised d same = count_same c.counts e.caller d (index_for c (call_claim e) + 1) same (omega (arith, below, wide)) ∙ ap (λ (n : ℕ). get_or c.counts n 0 + 1) same

  indices_on : (d : ℕ) → d < p.callers → map (λ (f : Entry). f.index) (own d es) ≡ range_with_len (get_or next.counts d 0) (length (own d es))
  indices_on d lt =
      let Are : List Entry → Type 0 = λ xs. map (λ (f : Entry). f.index) xs ≡ range_with_len (get_or c.counts d 0) (length xs) in
      elim (eqb_tells e.caller d) [
        | inl same ↦ ap (drop 1) (subst Are (own_first d e es same.1) (go.indices d lt)) ∙ ap (λ (n : ℕ). range_with_len n (length (own d es))) (sym (raised d same.1))
        | inr other ↦ subst Are (own_other d e es other.1) (go.indices d lt) ∙ ap (λ (n : ℕ). range_with_len n (length (own d es))) (sym (count_other c.counts e.caller d (index_for c (call_claim e) + 1) other.1))
      ]

  few_on : (d : ℕ) → d < p.callers → length (own d es) ≤ length (scripts_of p d) - get_or next.counts d 0
  few_on d lt = elim (eqb_tells e.caller d) [
    | inl same ↦ omega (arith, raised d same.1, ap length (own_first d e es same.1), go.few d lt)
    | inr other ↦ omega (arith, count_other c.counts e.caller d (index_for c (call_claim e) + 1) other.1, ap length (own_other d e es other.1), go.few d lt)
  ]

  up : c.last.seq ≤ e.seq
  up = at_least go.behind_last.0
    where
      at_least : Behind c.last e → c.last.seq ≤ e.seq
      at_least (inl more) = omega (arith, more)
      at_least (inr here) = omega (arith, here.0)

  there_on : (k : ℕ) → e.seq < k → k ≤ seq → Any (IsRunAt k) es
  there_on k low high = any_first k e es (Any (IsRunAt k) es) (λ run. absurd (omega (arith, low, run.1))) (λ found. found) (go.none_left_out k (omega (arith, up, low)) high)

  told_on : map (λ (f : Entry). f.reply) es ≡ replies_in_order next.store (map (script_of_entry p) es)
  told_on = ap (drop 1) go.told ∙ ap (λ (script : List Instr). replies_in_order (run c.store script).0 (map (script_of_entry p) es)) (sym script_is)

  pub go_on : GoOn p s (after_claimed_call p c (call_claim e)) seq es
  go_on = record {
    callers = go.callers.1;
    indices = indices_on;
    few = few_on;
    order = go.order.1;
    behind_last = each_weaker (StandsBefore e) (Behind (call_claim e)) (behind e) es go.order.0;
    sequences = go.sequences.1;
    within = go.sequences.0.1;
    none_left_out = there_on;
    told = told_on;
  }

-- the claims of these entries
pub record Remade (p : Plan) (c : Replay) (seq : ℕ) (es : List Entry) : Type 0 where
  pub follow : AllFollow p c (map call_claim es)
  pub entries : entries_from p c (map call_claim es) ≡ es
  pub last : (course_end p c (map call_claim es)).last.seq ≡ seq

pub remade : (p : Plan) (s : Start) (c : Replay) (seq : ℕ) (es : List Entry) → p.callers ≤ length c.counts → GoOn p s c seq es → Remade p c seq es
remade p s c seq [] wide go = record {
  follow = tt;
  entries = refl;
  last = elim (eq-or-lt_of_le go.within) [ inl same ↦ same | inr less ↦ absurd (let found = go.none_left_out seq less (omega arith) in let lt = found.2 in omega (arith, lt)) ];
}
remade p s c seq (e ∷ es) wide go =
    let again = remade p s (after_claimed_call p c (call_claim e)) seq es (still_wide c.counts e.caller (index_for c (call_claim e) + 1) p.callers wide) (go_on p s c seq e es wide go) in
    let first = entry_is p s c seq e es wide go in
    record {
      follow = (may_follow p s c seq e es wide go, again.follow);
      entries = λ i. first i ∷ again.entries i;
      last = again.last;
    }
