-- Claimed calls of which each may come next: their entries are one history of the plan's scripts
-- from a start.
use Rattle.std.proofs.Common.{◌≡◌, ℕ, suc, ◌+◌, ◌-◌, ◌<◌, ◌≤◌, ◌⊎◌, inl, inr, Bool, true, false, List, [], ◌∷◌, length, get_or, map, refl, sym, ap, subst, ◌∙◌, arith, length-set}
use Rattle.std.specs.Prelude.{IsTrue, All, Any}
use Rattle.std.specs.Bool.{MatchBool}
use Rattle.std.specs.List.{range_with_len, AllByRecursion as Each}
use Rattle.std.proofs.Math.Nat.{eq-or-lt_of_le}
use Rattle.std.proofs.lemmas.Bool.Decides.{eqb_tells}
use Rattle.of_script.specs.Language.{reads_only}
use Rattle.of_store.specs.Store.{Reply, replies_in_order, last_store, run}
use Rattle.of_plan.specs.Plan.{Plan, scripts_of}
use Rattle.of_plan.specs.Report.{Entry, Start}
use Rattle.of_plan.specs.Legal.{script_of_entry, StandsBefore, StandsBeforeWithin, HasSequence}
use Rattle.of_plan.proofs.HistoriesLists.{InLine, each_weaker}
use Rattle.of_check.specs.declared.claims.CallClaim.{CallClaim}
use Rattle.of_check.specs.Claims.{call_claim}
use Rattle.of_check.specs.Replay.{Replay, replay_at_start, index_for, script_for, entry_for, after_claimed_call, entries_from, course_end, MayFollowWithin, MayFollow, AllFollow}
use Rattle.of_check.proofs.Own.{own, own_first, own_other, count_same, count_other, still_wide}

-- ---- the entries of a caller

-- the entries of a caller, between two counts of its calls
pub record OwnFacts (p : Plan) (d low high : ℕ) (mine : List Entry) : Type 0 where
  pub indices : map (λ (e : Entry). e.index) mine ≡ range_with_len low (length mine)
  pub few : length mine ≤ length (scripts_of p d) - low
  pub count : high ≡ low + length mine

own_more : (p : Plan) (d low now high : ℕ) (e : Entry) (mine : List Entry) → e.index ≡ low → now ≡ low + 1 → low < length (scripts_of p d) → OwnFacts p d now high mine → OwnFacts p d low high (e ∷ mine)
own_more p d low now high e mine first next room facts = record {
  indices = λ i. first i ∷ (facts.indices ∙ ap (λ (n : ℕ). range_with_len n (length mine)) next) i;
  few = omega (arith, next, room, facts.few);
  count = omega (arith, next, facts.count);
}

pub own_facts : (p : Plan) (c : Replay) (qs : List CallClaim) (d : ℕ) → p.callers ≤ length c.counts → AllFollow p c qs → OwnFacts p d (get_or c.counts d 0) (get_or (course_end p c qs).counts d 0) (own d (entries_from p c qs))
own_facts p c [] d wide all = record { indices = refl; few = omega arith; count = omega arith }
own_facts p c (q ∷ qs) d wide all =
    let again = own_facts p (after_claimed_call p c q) qs d (still_wide c.counts q.caller (index_for c q + 1) p.callers wide) all.1 in
    let high = get_or (course_end p c (q ∷ qs)).counts d 0 in
    let mine = own d (entries_from p (after_claimed_call p c q) qs) in
    let below : q.caller < p.callers = all.0.caller in
    elim (eqb_tells q.caller d) [
      | inl same ↦ (
          let first : index_for c q ≡ get_or c.counts d 0 = ap (λ (n : ℕ). get_or c.counts n 0) same.1 in
          let next : get_or (after_claimed_call p c q).counts d 0 ≡ get_or c.counts d 0 + 1 = count_same c.counts q.caller d (index_for c q + 1) same.1 (omega arith) ∙ ap (λ (n : ℕ). n + 1) first in
          let room : get_or c.counts d 0 < length (scripts_of p d) = subst (λ (n : ℕ). get_or c.counts n 0 < length (scripts_of p n)) same.1 all.0.script in
          subst (OwnFacts p d (get_or c.counts d 0) high) (sym (own_first d (entry_for p c q) (entries_from p (after_claimed_call p c q) qs) same.1))
          (own_more p d (get_or c.counts d 0) (get_or (after_claimed_call p c q).counts d 0) high (entry_for p c q) mine first next room again))
      | inr other ↦ (
          let same : get_or (after_claimed_call p c q).counts d 0 ≡ get_or c.counts d 0 = count_other c.counts q.caller d (index_for c q + 1) other.1 in
          subst (OwnFacts p d (get_or c.counts d 0) high) (sym (own_other d (entry_for p c q) (entries_from p (after_claimed_call p c q) qs) other.1))
          (subst (λ (n : ℕ). OwnFacts p d n high mine) same again))
    ]

-- as many counts as at the beginning
pub counts_long : (p : Plan) (c : Replay) (qs : List CallClaim) → length (course_end p c qs).counts ≡ length c.counts
counts_long p c [] = refl
counts_long p c (q ∷ qs) = counts_long p (after_claimed_call p c q) qs ∙ length-set c.counts q.caller (index_for c q + 1)

pub callers_below : (p : Plan) (c : Replay) (qs : List CallClaim) → AllFollow p c qs → Each (λ (e : Entry). e.caller < p.callers) (entries_from p c qs)
callers_below p c [] all = tt
callers_below p c (q ∷ qs) all = (all.0.caller, callers_below p (after_claimed_call p c q) qs all.1)

-- ---- their order

stands : (a b : Bool) (e f : Entry) → MayFollowWithin a b (call_claim e) (call_claim f) → (e.caller ≡ f.caller → e.index < f.index) → (e.seq < f.seq) ⊎ ((e.seq ≡ f.seq) × StandsBeforeWithin a b e f)
stands true true e f (inl up) later = inl (omega (arith, up))
stands true true e f (inr here) later = inr (sym here.0, here.1)
stands true false e f here later = inr (sym here, tt)
stands false true e f up later = inl (omega (arith, up))
stands false false e f here later = inr (sym here.0, elim (eq-or-lt_of_le here.1) [ inl same ↦ inr (same, later same) | inr less ↦ inl less ])

within_on : (a b c : Bool) (e f g : Entry) → StandsBeforeWithin a b e f → StandsBeforeWithin b c f g → StandsBeforeWithin a c e g
within_on true true true e f g first second = omega (arith, first, second)
within_on true true false e f g first second = tt
within_on true false true e f g first second = absurd second
within_on true false false e f g first second = tt
within_on false true c e f g first second = absurd first
within_on false false true e f g first second = absurd second
within_on false false false e f g (inl first) (inl second) = inl (omega (arith, first, second))
within_on false false false e f g (inl first) (inr second) = inl (omega (arith, first, second.0))
within_on false false false e f g (inr first) (inl second) = inl (omega (arith, first.0, second))
within_on false false false e f g (inr first) (inr second) = inr (omega (arith, first.0, second.0), omega (arith, first.1, second.1))

pub before_on : (e f g : Entry) → StandsBefore e f → StandsBefore f g → StandsBefore e g
before_on e f g (inl first) (inl second) = inl (omega (arith, first, second))
before_on e f g (inl first) (inr second) = inl (omega (arith, first, second.0))
before_on e f g (inr first) (inl second) = inl (omega (arith, first.0, second))
before_on e f g (inr first) (inr second) = inr (omega (arith, first.0, second.0), within_on e.announced f.announced g.announced e f g first.1 second.1)

-- a claim that may come next is that of its entry
claim_again : (p : Plan) (c : Replay) (q : CallClaim) → MayFollow p c q → q ≡ call_claim (entry_for p c q)
claim_again p c q follows = λ i. record { seq = q.seq; caller = q.caller; index = follows.turn i; announced = q.announced }

pub in_line : (p : Plan) (c : Replay) (qs : List CallClaim) → p.callers ≤ length c.counts → AllFollow p c qs → InLine StandsBefore (entries_from p c qs)
in_line p c [] wide all = tt
in_line p c (q ∷ []) wide all = (tt, tt)
in_line p c (q ∷ r ∷ qs) wide all =
    let e = entry_for p c q in
    let f = entry_for p (after_claimed_call p c q) r in
    let below : q.caller < p.callers = all.0.caller in
    let place : MayFollowWithin q.announced r.announced (call_claim e) (call_claim f) =
    subst (λ (l : CallClaim). MayFollowWithin q.announced r.announced l (call_claim f)) (claim_again p c q all.0)
    (subst (MayFollowWithin q.announced r.announced q) (claim_again p (after_claimed_call p c q) r all.1.0) all.1.0.place) in
    let first : StandsBefore e f = stands q.announced r.announced e f place (λ same. omega (arith, count_same c.counts q.caller r.caller (index_for c q + 1) same (omega arith))) in
    let rest = in_line p (after_claimed_call p c q) (r ∷ qs) (still_wide c.counts q.caller (index_for c q + 1) p.callers wide) all.1 in
    ((first, each_weaker (StandsBefore f) (StandsBefore e) (λ g second. before_on e f g first second) (entries_from p (after_claimed_call p (after_claimed_call p c q) r) qs) rest.0), rest)

-- ---- their sequences

-- the last call is no lower than the start, and above it where it was announced
pub record IsSince (from : ℕ) (l : CallClaim) : Type 0 where
  pub low : from ≤ l.seq
  pub above : l.announced ≡ true → from < l.seq

record Step (from : ℕ) (l q : CallClaim) : Type 0 where
  pub since : IsSince from q
  pub on : l.seq ≤ q.seq
  pub one : q.seq ≤ l.seq + 1
  pub rises : l.seq < q.seq → q.announced ≡ true

step : (from : ℕ) (a b : Bool) (l q : CallClaim) → q.announced ≡ b → MayFollowWithin a b l q → (a ≡ true → from < l.seq) → from ≤ l.seq → Step from l q
step from true true l q is (inl up) above low = record { since = record { low = omega (arith, up, low); above = λ t. omega (arith, up, low) }; on = omega (arith, up); one = omega (arith, up); rises = λ lt. is }
step from true true l q is (inr here) above low = record { since = record { low = omega (arith, here.0, low); above = λ t. omega (arith, here.0, above refl) }; on = omega (arith, here.0); one = omega (arith, here.0); rises = λ lt. is }
step from true false l q is here above low = record { since = record { low = omega (arith, here, low); above = λ t. absurd (cc) }; on = omega (arith, here); one = omega (arith, here); rises = λ lt. absurd (omega (arith, here, lt)) }
step from false true l q is up above low = record { since = record { low = omega (arith, up, low); above = λ t. omega (arith, up, low) }; on = omega (arith, up); one = omega (arith, up); rises = λ lt. is }
step from false false l q is here above low = record { since = record { low = omega (arith, here.0, low); above = λ t. absurd (cc) }; on = omega (arith, here.0); one = omega (arith, here.0); rises = λ lt. absurd (omega (arith, here.0, lt)) }

step_of : (p : Plan) (from : ℕ) (c : Replay) (q : CallClaim) → MayFollow p c q → IsSince from c.last → Step from c.last q
step_of p from c q follows since = step from c.last.announced q.announced c.last q refl follows.place since.above since.low

matched : (b : Bool) (P Q : Type 0) → (b ≡ true → P) → (b ≡ false → Q) → MatchBool b P Q
matched true P Q one other = one refl
matched false P Q one other = other refl

-- where a start stands
pub since_start : (s : Start) → IsSince s.seq (replay_at_start s).last
since_start s = record { low = omega arith; above = λ t. absurd (cc) }

pub last_up_to : (p : Plan) (from : ℕ) (c : Replay) (qs : List CallClaim) → IsSince from c.last → AllFollow p c qs → c.last.seq ≤ (course_end p c qs).last.seq
last_up_to p from c [] since all = omega arith
last_up_to p from c (q ∷ qs) since all =
    let s = step_of p from c q all.0 since in
    omega (arith, s.on, last_up_to p from (after_claimed_call p c q) qs s.since all.1)

pub sequences_are : (p : Plan) (s : Start) (c : Replay) (qs : List CallClaim) → IsSince s.seq c.last → AllFollow p c qs → Each (λ (e : Entry). HasSequence p s e × (e.seq ≤ (course_end p c qs).last.seq)) (entries_from p c qs)
sequences_are p s c [] since all = tt
sequences_are p s c (q ∷ qs) since all =
    let t = step_of p s.seq c q all.0 since in (
      (
        matched q.announced (s.seq < q.seq) ((s.seq ≤ q.seq) × All (λ i. IsTrue (reads_only i)) (script_for p c q)) t.since.above (λ read. (t.since.low, all.0.reads read)),
        last_up_to p s.seq (after_claimed_call p c q) qs t.since all.1,
      ),
      sequences_are p s (after_claimed_call p c q) qs t.since all.1,
    )

pub each_there : (p : Plan) (from : ℕ) (c : Replay) (qs : List CallClaim) → IsSince from c.last → AllFollow p c qs → (k : ℕ) → c.last.seq < k → k ≤ (course_end p c qs).last.seq → Any (λ (e : Entry). IsTrue e.announced × (e.seq ≡ k)) (entries_from p c qs)
each_there p from c [] since all k low high = absurd (omega (arith, low, high))
each_there p from c (q ∷ qs) since all k low high =
    let s = step_of p from c q all.0 since in
    elim (eqb_tells q.seq k) [
      | inl here ↦ (0, entry_for p c q, omega arith, refl, (s.rises (omega (arith, here.1)), here.1))
      | inr other ↦ (let found = each_there p from (after_claimed_call p c q) qs s.since all.1 k (omega (arith, s.one, other.1)) high in (suc found.0, found.1, omega (arith, found.2), found.3, found.4))
    ]

-- no more sequences than calls
pub few_sequences : (p : Plan) (from : ℕ) (c : Replay) (qs : List CallClaim) → IsSince from c.last → AllFollow p c qs → (course_end p c qs).last.seq ≤ c.last.seq + length qs
few_sequences p from c [] since all = omega arith
few_sequences p from c (q ∷ qs) since all =
    let s = step_of p from c q all.0 since in
    omega (arith, s.one, few_sequences p from (after_claimed_call p c q) qs s.since all.1)

-- ---- their replies

pub replies_are : (p : Plan) (c : Replay) (qs : List CallClaim) → map (λ (e : Entry). e.reply) (entries_from p c qs) ≡ replies_in_order c.store (map (script_of_entry p) (entries_from p c qs))
replies_are p c [] = refl
replies_are p c (q ∷ qs) = ap (λ (rs : List Reply). (run c.store (script_for p c q)).1 ∷ rs) (replies_are p (after_claimed_call p c q) qs)

pub store_is : (p : Plan) (c : Replay) (qs : List CallClaim) → (course_end p c qs).store ≡ last_store c.store (map (script_of_entry p) (entries_from p c qs))
store_is p c [] = refl
store_is p c (q ∷ qs) = store_is p (after_claimed_call p c q) qs
