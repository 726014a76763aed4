-- What callers, handles and memories know of real time, and go on knowing.
use Rattle.std.proofs.Common.{◌≡◌, ℕ, ◌≤◌, List, [], length, append-nil, get_or, Some, None, Result, sym, ap, subst, ◌∙◌, arith}
use mathlib.Core.List.{IsPrefix}
use Rattle.of_mem.specs.Meaning.{Meaning}
use Rattle.of_mem.proofs.Lists.{prefix_trans, same_some}
use Rattle.of_core.specs.Events.{Event}
use Rattle.of_row.specs.declared.row.Row.{Row}
use Rattle.of_row.specs.Rows.{setup_at, row_start}
use Rattle.of_row.specs.Views.{View}
use Rattle.of_row.specs.Turned.{after_tell}
use Rattle.of_caller.specs.declared.caller.Caller.{Caller}
use Rattle.of_caller.specs.Callers.{caller_call, sight_of}
use Rattle.of_cells.specs.declared.answer.RawAnswer.{RawAnswer}
use Rattle.of_cells.specs.declared.error.RunError.{RunError}
use Rattle.of_cells.specs.declared.memory.CellMemory.{CellMemory}
use Rattle.of_cells.specs.declared.handle.CellHandle.{CellHandle}
use Rattle.of_cells.specs.declared.telling.CellNews.{CellNews}
use Rattle.of_cells.specs.Times.{calls_ended_in, EndBefore}
use Rattle.of_cells.specs.Serving.{KnowsMore, events_known_to}
use Rattle.of_cells.specs.Called.{BeginsItsNext, BeginsAsNext, LearnsMore}
use Rattle.of_cells.specs.Handles.{IsCellHandle, home_of, number_of_handle, caller_of, made_by}
use Rattle.of_cells.specs.Memories.{IsFrom, HasOrderOf, HasHeardOf as MemoryHasHeardOf, RemembersAll, events_heard, row_of}
use Rattle.of_cells.specs.Telling.{HasHeardOf, KeepsKnown, BeginsAfterHeard, KnowsOrder, HearsMemory, TellsMemory, TellsOf, TellsOwn, TellsHeard, HearsAll, ToldCallsComeFirst, CallsComeInTurn, events_told}
use Rattle.of_cells.proofs.Seats.{later_ended}

-- ---- a caller that knows more

-- when it has told, it knows as much
pub same_sight : {W : Type 0} (c k : Caller W) → caller_call k ≡ caller_call c → sight_of k ≡ after_tell (sight_of c) → KnowsMore c k
same_sight c k call sight = record {
  call = call;
  kept = ap (λ (v : View). v.kept) sight;
  past = ([], append-nil (sight_of c).past ∙ ap (λ (v : View). v.past) (sym sight));
}

pub prefix_same : (es ds fs : List Event) → IsPrefix es ds → ds ≡ fs → IsPrefix es fs
prefix_same es ds fs more same = subst (IsPrefix es) same more

-- ---- an order that is known

pub order_later : {W : Type 0} (meaning : W → Meaning) (r : Row W) (es ds : List Event) (n x k y : ℕ) → IsPrefix es ds → EndBefore (setup_at meaning r) (row_start meaning r) es n x k y → EndBefore (setup_at meaning r) (row_start meaning r) ds n x k y
order_later meaning r es ds n x k y more known = record {
  moment = known.moment;
  early = prefix_trans known.moment es ds known.early more;
  ended = known.ended;
  begun = known.begun;
}

module _ {W : Type 0} (meaning : W → Meaning) where
  abbrev Ordered : Row W → List Event → (n x k y : ℕ) → Type 0
  Ordered r es n x k y = EndBefore (setup_at meaning r) (row_start meaning r) es n x k y

  abbrev ended_on : Row W → List Event → ℕ → ℕ
  ended_on r es n = calls_ended_in (setup_at meaning r) (row_start meaning r) es n

  -- ---- a handle

  pub keeps_known : (h k : CellHandle W) → home_of k ≡ home_of h → LearnsMore (caller_of h) (caller_of k) → KeepsKnown meaning h k
  keeps_known h k home more = record {
    heard = λ n count low.
        let later = later_ended meaning (home_of h) (events_known_to (caller_of h)) (events_known_to (caller_of k)) n more in
        subst (λ (r : Row W). count ≤ ended_on r (events_known_to (caller_of k)) n) (sym home) (omega (arith, low, later));
    order = λ n x j y known.
        subst (λ (r : Row W). Ordered r (events_known_to (caller_of k)) n x j y) (sym home) (order_later meaning (home_of h) (events_known_to (caller_of h)) (events_known_to (caller_of k)) n x j y more known);
  }

  pub begins_after : (result : Result RawAnswer RunError) (h k : CellHandle W) → home_of k ≡ home_of h → LearnsMore (caller_of h) (caller_of k) → (caller_call (caller_of h)).caller ≡ number_of_handle h → BeginsItsNext result (caller_of h) → BeginsAfterHeard meaning result h k
  begins_after result h k home more number next started n count heard =
      let few = subst (λ (i : ℕ). BeginsAsNext i result (caller_of h)) number next started in
      subst (λ (r : Row W). Ordered r (events_known_to (caller_of k)) n count (number_of_handle h) (length (made_by h))) (sym home) (record {
        moment = events_known_to (caller_of h);
        early = more;
        ended = heard;
        begun = few;
      })

  -- ---- handles come and go

  pub order_out : (m : CellMemory W) (i : ℕ) (c d : Caller W) (r : Row W) → get_or m.callers.items i None ≡ Some c → LearnsMore c d → r ≡ row_of m → (n x k y : ℕ) → HasOrderOf meaning m i n x k y → Ordered r (events_known_to d) n x k y
  order_out m i c d r here more home n x k y has =
      let same : has.caller ≡ c = same_some has.caller c (get_or m.callers.items i None) has.here here in
      order_later meaning r (events_known_to c) (events_known_to d) n x k y more
      (subst (λ (z : Row W × Caller W). Ordered z.0 (events_known_to z.1) n x k y) (λ i. (sym home i, same i)) has.order)

  pub order_in : (m : CellMemory W) (h : CellHandle W) (c : Caller W) → get_or m.callers.items h.number None ≡ Some c → LearnsMore h.caller c → home_of h ≡ row_of m → (n x k y : ℕ) → KnowsOrder meaning h n x k y → HasOrderOf meaning m h.number n x k y
  order_in m h c here more home n x k y known = record {
    caller = c;
    here = here;
    order = subst (λ (r : Row W). Ordered r (events_known_to c) n x k y) home (order_later meaning (home_of h) (events_known_to h.caller) (events_known_to c) n x k y more known);
  }

  -- a number whose caller is the same, or knows more, knows each order still
  pub order_same : (m l : CellMemory W) (j : ℕ) → row_of l ≡ row_of m → ((c : Caller W) → get_or m.callers.items j None ≡ Some c → (d : Caller W) × (get_or l.callers.items j None ≡ Some d) × LearnsMore c d)
      → (n x k y : ℕ) → HasOrderOf meaning m j n x k y → HasOrderOf meaning l j n x k y
  order_same m l j still there n x k y has =
      let t = there has.caller has.here in
      record {
        caller = t.0;
        here = t.1;
        order = subst (λ (r : Row W). Ordered r (events_known_to t.0) n x k y) (sym still) (order_later meaning (row_of m) (events_known_to has.caller) (events_known_to t.0) n x k y t.2 has.order);
      }

  -- ---- what a memory has heard of

  pub remembers : (m k : CellMemory W) → row_of k ≡ row_of m → IsPrefix (events_heard m) (events_heard k) → RemembersAll meaning m k
  remembers m k still more n count low =
      let later = later_ended meaning (row_of m) (events_heard m) (events_heard k) n more in
      subst (λ (r : Row W). count ≤ ended_on r (events_heard k) n) (sym still) (omega (arith, low, later))

  pub hears_memory : (m : CellMemory W) (h : CellHandle W) → IsFrom m h → IsPrefix (events_heard m) (events_known_to h.caller) → HearsMemory meaning m h
  hears_memory m h from more n count low =
      let later = later_ended meaning (row_of m) (events_heard m) (events_known_to h.caller) n more in
      subst (λ (r : Row W). count ≤ ended_on r (events_known_to h.caller) n) (sym from) (omega (arith, low, later))

  pub tells_memory : (h : CellHandle W) (m : CellMemory W) → IsCellHandle meaning h → home_of h ≡ row_of m → IsPrefix (events_known_to h.caller) (events_heard m) → TellsMemory meaning h m
  tells_memory h m is home more = record {
    own = heard h.number (length (made_by h)) is.told;
    heard = heard;
  }
    where
      heard : (n count : ℕ) → HasHeardOf meaning h n count → MemoryHasHeardOf meaning m n count
      heard n count low =
          let later = later_ended meaning (home_of h) (events_known_to h.caller) (events_heard m) n more in
          subst (λ (r : Row W). count ≤ ended_on r (events_heard m) n) home (omega (arith, low, later))

  pub tells_later : (h : CellHandle W) (m k : CellMemory W) → TellsMemory meaning h m → RemembersAll meaning m k → TellsMemory meaning h k
  tells_later h m k tells more = record {
    own = more h.number (length (made_by h)) tells.own;
    heard = λ n count low. more n count (tells.heard n count low);
  }

  -- ---- a handle tells, and hears

  pub tells_own : (h : CellHandle W) (a : CellNews) → IsCellHandle meaning h → events_told a ≡ events_known_to h.caller → TellsOwn meaning h a
  tells_own h a is same =
      let low = is.told in
      let all = ap (λ (es : List Event). ended_on (home_of h) es h.number) same in
      omega (arith, low, all)

  pub tells_heard : (h : CellHandle W) (a : CellNews) → events_told a ≡ events_known_to h.caller → TellsHeard meaning h a
  tells_heard h a same n count heard =
      let all = ap (λ (es : List Event). ended_on (home_of h) es n) same in
      omega (arith, heard, all)

  pub hears_all : (a : CellNews) (h : CellHandle W) → IsPrefix (events_told a) (events_known_to h.caller) → HearsAll meaning a h
  hears_all a h more n count tells =
      let later = later_ended meaning (home_of h) (events_told a) (events_known_to h.caller) n more in
      omega (arith, tells, later)

  -- ---- calls that come one after the other

  pub told_first : ToldCallsComeFirst meaning
  told_first m d a b c e news result of_m of_m_too tells hears started begins keeps leaves history =
      let n = number_of_handle a in
      let k = number_of_handle b in
      let told : TellsOf meaning (home_of b) news n (length (made_by a)) = subst (λ (r : Row W). TellsOf meaning r news n (length (made_by a))) (of_m ∙ sym of_m_too) tells in
      let order : KnowsOrder meaning c n (length (made_by a)) k (length (made_by b)) = begins started n (length (made_by a)) (hears n (length (made_by a)) told) in
      let left = leaves n (length (made_by a)) k (length (made_by b)) (keeps.order n (length (made_by a)) k (length (made_by b)) order) in
      (history.0, history.1, history.1.time (number_of_handle e) n (length (made_by a)) k (length (made_by b)) left)

  pub come_in_turn : CallsComeInTurn meaning
  come_in_turn k l m d a b c e result still_k still_l of_m of_m_too tells remember hears started begins keeps leaves history =
      let n = number_of_handle a in
      let j = number_of_handle b in
      let heard : HasHeardOf meaning b n (length (made_by a)) = hears n (length (made_by a)) (remember n (length (made_by a)) tells.own) in
      let order : KnowsOrder meaning c n (length (made_by a)) j (length (made_by b)) = begins started n (length (made_by a)) heard in
      let left = leaves n (length (made_by a)) j (length (made_by b)) (keeps.order n (length (made_by a)) j (length (made_by b)) order) in
      (history.0, history.1, history.1.time (number_of_handle e) n (length (made_by a)) j (length (made_by b)) left)
