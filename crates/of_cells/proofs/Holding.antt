-- What a memory knows of its callers, and the history that its close leaves.
use Rattle.std.proofs.Common.{◌≡◌, ℕ, zero, suc, ◌<◌, inl, inr, List, [], ◌∷◌, length, get_or, set, map, replicate, Option, Some, None, refl, sym, ap, subst, ◌∙◌, arith}
use Rattle.std.specs.List.{AllByRecursion as Each}
use Rattle.std.proofs.lemmas.List.{get_or-set_same, get_or-set_other, get_or-map, length-map, length-replicate, get_or-replicate, ext_get_or}
use mathlib.Core.Bool.{true≢false}
use Rattle.of_cell.specs.Words.{payload_of}
use Rattle.of_cell.proofs.Order.{pay_zero}
use Rattle.of_mem.specs.Meaning.{Meaning}
use Rattle.of_mem.specs.declared.work.TheConstants.{MOST_INSTRS}
use Rattle.of_core.specs.Fit.{IsEmptyWithRoom}
use Rattle.of_core.specs.TableMoment.{TableStart}
use Rattle.of_core.specs.Machine.{Call, CallState, IsOpen, is_idle}
use Rattle.of_core.specs.Turn.{IsIdle}
use Rattle.of_row.specs.declared.row.Row.{Row}
use Rattle.of_row.specs.Rows.{key_of, setup_at, row_start, IsSeatOf, IsFirstPass, StartsAtZeros}
use Rattle.of_row.specs.Rule.{done_before}
use Rattle.of_mem.specs.Places.{ticket_cell_at}
use Rattle.of_mem.proofs.Lists.{same_some, prefix_trans}
use Rattle.of_cells.specs.Times.{EndBefore}
use Rattle.of_row.specs.Views.{EndedCall, KnownCaller, View, last_caller}
use Rattle.of_caller.specs.declared.caller.Caller.{Caller}
use Rattle.of_caller.specs.Callers.{caller_call}
use Rattle.of_cells.specs.declared.memory.CellMemory.{CellMemory}
use Rattle.of_cells.specs.declared.handle.CellHandle.{CellHandle}
use Rattle.of_cells.specs.declared.saved.SavedCells.{SavedCells}
use Rattle.of_cells.specs.History.{ExplainsAll, HaveOwnSequences, HasOnly, IsOneOf}
use Rattle.of_cells.specs.Called.{IsOpenAt}
use Rattle.of_cells.specs.Serving.{KeepsSo, IsNew, Serves, ServeAll, AllStand, IsKeptOf, KeepsThose, KnowsPasts, KnowsMore, IsKnowledge, ended_of, events_known_to, cells_at_start, durable_count, made_before}
use Rattle.of_cells.specs.Saving.{HasOpenOperation, HasOnlyKept, SavesHistory, saved_callers}
use Rattle.of_cells.specs.Handles.{IsCellHandle}
use Rattle.of_cells.specs.Memories.{IsCellMemory, IsFrom, HasMadeOf, HasOpenOf, HasMadeNothing, HasNoneOpen, KnowsOthers, OthersStayOpen, OthersKnowOrder, HasHistory, BeganLawful, row_of, work_of, callers_of, cells_before}
use Rattle.of_cells.proofs.Seats.{number_below, is_within}

-- ---- zeros

pub zeros_read : (n a : ℕ) → ◌≡◌ {A = ℕ} (get_or (replicate n 0) a 0) 0
zeros_read zero a = refl
zeros_read (suc n) zero = refl
zeros_read (suc n) (suc a) = zeros_read n a

pub zero_at : (n a : ℕ) → payload_of (get_or (replicate n 0) a 0) ≡ 0
zero_at n a = ap payload_of (zeros_read n a) ∙ pay_zero

pub zeros_paid : (n : ℕ) → map payload_of (replicate n 0) ≡ replicate n 0
zeros_paid n = ext_get_or 0 (map payload_of (replicate n 0)) (replicate n 0) (length-map (replicate n 0) payload_of) (λ i l.
    let low : i < n = omega (arith, l, length-map (replicate n 0) payload_of, length-replicate {A = ℕ} n 0) in
    get_or-map payload_of (replicate n 0) i 0 0 (omega (arith, low, length-replicate {A = ℕ} n 0)) ∙ zero_at n i ∙ sym (get_or-replicate n i 0 0 low))

pub number_at : (xs : List ℕ) (a : ℕ) → get_or (map payload_of xs) a 0 ≡ payload_of (get_or xs a 0)
number_at [] a = sym pay_zero
number_at (x ∷ xs) zero = refl
number_at (x ∷ xs) (suc a) = number_at xs a

module _ {W : Type 0} (meaning : W → Meaning) (r : Row W) where
  -- ---- where a row starts

  module _ (start : StartsAtZeros meaning r) where
    pub zero_cells : (n : ℕ) → (key_of r).cells ≡ n → cells_at_start meaning r ≡ replicate n 0
    zero_cells n is = ap (λ (B : TableStart). map payload_of B.cells) start ∙ zeros_paid (key_of r).cells ∙ ap (λ (k : ℕ). replicate k 0) is

    pub zero_tickets : (n : ℕ) → made_before meaning r n ≡ 0
    zero_tickets n = ap (λ (B : TableStart). done_before (setup_at meaning r) B n) start ∙ zero_at (key_of r).cells _

  module _ (C : TableStart) (start : row_start meaning r ≡ C) where
    pub cells_on : cells_at_start meaning r ≡ map payload_of C.cells
    cells_on = ap (λ (B : TableStart). map payload_of B.cells) start

    pub tickets_on : (n : ℕ) → made_before meaning r n ≡ get_or (map payload_of C.cells) (ticket_cell_at MOST_INSTRS n) 0
    tickets_on n = ap (λ (B : TableStart). done_before (setup_at meaning r) B n) start ∙ sym (number_at C.cells (ticket_cell_at MOST_INSTRS n))

module _ {W : Type 0} where
  -- ---- a caller is taken out of its place, or put into it

  pub others_set : (m k : CellMemory W) (i : ℕ) (x : Option (Caller W)) → k.callers.items ≡ set m.callers.items i x → KnowsOthers i m k
  others_set m k i x is n es ne h = record {
    caller = h.caller;
    here = ap (λ (cs : List (Option (Caller W))). get_or cs n None) is ∙ get_or-set_other m.callers.items i n x None ne ∙ h.here;
    made = h.made;
  }

  pub opens_set : (m k : CellMemory W) (i : ℕ) (x : Option (Caller W)) → k.callers.items ≡ set m.callers.items i x → OthersStayOpen i m k
  opens_set m k i x is n op ne h = record {
    caller = h.caller;
    here = ap (λ (cs : List (Option (Caller W))). get_or cs n None) is ∙ get_or-set_other m.callers.items i n x None ne ∙ h.here;
    opened = h.opened;
  }

  pub orders_set : (meaning : W → Meaning) (m k : CellMemory W) (i : ℕ) (x : Option (Caller W)) → row_of k ≡ row_of m → k.callers.items ≡ set m.callers.items i x → OthersKnowOrder meaning i m k
  orders_set meaning m k i x still is j n a l b ne h = record {
    caller = h.caller;
    here = ap (λ (cs : List (Option (Caller W))). get_or cs j None) is ∙ get_or-set_other m.callers.items i j x None ne ∙ h.here;
    order = subst (λ (r : Row W). EndBefore (setup_at meaning r) (row_start meaning r) (events_known_to h.caller) n a l b) (sym still) h.order;
  }

  -- with the same calls
  pub same_ended : (c d : Caller W) → KnowsMore c d → ended_of d ≡ ended_of c
  same_ended c d same = ap (λ (xs : List KnownCaller). (last_caller xs).ended) same.kept

  pub open_still : (c d : Caller W) (op : List ℕ) → KnowsMore c d → IsOpenAt op c → IsOpenAt op d
  open_still c d op same opened = subst (λ (x : CallState). IsOpen x.place × (x.op ≡ op)) (sym same.call) opened

  pub open_before : (c d : Caller W) (op : List ℕ) → KnowsMore c d → IsOpenAt op d → IsOpenAt op c
  open_before c d op same opened = subst (λ (x : CallState). IsOpen x.place × (x.op ≡ op)) same.call opened

  pub same_open : (m : CellMemory W) (i : ℕ) (c : Caller W) (op : List ℕ) → get_or m.callers.items i None ≡ Some c → HasOpenOf m i op → IsOpenAt op c
  same_open m i c op here h = subst (IsOpenAt op) (same_some h.caller c (get_or m.callers.items i None) h.here here) h.opened

  pub made_same : (m : CellMemory W) (i : ℕ) (c : Caller W) (es : List EndedCall) → get_or m.callers.items i None ≡ Some c → HasMadeOf m i es → ended_of c ≡ es
  made_same m i c es here h = subst (λ (k : Caller W). ended_of k ≡ es) (same_some h.caller c (get_or m.callers.items i None) h.here here) h.made

  pub open_here : (k : CellMemory W) (cs : List (Option (Caller W))) (i : ℕ) (c : Caller W) → k.callers.items ≡ set cs i (Some c) → i < length cs → (op : List ℕ) → IsOpenAt op c → HasOpenOf k i op
  open_here k cs i c is lt op opened = record {
    caller = c;
    here = ap (λ (xs : List (Option (Caller W))). get_or xs i None) is ∙ get_or-set_same cs i (Some c) None lt;
    opened = opened;
  }

  pub made_here : (k : CellMemory W) (cs : List (Option (Caller W))) (i : ℕ) (c : Caller W) → k.callers.items ≡ set cs i (Some c) → i < length cs → HasMadeOf k i (ended_of c)
  made_here k cs i c is lt = record {
    caller = c;
    here = ap (λ (xs : List (Option (Caller W))). get_or xs i None) is ∙ get_or-set_same cs i (Some c) None lt;
    made = refl;
  }

  module _ (meaning : W → Meaning) where
    pub low_number : (m : CellMemory W) (i : ℕ) (c : Caller W) → IsCellMemory meaning m → Serves meaning (row_of m) i c → i < length m.callers.items
    low_number m i c h s = let low = number_below meaning (row_of m) i c s in omega (arith, low, h.each)

    pub serves_there : (m : CellMemory W) (h : CellHandle W) → IsFrom m h → IsCellHandle meaning h → Serves meaning (row_of m) h.number h.caller
    serves_there m h from is = subst (λ (r : Row W). Serves meaning r h.number h.caller) from is

    pub low_handle : (m : CellMemory W) (h : CellHandle W) → IsCellMemory meaning m → IsCellHandle meaning h → IsFrom m h → h.number < length m.callers.items
    low_handle m h is handle from = low_number m h.number h.caller is (serves_there m h from handle)

    -- ---- a memory that is opened with lawful cells

    pub began_lawful : (size : W → ℕ) (lawful : W → List ℕ → Type 0) (m : CellMemory W) (w : W) (xs : List ℕ) → work_of m ≡ w → cells_before meaning m ≡ xs → length xs ≡ size w → lawful w xs → BeganLawful size meaning lawful m
    began_lawful size lawful m w xs work cells long is = record {
      long = ap (λ (l : List ℕ). length l) cells ∙ long ∙ ap size (sym work);
      is_lawful = subst (λ (z : W × List ℕ). lawful z.0 z.1) (λ i. (sym work i, sym cells i)) is;
    }

    -- ---- a memory over a row

    pub is_memory : (m : CellMemory W) (r : Row W) → row_of m ≡ r → IsSeatOf r m.pass.seat → IsFirstPass m.pass → length m.callers.items ≡ (key_of r).callers → ServeAll meaning r m.callers.items → m.known ≡ None
        → IsEmptyWithRoom (durable_count r) m.room → IsCellMemory meaning m
    is_memory m r is pass first each serve none room = record {
      pass = subst (λ (x : Row W). IsSeatOf x m.pass.seat) (sym is) pass;
      first = first;
      each = each ∙ ap (λ (x : Row W). (key_of x).callers) (sym is);
      serve = λ n c here. subst (λ (x : Row W). Serves meaning x n c) (sym is) (serve n c here);
      known = subst (IsKnowledge (row_of m)) (sym none) tt;
      room = subst (λ (x : Row W). IsEmptyWithRoom (durable_count x) m.room) (sym is) room;
    }

    pub none_made : (m : CellMemory W) (r : Row W) → row_of m ≡ r → AllStand (IsNew meaning r) (key_of r).callers m.callers.items → HasMadeNothing m
    none_made m r is all n lt =
        let h = all n (subst (λ (x : Row W). n < (key_of x).callers) is lt) in
        record { caller = h.0; here = h.1; made = h.2.none }

    -- callers that are new have no open call
    pub none_open : (m : CellMemory W) (r : Row W) → length m.callers.items ≡ (key_of r).callers → AllStand (IsNew meaning r) (key_of r).callers m.callers.items → HasNoneOpen m
    none_open m r long all n op h =
        let low = is_within m.callers.items n h.caller h.here in
        let one = all n (omega (arith, low, long)) in
        let same : one.0 ≡ h.caller = same_some one.0 h.caller (get_or m.callers.items n None) one.1 h.here in
        let idle : IsIdle (caller_call h.caller) = subst (λ (x : Caller W). IsIdle (caller_call x)) same one.2.idle in
        absurd (true≢false (sym (ap is_idle idle) ∙ h.opened.0))

    -- ---- what a close leaves

    -- what is so of the ended calls of each kept caller is so of those of a caller that is here
    from_kept : (P : (caller n : ℕ) → List EndedCall → Type 0) (r : Row W) (n : ℕ) (c : Caller W) (xs : List KnownCaller) → KeepsSo n (IsKeptOf c) xs → Each (λ (x : KnownCaller). P x.machine.caller (made_before meaning r x.machine.caller) x.ended) xs → P n (made_before meaning r n) (ended_of c)
    from_kept P r n c [] k all = absurd k
    from_kept P r n c (x ∷ xs) (inl k) all = subst (λ (z : ℕ × List EndedCall). P z.0 (made_before meaning r z.0) z.1) (λ i. (k.0 i, k.1.ended i)) all.0
    from_kept P r n c (x ∷ xs) (inr k) all = from_kept P r n c xs k all.1

    -- the history has none but these calls of the caller
    only_kept : (m : CellMemory W) (r : Row W) (h : List Call) (n : ℕ) (c : Caller W) → get_or m.callers.items n None ≡ Some c → (xs : List KnownCaller) → KeepsSo n (IsKeptOf c) xs → Each (HasOnlyKept (setup_at meaning r) (row_start meaning r) h) xs
        → HasOnly h n (made_before meaning r n) (ended_of c) (HasOpenOf m n)
    only_kept m r h n c here [] k all = absurd k
    only_kept m r h n c here (x ∷ xs) (inl k) all = λ y d lt mine.
        as_open (get_or h y d) (subst (λ (z : ℕ × List EndedCall). IsOneOf (made_before meaning r z.0) z.1 (HasOpenOperation x) (get_or h y d)) (λ i. (k.0 i, k.1.ended i)) (all.0 y d lt (mine ∙ sym k.0)))
      where
        as_open : (e : Call) → IsOneOf (made_before meaning r n) (ended_of c) (HasOpenOperation x) e → IsOneOf (made_before meaning r n) (ended_of c) (HasOpenOf m n) e
        as_open e (inl one) = inl one
        as_open e (inr last) =
            let same : x.machine ≡ caller_call c = k.1.open_call last.1.0 in
            inr (
              last.0,
              record {
                caller = c;
                here = here;
                opened = (subst (λ (d : CallState). IsOpen d.place) same last.1.0, ap (λ (d : CallState). d.op) (sym same) ∙ last.1.1);
              },
            )
    only_kept m r h n c here (x ∷ xs) (inr k) all = only_kept m r h n c here xs k all.1

    pub history : (m : CellMemory W) (d : SavedCells W) (r : Row W) (v : View) → r ≡ row_of m → saved_callers d ≡ (key_of r).callers → KeepsThose m.callers.items (length m.callers.items) v.kept → KnowsPasts m.callers.items (length m.callers.items) v.past → SavesHistory meaning r v d → HasHistory meaning m d
    history m d r v same many keeps pasts found =
        let there : SavesHistory meaning (row_of m) v d = subst (λ (x : Row W). SavesHistory meaning x v d) same found in
        let many_there : saved_callers d ≡ callers_of m = many ∙ ap (λ (x : Row W). (key_of x).callers) same in
        let h = there.history in
        let q = there.sequences in
        let Held : ℕ → List EndedCall → Type 0 = λ n es. ExplainsAll h n (made_before meaning (row_of m) n) es × HaveOwnSequences h q n (made_before meaning (row_of m) n) es × HasOnly h n (made_before meaning (row_of m) n) es (HasOpenOf m n) in
        let held : (n : ℕ) (es : List EndedCall) → HasMadeOf m n es → Held n es = (λ n es made.
        let k = keeps n made.caller (is_within m.callers.items n made.caller made.here) made.here in
        subst (Held n) made.made (
          from_kept (ExplainsAll h) (row_of m) n made.caller v.kept k there.view.calls,
          from_kept (HaveOwnSequences h q) (row_of m) n made.caller v.kept k there.view.own_seq,
          only_kept m (row_of m) h n made.caller made.here v.kept k there.view.only,
        )) in (
          h,
          record {
            one = record {
              serial = there.leads.serial;
              ends = λ a high lt. there.leads.ends a (omega (arith, high, many_there)) lt;
              order = there.leads.order;
              sequences = q;
              by_seq = there.leads.by_seq;
              made = λ n es made. (held n es made).0;
              own_seq = λ n es made. (held n es made).1;
              only = λ n es made. (held n es made).2;
              callers = there.leads.callers;
              last = there.leads.last;
              upto = there.leads.upto;
            };
            time = λ j n x k y has.
                let past = pasts j has.caller (is_within m.callers.items j has.caller has.here) has.here in
                there.view.time n x k y (record {
                  moment = has.order.moment;
                  early = prefix_trans has.order.moment (events_known_to has.caller) v.past has.order.early past;
                  ended = has.order.ended;
                  begun = has.order.begun;
                });
          },
        )
