-- The overlay of several calls: a scan's log is what the calls, in order, do to the state, with their own cells.
use Rattle.std.proofs.Common.{◌≡◌, ℕ, zero, suc, ◌+◌, ◌-◌, ◌*◌, ◌<◌, ◌≤◌, ◌⊎◌, ◌==◌, inl, inr, List, [], ◌∷◌, ◌++◌, length, get_or, set, take, refl, sym, ◌∙◌, ap, subst, arith, length-set, length-append, Bool, true, false, nat_lt, if◌then◌else◌, Option, Some, None}
use Rattle.std.specs.List.{All}
use Rattle.std.proofs.lemmas.Bool.{cases_eq, cases_lt}
use Rattle.std.proofs.lemmas.Bool.Decides.{nat_tests}
use Rattle.std.proofs.lemmas.List.Elements.{All-push}
use Rattle.std.proofs.lemmas.List.{get_or_append_left, get_or-append_right, get_or-set_same, get_or-set_other, set_comm, get_or_past, get_or-take, length-take, get_or_push, get_or_default}
use Rattle.std.proofs.lemmas.Bool.{eqb-true as same_num}
use Rattle.of_mem.specs.declared.work.TheConstants.{LEAST_ABORT, MOST_INSTRS, FEW_DATA_CELLS, MOST_WRITES}
use Rattle.of_cell.specs.declared.shape.TheConstants.{LOG_SHARE}
use Rattle.of_cell.specs.declared.word.TheConstants.{PAYLOADS}
use Rattle.of_cell.proofs.Places.{row_within}
use Rattle.of_mem.specs.declared.work.RawReply.{RawReply}
use Rattle.of_mem.specs.Meaning.{HasDistinctCells, with_writes_in, SameFrom, Meaning, IsFinishedWalk, IsSoundMeaning, WalkFits, Agrees, is_marked}
use Rattle.of_mem.specs.CellMap.{put_pair, put_all}
use Rattle.of_mem.specs.Part.{overlaid}
use Rattle.of_mem.proofs.Writes.{once_tail, once_put_all, put_all_few, written_length, written_put_all}
use Rattle.of_core.specs.Table.{Setup, first_operation_cell, ticket_cell, shape_cell, reply_cell}
use Rattle.of_core.specs.Machine.{Call, cells_from, own_cells, no_call}
use Rattle.of_core.specs.History.{IsCellOfCaller, numbers_after_calls, CallsHaveReplies}
use Rattle.of_core.specs.WordsMatch.{IsEntry}
use Rattle.of_core.specs.Scan.{LogsCell, LogsOwnCells, IsOverlayOf}
use Rattle.of_core.proofs.Logs.{AreWrites, once_within, written_append, drop_written, own_below, whole_log, length-listed, listed_at, own_is, IsOwn}

-- a write of a cell that no later one names may as well come last
written_set : (xs : List ℕ) (es : List (ℕ × ℕ)) (a v : ℕ) → ((j : ℕ) → j < length es → (get_or es j (0, 0)).0 ≡ a → ⊥) → with_writes_in (set xs a v) es ≡ set (with_writes_in xs es) a v
written_set xs [] a v away = refl
written_set xs (e ∷ es) a v away =
    ap (λ (ys : List ℕ). with_writes_in ys es) (set_comm xs a e.0 v e.1 (λ q. away 0 (omega arith) (sym q)))
    ∙ written_set (set xs e.0 e.1) es a v (λ j l q. away (suc j) (omega arith) q)

pub apart_head : (e : ℕ × ℕ) (es : List (ℕ × ℕ)) → HasDistinctCells (e ∷ es) → (j : ℕ) → j < length es → (get_or es j (0, 0)).0 ≡ e.0 → ⊥
apart_head e es o j l q = let r : suc j ≡ 0 = o (suc j) 0 (omega arith) (omega arith) q in omega arith

abbrev FromPut : List (ℕ × ℕ) → List (ℕ × ℕ) → ℕ × ℕ → Type 0
FromPut ds es x = ((k : ℕ) × (k < length es) × (x ≡ get_or es k (0, 0))) ⊎ ((k : ℕ) × (k < length ds) × (x ≡ get_or ds k (0, 0)))

-- what put leaves is the entry or was there
put_from : (ds : List (ℕ × ℕ)) (e : ℕ × ℕ) (j : ℕ) → j < length (put_pair ds e.0 e.1) → (get_or (put_pair ds e.0 e.1) j (0, 0) ≡ e) ⊎ ((k : ℕ) × (k < length ds) × (get_or (put_pair ds e.0 e.1) j (0, 0) ≡ get_or ds k (0, 0)))
put_from [] e zero l = inl refl
put_from [] e (suc j) l = absurd (omega arith)
put_from (d ∷ ds) e zero l = go (d.0 == e.0)
  where
    go : (b : Bool) → (get_or (if b then (e.0, e.1) ∷ ds else d ∷ put_pair ds e.0 e.1) 0 (0, 0) ≡ e) ⊎ ((k : ℕ) × (k < length (d ∷ ds)) × (get_or (if b then (e.0, e.1) ∷ ds else d ∷ put_pair ds e.0 e.1) 0 (0, 0) ≡ get_or (d ∷ ds) k (0, 0)))
    go true = inl refl
    go false = inr (0, omega arith, refl)
put_from (d ∷ ds) e (suc j) l = go (d.0 == e.0) l (λ m. put_from ds e j m)
  where
    go : (b : Bool) → suc j < length (if b then (e.0, e.1) ∷ ds else d ∷ put_pair ds e.0 e.1) → (j < length (put_pair ds e.0 e.1) → (get_or (put_pair ds e.0 e.1) j (0, 0) ≡ e) ⊎ ((k : ℕ) × (k < length ds) × (get_or (put_pair ds e.0 e.1) j (0, 0) ≡ get_or ds k (0, 0))))
        → (get_or (if b then (e.0, e.1) ∷ ds else d ∷ put_pair ds e.0 e.1) (suc j) (0, 0) ≡ e) ⊎ ((k : ℕ) × (k < length (d ∷ ds)) × (get_or (if b then (e.0, e.1) ∷ ds else d ∷ put_pair ds e.0 e.1) (suc j) (0, 0) ≡ get_or (d ∷ ds) k (0, 0)))
    go true m f = inr (suc j, omega arith, refl)
    go false m f = pick (f (omega arith))
      where
        pick : (get_or (put_pair ds e.0 e.1) j (0, 0) ≡ e) ⊎ ((k : ℕ) × (k < length ds) × (get_or (put_pair ds e.0 e.1) j (0, 0) ≡ get_or ds k (0, 0))) → (get_or (put_pair ds e.0 e.1) j (0, 0) ≡ e) ⊎ ((k : ℕ) × (k < length (d ∷ ds)) × (get_or (put_pair ds e.0 e.1) j (0, 0) ≡ get_or (d ∷ ds) k (0, 0)))
        pick (inl q) = inl q
        pick (inr q) = inr (suc q.0, omega (arith, q.1), q.2)

names_later : (d : ℕ × ℕ) (es : List (ℕ × ℕ)) (a v : ℕ) → LogsCell es a v → LogsCell (d ∷ es) a v
names_later d es a v n = record { place = suc n.place; among = omega (arith, n.among); names = n.names }

put_names : (ds : List (ℕ × ℕ)) (e : ℕ × ℕ) → LogsCell (put_pair ds e.0 e.1) e.0 e.1
put_names [] e = record { place = 0; among = omega arith; names = refl }
put_names (d ∷ ds) e = go (d.0 == e.0) (put_names ds e)
  where
    go : (b : Bool) → LogsCell (put_pair ds e.0 e.1) e.0 e.1 → LogsCell (if b then (e.0, e.1) ∷ ds else d ∷ put_pair ds e.0 e.1) e.0 e.1
    go true r = record { place = 0; among = omega arith; names = refl }
    go false r = names_later d (put_pair ds e.0 e.1) e.0 e.1 r

names_put : (ds : List (ℕ × ℕ)) (e : ℕ × ℕ) (a v : ℕ) → (e.0 ≡ a → ⊥) → LogsCell ds a v → LogsCell (put_pair ds e.0 e.1) a v
names_put [] e a v away n = absurd (omega (arith, n.among))
names_put (d ∷ ds) e a v away n = go (d.0 == e.0) refl n.place n.among n.names (λ n. names_put ds e a v away n)
  where
    go : (b : Bool) → (d.0 == e.0) ≡ b → (k : ℕ) → k < length (d ∷ ds) → get_or (d ∷ ds) k (0, 0) ≡ (a, v) → (LogsCell ds a v → LogsCell (put_pair ds e.0 e.1) a v) → LogsCell (if b then (e.0, e.1) ∷ ds else d ∷ put_pair ds e.0 e.1) a v
    go true q zero l r f = absurd (away (sym (same_num d.0 e.0 q) ∙ ap (λ (x : ℕ × ℕ). x.0) r))
    go true q (suc k) l r f = record { place = suc k; among = omega arith; names = r }
    go false q zero l r f = record { place = 0; among = omega arith; names = r }
    go false q (suc k) l r f = names_later d (put_pair ds e.0 e.1) a v (f (record { place = k; among = omega arith; names = r }))

put_all_from : (ds es : List (ℕ × ℕ)) (j : ℕ) → j < length (put_all ds es) → FromPut ds es (get_or (put_all ds es) j (0, 0))
put_all_from ds [] j l = inr (j, l, refl)
put_all_from ds (e ∷ es) j l = go (put_all_from (put_pair ds e.0 e.1) es j l)
  where
    x : ℕ × ℕ
    x = get_or (put_all (put_pair ds e.0 e.1) es) j (0, 0)

    go : FromPut (put_pair ds e.0 e.1) es (get_or (put_all (put_pair ds e.0 e.1) es) j (0, 0)) → FromPut ds (e ∷ es) (get_or (put_all (put_pair ds e.0 e.1) es) j (0, 0))
    go (inl f) = inl (suc f.0, omega (arith, f.1), f.2)
    go (inr f) = pick (put_from ds e f.0 f.1)
      where
        pick : (get_or (put_pair ds e.0 e.1) f.0 (0, 0) ≡ e) ⊎ ((k : ℕ) × (k < length ds) × (get_or (put_pair ds e.0 e.1) f.0 (0, 0) ≡ get_or ds k (0, 0))) → FromPut ds (e ∷ es) (get_or (put_all (put_pair ds e.0 e.1) es) j (0, 0))
        pick (inl q) = inl (0, omega arith, f.2 ∙ q)
        pick (inr q) = inr (q.0, q.1, f.2 ∙ q.2)

names_put_all : (ds es : List (ℕ × ℕ)) (a v : ℕ) → ((j : ℕ) → j < length es → (get_or es j (0, 0)).0 ≡ a → ⊥) → LogsCell ds a v → LogsCell (put_all ds es) a v
names_put_all ds [] a v away n = n
names_put_all ds (e ∷ es) a v away n = names_put_all (put_pair ds e.0 e.1) es a v (λ j l q. away (suc j) (omega arith) q) (names_put ds e a v (λ q. away 0 (omega arith) q) n)

put_all_names : (ds es : List (ℕ × ℕ)) (k : ℕ) → HasDistinctCells es → k < length es → LogsCell (put_all ds es) (get_or es k (0, 0)).0 (get_or es k (0, 0)).1
put_all_names ds [] k o l = absurd (omega arith)
put_all_names ds (e ∷ es) zero o l = names_put_all (put_pair ds e.0 e.1) es e.0 e.1 (apart_head e es o) (put_names ds e)
put_all_names ds (e ∷ es) (suc k) o l = put_all_names (put_pair ds e.0 e.1) es k (once_tail e es o) (omega arith)

-- what is known, under what was written, agrees with the list that was written on
agrees_set : (known : List (Option ℕ)) (xs : List ℕ) (a v : ℕ) → a < length xs → Agrees known xs → Agrees (set known a (Some v)) (set xs a v)
agrees_set known xs a v l h y u q = go (cases_eq y a) (cases_lt a (length known))
  where
    go : (y ≡ a) ⊎ (y ≡ a → ⊥) → (a < length known) ⊎ (length known ≤ a) → get_or (set xs a v) y 0 ≡ u
    go (inl e) (inl k) =
        let s : get_or (set known a (Some v)) a None ≡ Some v = get_or-set_same known a (Some v) None k in
        let t : Some u ≡ Some v = sym (rw e at q) ∙ s in
        let w : u ≡ v = cc in
        rw e (get_or-set_same xs a v 0 l ∙ sym w)
    go (inl e) (inr k) =
        let s : get_or (set known a (Some v)) a None ≡ None = get_or_past (set known a (Some v)) a None (rw length-set k) in
        let t : None ≡ Some u = sym s ∙ (rw e at q) in
        cc
    go (inr e) k = get_or-set_other xs a y v 0 e ∙ h y u (sym (get_or-set_other known a y (Some v) None e) ∙ q)

pub over_agrees : (known : List (Option ℕ)) (xs : List ℕ) (ds : List (ℕ × ℕ)) → HasDistinctCells ds → All (λ (e : ℕ × ℕ). e.0 < length xs) ds → Agrees known xs → Agrees (overlaid known ds) (with_writes_in xs ds)
over_agrees known xs [] o i h = h
over_agrees known xs (e ∷ es) o i h =
    subst (Agrees (set (overlaid known es) e.0 (Some e.1))) (sym (written_set xs es e.0 e.1 (apart_head e es o)))
    (agrees_set (overlaid known es) (with_writes_in xs es) e.0 e.1 (rw written_length (i 0 (0, 0) (omega arith))) (over_agrees known xs es (once_tail e es o) (λ k d l. i (suc k) d (omega arith)) h))

pub over_unknown : (known : List (Option ℕ)) (ds : List (ℕ × ℕ)) (a : ℕ) → get_or (overlaid known ds) a None ≡ None → get_or known a None ≡ None
over_unknown known [] a h = h
over_unknown known (e ∷ es) a h = over_unknown known es a (go (cases_eq a e.0) (cases_lt e.0 (length (overlaid known es))) h)
  where
    go : (a ≡ e.0) ⊎ (a ≡ e.0 → ⊥) → (e.0 < length (overlaid known es)) ⊎ (length (overlaid known es) ≤ e.0) → get_or (set (overlaid known es) e.0 (Some e.1)) a None ≡ None → get_or (overlaid known es) a None ≡ None
    go (inl q) (inl l) r =
        let s : get_or (set (overlaid known es) e.0 (Some e.1)) e.0 None ≡ Some e.1 = get_or-set_same (overlaid known es) e.0 (Some e.1) None l in
        let t : None ≡ Some e.1 = sym (rw q at r) ∙ s in
        cc
    go (inl q) (inr l) r = rw q (get_or_past (overlaid known es) e.0 None l)
    go (inr q) l r = sym (get_or-set_other (overlaid known es) e.0 a (Some e.1) None q) ∙ r

names_right : (es ds : List (ℕ × ℕ)) (a v : ℕ) → LogsCell ds a v → LogsCell (es ++ ds) a v
names_right es ds a v n = record {
  place = length es + n.place;
  among = rw length-append (omega (arith, n.among));
  names = get_or-append_right es ds (length es) (length es + n.place) (0, 0) refl (omega arith) ∙ ap (λ (k : ℕ). get_or ds k (0, 0)) (omega arith) ∙ n.names;
}

names_left : (es ds : List (ℕ × ℕ)) (a v : ℕ) → LogsCell es a v → LogsCell (es ++ ds) a v
names_left es ds a v n = record { place = n.place; among = rw length-append (omega (arith, n.among)); names = get_or_append_left es ds (0, 0) n.place n.among ∙ n.names }

put_names_all : (ds es : List (ℕ × ℕ)) (a v : ℕ) → HasDistinctCells es → LogsCell es a v → LogsCell (put_all ds es) a v
put_names_all ds es a v o n = subst (λ (x : ℕ × ℕ). LogsCell (put_all ds es) x.0 x.1) n.names (put_all_names ds es n.place o n.among)

-- a call's own cells, by name
own_names : (S : Setup) (i t : ℕ) (op : List ℕ) (r : RawReply) → S.instrs ≤ MOST_INSTRS → ((j : ℕ) → j < MOST_INSTRS → is_marked r.shape j ≡ true → (r.shape < LEAST_ABORT) × (j < length op) × (j < length r.values))
    → ((j : ℕ) → j < MOST_INSTRS → is_marked r.shape j ≡ false → get_or r.values j 0 ≡ 0)
    → LogsOwnCells S (own_cells (ticket_cell S i) t (length op) r) (record { caller = i; ticket = t; op = op; raw = r })
own_names S i t op r narrow marks rest = record {
  ticket = names_right (replies (nat_lt r.shape LEAST_ABORT)) two (ticket_cell S i) t (record { place = 1; among = omega arith; names = refl });
  shape = names_right (replies (nat_lt r.shape LEAST_ABORT)) two (shape_cell S i) r.shape (record { place = 0; among = omega arith; names = refl });
  replies = λ y l m. names_left (replies (nat_lt r.shape LEAST_ABORT)) two (reply_cell S i y) (get_or r.values y 0) (reply (nat_lt r.shape LEAST_ABORT) refl y (marks y (omega arith) m));
  rest = λ y l. rest y (omega arith);
}
  where
    replies : Bool → List (ℕ × ℕ)
    replies b = if b then cells_from (i * (S.instrs + 2) + 2) (take (length op) r.values) else []

    two : List (ℕ × ℕ)
    two = (i * (S.instrs + 2) + 1, r.shape) ∷ (i * (S.instrs + 2), t) ∷ []

    reply : (b : Bool) → nat_lt r.shape LEAST_ABORT ≡ b → (y : ℕ) → (r.shape < LEAST_ABORT) × (y < length op) × (y < length r.values) → LogsCell (replies b) (reply_cell S i y) (get_or r.values y 0)
    reply false e y q = let z : LEAST_ABORT ≤ r.shape = grind (arith, nat_tests) in absurd (omega (arith, q.0))
    reply true e y q =
        let l : y < length (take (length op) r.values) = rw length-take (omega (arith, q.1, q.2)) in record {
          place = y;
          among = rw length-listed l;
          names = listed_at (i * (S.instrs + 2) + 2) (take (length op) r.values) y (0, 0) l ∙ ap (λ (v : ℕ). (i * (S.instrs + 2) + 2 + y, v)) (get_or-take (length op) r.values y 0 q.1);
        }

pub after_push : (W : Meaning) (xs : List ℕ) (cs : List Call) (c : Call) → numbers_after_calls W xs (cs ++ c ∷ []) ≡ W.cells (numbers_after_calls W xs cs) c.op
after_push W xs [] c = refl
after_push W xs (d ∷ cs) c = after_push W (W.cells xs d.op) cs c

replies_push : (W : Meaning) (xs : List ℕ) (cs : List Call) (c : Call) → CallsHaveReplies W xs cs → W.reply (numbers_after_calls W xs cs) c.op ≡ c.raw → CallsHaveReplies W xs (cs ++ c ∷ [])
replies_push W xs [] c h r = (r, tt)
replies_push W xs (d ∷ cs) c h r = (h.0, replies_push W (W.cells xs d.op) cs c h.1 r)

module _ (S : Setup) (Lawful : List ℕ → Type 0) (sound : IsSoundMeaning S.meaning Lawful (first_operation_cell S) S.cells) where
  pub calls_length : (xs : List ℕ) (cs : List Call) → length xs ≡ S.cells → length (numbers_after_calls S.meaning xs cs) ≡ S.cells
  calls_length xs [] h = h
  calls_length xs (c ∷ cs) h = calls_length (S.meaning.cells xs c.op) cs (sound.keeps_length xs c.op h)

  pub calls_lawful : (xs : List ℕ) (cs : List Call) → length xs ≡ S.cells → Lawful xs → Lawful (numbers_after_calls S.meaning xs cs)
  calls_lawful xs [] h l = l
  calls_lawful xs (c ∷ cs) h l = calls_lawful (S.meaning.cells xs c.op) cs (sound.keeps_length xs c.op h) (sound.leads xs c.op h l)

  module _ (xs : List ℕ) (cs : List Call) (ds : List (ℕ × ℕ)) (size : length xs ≡ S.cells) (lawful : Lawful xs) (o : IsOverlayOf S xs cs ds) where
    -- the list that the log leaves
    pub left_length : length (with_writes_in xs ds) ≡ S.cells
    left_length = written_length xs ds ∙ size

    pub left_lawful : Lawful (with_writes_in xs ds)
    left_lawful = sound.lawful_from (numbers_after_calls S.meaning xs cs) (with_writes_in xs ds) (calls_length xs cs size) left_length (sym o.effect) (calls_lawful xs cs size lawful)

    pub left_agrees : (known : List (Option ℕ)) → Agrees known xs → Agrees (overlaid known ds) (with_writes_in xs ds)
    left_agrees known h = over_agrees known xs ds o.is_log.once (λ k d l. omega (arith, (o.is_log.entries k d l).0, size)) h

    pub walk_fits : (known : List (Option ℕ)) (op : List ℕ) → Agrees known xs → WalkFits S.meaning (first_operation_cell S) S.cells (overlaid known ds) (with_writes_in xs ds) op (S.meaning.walk (overlaid known ds) op)
    walk_fits known op h = sound.walks (overlaid known ds) (with_writes_in xs ds) op left_length left_lawful (left_agrees known h)

    -- one call more stays within the shares of the callers up to it
    pub extended_short : (c t : ℕ) (op : List ℕ) (es : List (ℕ × ℕ)) (r : RawReply) → c < S.callers → t < PAYLOADS → length op ≤ S.instrs → first_operation_cell S ≤ S.cells → S.instrs ≤ MOST_INSTRS
        → All (λ (d : Call). d.caller < c) cs → (S.cells ≤ FEW_DATA_CELLS) ⊎ (length ds ≤ c * LOG_SHARE) → IsFinishedWalk S.meaning (first_operation_cell S) S.cells (with_writes_in xs ds) op es r
        → (S.cells ≤ FEW_DATA_CELLS) ⊎ (length (put_all ds (es ++ own_cells (ticket_cell S c) t (length op) r)) ≤ (c + 1) * LOG_SHARE)
    extended_short c t op es r h tl n b narrow others short f = go short f.few
      where
        own : List (ℕ × ℕ)
        own = own_cells (ticket_cell S c) t (length op) r

        i : IsOwn (c * (S.instrs + 2)) (S.instrs + 2) own
        i = own_is (c * (S.instrs + 2)) (length op) (S.instrs + 2) t r (omega arith) f.shape tl f.values (nat_lt r.shape LEAST_ABORT)

        go : (S.cells ≤ FEW_DATA_CELLS) ⊎ (length ds ≤ c * LOG_SHARE) → (S.cells ≤ FEW_DATA_CELLS) ⊎ (length es ≤ MOST_WRITES) → (S.cells ≤ FEW_DATA_CELLS) ⊎ (length (put_all ds (es ++ own)) ≤ (c + 1) * LOG_SHARE)
        go (inl k) u = inl k
        go (inr k) (inl u) = inl u
        go (inr k) (inr u) = inr (omega (arith, put_all_few ds (es ++ own), length-append es own, i.few, narrow, k, u))

    -- one call more
    pub extended : (c t : ℕ) (op : List ℕ) (es : List (ℕ × ℕ)) (r : RawReply) → c < S.callers → t < PAYLOADS → length op ≤ S.instrs → first_operation_cell S ≤ S.cells → S.instrs ≤ MOST_INSTRS
        → All (λ (d : Call). d.caller < c) cs → (S.cells ≤ FEW_DATA_CELLS) ⊎ (length ds ≤ c * LOG_SHARE) → IsFinishedWalk S.meaning (first_operation_cell S) S.cells (with_writes_in xs ds) op es r
        → IsOverlayOf S xs (cs ++ record { caller = c; ticket = t; op = op; raw = r } ∷ []) (put_all ds (es ++ own_cells (ticket_cell S c) t (length op) r))
    extended c t op es r h tl n b narrow others short f = record {
      is_log = record { entries = entries; once = once; few = once_within S new (record { entries = entries; once = once }) (elim (extended_short c t op es r h tl n b narrow others short f) [ inl k ↦ inl k | inr k ↦ inr (omega arith) ]) };
      effect = effect;
      replies = replies_push S.meaning xs cs call o.replies (sound.reply_from (numbers_after_calls S.meaning xs cs) (with_writes_in xs ds) op (calls_length xs cs size) left_length (sym o.effect) ∙ f.reply);
      own = All-push (LogsOwnCells S new) cs call (λ k d l. old_own (get_or cs k d) (others k d l) (o.own k d l)) one;
      rows = λ j l u. row j (put_all_from ds all j l) u;
    }
      where
        call : Call
        call = record { caller = c; ticket = t; op = op; raw = r }

        own : List (ℕ × ℕ)
        own = own_cells (ticket_cell S c) t (length op) r

        all : List (ℕ × ℕ)
        all = es ++ own

        new : List (ℕ × ℕ)
        new = put_all ds (es ++ own_cells (ticket_cell S c) t (length op) r)

        w : AreWrites S (es ++ own_cells (ticket_cell S c) t (length op) r)
        w = whole_log S c t (length op) (with_writes_in xs ds) op es r h n tl b f

        i : IsOwn (c * (S.instrs + 2)) (S.instrs + 2) (own_cells (ticket_cell S c) t (length op) r)
        i = own_is (c * (S.instrs + 2)) (length op) (S.instrs + 2) t r (omega arith) f.shape tl f.values (nat_lt r.shape LEAST_ABORT)

        once : HasDistinctCells new
        once = once_put_all ds all o.is_log.once

        entries : All (IsEntry S) new
        entries k d l = rw (get_or_default new k d (0, 0) l) (entry (put_all_from ds all k l))
          where
            entry : FromPut ds all (get_or new k (0, 0)) → IsEntry S (get_or new k (0, 0))
            entry (inl q) = subst (λ (x : ℕ × ℕ). IsEntry S x) (sym q.2) (w.entries q.0 (0, 0) q.1)
            entry (inr q) = subst (λ (x : ℕ × ℕ). IsEntry S x) (sym q.2) (o.is_log.entries q.0 (0, 0) q.1)

        effect : SameFrom (first_operation_cell S) (with_writes_in xs new) (numbers_after_calls S.meaning xs (cs ++ call ∷ []))
        effect =
            rw (written_put_all xs ds all o.is_log.once, written_append, ← f.cells, after_push S.meaning xs cs call)
            (drop_written (first_operation_cell S) (S.meaning.cells (with_writes_in xs ds) op) own (own_below S c t (length op) r h n tl f.shape f.values)
            ∙ sound.cells_from (with_writes_in xs ds) (numbers_after_calls S.meaning xs cs) op left_length (calls_length xs cs size) o.effect)

        -- where a written cell lies
        lies : (j : ℕ) → j < length all → (first_operation_cell S ≤ (get_or all j (0, 0)).0) ⊎ IsCellOfCaller S c (get_or all j (0, 0)).0
        lies j l = go (cases_lt j (length es))
          where
            go : (j < length es) ⊎ (length es ≤ j) → (first_operation_cell S ≤ (get_or all j (0, 0)).0) ⊎ IsCellOfCaller S c (get_or all j (0, 0)).0
            go (inl u) = inl (rw (get_or_append_left es own (0, 0) j u) (f.inside j (0, 0) u).0)
            go (inr u) =
                let z : j - length es < length own = let y : j < length es + length own = rw length-append at l in omega arith in
                inr (rw (get_or-append_right es own (length es) j (0, 0) refl u) ((i.inside (j - length es) (0, 0) z).0, (i.inside (j - length es) (0, 0) z).1))

        away : (d a : ℕ) → d < c → IsCellOfCaller S d a → (j : ℕ) → j < length all → (get_or all j (0, 0)).0 ≡ a → ⊥
        away d a less r j l q = go (lies j l)
          where
            go : (first_operation_cell S ≤ (get_or all j (0, 0)).0) ⊎ IsCellOfCaller S c (get_or all j (0, 0)).0 → ⊥
            go (inl u) = omega (arith, r, row_within d S.callers (S.instrs + 2) (omega arith))
            go (inr u) = omega (arith, r, row_within d c (S.instrs + 2) less)

        old_own : (d : Call) → d.caller < c → LogsOwnCells S ds d → LogsOwnCells S new d
        old_own d less p = record {
          ticket = names_put_all ds all (ticket_cell S d.caller) d.ticket (away d.caller (ticket_cell S d.caller) less (omega arith, omega arith)) p.ticket;
          shape = names_put_all ds all (shape_cell S d.caller) d.raw.shape (away d.caller (shape_cell S d.caller) less (omega arith, omega arith)) p.shape;
          replies = λ y u m. names_put_all ds all (reply_cell S d.caller y) (get_or d.raw.values y 0) (away d.caller (reply_cell S d.caller y) less (omega arith, omega arith)) (p.replies y u m);
          rest = p.rest;
        }

        named : LogsOwnCells S own call
        named = own_names S c t op r narrow f.marks f.rest

        one : LogsOwnCells S new call
        one = record {
          ticket = put_names_all ds all (ticket_cell S c) t w.once (names_right es own (ticket_cell S c) t named.ticket);
          shape = put_names_all ds all (shape_cell S c) r.shape w.once (names_right es own (shape_cell S c) r.shape named.shape);
          replies = λ y u m. put_names_all ds all (reply_cell S c y) (get_or r.values y 0) w.once (names_right es own (reply_cell S c y) (get_or r.values y 0) (named.replies y u m));
          rest = named.rest;
        }

        last_call : get_or (cs ++ call ∷ []) (length cs) no_call ≡ call
        last_call = get_or_push cs call no_call (length cs) refl

        row : (j : ℕ) → FromPut ds all (get_or new j (0, 0)) → (get_or new j (0, 0)).0 < first_operation_cell S → (y : ℕ) × (y < length (cs ++ call ∷ [])) × IsCellOfCaller S (get_or (cs ++ call ∷ []) y no_call).caller (get_or new j (0, 0)).0
        row j (inl q) u = go (lies q.0 q.1)
          where
            same : (get_or new j (0, 0)).0 ≡ (get_or all q.0 (0, 0)).0
            same = ap (λ (x : ℕ × ℕ). x.0) q.2

            go : (first_operation_cell S ≤ (get_or all q.0 (0, 0)).0) ⊎ IsCellOfCaller S c (get_or all q.0 (0, 0)).0 → (y : ℕ) × (y < length (cs ++ call ∷ [])) × IsCellOfCaller S (get_or (cs ++ call ∷ []) y no_call).caller (get_or new j (0, 0)).0
            go (inl v) = absurd (omega (arith, same))
            go (inr v) = (length cs, rw length-append (omega arith), subst (λ (a : ℕ). IsCellOfCaller S (get_or (cs ++ call ∷ []) (length cs) no_call).caller a) (sym same) (subst (λ (d : Call). IsCellOfCaller S d.caller (get_or all q.0 (0, 0)).0) (sym last_call) v))
        row j (inr q) u =
            let same : (get_or new j (0, 0)).0 ≡ (get_or ds q.0 (0, 0)).0 = ap (λ (x : ℕ × ℕ). x.0) q.2 in
            let v = o.rows q.0 q.1 (omega arith) in
            (v.0, rw length-append (omega (arith, v.1)), subst (λ (a : ℕ). IsCellOfCaller S (get_or (cs ++ call ∷ []) v.0 no_call).caller a) (sym same) (subst (λ (d : Call). IsCellOfCaller S d.caller (get_or ds q.0 (0, 0)).0) (sym (get_or_append_left cs (call ∷ []) no_call v.0 v.1)) v.2))
