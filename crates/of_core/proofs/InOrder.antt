-- The order that explains a schedule: the batches in order, and after each the reads of its state in
-- the order of their answers. What holds of its calls, and of each two of them, and where it leads.
use Rattle.std.proofs.Common.{◌≡◌, ℕ, zero, suc, ◌+◌, ◌-◌, ◌<◌, ◌≤◌, ◌⊎◌, ◌==◌, inl, inr, List, [], ◌∷◌, ◌++◌, length, take, get_or, refl, sym, ◌∙◌, ap, subst, arith, Bool}
use Rattle.std.specs.List.{All}
use Rattle.std.proofs.lemmas.Bool.{cases_eq, cases_lt, eq-eqb, ne_eqb}
use Rattle.std.proofs.lemmas.List.{length-append, get_or_append_left, get_or-append_right}
use Rattle.std.proofs.lemmas.List.Elements.{All-append}
use Rattle.of_mem.specs.Meaning.{Meaning}
use Rattle.of_core.specs.Machine.{Call, no_call}
use Rattle.of_core.specs.TableMoment.{Batch, Read}
use Rattle.of_core.specs.History.{no_batch, numbers_after_calls, CallsHaveReplies, numbers_after_batches, IsLegalHistory}
use Rattle.of_core.specs.Order.{no_read}
use Rattle.of_core.specs.Calls.{if_so}

-- a read as a call
abbrev pub call_of : Read → Call
call_of r = record { caller = r.caller; ticket = r.ticket; op = r.op; raw = r.raw }

-- the reads of the state s
abbrev pub reads_of : (s : ℕ) → List Read → List Call
reads_of s [] = []
reads_of s (r ∷ rs) = if_so (r.seq == s) (call_of r ∷ []) ++ reads_of s rs

-- the calls of the batches from the state s on, and the reads
abbrev pub serial_order : (s : ℕ) → List Batch → List Read → List Call
serial_order s [] rs = reads_of s rs
serial_order s (b ∷ bs) rs = reads_of s rs ++ (b.calls ++ serial_order (s + 1) bs rs)

-- a read of another state isn't there
reads_skip : (s : ℕ) (r : Read) (rs : List Read) → (s ≡ r.seq → ⊥) → reads_of s (r ∷ rs) ≡ reads_of s rs
reads_skip s r rs away = ap (λ (b : Bool). if_so b (call_of r ∷ []) ++ reads_of s rs) (ne_eqb r.seq s (λ e. away (sym e)))

reads_take : (s : ℕ) (r : Read) (rs : List Read) → s ≡ r.seq → reads_of s (r ∷ rs) ≡ call_of r ∷ reads_of s rs
reads_take s r rs e = ap (λ (b : Bool). if_so b (call_of r ∷ []) ++ reads_of s rs) (ap (λ (x : ℕ). r.seq == x) e ∙ eq-eqb r.seq r.seq refl)

-- What holds of each call.
module _ (P : Call → Type 0) where
  all_cons : (c : Call) (cs : List Call) → P c → All P cs → All P (c ∷ cs)
  all_cons c cs h t zero d l = h
  all_cons c cs h t (suc k) d l = t k d (omega arith)

  all_reads : (s : ℕ) (rs : List Read) → ((a : ℕ) → a < length rs → s ≡ (get_or rs a no_read).seq → P (call_of (get_or rs a no_read))) → All P (reads_of s rs)
  all_reads s [] h = λ k d l. absurd (omega arith)
  all_reads s (r ∷ rs) h = go (cases_eq s r.seq) (all_reads s rs (λ a l e. h (suc a) (omega arith) e))
    where
      go : (s ≡ r.seq) ⊎ (s ≡ r.seq → ⊥) → All P (reads_of s rs) → All P (reads_of s (r ∷ rs))
      go (inl e) rest = subst (All P) (sym (reads_take s r rs e)) (all_cons (call_of r) (reads_of s rs) (h 0 (omega arith) e) rest)
      go (inr n) rest = subst (All P) (sym (reads_skip s r rs n)) rest

  pub all_in_order : (bs : List Batch) (s : ℕ) (rs : List Read)
      → ((a : ℕ) → a < length rs → s ≤ (get_or rs a no_read).seq → P (call_of (get_or rs a no_read)))
      → ((d : ℕ) → d < length bs → All P (get_or bs d no_batch).calls)
      → All P (serial_order s bs rs)
  all_in_order [] s rs h t = all_reads s rs (λ a l e. h a l (omega (arith, e)))
  all_in_order (b ∷ bs) s rs h t =
      All-append P (reads_of s rs) (b.calls ++ serial_order (s + 1) bs rs) (all_reads s rs (λ a l e. h a l (omega (arith, e))))
      (All-append P b.calls (serial_order (s + 1) bs rs) (t 0 (omega arith)) (all_in_order bs (s + 1) rs (λ a l u. h a l (omega (arith, u))) (λ d l. t (suc d) (omega arith))))

-- the call stands among these
abbrev pub StandsIn : List Call → Call → Type 0
StandsIn cs c = (p : ℕ) × (p < length cs) × (get_or cs p no_call ≡ c)

in_front : (cs ds : List Call) (c : Call) → StandsIn cs c → StandsIn (cs ++ ds) c
in_front cs ds c h = (h.0, omega (arith, h.1, length-append cs ds), get_or_append_left cs ds no_call h.0 h.1 ∙ h.2)

in_back : (cs ds : List Call) (c : Call) → StandsIn ds c → StandsIn (cs ++ ds) c
in_back cs ds c h =
    let back : length cs + h.0 - length cs ≡ h.0 = omega arith in
    (length cs + h.0, omega (arith, h.1, length-append cs ds), get_or-append_right cs ds (length cs) (length cs + h.0) no_call refl (omega arith) ∙ ap (λ (k : ℕ). get_or ds k no_call) back ∙ h.2)

has_read : (s : ℕ) (rs : List Read) (a : ℕ) → a < length rs → s ≡ (get_or rs a no_read).seq → StandsIn (reads_of s rs) (call_of (get_or rs a no_read))
has_read s [] a l e = absurd (omega arith)
has_read s (r ∷ rs) zero l e = subst (λ (cs : List Call). StandsIn cs (call_of r)) (sym (reads_take s r rs e)) (0, omega arith, refl)
has_read s (r ∷ rs) (suc a) l e = go (cases_eq s r.seq) (has_read s rs a (omega arith) e)
  where
    c : Call
    c = call_of (get_or rs a no_read)

    go : (s ≡ r.seq) ⊎ (s ≡ r.seq → ⊥) → StandsIn (reads_of s rs) c → StandsIn (reads_of s (r ∷ rs)) c
    go (inl q) rest = subst (λ (cs : List Call). StandsIn cs c) (sym (reads_take s r rs q)) (suc rest.0, omega (arith, rest.1), rest.2)
    go (inr n) rest = subst (λ (cs : List Call). StandsIn cs c) (sym (reads_skip s r rs n)) rest

-- each read of a state from the first to the last stands in the order
pub order_has_read : (bs : List Batch) (s : ℕ) (rs : List Read) (a : ℕ) → a < length rs → s ≤ (get_or rs a no_read).seq → (get_or rs a no_read).seq ≤ s + length bs
    → StandsIn (serial_order s bs rs) (call_of (get_or rs a no_read))
order_has_read [] s rs a l u v = has_read s rs a l (omega arith)
order_has_read (b ∷ bs) s rs a l u v = go (cases_eq s (get_or rs a no_read).seq) (λ low. order_has_read bs (s + 1) rs a l low (omega (arith, v)))
  where
    c : Call
    c = call_of (get_or rs a no_read)

    go : (s ≡ (get_or rs a no_read).seq) ⊎ (s ≡ (get_or rs a no_read).seq → ⊥) → (s + 1 ≤ (get_or rs a no_read).seq → StandsIn (serial_order (s + 1) bs rs) c) → StandsIn (serial_order s (b ∷ bs) rs) c
    go (inl e) later = in_front (reads_of s rs) (b.calls ++ serial_order (s + 1) bs rs) c (has_read s rs a l e)
    go (inr n) later = in_back (reads_of s rs) (b.calls ++ serial_order (s + 1) bs rs) c (in_back b.calls (serial_order (s + 1) bs rs) c (later (omega arith)))

-- and so does each call of each batch
pub order_has_call : (bs : List Batch) (s : ℕ) (rs : List Read) (d y : ℕ) → d < length bs → y < length (get_or bs d no_batch).calls → StandsIn (serial_order s bs rs) (get_or (get_or bs d no_batch).calls y no_call)
order_has_call [] s rs d y l u = absurd (omega arith)
order_has_call (b ∷ bs) s rs zero y l u =
    in_back (reads_of s rs) (b.calls ++ serial_order (s + 1) bs rs) (get_or b.calls y no_call) (in_front b.calls (serial_order (s + 1) bs rs) (get_or b.calls y no_call) (y, u, refl))
order_has_call (b ∷ bs) s rs (suc d) y l u =
    let c : Call = get_or (get_or bs d no_batch).calls y no_call in
    in_back (reads_of s rs) (b.calls ++ serial_order (s + 1) bs rs) c (in_back b.calls (serial_order (s + 1) bs rs) c (order_has_call bs (s + 1) rs d y (omega arith) u))

-- What holds of each two calls, of which the first stands first.
module _ (R : Call → Call → Type 0) where
  abbrev pub Pairs : List Call → Type 0
  Pairs cs = (p q : ℕ) → p < q → q < length cs → R (get_or cs p no_call) (get_or cs q no_call)

  pub pairs_append : (cs ds : List Call) → Pairs cs → Pairs ds → All (λ (c : Call). All (R c) ds) cs → Pairs (cs ++ ds)
  pairs_append cs ds f g cross p q l u = go (cases_lt p (length cs)) (cases_lt q (length cs))
    where
      long : q < length cs + length ds
      long = omega (arith, u, length-append cs ds)

      left : (k : ℕ) → k < length cs → get_or (cs ++ ds) k no_call ≡ get_or cs k no_call
      left k a = get_or_append_left cs ds no_call k a

      right : (k : ℕ) → length cs ≤ k → get_or (cs ++ ds) k no_call ≡ get_or ds (k - length cs) no_call
      right k a = get_or-append_right cs ds (length cs) k no_call refl a

      go : (p < length cs) ⊎ (length cs ≤ p) → (q < length cs) ⊎ (length cs ≤ q) → R (get_or (cs ++ ds) p no_call) (get_or (cs ++ ds) q no_call)
      go (inl a) (inl b) = rw (left p a, left q b) (f p q l b)
      go (inl a) (inr b) = rw (left p a, right q b) (cross p no_call a (q - length cs) no_call (omega (arith, long, b)))
      go (inr a) (inl b) = absurd (omega arith)
      go (inr a) (inr b) = rw (right p a, right q b) (g (p - length cs) (q - length cs) (omega (arith, l, a, b)) (omega (arith, long, b)))

  pairs_cons : (c : Call) (cs : List Call) → All (R c) cs → Pairs cs → Pairs (c ∷ cs)
  pairs_cons c cs h t zero zero l u = absurd (omega arith)
  pairs_cons c cs h t zero (suc q) l u = h q no_call (omega arith)
  pairs_cons c cs h t (suc p) zero l u = absurd (omega arith)
  pairs_cons c cs h t (suc p) (suc q) l u = t p q (omega arith) (omega arith)

  pairs_reads : (s : ℕ) (rs : List Read)
      → ((a b : ℕ) → a < b → b < length rs → s ≡ (get_or rs a no_read).seq → s ≡ (get_or rs b no_read).seq → R (call_of (get_or rs a no_read)) (call_of (get_or rs b no_read)))
      → Pairs (reads_of s rs)
  pairs_reads s [] h = λ p q l u. absurd (omega arith)
  pairs_reads s (r ∷ rs) h = go (cases_eq s r.seq) (pairs_reads s rs (λ a b l u e f. h (suc a) (suc b) (omega arith) (omega arith) e f))
    where
      go : (s ≡ r.seq) ⊎ (s ≡ r.seq → ⊥) → Pairs (reads_of s rs) → Pairs (reads_of s (r ∷ rs))
      go (inr n) rest = subst Pairs (sym (reads_skip s r rs n)) rest
      go (inl e) rest = subst Pairs (sym (reads_take s r rs e)) (pairs_cons (call_of r) (reads_of s rs) (all_reads (R (call_of r)) s rs (λ a l f. h 0 (suc a) (omega arith) (omega arith) e f)) rest)

  -- what is to hold of calls of batches, of reads, and of one of each
  pub record Apart (s : ℕ) (bs : List Batch) (rs : List Read) : Type 0 where
    pub same : (d : ℕ) → d < length bs → Pairs (get_or bs d no_batch).calls
    pub calls : (d e : ℕ) → d < e → e < length bs → All (λ (c : Call). All (R c) (get_or bs e no_batch).calls) (get_or bs d no_batch).calls
    pub read_behind : (d a : ℕ) → d < length bs → a < length rs → s + d + 1 ≤ (get_or rs a no_read).seq → All (λ (c : Call). R c (call_of (get_or rs a no_read))) (get_or bs d no_batch).calls
    pub read_before : (a d : ℕ) → a < length rs → d < length bs → (get_or rs a no_read).seq < s + d + 1 → All (R (call_of (get_or rs a no_read))) (get_or bs d no_batch).calls
    pub reads : (a b : ℕ) → a < length rs → b < length rs → (get_or rs a no_read).seq < (get_or rs b no_read).seq → R (call_of (get_or rs a no_read)) (call_of (get_or rs b no_read))
    pub same_reads : (a b : ℕ) → a < b → b < length rs → (get_or rs a no_read).seq ≡ (get_or rs b no_read).seq → R (call_of (get_or rs a no_read)) (call_of (get_or rs b no_read))

  next : (s : ℕ) (b : Batch) (bs : List Batch) (rs : List Read) → Apart s (b ∷ bs) rs → Apart (s + 1) bs rs
  next s b bs rs h = record {
    same = λ d l. h.same (suc d) (omega arith);
    calls = λ d e l u. h.calls (suc d) (suc e) (omega arith) (omega arith);
    read_behind = λ d a l u v. h.read_behind (suc d) a (omega arith) u (omega arith);
    read_before = λ a d l u v. h.read_before a (suc d) l (omega arith) (omega arith);
    reads = h.reads;
    same_reads = h.same_reads;
  }

  pub pairs_in_order : (bs : List Batch) (s : ℕ) (rs : List Read) → Apart s bs rs → Pairs (serial_order s bs rs)
  pairs_in_order [] s rs h = pairs_reads s rs (λ a b l u e f. h.same_reads a b l u (sym e ∙ f))
  pairs_in_order (b ∷ bs) s rs h = pairs_append (reads_of s rs) rest (pairs_reads s rs (λ a c l u e f. h.same_reads a c l u (sym e ∙ f))) (pairs_rest (pairs_in_order bs (s + 1) rs (next s b bs rs h))) from_reads
    where
      later : List Call
      later = serial_order (s + 1) bs rs

      rest : List Call
      rest = b.calls ++ later

      pairs_rest : Pairs later → Pairs rest
      pairs_rest there = pairs_append b.calls later (h.same 0 (omega arith)) there (λ y d l.
          all_in_order (R (get_or b.calls y d)) bs (s + 1) rs (λ a u v. h.read_behind 0 a (omega arith) u (omega (arith, v)) y d l) (λ e u. h.calls 0 (suc e) (omega arith) (omega arith) y d l))

      from_reads : All (λ (c : Call). All (R c) rest) (reads_of s rs)
      from_reads = all_reads (λ (c : Call). All (R c) rest) s rs (λ a l e.
          All-append (R (call_of (get_or rs a no_read))) b.calls later (h.read_before a 0 l (omega arith) (omega (arith, e)))
          (all_in_order (R (call_of (get_or rs a no_read))) bs (s + 1) rs (λ c u v. h.reads a c l u (omega (arith, e, v))) (λ d u. h.read_before a (suc d) l (omega arith) (omega (arith, e)))))

-- Where the order leads.
module _ (W : Meaning) where
  pub after_append : (xs : List ℕ) (cs ds : List Call) → numbers_after_calls W xs (cs ++ ds) ≡ numbers_after_calls W (numbers_after_calls W xs cs) ds
  after_append xs [] ds = refl
  after_append xs (c ∷ cs) ds = after_append (W.cells xs c.op) cs ds

  pub replies_append : (xs : List ℕ) (cs ds : List Call) → CallsHaveReplies W xs cs → CallsHaveReplies W (numbers_after_calls W xs cs) ds → CallsHaveReplies W xs (cs ++ ds)
  replies_append xs [] ds h t = t
  replies_append xs (c ∷ cs) ds h t = (h.0, replies_append (W.cells xs c.op) cs ds h.1 t)

  -- the read meets its reply on these numbers, and leaves them
  abbrev pub Reads : List ℕ → Read → Type 0
  Reads xs r = (W.reply xs r.op ≡ r.raw) × (W.cells xs r.op ≡ xs)

  -- the calls run, and lead from these numbers to those
  abbrev Leads : List ℕ → List Call → List ℕ → Type 0
  Leads xs cs ys = CallsHaveReplies W xs cs × (numbers_after_calls W xs cs ≡ ys)

  reads_lead : (xs : List ℕ) (s : ℕ) (rs : List Read) → ((a : ℕ) → a < length rs → s ≡ (get_or rs a no_read).seq → Reads xs (get_or rs a no_read)) → Leads xs (reads_of s rs) xs
  reads_lead xs s [] h = (tt, refl)
  reads_lead xs s (r ∷ rs) h = go (cases_eq s r.seq) (reads_lead xs s rs (λ a l e. h (suc a) (omega arith) e))
    where
      go : (s ≡ r.seq) ⊎ (s ≡ r.seq → ⊥) → Leads xs (reads_of s rs) xs → Leads xs (reads_of s (r ∷ rs)) xs
      go (inr n) rest = subst (λ (cs : List Call). Leads xs cs xs) (sym (reads_skip s r rs n)) rest
      go (inl e) rest =
          let one : Reads xs r = h 0 (omega arith) e in
          let there : Leads (W.cells xs r.op) (reads_of s rs) xs = subst (λ (ys : List ℕ). Leads ys (reads_of s rs) xs) (sym one.1) rest in
          subst (λ (cs : List Call). Leads xs cs xs) (sym (reads_take s r rs e)) ((one.0, there.0), there.1)

  -- it has the replies that it meets, and leads where the batches lead
  pub order_leads : (bs : List Batch) (s : ℕ) (rs : List Read) (xs : List ℕ) → IsLegalHistory W xs bs
      → ((d a : ℕ) → d ≤ length bs → a < length rs → s + d ≡ (get_or rs a no_read).seq → Reads (numbers_after_batches W xs (take d bs)) (get_or rs a no_read))
      → Leads xs (serial_order s bs rs) (numbers_after_batches W xs bs)
  order_leads [] s rs xs l h = reads_lead xs s rs (λ a u e. h 0 a (omega arith) u (omega (arith, e)))
  order_leads (b ∷ bs) s rs xs l h = join (order_leads bs (s + 1) rs (numbers_after_calls W xs b.calls) l.1 (λ d a u v e. h (suc d) a (omega arith) v (omega (arith, e))))
    where
      later : List Call
      later = serial_order (s + 1) bs rs

      first : Leads xs (reads_of s rs) xs
      first = reads_lead xs s rs (λ a u e. h 0 a (omega arith) u (omega (arith, e)))

      join : Leads (numbers_after_calls W xs b.calls) later (numbers_after_batches W (numbers_after_calls W xs b.calls) bs) → Leads xs (serial_order s (b ∷ bs) rs) (numbers_after_batches W xs (b ∷ bs))
      join rest = (
        replies_append xs (reads_of s rs) (b.calls ++ later) first.0 (subst (λ (ys : List ℕ). CallsHaveReplies W ys (b.calls ++ later)) (sym first.1) (replies_append xs b.calls later l.0 rest.0)),
        after_append xs (reads_of s rs) (b.calls ++ later) ∙ ap (λ (ys : List ℕ). numbers_after_calls W ys (b.calls ++ later)) first.1 ∙ after_append xs b.calls later ∙ rest.1,
      )
