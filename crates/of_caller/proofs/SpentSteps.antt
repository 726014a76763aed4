-- A step ends a call as spent exactly where a round at the limit looks for the call in vain.
use Rattle.std.proofs.Common.{◌≡◌, ◌≢◌, ◌↔◌, ℕ, ◌+◌, ◌*◌, ◌-◌, ◌≤◌, ◌==◌, ◌⊎◌, inl, inr, nat_lt, Bool, true, false, length, get_or, Option, Some, None, refl, sym, ◌∙◌, subst}
use Rattle.std.proofs.lemmas.Bool.{ltb-false, le-ltb, eqb-true, eq-eqb}
use Rattle.std.proofs.lemmas.Bool.Decides.{eqb_tells}
use Rattle.of_cell.specs.Words.{pack, seq_of, payload_of}
use Rattle.of_mem.specs.Meaning.{WalkEnd, Needs, Gives}
use Rattle.of_core.specs.declared.place.Place.{Place}
use Rattle.of_core.specs.declared.place.Place.TheVariants.{Idle, TryCurrent, TryRequest, TryCell, StoreScript, StoreAnnouncement, LoadCurrent, LoadRequest, CopyLog, LookAgain, LoadOwnTicket, LoadShape, LoadReply, LoadAnnouncement, LoadTicket, LoadScript, LoadCell, RaiseOld, StoreLog, RaiseLog, StoreRequest, RaiseRequest, ExchangeCurrent, RaiseCurrent, LoadTarget, ExchangeTarget, ReloadTarget, RaiseTarget, CloseRequest, RaiseClosed}
use Rattle.of_core.specs.declared.place.Outcome.{Outcome}
use Rattle.of_core.specs.declared.place.Outcome.TheVariants.{Answered, Spent, Lost}
use Rattle.of_core.specs.Table.{Setup, ticket_cell}
use Rattle.of_core.specs.Machine.{CallState, IsOpen, with_cell_known, log_words, no_cell_known}
use Rattle.of_core.specs.Steps.{take_word, take_word_at, with_step_counted, after_store_script, after_read_run, begin_reading, end_try, after_try_cell, is_request_open, after_try_request, resume, after_load_request, with_log_word_copied, after_copy_log, after_look_again, after_own_ticket_absent, after_own_ticket_found, after_own_ticket, first_marked_place, next_reply_place, with_shape, after_load_shape, with_reply, after_load_reply, next_scanned_caller, weigh, after_announcement, after_load_ticket, with_call_run, after_script_run, run_script, with_script_word, after_load_script, after_load_cell, after_raise_log, after_commit_exchange, after_raise_current, after_load_target, next_entry, after_raise_closed}
use Rattle.of_caller.specs.Vain.{MissesOwnTicketAtLimit, IsSpent}

-- the machine isn't one whose call was just spent
abbrev NotSpent : CallState → Type 0
NotSpent d = (s : ℕ) → d.place ≡ Idle → d.answer ≡ Some (Spent s) → ⊥

-- ---- the ways that steps go on, but for the look at one's own ticket

store_script : (m : CallState) (j : ℕ) (more : Bool) → NotSpent (after_store_script m j more)
store_script m j true = λ s e f. cc
store_script m j false = λ s e f. cc

read_is : (m : CallState) (walked : WalkEnd) → NotSpent (after_read_run m walked)
read_is m (Needs a) = λ s e f. cc
read_is m (Gives es r) = λ s e f. cc

over : (m : CallState) (more : Bool) → NotSpent (end_try m more)
over m true = λ s e f. cc
over m false = λ s e f. cc

tried_is : (S : Setup) (m : CallState) → NotSpent (begin_reading S m)
tried_is S m = read_is (record m { known = no_cell_known S; helps = false }) (S.meaning.walk (no_cell_known S) m.op)

try_cell : (S : Setup) (m : CallState) (a n : ℕ) (newer : Bool) → NotSpent (after_try_cell S m a n newer)
try_cell S m a n true = over m (nat_lt m.tries 4)
try_cell S m a n false = read_is (record m { known = with_cell_known S m a n }) (S.meaning.walk (with_cell_known S m a n) m.op)

try_request : (S : Setup) (m : CallState) (opened : Bool) → NotSpent (after_try_request S m opened)
try_request S m true = λ s e f. cc
try_request S m false = tried_is S m

resumed_is : (S : Setup) (m : CallState) (in_try : Bool) → NotSpent (resume S m in_try)
resumed_is S m true = tried_is S m
resumed_is S m false = λ s e f. cc

load_request : (S : Setup) (m : CallState) (opened : Bool) → NotSpent (after_load_request S m opened)
load_request S m true = λ s e f. cc
load_request S m false = λ s e f. cc

copy_log : (m : CallState) (x n : ℕ) (more : Bool) → NotSpent (after_copy_log m x n more)
copy_log m x n true = λ s e f. cc
copy_log m x n false = λ s e f. cc

look_again : (S : Setup) (m : CallState) (opened in_try : Bool) → NotSpent (after_look_again S m opened in_try)
look_again S m true in_try = λ s e f. cc
look_again S m false in_try = resumed_is S m in_try

asks : (m : CallState) (mark : Option ℕ) → NotSpent (next_reply_place m mark)
asks m None = λ s e f. cc
asks m (Some j) = λ s e f. cc

load_shape : (S : Setup) (m : CallState) (n : ℕ) (newer : Bool) → NotSpent (after_load_shape S m n newer)
load_shape S m n true = λ s e f. cc
load_shape S m n false = asks (with_shape S m n) (first_marked_place (payload_of n) 0 S.instrs)

load_reply : (S : Setup) (m : CallState) (j n : ℕ) (newer : Bool) → NotSpent (after_load_reply S m j n newer)
load_reply S m j n true = λ s e f. cc
load_reply S m j n false = asks (with_reply m j n) (first_marked_place m.raw.shape (j + 1) (S.instrs - j - 1))

next_is : (m : CallState) (more : Bool) → NotSpent (next_scanned_caller m more)
next_is m true = λ s e f. cc
next_is m false = λ s e f. cc

weighed_is : (S : Setup) (m : CallState) (new : Bool) → NotSpent (weigh S m new)
weighed_is S m true = λ s e f. cc
weighed_is S m false = next_is m (nat_lt (m.scan + 1) S.callers)

announcement : (S : Setup) (m : CallState) (n : ℕ) (ticket : Option ℕ) → NotSpent (after_announcement S m n ticket)
announcement S m n None = λ s e f. cc
announcement S m n (Some v) = weighed_is S (record m { heard = n }) (nat_lt v (seq_of n))

load_ticket : (S : Setup) (m : CallState) (n : ℕ) (newer : Bool) → NotSpent (after_load_ticket S m n newer)
load_ticket S m n true = λ s e f. cc
load_ticket S m n false = weighed_is S (record m { known = with_cell_known S m (ticket_cell S m.scan) n }) (nat_lt (payload_of n) (seq_of m.heard))

ran_is : (S : Setup) (m : CallState) (walked : WalkEnd) → NotSpent (after_script_run S m walked)
ran_is S m (Needs a) = λ s e f. cc
ran_is S m (Gives es r) = next_is (with_call_run S m es r) (nat_lt (m.scan + 1) S.callers)

runs_is : (S : Setup) (m : CallState) → NotSpent (run_script S m)
runs_is S m = ran_is S m _

load_script : (S : Setup) (m : CallState) (j n : ℕ) (more : Bool) → NotSpent (after_load_script S m j n more)
load_script S m j n true = λ s e f. cc
load_script S m j n false = runs_is S (record m { script = with_script_word m n })

load_cell : (S : Setup) (m : CallState) (a n : ℕ) (newer : Bool) → NotSpent (after_load_cell S m a n newer)
load_cell S m a n true = λ s e f. cc
load_cell S m a n false = runs_is S (record m { known = with_cell_known S m a n })

raise_log : (m : CallState) (x : ℕ) (more : Bool) → NotSpent (after_raise_log m x more)
raise_log m x true = λ s e f. cc
raise_log m x false = λ s e f. cc

exchange : (m : CallState) (won : Bool) → NotSpent (after_commit_exchange m won)
exchange m true = λ s e f. cc
exchange m false = λ s e f. cc

raise_current : (m : CallState) (some : Bool) → NotSpent (after_raise_current m some)
raise_current m true = λ s e f. cc
raise_current m false = λ s e f. cc

load_target : (m : CallState) (j n : ℕ) (older : Bool) → NotSpent (after_load_target m j n older)
load_target m j n true = λ s e f. cc
load_target m j n false = λ s e f. cc

entry_is : (m : CallState) (j : ℕ) (more : Bool) → NotSpent (next_entry m j more)
entry_is m j true = λ s e f. cc
entry_is m j false = λ s e f. cc

raise_closed : (S : Setup) (m : CallState) (helps in_try : Bool) → NotSpent (after_raise_closed S m helps in_try)
raise_closed S m true in_try = resumed_is S m in_try
raise_closed S m false in_try = λ s e f. cc

-- ---- the look at one's own ticket

own_ticket : (S : Setup) (m : CallState) (n : ℕ) (newer there at_limit : Bool) (s : ℕ) → (after_own_ticket S m n newer there at_limit).place ≡ Idle → (after_own_ticket S m n newer there at_limit).answer ≡ Some (Spent s)
    → (newer ≡ false) × (there ≡ false) × (at_limit ≡ true)
own_ticket S m n true there at_limit s e f = absurd (cc)
own_ticket S m n false true at_limit s e f = absurd (cc)
own_ticket S m n false false true s e f = (refl, refl, refl)
own_ticket S m n false false false s e f = absurd (cc)

differs : (a b : ℕ) → (a == b) ≡ false → a ≢ b
differs a b apart e = let z : true ≡ false = sym (eq-eqb a b e) ∙ apart in cc

-- ---- each place

vain_at : (S : Setup) (m : CallState) (n : ℕ) (p : Place) → m.place ≡ p → IsOpen p → (s : ℕ) → (take_word_at S m n p).place ≡ Idle → (take_word_at S m n p).answer ≡ Some (Spent s) → MissesOwnTicketAtLimit S m n
vain_at S m n Idle h o s e f = absurd (let z : true ≡ false = o in cc)
vain_at S m n TryCurrent h o s e f = absurd (cc)
vain_at S m n TryRequest h o s e f = absurd (try_request S m (is_request_open m.seq n) s e f)
vain_at S m n (TryCell a) h o s e f = absurd (try_cell S m a n (nat_lt m.seq (seq_of n)) s e f)
vain_at S m n (StoreScript j) h o s e f = absurd (store_script m j (nat_lt (j + 1) (length m.op)) s e f)
vain_at S m n StoreAnnouncement h o s e f = absurd (cc)
vain_at S m n LoadCurrent h o s e f = absurd (cc)
vain_at S m n LoadRequest h o s e f = absurd (load_request S m (is_request_open m.seq n) s e f)
vain_at S m n (CopyLog x) h o s e f = absurd (copy_log m x n (nat_lt (x + 1) (2 * get_or (with_log_word_copied m n) 0 0 + 1)) s e f)
vain_at S m n LookAgain h o s e f = absurd (look_again S m (n == pack m.seq 0) (m.rounds == 0) s e f)
vain_at S m n LoadOwnTicket h o s e f =
    let t = own_ticket S m n (nat_lt m.seq (seq_of n)) (payload_of n == m.made) (m.seq == S.limit) s e f in
    (h, eqb-true m.seq S.limit t.2, ltb-false m.seq (seq_of n) t.0, differs (payload_of n) m.made t.1)
vain_at S m n LoadShape h o s e f = absurd (load_shape S m n (nat_lt m.seq (seq_of n)) s e f)
vain_at S m n (LoadReply j) h o s e f = absurd (load_reply S m j n (nat_lt m.seq (seq_of n)) s e f)
vain_at S m n LoadAnnouncement h o s e f = absurd (announcement S m n (get_or m.known (ticket_cell S m.scan) None) s e f)
vain_at S m n LoadTicket h o s e f = absurd (load_ticket S m n (nat_lt m.seq (seq_of n)) s e f)
vain_at S m n (LoadScript j) h o s e f = absurd (load_script S m j n (nat_lt (j + 1) (payload_of m.heard)) s e f)
vain_at S m n (LoadCell a) h o s e f = absurd (load_cell S m a n (nat_lt m.seq (seq_of n)) s e f)
vain_at S m n RaiseOld h o s e f = absurd (cc)
vain_at S m n (StoreLog x) h o s e f = absurd (cc)
vain_at S m n (RaiseLog x) h o s e f = absurd (raise_log m x (nat_lt (x + 1) (length (log_words m.log))) s e f)
vain_at S m n StoreRequest h o s e f = absurd (cc)
vain_at S m n RaiseRequest h o s e f = absurd (cc)
vain_at S m n ExchangeCurrent h o s e f = absurd (exchange m (n == pack m.seq m.owner) s e f)
vain_at S m n RaiseCurrent h o s e f = absurd (raise_current m (nat_lt 0 (length m.log)) s e f)
vain_at S m n (LoadTarget j) h o s e f = absurd (load_target m j n (nat_lt (seq_of n) m.seq) s e f)
vain_at S m n (ExchangeTarget j found) h o s e f = absurd (cc)
vain_at S m n (ReloadTarget j) h o s e f = absurd (cc)
vain_at S m n (RaiseTarget j found) h o s e f = absurd (entry_is m j (nat_lt (j + 1) (length m.log)) s e f)
vain_at S m n CloseRequest h o s e f = absurd (cc)
vain_at S m n RaiseClosed h o s e f = absurd (raise_closed S m m.helps (m.rounds == 0) s e f)

-- a look in vain ends the call as spent
spent_at : (S : Setup) (m : CallState) (n : ℕ) (p : Place) → p ≡ LoadOwnTicket → m.seq ≡ S.limit → seq_of n ≤ m.seq → payload_of n ≢ m.made → (take_word_at S m n p).answer ≡ Some (Spent m.seq)
spent_at S m n p at limit old vain = subst (λ (q : Place). (take_word_at S m n q).answer ≡ Some (Spent m.seq)) (sym at)
    (subst (λ (b : Bool). (after_own_ticket S m n b (payload_of n == m.made) (m.seq == S.limit)).answer ≡ Some (Spent m.seq)) (sym (le-ltb m.seq (seq_of n) old))
    (subst (λ (b : Bool). (after_own_ticket_found S m n b (m.seq == S.limit)).answer ≡ Some (Spent m.seq)) (sym (differ (eqb_tells (payload_of n) m.made)))
    (subst (λ (b : Bool). (after_own_ticket_absent S m n b).answer ≡ Some (Spent m.seq)) (sym (eq-eqb m.seq S.limit limit)) refl)))
  where
    differ : ((payload_of n == m.made) ≡ true) × (payload_of n ≡ m.made) ⊎ ((payload_of n == m.made) ≡ false) × (payload_of n ≢ m.made) → (payload_of n == m.made) ≡ false
    differ (inl t) = absurd (vain t.1)
    differ (inr t) = t.0

-- ---- the last step of a call

-- with the step counted
abbrev behind : CallState → CallState
behind m = record m { steps = m.steps + 1 }

counted_is : (p : Place) (m : CallState) → IsOpen p → with_step_counted p m ≡ behind m
counted_is Idle m o = absurd (let z : true ≡ false = o in cc)
counted_is p m o = refl

pub spent_exactly : (S : Setup) (m : CallState) (n : ℕ) → IsOpen m.place → (take_word S m n).place ≡ Idle → (o : Outcome) → (take_word S m n).answer ≡ Some o → IsSpent o ↔ MissesOwnTicketAtLimit S m n
unfolding take_word
spent_exactly S m n opened idle o answer =
    let counted = counted_is m.place m opened in
    let ends = subst (λ (k : CallState). (take_word_at S k n m.place).place ≡ Idle) counted idle in
    let tells = subst (λ (k : CallState). (take_word_at S k n m.place).answer ≡ Some o) counted answer in
    (in_vain o ends tells, spent_by o tells)
  where
    in_vain : (o : Outcome) → (take_word_at S (behind m) n m.place).place ≡ Idle → (take_word_at S (behind m) n m.place).answer ≡ Some o → IsSpent o → MissesOwnTicketAtLimit S m n
    in_vain (Answered s announced raw steps) e a is = absurd is
    in_vain (Lost s) e a is = absurd is
    in_vain (Spent s) e a is = vain_at S (behind m) n m.place refl opened s e a

    spent_by : (o : Outcome) → (take_word_at S (behind m) n m.place).answer ≡ Some o → MissesOwnTicketAtLimit S m n → IsSpent o
    spent_by (Spent s) a vain = tt
    spent_by (Lost s) a vain = absurd (let z : Some (Lost s) ≡ Some (Spent m.seq) = sym a ∙ spent_at S (behind m) n m.place vain.0 vain.1 vain.2 vain.3 in cc)
    spent_by (Answered s announced raw steps) a vain = absurd (let z : Some (Answered s announced raw steps) ≡ Some (Spent m.seq) = sym a ∙ spent_at S (behind m) n m.place vain.0 vain.1 vain.2 vain.3 in cc)
