-- Tellers: their places, what they have made, and their logs.
use Rattle.std.proofs.Common.{◌≡◌, ℕ, suc, ◌+◌, ◌<◌, inl, inr, refl, sym, ◌∙◌, ap, subst, arith, List, [], ◌∷◌, ◌++◌, length, get_or, map, take, reverse, length-append, Global}
use Rattle.std.specs.declared.vec.Vec.{Vec}
use Rattle.std.proofs.lemmas.Bool.{cases_lt}
use Rattle.std.proofs.lemmas.List.{get_or-map, length-map, map-append, reverse-append, append_assoc, get_or_append_left, take_more}
use Rattle.std.proofs.Math.Seq.{get_or-append_seam}
use Rattle.of_core.specs.declared.place.Outcome.{Outcome}
use Rattle.of_core.specs.Machine.{Call}
use Rattle.of_row.specs.Views.{EndedCall, no_ended}
use Rattle.of_cells.specs.declared.handle.CellHandle.{CellHandle}
use Rattle.of_cells.specs.declared.memory.CellMemory.{CellMemory}
use Rattle.of_cells.specs.declared.saved.SavedCells.{SavedCells}
use Rattle.of_cells.specs.History.{ExplainsEnd}
use Rattle.of_cells.specs.Handles.{IsCellHandle, number_of_handle, made_by}
use Rattle.of_cells.specs.Memories.{IsStill, IsFrom, HasMadeOf, KnowsOthers, LeadsTo, tickets_before}
use Rattle.example_accounts.specs.declared.accounts.Accounts.{Accounts}
use Rattle.example_accounts.specs.declared.teller.Answer.{Answer}
use Rattle.example_accounts.specs.declared.teller.Teller.{Teller}
use Rattle.example_accounts.specs.declared.day.Log.{Log}
use Rattle.example_accounts.specs.declared.transfer.Transfer.{Transfer}
use Rattle.example_accounts.specs.Meaning.{accounts_meaning}
use Rattle.example_accounts.specs.Days.{ended_call, transfer_of, job_of_teller, FollowsJob, Serves, HasWorked, IsSeatedAt, AreSeated, IsLoggedAt, AreLogged, HasLog, no_answer}
use Rattle.example_accounts.specs.Accounts.{transfer_words}

-- ---- facts of each place of a list

module _ {A : Type 0} (P : ℕ → A → Type 0) where
  abbrev pub AtEach : List A → Type 0
  AtEach xs = (p : ℕ) (d : A) → p < length xs → P p (get_or xs p d)

  pub each_push : (xs ys : List A) (x : A) → ys ≡ xs ++ x ∷ [] → AtEach xs → P (length xs) x → AtEach ys
  each_push xs ys x is all one = subst AtEach (sym is) go
    where
      go : AtEach (xs ++ x ∷ [])
      go p d lt = elim (cases_lt p (length xs)) [
        | inl low ↦ subst (P p) (sym (get_or_append_left xs (x ∷ []) d p low)) (all p d low)
        | inr high ↦
            let at : p ≡ length xs = omega (arith, lt, high, length-append xs (x ∷ [])) in
            subst (λ (z : ℕ × A). P z.0 z.1) (λ i. (sym at i, sym (ap (λ (k : ℕ). get_or (xs ++ x ∷ []) k d) at ∙ get_or-append_seam xs x [] d) i)) one
      ]

  pub each_pop : (xs ys : List A) (x : A) → xs ≡ ys ++ x ∷ [] → AtEach xs → AtEach ys × P (length ys) x
  each_pop xs ys x is all =
      let there : AtEach (ys ++ x ∷ []) = subst AtEach is all in (
        (λ p d lt. subst (P p) (get_or_append_left ys (x ∷ []) d p lt) (there p d (omega (arith, lt, length-append ys (x ∷ []))))),
        subst (P (length ys)) (get_or-append_seam ys x [] x) (there (length ys) x (omega (arith, length-append ys (x ∷ [])))),
      )

-- ---- tellers at their places

-- they are of the memory still
pub seated_still : (m k : CellMemory Accounts) (count : ℕ) (ts : List Teller) → IsStill m k → AreSeated m count ts → AreSeated k count ts
seated_still m k count ts still all p d lt = let s = all p d lt in record { serves = s.serves; from = s.from ∙ sym still; number = s.number }

-- ---- what a number has made

-- one more leaves
pub logged_still : (m k : CellMemory Accounts) (n : ℕ) (ls : List Log) → length ls ≡ n → KnowsOthers n m k → AreLogged m ls → AreLogged k ls
logged_still m k n ls long others all p d lt = let l = all p d lt in record { number = l.number; made = others p (map ended_call (get_or ls p d).answers.items) (omega (arith, lt, long)) l.made; follows = l.follows }

-- ---- logs

has_log : (m : CellMemory Accounts) (d : SavedCells Accounts) (calls : List Call) (before : ℕ → ℕ) (n : ℕ) (l : Log) → LeadsTo accounts_meaning m d calls → tickets_before accounts_meaning m n ≡ before n → IsLoggedAt m n l → HasLog calls before n l
has_log m d calls before n l leads were is = record { number = is.number; follows = is.follows; each = each }
  where
    es : List EndedCall
    es = map ended_call l.answers.items

    each : (k : ℕ) → k < length l.answers.items → ExplainsEnd calls n (before n + k + 1) (transfer_words (get_or l.answers.items k no_answer).transfer) (get_or l.answers.items k no_answer).outcome
    each k lt =
        let at : get_or es k no_ended ≡ ended_call (get_or l.answers.items k no_answer) = get_or-map ended_call l.answers.items k no_answer no_ended lt in
        let ticket : tickets_before accounts_meaning m n + k + 1 ≡ before n + k + 1 = omega (arith, were) in
        subst (λ (e : ℕ × EndedCall). ExplainsEnd calls n e.0 e.1.op e.1.outcome) (λ i. (ticket i, at i))
        (leads.one.made n es is.made k (omega (arith, lt, length-map l.answers.items ended_call)))

pub have_logs : (m : CellMemory Accounts) (d : SavedCells Accounts) (calls : List Call) (before : ℕ → ℕ) (ls : List Log) → LeadsTo accounts_meaning m d calls → ((n : ℕ) → tickets_before accounts_meaning m n ≡ before n) → AreLogged m ls
    → (p : ℕ) (e : Log) → p < length ls → HasLog calls before p (get_or ls p e)
have_logs m d calls before ls leads were all p e lt = has_log m d calls before p (get_or ls p e) leads (were p) (all p e lt)

-- ---- jobs

-- one teller more in the front of those that are in order, since each list is the other way round
pub one_less : {V T : Type 0} (f : T → V) (all front before : List V) (ts us : List T) (v : V) (t : T) → all ≡ before ++ reverse (map f ts) → before ≡ front ++ v ∷ [] → us ≡ ts ++ t ∷ [] → f t ≡ v → all ≡ front ++ reverse (map f us)
one_less f all front before ts us v t is last more same =
    let turned : reverse (map f us) ≡ v ∷ reverse (map f ts) = ap (λ xs. reverse (map f xs)) more ∙ ap reverse (map-append f ts (t ∷ [])) ∙ reverse-append (map f ts) (f t ∷ []) ∙ ap (λ x. x ∷ reverse (map f ts)) same in
    is ∙ ap (λ xs. xs ++ reverse (map f ts)) last ∙ append_assoc front (v ∷ []) (reverse (map f ts)) ∙ ap (λ xs. front ++ xs) (sym turned)

pub same_jobs : (ts us : List Teller) → length us ≡ length ts → ((i : ℕ) (d : Teller) → i < length ts → (get_or us i d).job ≡ (get_or ts i d).job) → map job_of_teller us ≡ map job_of_teller ts
same_jobs [] [] e h = refl
same_jobs [] (u ∷ us) e h = absurd (omega (arith, e))
same_jobs (t ∷ ts) [] e h = absurd (omega (arith, e))
same_jobs (t ∷ ts) (u ∷ us) e h = λ i. h 0 t (omega arith) i ∷ same_jobs ts us (omega (arith, e)) (λ j d l. h (suc j) d (omega (arith, l))) i

-- ---- a teller that works

pub works_still : (t : Teller) → Serves t → HasWorked t t
works_still t s = record { serves = s; same = record { handle = record { home = refl; number = refl }; job = refl } }

pub works_on : (t u v : Teller) → HasWorked t u → HasWorked u v → HasWorked t v
works_on t u v h k = record {
  serves = k.serves;
  same = record { handle = record { home = k.same.handle.home ∙ h.same.handle.home; number = k.same.handle.number ∙ h.same.handle.number }; job = k.same.job ∙ h.same.job };
}

-- a call that has ended adds an answer, to the next transfer of the job
pub answers_more : (h k : CellHandle Accounts) (answers more : List Answer) (job : List Transfer) (t : Transfer) (op : List ℕ) (o : Outcome) → made_by h ≡ map ended_call answers → FollowsJob answers job
    → length answers < length job → t ≡ get_or job (length answers) t → op ≡ transfer_words t → made_by k ≡ made_by h ++ record { op = op; outcome = o } ∷ [] → more ≡ answers ++ record { transfer = t; outcome = o } ∷ []
    → (made_by k ≡ map ended_call more) × FollowsJob more job
answers_more h k answers more job t op o was follows left at words is pushed = (made, first)
  where
    made : made_by k ≡ map ended_call more
    made =
        is ∙ ap (λ (es : List EndedCall). es ++ record { op = op; outcome = o } ∷ []) was
        ∙ ap (λ (w : List ℕ). map ended_call answers ++ record { op = w; outcome = o } ∷ []) words
        ∙ sym (ap (map ended_call) pushed ∙ map-append ended_call answers (record { transfer = t; outcome = o } ∷ []))

    first : map transfer_of more ≡ take (length more) job
    first =
        let long : length more ≡ length answers + 1 = ap length pushed ∙ length-append answers (record { transfer = t; outcome = o } ∷ []) in
        ap (map transfer_of) pushed ∙ map-append transfer_of answers (record { transfer = t; outcome = o } ∷ [])
        ∙ ap (λ (ts : List Transfer). ts ++ t ∷ []) follows
        ∙ ap (λ (x : Transfer). take (length answers) job ++ x ∷ []) at
        ∙ sym (take_more job (length answers) t left)
        ∙ ap (λ (n : ℕ). take n job) (sym long)

-- ---- a teller that is seated

pub seat_more : (m k : CellMemory Accounts) (count : ℕ) (ts us : List Teller) (t : Teller) → IsStill m k → AreSeated m count ts → us ≡ ts ++ t ∷ [] → IsSeatedAt k count (length ts) t → AreSeated k count us
seat_more m k count ts us t still all is one = each_push (IsSeatedAt k count) ts us t is (seated_still m k count ts still all) one

pub new_teller : (k : CellMemory Accounts) (count place : ℕ) (t : Teller) → IsCellHandle accounts_meaning t.handle → IsFrom k t.handle → made_by t.handle ≡ [] → t.answers.items ≡ [] → number_of_handle t.handle + place + 1 ≡ count → IsSeatedAt k count place t
new_teller k count place t handle from made none number = record {
  serves = record {
    handle = handle;
    answers = made ∙ ap (map ended_call) (sym none);
    follows = subst (λ (xs : List Answer). FollowsJob xs t.job.items) (sym none) refl;
  };
  from = from;
  number = number;
}

-- ---- a teller that leaves

pub one_leaves : (m : CellMemory Accounts) (count : ℕ) (ts us : List Teller) (t : Teller) → ts ≡ us ++ t ∷ [] → AreSeated m count ts → AreSeated m count us × IsSeatedAt m count (length us) t
one_leaves m count ts us t is all = each_pop (IsSeatedAt m count) ts us t is all

pub log_more : (m k : CellMemory Accounts) (t : Teller) (ls ms : List Log) (l : Log) → number_of_handle t.handle ≡ length ls → Serves t → KnowsOthers (number_of_handle t.handle) m k → HasMadeOf k (number_of_handle t.handle) (made_by t.handle) → l.number ≡ number_of_handle t.handle → l.job ≡ t.job → l.answers ≡ t.answers
    → ms ≡ ls ++ l ∷ [] → AreLogged m ls → AreLogged k ms
log_more m k t ls ms l number serves others made number_is job answers is all = each_push (IsLoggedAt k) ls ms l is
    (logged_still m k (number_of_handle t.handle) ls (sym number) others all)
    (record {
      number = number_is ∙ number;
      made = subst (λ (z : ℕ × List EndedCall). HasMadeOf k z.0 z.1) (λ i. (number i, (serves.answers ∙ ap (λ (v : Vec Answer Global). map ended_call v.items) (sym answers)) i)) made;
      follows = subst (λ (z : Vec Answer Global × Vec Transfer Global). FollowsJob z.0.items z.1.items) (λ i. (sym answers i, sym job i)) serves.follows;
    })
