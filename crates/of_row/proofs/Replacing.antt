-- What a member has learnt by loads one after the other, and what they show of its caller's words.
use Rattle.std.proofs.Common.{◌≡◌, ℕ, zero, suc, ◌+◌, ◌<◌, ◌≤◌, ◌⊎◌, inl, inr, List, [], ◌∷◌, ◌++◌, length, get_or, set, refl, sym, ◌∙◌, ap, subst, arith}
use Rattle.std.specs.List.{AllByRecursion as Each}
use Rattle.std.proofs.lemmas.Bool.{cases_lt}
use Rattle.std.proofs.lemmas.List.{append-nil, ext_get_or, length-append, get_or_append_left, get_or_push, get_or-set_same, get_or-set_other}
use mathlib.Core.List.{IsPrefix}
use Rattle.of_cell.specs.Words.{seq_of}
use Rattle.of_cell.proofs.Order.{seq_mono}
use Rattle.of_mem.proofs.Lists.{prefix_trans}
use Rattle.of_core.specs.declared.remains.Remains.{Remains}
use Rattle.of_core.specs.Table.{Setup, words_before_members, current_word, committed_seq, ticket_word_at, announcement_of, script_word, script_words_of}
use Rattle.of_core.specs.Invariant.{MeetsInvariant}
use Rattle.of_core.specs.Remains.{remains_of, MayRevive, revived_machine}
use Rattle.of_core.specs.Events.{Event, Revives, turn_count}
use Rattle.of_core.specs.TableMoment.{TableStart}
use Rattle.of_row.specs.Views.{SeenBatch, KnownCaller, View, last_caller, IsSole}
use Rattle.of_row.specs.Trail.{first_of, moment, IsToldBy, IsRunBy}
use Rattle.of_row.specs.RowLaws.{RowLaws}
use Rattle.of_row.specs.Rule.{HasOwn, HasOwnOnce, IsLegalFront}
use Rattle.of_row.specs.Revivals.{HasOwnPast, after_learning, LearnsWord, known_after_revival, IsReplacedAt, TriesRevival}
use Rattle.of_row.specs.Replacing.{HasLearnt, AreRemains, WasSoBetween, MayNotRevive, IsAtLimit, GetsMachine, LearntOrRevived}
use Rattle.of_row.proofs.Members.{first_is}
use Rattle.of_row.proofs.Pasts.{prefix_self, prefix_more}
use Rattle.of_row.proofs.Revivable.{LeavesCaller, WereFound, leaves_between, found_later, found_so}

-- ---- script words

script_long : (S : Setup) (ws : List ℕ) (i n : ℕ) → length (script_words_of S ws i n) ≡ n
script_long S ws i zero = refl
script_long S ws i (suc n) = omega (arith, length-append (script_words_of S ws i n) (script_word S ws i n ∷ []), script_long S ws i n)

script_at : (S : Setup) (ws : List ℕ) (i n y : ℕ) → y < n → get_or (script_words_of S ws i n) y 0 ≡ script_word S ws i y
script_at S ws i zero y l = absurd (omega (arith, l))
script_at S ws i (suc n) y l = go (cases_lt y n) (script_at S ws i n y)
  where
    go : (y < n) ⊎ (n ≤ y) → (y < n → get_or (script_words_of S ws i n) y 0 ≡ script_word S ws i y) → get_or (script_words_of S ws i (suc n)) y 0 ≡ script_word S ws i y
    go (inl u) less = get_or_append_left (script_words_of S ws i n) (script_word S ws i n ∷ []) 0 y (omega (arith, u, script_long S ws i n)) ∙ less u
    go (inr u) less =
        let last : y ≡ n = omega (arith, l, u) in
        get_or_push (script_words_of S ws i n) (script_word S ws i n) 0 y (script_long S ws i n ∙ sym last) ∙ ap (script_word S ws i) (sym last)

-- a list with a script's words is the script
pub script_all : (S : Setup) (ws : List ℕ) (i n : ℕ) (xs : List ℕ) → length xs ≡ n → ((y : ℕ) → y < n → get_or xs y 0 ≡ script_word S ws i y) → xs ≡ script_words_of S ws i n
script_all S ws i n xs long each = ext_get_or 0 xs (script_words_of S ws i n) (long ∙ sym (script_long S ws i n)) (λ y l. let low : y < n = omega (arith, l, long) in each y low ∙ sym (script_at S ws i n y low))

-- one word more is there
pub script_more : (S : Setup) (ws vs : List ℕ) (i n v : ℕ) (xs : List ℕ) → n < length xs → ((y : ℕ) → y < n → get_or xs y 0 ≡ script_word S ws i y) → ((y : ℕ) → y < n → script_word S vs i y ≡ script_word S ws i y) → v ≡ script_word S vs i n → (y : ℕ) → y < n + 1 → get_or (set xs n v) y 0 ≡ script_word S vs i y
script_more S ws vs i n v xs long each stay is y l = go (cases_lt y n)
  where
    go : (y < n) ⊎ (n ≤ y) → get_or (set xs n v) y 0 ≡ script_word S vs i y
    go (inl u) = get_or-set_other xs n y v 0 (λ e. omega (arith, u, e)) ∙ (each y u ∙ sym (stay y u))
    go (inr u) =
        let last : y ≡ n = omega (arith, l, u) in
        ap (λ (k : ℕ). get_or (set xs n v) k 0) last ∙ (get_or-set_same xs n v 0 long ∙ (is ∙ ap (script_word S vs i) (sym last)))

module _ (S : Setup) (L : List ℕ → Type 0) (B : TableStart) where
  -- ---- loads one after the other

  -- one load
  pub learn_first : (c n : ℕ) (v w : View) → LearnsWord S L B c v n w → HasLearnt S L B v w
  learn_first c n v w l = record {
    is = l.is ∙ λ k. record v { past = w.past; looks = ap (λ (u : View). u.looks) (sym l.is) k };
    past = l.past;
    looks = omega (arith, ap (λ (u : View). u.looks) l.is);
    own = l.own;
  }

  -- none, of a view that has learnt before
  pub learn_none : (v : View) → HasOwnPast S L B v → HasLearnt S L B v v
  learn_none v own = record { is = refl; past = ([], append-nil v.past); looks = omega arith; own = own }

  -- some after others
  pub learn_more : (v w u : View) → HasLearnt S L B v w → HasLearnt S L B w u → HasLearnt S L B v u
  learn_more v w u a b = record {
    is = b.is ∙ ap (λ (z : View). record z { past = u.past; looks = u.looks }) a.is;
    past = prefix_trans v.past w.past u.past a.past b.past;
    looks = omega (arith, a.looks, b.looks);
    own = b.own;
  }

  -- what is kept stays
  pub learnt_kept : (v w : View) → HasLearnt S L B v w → w.kept ≡ v.kept
  learnt_kept v w l = ap (λ (u : View). u.kept) l.is

  -- the moment to which such a past leads meets the invariant
  pub good_at : RowLaws S L → (v : View) → HasOwnPast S L B v → MeetsInvariant S L B (moment S B v.past)
  good_at laws v own = laws.runs B (first_of S B) (laws.start B own.from (words_before_members S + 1) (omega arith)).0 v.past own.schedule

  -- of a kept caller's words, events of others alone come between two loads
  pub leaves_learnt : RowLaws S L → (v w : View) (x : KnownCaller) → x.machine.caller < S.callers → v.kept ≡ x ∷ [] → HasOwnPast S L B v → HasLearnt S L B v w → LeavesCaller S x.machine.caller (moment S B v.past).words (moment S B w.past).words
  leaves_learnt laws v w x inside one own l =
      let then : IsRunBy S B v.past x = (subst (Each (IsRunBy S B v.past)) one own.runs).0 in
      let now : IsRunBy S B w.past x = (subst (Each (IsRunBy S B w.past)) (learnt_kept v w l ∙ one) l.own.runs).0 in
      leaves_between S L laws B x.machine.caller inside own.from v.past w.past l.own.schedule l.past (sym now.told.turned ∙ then.told.turned)

  -- ---- all words from which a new machine is made, but for the ticket cell's

  module _ (laws : RowLaws S L) (x : KnownCaller) (inside : x.machine.caller < S.callers) where
    abbrev i : ℕ
    i = x.machine.caller

    abbrev ws : View → List ℕ
    ws v = (moment S B v.past).words

    abbrev Learnt : View → View → Type 0
    Learnt = HasLearnt S L B

    left : (v w : View) → v.kept ≡ x ∷ [] → HasOwnPast S L B v → Learnt v w → LeavesCaller S i (ws v) (ws w)
    left v w one own l = leaves_learnt laws v w x inside one own l

    -- they were loaded one after the other
    pub all_found : (v a s d l c w : View) → v.kept ≡ x ∷ [] → Learnt v a → Learnt a s → Learnt s d → Learnt d l → Learnt l c → Learnt c w → (r : Remains)
        → r.announcement ≡ announcement_of S (ws a) i → r.script ≡ script_words_of S (ws s) i S.instrs → WereFound S i (ws d) (ws l) (ws c) (ws w) r
        → Learnt v w × AreRemains S (ws w) i r × ((MayRevive r i → ⊥) → WasSoBetween S B v w (MayNotRevive S i))
    all_found v a s d l c w one va after sd dl lc cw r said script found = (vw, remains, λ none. (d.past, vd.past, dw.past, λ may. none (found_so S L laws B i inside (ws d) (ws l) (ws c) (ws w) left_l left_c left_w r found may)))
      where
        vd : Learnt v d
        vd = learn_more v s d (learn_more v a s va after) sd

        dw : Learnt d w
        dw = learn_more d c w (learn_more d l c dl lc) cw

        vw : Learnt v w
        vw = learn_more v d w vd dw

        kept_a : a.kept ≡ x ∷ []
        kept_a = learnt_kept v a va ∙ one

        kept_s : s.kept ≡ x ∷ []
        kept_s = learnt_kept a s after ∙ kept_a

        kept_d : d.kept ≡ x ∷ []
        kept_d = learnt_kept s d sd ∙ kept_s

        kept_l : l.kept ≡ x ∷ []
        kept_l = learnt_kept d l dl ∙ kept_d

        kept_c : c.kept ≡ x ∷ []
        kept_c = learnt_kept l c lc ∙ kept_l

        left_l : LeavesCaller S i (ws d) (ws l)
        left_l = left d l kept_d sd.own dl

        left_c : LeavesCaller S i (ws l) (ws c)
        left_c = left l c kept_l dl.own lc

        left_w : LeavesCaller S i (ws c) (ws w)
        left_w = left c w kept_c lc.own cw

        remains : AreRemains S (ws w) i r
        remains = record {
          announcement = said ∙ sym (left a w kept_a va.own (learn_more a d w (learn_more a s d after sd) dw)).own.announcement;
          script = script ∙ sym (left s w kept_s after.own (learn_more s d w sd dw)).own.script;
          may = λ may. found_later S L laws B i inside (ws d) (ws l) (ws c) (moment S B w.past) left_l left_c left_w (good_at laws w cw.own) r found may;
        }

    -- ---- a new machine, or none

    -- a new machine has no more of what was loaded than these three words
    revived_same : (made : ℕ) (r q : Remains) → r.announcement ≡ q.announcement → r.ticket ≡ q.ticket → r.script ≡ q.script → revived_machine S r i made ≡ revived_machine S q i made
    revived_same made r q a t s = λ k. revived_machine S (record q { announcement = a k; ticket = t k; script = s k }) i made

    -- what holds after all loads: v is the member's view before them, f the one after what was found, w the one after the load
    -- of the ticket cell, and u the one after the last load, of the current-transaction word
    module _ (v f w u : View) (one : v.kept ≡ x ∷ []) (vf : Learnt v f) (n now : ℕ) (t : TriesRevival S L B (ticket_word_at S i) f n w) (l : LearnsWord S L B 0 w now u) where
      abbrev y : KnownCaller
      y = known_after_revival S (moment S B t.events) x

      kept_f : f.kept ≡ x ∷ []
      kept_f = learnt_kept v f vf ∙ one

      past_f : IsPrefix v.past t.events
      past_f = prefix_trans v.past f.past t.events vf.past t.past

      wu : HasLearnt S L B w u
      wu = learn_first 0 now w u l

      seen_u : u.seen ≡ w.seen
      seen_u = ap (λ (z : View). z.seen) l.is

      -- u with what it has of v
      abbrev onto : View → View
      onto z = record z { seen = u.seen; kept = u.kept; past = u.past; looks = u.looks }

      module _ (r : IsReplacedAt S L B t.events f x w) where
        past_w : w.past ≡ t.events ++ Revives i x.machine.made ∷ []
        past_w = ap (λ (z : View). z.past) r.is

        past_u : IsPrefix t.events u.past
        past_u = prefix_trans t.events w.past u.past (Revives i x.machine.made ∷ [], sym past_w) l.past

        kept_u : u.kept ≡ y ∷ []
        kept_u = ap (λ (z : View). z.kept) l.is ∙ ap (λ (z : View). z.kept) r.is

        -- a new machine is there
        got : GetsMachine S L B v x u y
        got = record {
          is = ap onto l.is ∙ (ap onto r.is ∙ ap onto vf.is);
          kept = kept_u;
          from = (t.events, past_f, past_u, refl);
          takes_over = r.takes_over;
          seen = subst (λ (z : List SeenBatch × List SeenBatch). IsPrefix z.0 z.1) (λ k. ((ap (λ (z : View). z.seen) vf.is) k, sym seen_u k)) r.seen;
          past = prefix_trans v.past t.events u.past past_f past_u;
          legal = subst (IsLegalFront S B) (sym seen_u) r.legal;
          own = subst (λ (z : List SeenBatch). HasOwn S B z y) (sym seen_u) r.own;
          once = subst (λ (z : List SeenBatch). HasOwnOnce S B z y) (sym seen_u) r.once;
          told = subst (λ (k : ℕ). IsToldBy S B u.past k y) r.takes_over.caller (subst (Each (IsRunBy S B u.past)) kept_u l.own.runs).0.told;
          started = r.started;
          within = r.within;
        }

        -- the moment at which it was made has what was found
        made_of : (q : Remains) → AreRemains S (ws f) i q → revived_machine S (record q { ticket = n }) i x.machine.made ≡ y.machine
        made_of q found =
            let turned : turn_count i t.events ≡ turn_count i f.past = sym (subst (Each (IsRunBy S B t.events)) kept_f t.own.runs).0.told.turned ∙ (subst (Each (IsRunBy S B f.past)) kept_f vf.own.runs).0.told.turned in
            let stay : LeavesCaller S i (ws f) (moment S B t.events).words = leaves_between S L laws B i inside t.own.from f.past t.events t.own.schedule t.past turned in
            revived_same x.machine.made (record q { ticket = n }) (remains_of S (moment S B t.events).words i) (found.announcement ∙ sym stay.own.announcement) t.word (found.script ∙ sym stay.own.script)

      -- or the sequence has come to the limit, and the view has only learnt
      only_learnt : w ≡ after_learning f t.events → Learnt v u
      only_learnt is = learn_more v w u (learn_more v f w vf record {
        is = is ∙ λ k. record f { past = ap (λ (z : View). z.past) (sym is) k; looks = ap (λ (z : View). z.looks) (sym is) k };
        past = subst (IsPrefix f.past) (ap (λ (z : View). z.past) (sym is)) t.past;
        looks = omega (arith, ap (λ (z : View). z.looks) is);
        own = t.after;
      }) wu

      over : S.limit ≤ committed_seq (moment S B t.events).words → w ≡ after_learning f t.events → S.limit ≤ seq_of now
      over high is =
          let past_is : w.past ≡ t.events = ap (λ (z : View). z.past) is in
          let kept_w : w.kept ≡ x ∷ [] = ap (λ (z : View). z.kept) is ∙ kept_f in
          let stay : LeavesCaller S i (ws w) (ws u) = left w u kept_w t.after wu in
          let up = seq_mono (current_word (ws w)) (current_word (ws u)) (stay.rise 0 (omega arith)) in
          omega (arith, up, high, ap (λ (es : List Event). committed_seq (moment S B es).words) past_is, ap seq_of l.word)

      abbrev Ends : Type 0
      Ends = ((committed_seq (moment S B t.events).words < S.limit) × IsReplacedAt S L B t.events f x w) ⊎ ((S.limit ≤ committed_seq (moment S B t.events).words) × (w ≡ after_learning f t.events))

      -- which of the two it is, by the last load
      revived_below : seq_of now < S.limit → GetsMachine S L B v x u (last_caller u.kept) × ((q : Remains) → AreRemains S (ws f) i q → revived_machine S (record q { ticket = n }) i x.machine.made ≡ (last_caller u.kept).machine)
      revived_below low = go (t.result x kept_f)
        where
          go : Ends → GetsMachine S L B v x u (last_caller u.kept) × ((q : Remains) → AreRemains S (ws f) i q → revived_machine S (record q { ticket = n }) i x.machine.made ≡ (last_caller u.kept).machine)
          go (inl r) = subst (λ (z : KnownCaller). GetsMachine S L B v x u z × ((q : Remains) → AreRemains S (ws f) i q → revived_machine S (record q { ticket = n }) i x.machine.made ≡ z.machine)) (ap last_caller (sym (kept_u r.1))) (got r.1, made_of r.1)
          go (inr r) = absurd (omega (arith, low, over r.0 r.1))

      learnt_or_revived : LearntOrRevived S L B v x u (last_caller u.kept)
      learnt_or_revived = go (t.result x kept_f)
        where
          go : Ends → LearntOrRevived S L B v x u (last_caller u.kept)
          go (inl r) = inr (subst (GetsMachine S L B v x u) (ap last_caller (sym (kept_u r.1))) (got r.1))
          go (inr r) = inl (only_learnt r.1)

      at_limit : S.limit ≤ seq_of now → WasSoBetween S B v u (IsAtLimit S)
      at_limit high = (u.past, prefix_trans v.past w.past u.past to_w l.past, prefix_self u.past, omega (arith, high, ap seq_of l.word))
        where
          to_w : IsPrefix v.past w.past
          to_w = go (t.result x kept_f)
            where
              go : Ends → IsPrefix v.past w.past
              go (inl r) = subst (IsPrefix v.past) (sym (past_w r.1)) (prefix_more v.past t.events (Revives i x.machine.made ∷ []) past_f)
              go (inr r) = subst (IsPrefix v.past) (ap (λ (z : View). z.past) (sym r.1)) past_f

      -- the member keeps its number and its count
      sole_still : IsSole u.kept i x.machine.made
      sole_still = go (t.result x kept_f)
        where
          go : Ends → IsSole u.kept i x.machine.made
          go (inl r) = subst (λ (ks : List KnownCaller). IsSole ks i x.machine.made) (sym (kept_u r.1)) (refl, r.1.takes_over.caller, r.1.takes_over.made)
          go (inr r) = subst (λ (ks : List KnownCaller). IsSole ks i x.machine.made) (sym (learnt_kept v u (only_learnt r.1) ∙ one)) (refl, refl, refl)

-- what the loads of `revive` show: v is the member's view before them, and u the one after them; r is what was found, with the
-- ticket cell's word, and `now` the current-transaction word
pub record Shows (S : Setup) (L : List ℕ → Type 0) (B : TableStart) (v u : View) (number made now : ℕ) (r : Remains) : Type 0 where
  pub sole : IsSole u.kept number made
  pub either : LearntOrRevived S L B v (last_caller v.kept) u (last_caller u.kept)
  pub limited : S.limit ≤ seq_of now → WasSoBetween S B v u (IsAtLimit S)
  pub below : seq_of now < S.limit → GetsMachine S L B v (last_caller v.kept) u (last_caller u.kept) × (revived_machine S r number made ≡ (last_caller u.kept).machine)

pub shows : (S : Setup) (L : List ℕ → Type 0) (B : TableStart) → RowLaws S L → (v f w u : View) (number made : ℕ) → IsSole v.kept number made → number < S.callers → HasLearnt S L B v f → (n now : ℕ) → TriesRevival S L B (ticket_word_at S number) f n w → LearnsWord S L B 0 w now u
    → (q : Remains) → AreRemains S (moment S B f.past).words number q → Shows S L B v u number made now (record q { ticket = n })
shows S L B laws v f w u number made k inside vf n now t l q found =
    subst (λ (z : ℕ × ℕ). Shows S L B v u z.0 z.1 now (record q { ticket = n })) (λ i. (k.1 i, k.2 i)) record {
      sole = sole_still S L B laws x in_range v f w u one vf n now tries l;
      either = learnt_or_revived S L B laws x in_range v f w u one vf n now tries l;
      limited = at_limit S L B laws x in_range v f w u one vf n now tries l;
      below = λ low.
          let r = revived_below S L B laws x in_range v f w u one vf n now tries l low in
          (r.0, r.1 q (subst (λ (i : ℕ). AreRemains S (moment S B f.past).words i q) (sym k.1) found));
    }
  where
    x : KnownCaller
    x = last_caller v.kept

    one : v.kept ≡ x ∷ []
    one = first_is v.kept k.0

    in_range : x.machine.caller < S.callers
    in_range = omega (arith, k.1, inside)

    tries : TriesRevival S L B (ticket_word_at S x.machine.caller) f n w
    tries = subst (λ (i : ℕ). TriesRevival S L B (ticket_word_at S i) f n w) (sym k.1) t
