-- Filling a log: if no cell is there twice, the puts list the entries one after the other.
use Rattle.std.proofs.Common.{◌≡◌, ℕ, zero, suc, ◌+◌, ◌-◌, ◌*◌, ◌/◌, ◌%◌, ◌^◌, ◌<◌, ◌≤◌, List, [], ◌∷◌, ◌++◌, length, get_or, take, drop, Option, None, Bool, true, false, refl, ap, ◌∙◌, sym, subst, arith, append_assoc, length-append, replicate}
use Rattle.std.proofs.lemmas.List.{get_or_append_left, get_or_push, append-nil, take_more, length-replicate, get_or-drop, get_or-take, length-take, length-drop, length-take-le, take_all, drop-append-le}
use Rattle.std.proofs.lemmas.Bool.{ne_eqb as other_test}
use Rattle.of_cell.specs.declared.word.TheConstants.{PAYLOADS}
use Rattle.of_mem.specs.CellMap.{value_for, put_pair, put_all}
use Rattle.of_mem.specs.Part.{Part, newest_at, write}
use Rattle.of_mem.specs.Meaning.{Meaning, IsSoundMeaning, Agrees, HasDistinctCells, WalkFits, WalkEnd, Needs, Gives, is_marked}
use Rattle.of_core.specs.Table.{Setup, first_operation_cell, ticket_cell}
use Rattle.of_mem.specs.declared.work.TheConstants.{MOST_INSTRS}
use Rattle.of_mem.specs.declared.work.RawReply.{RawReply}
use Rattle.of_core.specs.Machine.{flat_entries, log_words, entries_of_words, log_of, own_cells, cells_from, entries_going_round}
use Rattle.of_core.specs.Steps.{first_marked_place}
use Rattle.of_mem.proofs.Lists.{zero_at}
use Rattle.of_core.proofs.Unknown.{known_not}
use Rattle.of_core.proofs.Logs.{whole_log, once_append}

pub put_all_append : (ds es fs : List (ℕ × ℕ)) → put_all ds (es ++ fs) ≡ put_all (put_all ds es) fs
put_all_append ds [] fs = refl
put_all_append ds (e ∷ es) fs = put_all_append (put_pair ds e.0 e.1) es fs

-- an entry of a cell that isn't there comes last
put_absent : (e : ℕ × ℕ) (ds : List (ℕ × ℕ)) → ((k : ℕ) → k < length ds → (get_or ds k (0, 0)).0 ≡ e.0 → ⊥) → put_pair ds e.0 e.1 ≡ ds ++ e ∷ []
put_absent e [] n = refl
put_absent e (d ∷ ds) n = rw (other_test d.0 e.0 (n 0 (omega arith))) (ap (λ (xs : List (ℕ × ℕ)). d ∷ xs) (put_absent e ds (λ k l q. n (suc k) (omega arith) q)))

pub put_all_apart : (es ds : List (ℕ × ℕ)) → HasDistinctCells (es ++ ds) → put_all es ds ≡ es ++ ds
put_all_apart es [] o = sym (append-nil es)
put_all_apart es (d ∷ ds) o =
    rw (put_absent d es absent) (put_all_apart (es ++ d ∷ []) ds (subst HasDistinctCells (sym regroup) o) ∙ regroup)
  where
    regroup : (es ++ d ∷ []) ++ ds ≡ es ++ d ∷ ds
    regroup = append_assoc es (d ∷ []) ds

    absent : (k : ℕ) → k < length es → (get_or es k (0, 0)).0 ≡ d.0 → ⊥
    absent k l q =
        let size : length (es ++ d ∷ ds) ≡ length es + suc (length ds) = length-append es (d ∷ ds) in
        let old : get_or (es ++ d ∷ ds) k (0, 0) ≡ get_or es k (0, 0) = get_or_append_left es (d ∷ ds) (0, 0) k l in
        let new : get_or (es ++ d ∷ ds) (length es) (0, 0) ≡ d = rw (← regroup) (get_or_append_left (es ++ d ∷ []) ds (0, 0) (length es) (omega (arith, length-append es (d ∷ []))) ∙ get_or_push es d (0, 0) (length es) refl) in
        let s : k ≡ length es = o k (length es) (omega arith) (omega arith) (ap (λ (e : ℕ × ℕ). e.0) old ∙ q ∙ sym (ap (λ (e : ℕ × ℕ). e.0) new)) in
        omega arith

pub log_of_words : (es : List (ℕ × ℕ)) → log_of (log_words es) ≡ es
log_of_words es = go es
  where
    go : (es : List (ℕ × ℕ)) → entries_of_words (flat_entries es) ≡ es
    go [] = refl
    go (e ∷ es) = ap (λ (xs : List (ℕ × ℕ)). e ∷ xs) (go es)

-- a list of zeros is lawful, and agrees with nothing known
pub zeros_agree : (M : Meaning) (Lawful : List ℕ → Type 0) (b n : ℕ) → IsSoundMeaning M Lawful b n → (k : ℕ) → (xs : List ℕ) × (length xs ≡ n) × Lawful xs × Agrees (replicate k None) xs
zeros_agree M Lawful b n s k = (replicate n 0, length-replicate n 0, s.zeros (replicate n 0) (length-replicate n 0) (zero_at n), λ a v e. absurd (known_not k a v e))

-- a work's rules for the setup of its machines
pub sound_at : (S : Setup) (M : Meaning) (Lawful : List ℕ → Type 0) (many size : ℕ) → many ≡ S.callers → size ≡ S.cells → S.instrs ≡ MOST_INSTRS → IsSoundMeaning M Lawful (many * (MOST_INSTRS + 2)) size → IsSoundMeaning M Lawful (first_operation_cell S) S.cells
sound_at S M Lawful many size p q r s =
    let b : many * (MOST_INSTRS + 2) ≡ first_operation_cell S = rw (p, r) refl in
    subst (λ (n : ℕ). IsSoundMeaning M Lawful (first_operation_cell S) n) q (subst (λ (n : ℕ). IsSoundMeaning M Lawful n size) b s)

module _ (S : Setup) (Lawful : List ℕ → Type 0) (sound : IsSoundMeaning S.meaning Lawful (first_operation_cell S) S.cells) (known : List (Option ℕ)) (op xs : List ℕ) (size : length xs ≡ S.cells) (lawful : Lawful xs) (agrees : Agrees known xs) where
  walk_fits : (r : WalkEnd) → S.meaning.walk known op ≡ r → WalkFits S.meaning (first_operation_cell S) S.cells known xs op r
  walk_fits r e = subst (λ (r : WalkEnd). WalkFits S.meaning (first_operation_cell S) S.cells known xs op r) e (sound.walks known xs op size lawful agrees)

  -- a run that needs a cell
  pub needs_cell : (a : ℕ) → S.meaning.walk known op ≡ Needs a → a < S.cells
  needs_cell a e = (walk_fits (Needs a) e).1

  -- a run that is over: the own cells come behind what it wrote
  pub own_behind : (i ticket : ℕ) (es : List (ℕ × ℕ)) (r : RawReply) → i < S.callers → length op ≤ S.instrs → ticket < PAYLOADS → first_operation_cell S ≤ S.cells → S.meaning.walk known op ≡ Gives es r
      → put_all es (own_cells (ticket_cell S i) ticket (length op) r) ≡ es ++ own_cells (ticket_cell S i) ticket (length op) r
  own_behind i ticket es r h c t b e = put_all_apart es (own_cells (ticket_cell S i) ticket (length op) r) (whole_log S i ticket (length op) xs op es r h c t b (walk_fits (Gives es r) e)).once

pub mark_false : (shape j : ℕ) → (shape / 2 ^ j % 2 ≡ 1 → ⊥) → is_marked shape j ≡ false
unfolding is_marked
mark_false shape j e = other_test (shape / 2 ^ j % 2) 1 e

pub mark_later : (shape j n k : ℕ) → n ≡ k + 1 → is_marked shape j ≡ false → first_marked_place shape j n ≡ first_marked_place shape (j + 1) k
mark_later shape j zero k l e = absurd (omega arith)
mark_later shape j (suc n) k l e = let q : n ≡ k = omega arith in rw (e, q) refl

-- what a script of partial memory writes
pub wrote_script : (p : Part) (a v : ℕ) → (write p a v).script ≡ put_pair p.script a v
unfolding write
wrote_script p a v = refl

-- a cell that neither script nor batch wrote
pub newest_known : (p : Part) (a : ℕ) → p.script ≡ [] → value_for p.batch a ≡ None → newest_at p a ≡ get_or p.known a None
unfolding newest_at
newest_known p a e n = rw (e, n) refl

-- one number more of a reply
pub put_listed : (ds : List (ℕ × ℕ)) (a : ℕ) (vs : List ℕ) (j : ℕ) → j < length vs → put_all ds (cells_from a (take (j + 1) vs)) ≡ put_pair (put_all ds (cells_from a (take j vs))) (a + j) (get_or vs j 0)
put_listed ds a vs j l = ap (λ (k : ℕ). put_all ds (cells_from a (take k vs))) (let z : j + 1 ≡ suc j = omega arith in z) ∙ ap (put_all ds) (more a vs j l) ∙ put_all_append ds (cells_from a (take j vs)) ((a + j, get_or vs j 0) ∷ [])
  where
    more : (a : ℕ) (vs : List ℕ) (j : ℕ) → j < length vs → cells_from a (take (suc j) vs) ≡ cells_from a (take j vs) ++ (a + j, get_or vs j 0) ∷ []
    more a [] j l = absurd (omega arith)
    more a (v ∷ vs) zero l = let z : a ≡ a + 0 = omega arith in ap (λ (k : ℕ). (k, v) ∷ []) z
    more a (v ∷ vs) (suc j) l =
        let z : a + 1 + j ≡ a + suc j = omega arith in
        ap (λ (xs : List (ℕ × ℕ)). (a, v) ∷ xs) (more (a + 1) vs j (omega arith) ∙ ap (λ (k : ℕ). cells_from (a + 1) (take j vs) ++ (k, get_or vs j 0) ∷ []) z)

-- one entry more of a part of a log
pub put_part : (ds es : List (ℕ × ℕ)) (from j : ℕ) → from ≤ j → j < length es → put_all ds (drop from (take (j + 1) es)) ≡ put_pair (put_all ds (drop from (take j es))) (get_or es j (0, 0)).0 (get_or es j (0, 0)).1
put_part ds es from j p l =
    let size : length (take j es) ≡ j = length-take-le j es (omega arith) in
    ap (λ (xs : List (ℕ × ℕ)). put_all ds (drop from xs)) (take_more es j (0, 0) l)
    ∙ ap (put_all ds) (drop-append-le from (take j es) (get_or es j (0, 0) ∷ []) (omega arith))
    ∙ put_all_append ds (drop from (take j es)) (get_or es j (0, 0) ∷ [])

-- the parts of a log, going round
pub put_round : (ds es : List (ℕ × ℕ)) (f n : ℕ) → length es ≡ n → put_all (put_all ds (drop f (take n es))) (drop 0 (take f es)) ≡ put_all ds (entries_going_round f es)
put_round ds es f n e = ap (λ (xs : List (ℕ × ℕ)). put_all (put_all ds (drop f xs)) (take f es)) (take_all n es (omega arith)) ∙ sym (put_all_append ds (drop f es) (take f es))

-- going round names no cell twice either
pub once_turned : (es : List (ℕ × ℕ)) (f : ℕ) → HasDistinctCells es → HasDistinctCells (entries_going_round f es)
once_turned es f o = once_append (drop f es) (take f es) behind before apart
  where
    size : length (drop f es) ≡ length es - f
    size = length-drop f es

    behind : HasDistinctCells (drop f es)
    behind j k l u q =
        let z : f + j ≡ f + k = o (f + j) (f + k) (omega (arith, size)) (omega (arith, size)) (ap (λ (e : ℕ × ℕ). e.0) (sym (get_or-drop f es j (0, 0))) ∙ q ∙ ap (λ (e : ℕ × ℕ). e.0) (get_or-drop f es k (0, 0))) in
        omega (arith, size)

    before : HasDistinctCells (take f es)
    before j k l u q =
        let s = length-take f es in
        o j k (omega (arith, s)) (omega (arith, s)) (ap (λ (e : ℕ × ℕ). e.0) (sym (get_or-take f es j (0, 0) (omega (arith, s)))) ∙ q ∙ ap (λ (e : ℕ × ℕ). e.0) (get_or-take f es k (0, 0) (omega (arith, s))))

    apart : (j k : ℕ) → j < length (drop f es) → k < length (take f es) → (get_or (drop f es) j (0, 0)).0 ≡ (get_or (take f es) k (0, 0)).0 → ⊥
    apart j k l u q =
        let s = length-take f es in
        let z : f + j ≡ k = o (f + j) k (omega (arith, size)) (omega (arith, s)) (ap (λ (e : ℕ × ℕ). e.0) (sym (get_or-drop f es j (0, 0))) ∙ q ∙ ap (λ (e : ℕ × ℕ). e.0) (get_or-take f es k (0, 0) (omega (arith, s)))) in
        omega (arith, size)

-- what has no case
pub no_case : {X : Type 0} → ◌≡◌ {A = Bool} false true → X
no_case e = absurd (let z : ◌≡◌ {A = Bool} false true = e in cc)
