-- Small works for worked schedules.
use Rattle.std.specs.Prelude.{ℕ, ◌+◌, ◌*◌, ◌^◌, ◌-◌, ◌==◌, List, [], ◌∷◌, ◌++◌, length, Option, Some, None, Bool, true, false}
use Rattle.std.proofs.Common.{get_or, replicate, zero, suc}
use Rattle.of_cell.specs.Words.{pack}
use Rattle.of_mem.specs.declared.work.TheConstants.{MOST_INSTRS}
use Rattle.of_mem.specs.declared.work.RawReply.{RawReply}
use Rattle.of_mem.specs.Meaning.{Meaning, WalkEnd, Needs, Gives, with_writes_in}
use Rattle.of_core.specs.Table.{Setup, setup_of, words_before_members}
use Rattle.of_core.specs.TableMoment.{Moment, TableStart}
use Rattle.of_core.specs.declared.place.Outcome.{Outcome}
use Rattle.of_core.specs.Events.{Event, Begins, Turns, after_events, opening_moment, zero_start}
use Rattle.of_core.specs.Calls.{outcomes}

-- a reply whose numbers are these, each marked at its place
abbrev pub reply_with : List ℕ → RawReply
reply_with vs =
    record { shape = 2 ^ length vs - 1; values = vs ++ replicate (MOST_INSTRS - length vs) 0 }

-- how a walk goes on that needs the cell a: if the cell isn't known, the walk ends and says that it
-- needs a; otherwise it goes on by `next` with the cell's number
abbrev pub known_or : ℕ → (ℕ → WalkEnd) → Option ℕ → WalkEnd
known_or a next None = Needs a
known_or a next (Some v) = next v

-- how a walk ends that loads the n cells from a on: as the function `end` says for the list `vs`
-- with the numbers of these cells after it
abbrev pub loaded_more : List (Option ℕ) → (a n : ℕ) → List ℕ → (List ℕ → WalkEnd) → WalkEnd
loaded_more known a zero vs end = end vs
loaded_more known a (suc n) vs end =
    known_or a (λ v. loaded_more known (a + 1) n (vs ++ v ∷ []) end) (get_or known a None)

-- the numbers of the n cells from a on
abbrev pub numbers_from : List ℕ → (a n : ℕ) → List ℕ
numbers_from xs a zero = []
numbers_from xs a (suc n) = get_or xs a 0 ∷ numbers_from xs (a + 1) n

-- A small work with two registers, which are the cells a and a + 1. The operation v ∷ [] stores v
-- in the second register. An operation of n zeros reads the first n registers. So an operation
-- reads if its first word is 0.
abbrev pub is_read : List ℕ → Bool
is_read op = get_or op 0 0 == 0

abbrev pub register_writes : ℕ → List ℕ → (reads : Bool) → List (ℕ × ℕ)
register_writes a op true = []
register_writes a op false = (a + 1, get_or op 0 0) ∷ []

abbrev pub register_reply : ℕ → List ℕ → List ℕ → (reads : Bool) → RawReply
register_reply a xs op true = reply_with (numbers_from xs a (length op))
register_reply a xs op false = reply_with (0 ∷ [])

abbrev pub register_walk : ℕ → List (Option ℕ) → List ℕ → (reads : Bool) → WalkEnd
register_walk a known op true = loaded_more known a (length op) [] (λ vs. Gives [] (reply_with vs))
register_walk a known op false = Gives (register_writes a op false) (reply_with (0 ∷ []))

abbrev pub register_meaning : ℕ → Meaning
register_meaning a = record {
  cells = λ xs op. with_writes_in xs (register_writes a op (is_read op));
  reply = λ xs op. register_reply a xs op (is_read op);
  walk = λ known op. register_walk a known op (is_read op);
  reads_only = is_read;
}

-- an operation that loads four cells from a on, and then writes the six cells after them; a `put`
-- of the first key into an empty map does as much
abbrev pub six_writes : ℕ → ℕ → List (ℕ × ℕ)
six_writes a v = (a + 4, v) ∷ (a + 5, v) ∷ (a + 6, v) ∷ (a + 7, v) ∷ (a + 8, v) ∷ (a + 9, v) ∷ []

abbrev pub first_key_meaning : ℕ → Meaning
first_key_meaning a = record {
  cells = λ xs op. with_writes_in xs (six_writes a (get_or op 0 0));
  reply = λ xs op. reply_with (0 ∷ []);
  walk = λ known op. loaded_more known a 4 [] (λ vs.
      Gives (six_writes a (get_or op 0 0)) (reply_with (0 ∷ [])));
  reads_only = λ op. false;
}

-- a table for n callers, with ten data cells after their own
abbrev pub table_with : ℕ → (ℕ → Meaning) → Setup
table_with n meaning = setup_of n (n * (MOST_INSTRS + 2) + 10) 100 (meaning (n * (MOST_INSTRS + 2)))

-- the moment at which a table of zeros opens, before anything has happened
abbrev pub opening_of_zeros : Setup → Moment
opening_of_zeros S = opening_moment S (zero_start S) (words_before_members S)

-- the moment after this, from zeros: caller 0 has begun the operation and made this many turns
abbrev pub moment_alone : ℕ → (ℕ → Meaning) → List ℕ → (turns : ℕ) → Moment
moment_alone n meaning op k =
    after_events (table_with n meaning) (opening_of_zeros (table_with n meaning))
    (Begins 0 op ∷ replicate k (Turns 0))

-- caller 1 makes a whole call, which stores v
abbrev pub other_stores : ℕ → List Event
other_stores v = Begins 1 (v ∷ []) ∷ replicate 50 (Turns 1)

-- the moment after this: caller 0 reads two registers in its tries, and in each try caller 1 stores
-- to the second register before caller 0 loads it
abbrev pub moment_overtaken : (turns : ℕ) → Moment
moment_overtaken k =
    after_events (table_with 2 register_meaning)
    (opening_of_zeros (table_with 2 register_meaning))
    (Begins 0 (0 ∷ 0 ∷ []) ∷ replicate 3 (Turns 0) ++ other_stores 1 ++ replicate 4 (Turns 0)
    ++ other_stores 2 ++ replicate 4 (Turns 0) ++ other_stores 3 ++ replicate 4 (Turns 0)
    ++ other_stores 4 ++ replicate k (Turns 0))

-- caller 0 reads one register, and then stores to one
abbrev pub read_and_store : List Event
read_and_store =
    Begins 0 (0 ∷ []) ∷ replicate 3 (Turns 0) ++ Begins 0 (7 ∷ []) ∷ replicate 48 (Turns 0)

-- the outcomes of the two calls of `read_and_store`, from zeros
abbrev pub two_calls : List Outcome
two_calls =
    outcomes (table_with 1 register_meaning)
    (opening_of_zeros (table_with 1 register_meaning)) read_and_store 0

-- a start after one call of caller 0: the caller's ticket is 1, and the call has stored 7 in the
-- second register
abbrev pub one_done : (seq : ℕ) → TableStart
one_done s = record {
  seq = s;
  owner = 0;
  cells = pack s 1 ∷ pack s 65536 ∷ (replicate MOST_INSTRS 0 ++ (0 ∷ pack s 7 ∷ replicate 8 0));
}

-- the moment after this, from the start `one_done` and with this limit: caller 0 has begun to store
-- and made this many turns
abbrev pub behind_one : (seq limit turns : ℕ) → Moment
behind_one s l k =
    let S : Setup = setup_of 1 (MOST_INSTRS + 12) l (register_meaning (MOST_INSTRS + 2)) in
    after_events S (opening_moment S (one_done s) (words_before_members S))
    (Begins 0 (8 ∷ []) ∷ replicate k (Turns 0))
