-- A push where more cells come to be known.
use Rattle.std.proofs.Common.{◌≡◌, ℕ, ◌+◌, ◌<◌, ◌≤◌, Bool, true, false, Option, Some, None, Ok, Err, refl, arith}
use Rattle.std.specs.Prelude.{Result, IfOk}
use Rattle.std.proofs.lemmas.Result.{MatchResult-weaker}
use Rattle.of_mem.specs.declared.part.Need.{Need}
use Rattle.of_mem.specs.declared.plot.Plot.{Plot}
use Rattle.of_mem.specs.Numbers.{FitsCell}
use Rattle.of_mem.specs.Plots.{base}
use Rattle.of_mem.specs.Places.{tail_at, length_at}
use Rattle.of_mem.specs.Part.{Part, newest_at, with_known, write}
use Rattle.of_mem.specs.Programs.{Done, Read, Write}
use Rattle.of_mem.specs.Stores.{first_at, link_at}
use Rattle.of_mem.specs.Calls.{HasStore, ActsOnStore}
use Rattle.of_mem.specs.OnDemand.{Running, MayRun, RunsOn, read_cell, write_cell}
use Rattle.of_mem.proofs.Runs.{two_before, four_before}
use Rattle.of_mem.proofs.OnDemand.{may_first, may_second, may_after_read, may_after_write, may_serve, read_gave, now, runs_over, runs_read, runs_write, runs_done, lacks_read}
use Rattle.of_alloc.specs.Blocks.{HasFreeList}
use Rattle.of_alloc.specs.BlockPrograms.{take}
use Rattle.of_alloc.proofs.Stored.{store_free}
use Rattle.of_queue.specs.QueuePrograms.{push, push_new, append, with_tail, last_cell, count_up}
use Rattle.of_queue.specs.Fronts.{CanAppend}
use Rattle.of_queue.specs.Means.{IsItem, has_room, after_push}
use Rattle.of_queue.proofs.Knows.{after_take, last_apart}
use Rattle.of_queue.proofs.Wholes.{push_acts}

abbrev Wrote : (Part → Type 0) → ℕ → ℕ → Part → Type 0
Wrote R a v q = (p : Part) × R p × (q ≡ write p a v)

module _ (plot : Plot) (q value b : ℕ) (c d1 d2 : Running) (h : MayRun (append plot q value b) (λ p. CanAppend plot p q b) c)
    (w1 : RunsOn (write_cell (first_at (base plot) b) value) c d1 (Ok tt)) (w2 : RunsOn (write_cell (link_at (base plot) b) 0) d1 d2 (Ok tt)) where
  abbrev o : ℕ
  o = base plot

  abbrev R1 : Part → Type 0
  R1 = Wrote (λ p. CanAppend plot p q b) (first_at o b) value

  abbrev R2 : Part → Type 0
  R2 = Wrote R1 (link_at o b) 0

  m2 : MayRun (Read (tail_at o q) (with_tail o q b)) R2 d2
  m2 = may_after_write (link_at o b) 0 (Read (tail_at o q) (with_tail o q b)) R1 d1 d2 (may_after_write (first_at o b) value (Write (link_at o b) 0 (Read (tail_at o q) (with_tail o q b))) (λ p. CanAppend plot p q b) c d1 h w1) w2

  pub tail_may_read : newest_at d2.part (tail_at o q) ≡ None → d2.lacks d2.part.known (tail_at o q)
  tail_may_read n = may_serve (tail_at o q) (with_tail o q b) R2 d2 m2 n

  behind : (e : Running) (result : Result Bool Need) → RunsOn (Read (tail_at o q) (with_tail o q b)) d2 e result → RunsOn (append plot q value b) c e result
  behind e result k = runs_write (first_at o b) value _ c d1 e result w1 (runs_write (link_at o b) 0 _ d1 d2 e result w2 k)

  pub tail_lacks : (e : Running) (need : Need) → RunsOn (read_cell (tail_at o q)) d2 e (Err need) → RunsOn (append plot q value b) c e (Err need)
  tail_lacks e need k = behind e (Err need) (lacks_read (tail_at o q) (with_tail o q b) d2 e need k)

  module _ (d3 : Running) (tail : ℕ) (r3 : RunsOn (read_cell (tail_at o q)) d2 d3 (Ok tail)) where
    m3 : MayRun (with_tail o q b tail) R2 d3
    m3 = may_after_read (tail_at o q) tail (with_tail o q b) R2 d2 d3 m2 r3

    pub tail_few : tail ≤ plot.blocks
    tail_few =
        let k2 = now R2 d3 m3.knows m3.always in
        let k1 = k2.1 in
        k1.1.tail tail (two_before k1.0 k2.0 d3.part _ _ _ _ (tail_at o q) (tail_at o q) tail k1.2 k2.2 (λ e. omega (arith, k1.1.queue)) (λ e. omega (arith, k1.1.queue)) refl (read_gave (tail_at o q) tail d2 d3 r3).1)

    module _ (d4 d5 : Running) (w4 : RunsOn (write_cell (last_cell o q tail) (b + 1)) d3 d4 (Ok tt)) (w5 : RunsOn (write_cell (tail_at o q) (b + 1)) d4 d5 (Ok tt)) where
      abbrev R4 : Part → Type 0
      R4 = Wrote R2 (last_cell o q tail) (b + 1)

      abbrev R5 : Part → Type 0
      R5 = Wrote R4 (tail_at o q) (b + 1)

      m5 : MayRun (Read (length_at o q) (count_up o q)) R5 d5
      m5 = may_after_write (tail_at o q) (b + 1) (Read (length_at o q) (count_up o q)) R4 d4 d5 (may_after_write (last_cell o q tail) (b + 1) _ R2 d3 d4 m3 w4) w5

      pub items_may_read : newest_at d5.part (length_at o q) ≡ None → d5.lacks d5.part.known (length_at o q)
      items_may_read n = may_serve (length_at o q) (count_up o q) R5 d5 m5 n

      behind5 : (e : Running) (result : Result Bool Need) → RunsOn (Read (length_at o q) (count_up o q)) d5 e result → RunsOn (append plot q value b) c e result
      behind5 e result k = behind e result (runs_read (tail_at o q) tail (with_tail o q b) d2 d3 e result r3 (runs_write (last_cell o q tail) (b + 1) _ d3 d4 e result w4 (runs_write (tail_at o q) (b + 1) _ d4 d5 e result w5 k)))

      pub items_lacks : (e : Running) (need : Need) → RunsOn (read_cell (length_at o q)) d5 e (Err need) → RunsOn (append plot q value b) c e (Err need)
      items_lacks e need k = behind5 e (Err need) (lacks_read (length_at o q) (count_up o q) d5 e need k)

      module _ (d6 : Running) (n : ℕ) (r6 : RunsOn (read_cell (length_at o q)) d5 d6 (Ok n)) where
        pub one_more : FitsCell (n + 1)
        one_more =
            let m6 = may_after_read (length_at o q) n (count_up o q) R5 d5 d6 m5 r6 in
            let k5 = now R5 d6 m6.knows m6.always in
            let k4 = k5.1 in
            let k2 = k4.1 in
            let k1 = k2.1 in
            k1.1.items n (four_before k1.0 k2.0 k4.0 k5.0 d6.part _ _ _ _ _ _ _ _ (length_at o q) (length_at o q) n k1.2 k2.2 k4.2 k5.2
            (λ e. omega (arith, k1.1.queue)) (λ e. omega (arith, k1.1.queue)) (λ e. last_apart o q tail k1.1.queue e) (λ e. omega arith) refl (read_gave (length_at o q) n d5 d6 r6).1)

        pub appended : (d7 : Running) → RunsOn (write_cell (length_at o q) (n + 1)) d6 d7 (Ok tt) → RunsOn (append plot q value b) c d7 (Ok true)
        appended d7 w7 = behind5 d7 (Ok true) (runs_read (length_at o q) n (count_up o q) d5 d6 d7 (Ok true) r6 (runs_write (length_at o q) (n + 1) (Done true) d6 d7 d7 (Ok true) w7 (runs_done d7 true w7.goes.knows)))

module _ (plot : Plot) (q v : ℕ) (c : Running) (h : MayRun (push plot q v) (HasStore plot) c) where
  pub may_take : MayRun (take plot) (HasFreeList plot) c
  may_take = may_first (take plot) (push_new (base plot) q v) (HasStore plot) (HasFreeList plot) c (λ p. store_free plot p) h

  pub may_append : q < 4 → (d : Running) (x : Option ℕ) (b : ℕ) → RunsOn (take plot) c d (Ok x) → x ≡ Some b → MayRun (append plot q v b) (λ p. CanAppend plot p q b) d
  may_append few d x b r is = may_second (take plot) (push_new (base plot) q v) (HasStore plot) (λ p. CanAppend plot p q b) c d x (Some b) (λ p n has k. after_take plot q few p n x b has k is) h r is

-- what a push that ran did
pub pushes_on : (plot : Plot) (q v : ℕ) → IsItem q v → (c d : Running) (result : Result Bool Need) → RunsOn (push plot q v) c d result → ActsOnStore plot (with_known d.part.known c.part) d.part result (has_room plot.blocks) (after_push plot.blocks q v)
pushes_on plot q v item c d result r = push_acts plot q v item (with_known d.part.known c.part) d.part result (runs_over (push plot q v) c d result r)

-- a push that found room was not full
pub only_pushed : (P : Type 0) (result : Result Bool Need) → IfOk result (λ r. r ≡ true) → IfOk result (λ r. r ≡ false → P)
only_pushed P result h = MatchResult-weaker result h (λ r is e. absurd (no is e)) (λ _ _. tt)
  where
    no : {r : Bool} → r ≡ true → r ≡ false → ⊥
    no is e = cc
