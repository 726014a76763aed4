-- Each job that is given is counted.
use Rattle.std.proofs.Common.{◌≡◌, ◌≢◌, ℕ, zero, suc, ◌+◌, ◌-◌, ◌<◌, ◌≤◌, Bool, true, false, List, [], ◌∷◌, ◌++◌, length, set, Some, Ok, Err, if◌then◌else◌, nat_lt, refl, sym, ap, subst, ◌∙◌, arith}
use Rattle.std.specs.List.{All}
use Rattle.std.proofs.lemmas.Bool.Decides.{nat_tests}
use Rattle.std.proofs.lemmas.List.{get_or-set_same, get_or-set_other, length-set, length-append}
use Rattle.std.proofs.lemmas.List.Elements.{All-head, All-tail}
use Rattle.of_script.specs.declared.instr.Instr.{Instr}
use Rattle.of_script.specs.declared.instr.Cause.TheVariants.{Overflow, Short}
use Rattle.of_script.specs.Language.{greatest}
use Rattle.of_store.specs.Store.{Store, Reply, Answered, run, run_result, register, with_register, with_queue, pop_effect, then_outcome}
use Rattle.of_memory.specs.History.{HistoryEntry, IsSerial, store_after}
use Rattle.example_queue.specs.Jobs.{TakesJob, waiting, job_in, jobs_in, done, CountsJobs, CountsEach}
use Rattle.example_queue.proofs.Jobs.{counted, popped, front_leaves}

-- the run counts the job that it gives
abbrev Counted : Store → Store × Reply → Type 0
Counted s r = CountsJobs r.0 × (done r.0 ≡ done s + length (job_in r.1))

nothing_done : (s : Store) → CountsJobs s → CountsJobs s × (done s ≡ done s + 0)
nothing_done s c = (c, omega arith)

-- one of the first four numbers
one_of_four : (P : ℕ → Type 0) → P 0 → P 1 → P 2 → P 3 → (w : ℕ) → w < 4 → P w
one_of_four P a b c d zero lt = a
one_of_four P a b c d (suc zero) lt = b
one_of_four P a b c d (suc (suc zero)) lt = c
one_of_four P a b c d (suc (suc (suc zero))) lt = d
one_of_four P a b c d (suc (suc (suc (suc n)))) lt = absurd (omega (arith, lt))

one_counted : (f g : ℕ → ℕ) (w : ℕ) → w < 4 → f w ≡ g w + 1 → ((i : ℕ) → i ≢ w → i < 15 → f i ≡ g i) → f 0 + f 1 + f 2 + f 3 ≡ g 0 + g 1 + g 2 + g 3 + 1
one_counted f g w lt = one_of_four (λ (v : ℕ). f v ≡ g v + 1 → ((i : ℕ) → i ≢ v → i < 15 → f i ≡ g i) → f 0 + f 1 + f 2 + f 3 ≡ g 0 + g 1 + g 2 + g 3 + 1)
    (λ at other. omega (arith, at, other 1 (omega arith) (omega arith), other 2 (omega arith) (omega arith), other 3 (omega arith) (omega arith)))
    (λ at other. omega (arith, at, other 0 (omega arith) (omega arith), other 2 (omega arith) (omega arith), other 3 (omega arith) (omega arith)))
    (λ at other. omega (arith, at, other 0 (omega arith) (omega arith), other 1 (omega arith) (omega arith), other 3 (omega arith) (omega arith)))
    (λ at other. omega (arith, at, other 0 (omega arith) (omega arith), other 1 (omega arith) (omega arith), other 2 (omega arith) (omega arith)))
    w lt

module _ (s : Store) (c : CountsJobs s) (w : ℕ) (lt : w < 4) where
  abbrev left : ℕ
  left = register s 15 - 1

  abbrev t : Store
  t = with_register s 15 left

  module _ (front : ℕ) (others : List ℕ) (is : waiting s ≡ front ∷ others) where
    abbrev u : Store
    u = with_queue t 0 others

    abbrev v : Store
    v = with_register u w (register u w + 1)

    long : length (set s.registers 15 left) ≡ length s.registers
    long = length-set s.registers 15 left

    at_w : register v w ≡ register s w + 1
    at_w =
        let ne : w ≢ 15 = omega (arith, lt) in
        get_or-set_same (set s.registers 15 left) w (register u w + 1) 0 (omega (arith, lt, long, c.registers)) ∙ ap (λ (n : ℕ). n + 1) (get_or-set_other s.registers 15 w left 0 ne)

    not_w : (i : ℕ) → i ≢ w → i < 15 → register v i ≡ register s i
    not_w i ne low =
        let ne_last : i ≢ 15 = omega (arith, low) in
        get_or-set_other (set s.registers 15 left) w i (register u w + 1) 0 ne ∙ get_or-set_other s.registers 15 i left 0 ne_last

    at_last : register v 15 ≡ left
    at_last =
        let ne : 15 ≢ w = omega (arith, lt) in
        get_or-set_other (set s.registers 15 left) w 15 (register u w + 1) 0 ne ∙ get_or-set_same s.registers 15 left 0 c.registers

    job_counted : Counted s (v, Answered (Some left ∷ Some front ∷ Some (register u w + 1) ∷ []))
    job_counted = (
      record {
        registers = omega (arith, c.registers, long, length-set (set s.registers 15 left) w (register u w + 1));
        count = at_last ∙ omega (arith, c.count, ap length is, ap length (front_leaves s.queues front others is));
      },
      one_counted (register v) (register s) w lt at_w not_w,
    )

    count_step : (over : Bool) → Counted s (run_result s (counted over u w (Some left) (Some front)))
    count_step true = nothing_done s c
    count_step false = job_counted

  pop_step : (items : List ℕ) → waiting s ≡ items → 0 < length items → Counted s (run_result s (popped t w (Some left) items))
  pop_step [] is some = absurd (omega (arith, some))
  pop_step (front ∷ others) is some = count_step front others is (nat_lt greatest (register (with_queue t 0 others) w + 1))

  take_step : (short : Bool) → nat_lt (register s 15) 1 ≡ short → Counted s (run_result s (then_outcome (if short then Err Short else Ok (t, Some left)) (λ (x : Store). then_outcome (pop_effect x 0 (waiting x)) (λ (y : Store). then_outcome (if nat_lt greatest (register y w + 1) then Err Overflow else Ok (with_register y w (register y w + 1), Some (register y w + 1))) (λ (z : Store). Ok (z, []))))))
  take_step true e = nothing_done s c
  take_step false e = pop_step (waiting s) refl (let some : 1 ≤ register s 15 = grind (arith, nat_tests) in omega (arith, some, c.count))

script_counts : (s : Store) (script : List Instr) → TakesJob script → CountsJobs s → Counted s (run s script)
script_counts s script takes c = subst (λ (l : List Instr). Counted s (run s l)) (sym takes.2) (take_step s c takes.0 takes.1 (nat_lt (register s 15) 1) refl)

-- so does a serial history of such scripts
pub counts_each : (s : Store) (h : List HistoryEntry) → IsSerial s h → All (λ (e : HistoryEntry). TakesJob e.script) h → CountsEach s h
counts_each s [] serial all c = nothing_done s c
counts_each s (e ∷ h) serial all c =
    let t : Store = (run s e.script).0 in
    let one = script_counts s e.script (All-head (λ (e : HistoryEntry). TakesJob e.script) e h all) c in
    let rest = counts_each t h serial.1 (All-tail (λ (e : HistoryEntry). TakesJob e.script) e h all) one.0 in
    (rest.0, omega (arith, rest.1, one.1, ap (λ (r : Reply). length (job_in r)) serial.0, length-append (job_in e.reply) (jobs_in h)))

pub counts_join : (s : Store) (h k : List HistoryEntry) → store_after s (h ++ k) ≡ store_after (store_after s h) k → jobs_in (h ++ k) ≡ jobs_in h ++ jobs_in k → CountsEach s h → CountsEach (store_after s h) k → CountsEach s (h ++ k)
counts_join s h k ends jobs one other c =
    let first = one c in
    let second = other first.0 in
    (subst CountsJobs (sym ends) second.0, omega (arith, first.1, second.1, ap done ends, ap length jobs, length-append (jobs_in h) (jobs_in k)))
