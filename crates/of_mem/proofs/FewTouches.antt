-- A work whose operations are programs that make few reads and writes touches few cells.
use Rattle.std.proofs.Common.{◌≡◌, ℕ, suc, ◌≤◌, List, [], ◌∷◌, length, refl, sym, ◌∙◌, ap, subst, arith, Option, Some, None, Bool, true, false, cond}
use Rattle.std.specs.List.{Contains}
use Rattle.of_mem.specs.declared.work.RawReply.{RawReply}
use Rattle.of_mem.specs.Meaning.{Meaning, Needs, Gives, Agrees}
use Rattle.of_mem.specs.Part.{Part, newest_at, write}
use Rattle.of_mem.specs.Programs.{Program, Done, Read, Write, RunEnd, Lacks, Ends, run_program, with_number, with_value, program_writes, IsPartOf}
use Rattle.of_mem.specs.ProgramWork.{memory_of, fresh_part, walk_of_run}
use Rattle.of_mem.specs.ProgramTouches.{HasSmallPrograms}
use Rattle.of_mem.specs.Touching.{TouchesFew, program_reads}
use Rattle.of_mem.proofs.Runs.{part_wrote, run_ended}
use Rattle.of_mem.proofs.Sounds.{part_fresh}
use Rattle.of_mem.proofs.Writes.{put_all_few}

-- a run lacks only a cell that its program reads
lacks_read : {A : Type 0} (f : Program A) (p : Part) (m : ℕ → ℕ) (a : ℕ) → IsPartOf p m → run_program f p ≡ Lacks a → Contains (program_reads f m) a
lacks_read (Done r) p m a part e = cc
lacks_read (Read b k) p m a part e = go (λ v. lacks_read (k v) p m a part) (newest_at p b) refl e
  where
    go : ((v : ℕ) → run_program (k v) p ≡ Lacks a → Contains (program_reads (k v) m) a) → (o : Option ℕ) → newest_at p b ≡ o → with_number o b (λ v. run_program (k v) p) ≡ Lacks a → Contains (b ∷ program_reads (k (m b)) m) a
    go later None q e = let z : b ≡ a = cc in (0, omega arith, z)
    go later (Some v) q e =
        let there = later v e in
        let here : Contains (program_reads (k (m b)) m) a = subst (λ (x : ℕ). Contains (program_reads (k x) m) a) (sym (part b v q)) there in
        (suc here.0, omega (arith, here.1), here.2)
lacks_read (Write b v f) p m a part e = lacks_read f (write p b v) (with_value m b v) a (part_wrote p m b v part) e

-- a work whose programs make so many reads and writes on each lawful list
pub programs_touch_few : (M : Meaning) (lawful : List ℕ → Type 0) (low size r w : ℕ) → HasSmallPrograms M lawful low size r w → TouchesFew M lawful size r w
programs_touch_few M lawful low size r w small xs op sized law short = rw small.meaning (program_reads f m, small.few_reads xs op sized law, record { needs = needs; gives = gives })
  where
    keeps : RawReply → Bool
    keeps = small.keeps

    m : ℕ → ℕ
    m = memory_of xs

    f : Program RawReply
    f = small.program op

    needs : (known : List (Option ℕ)) (a : ℕ) → Agrees known xs → walk_of_run keeps (run_program f (fresh_part known)) ≡ Needs a → Contains (program_reads f m) a
    needs known a h e = go (run_program f (fresh_part known)) refl e
      where
        go : (x : RunEnd RawReply) → run_program f (fresh_part known) ≡ x → walk_of_run keeps x ≡ Needs a → Contains (program_reads f m) a
        go (Lacks b) q e = let z : b ≡ a = cc in lacks_read f (fresh_part known) m a (part_fresh known xs h) (q ∙ ap (λ (k : ℕ). Lacks k) z)
        go (Ends x p) q e = cc

    gives : (known : List (Option ℕ)) (es : List (ℕ × ℕ)) (reply : RawReply) → Agrees known xs → walk_of_run keeps (run_program f (fresh_part known)) ≡ Gives es reply → length es ≤ w
    gives known es reply h e = go (run_program f (fresh_part known)) refl e
      where
        script_few : (x : RawReply) (p : Part) → run_program f (fresh_part known) ≡ Ends x p → length p.script ≤ w
        script_few x p q =
            let ended = run_ended low size f (fresh_part known) p m x (part_fresh known xs h) (small.inside xs op sized law) q in
            omega (arith, ap length ended.script, put_all_few [] (program_writes f m), small.few_writes xs op sized law)

        kept : (x : RawReply) (p : Part) → length p.script ≤ w → (b : Bool) → Gives (cond b p.script []) x ≡ Gives es reply → length es ≤ w
        kept x p l true e = let z : p.script ≡ es = cc in omega (arith, l, ap length z)
        kept x p l false e = let z : ◌≡◌ {A = List (ℕ × ℕ)} [] es = cc in omega (arith, ap length z)

        go : (x : RunEnd RawReply) → run_program f (fresh_part known) ≡ x → walk_of_run keeps x ≡ Gives es reply → length es ≤ w
        go (Lacks b) q e = cc
        go (Ends x p) q e = kept x p (script_few x p q) (keeps x) e
