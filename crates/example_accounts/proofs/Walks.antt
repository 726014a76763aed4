-- The run of a program on partial memory goes as its walk on the known cells with the batch's writes over them. It is so of each work whose operations are programs.
use Rattle.std.proofs.Common.{◌≡◌, ℕ, ◌<◌, sym, ◌∙◌, ap, subst, arith, cond, Bool, None, Some, List, [], length, get_or}
use Rattle.of_mem.specs.declared.work.RawReply.{RawReply}
use Rattle.of_mem.specs.CellMap.{value_for}
use Rattle.of_mem.specs.Part.{Part, newest_at, newer_of, overlaid}
use Rattle.of_mem.specs.Meaning.{KnowsSome, Needs, Gives}
use Rattle.of_mem.specs.Programs.{Program, RunEnd, Lacks, Ends, run_program}
use Rattle.of_mem.specs.ProgramWork.{memory_of, fresh_part, walk_of_run, meaning_of, AreSound}
use Rattle.of_mem.proofs.Overlaid.{over_at, RunsAlike, run_alike}
use Rattle.of_mem.proofs.Sounds.{part_fresh}

gives : (keeps : RawReply → Bool) (x : RunEnd RawReply) (r : RawReply) (q : Part) → RunsAlike x (Ends r q) → walk_of_run keeps x ≡ Gives (cond (keeps r) q.script []) r
gives keeps (Lacks a) r q h = absurd h
gives keeps (Ends s p) r q h = λ i. Gives (cond (keeps (h.0 i)) (h.1 i) []) (h.0 i)

needs : (keeps : RawReply → Bool) (x : RunEnd RawReply) (a : ℕ) → RunsAlike x (Lacks a) → walk_of_run keeps x ≡ Needs a
needs keeps (Lacks b) a h = ap Needs h
needs keeps (Ends s p) a h = absurd h

module _ (keeps : RawReply → Bool) (reads : List ℕ → Bool) (program : List ℕ → Program RawReply) (lawful : (ℕ → ℕ) → Type 0) (low size : ℕ) (sound : AreSound keeps reads program lawful low size)
    (p : Part) (a : KnowsSome (λ xs. lawful (memory_of xs)) size (overlaid p.known p.batch)) (long : length p.known ≡ size) (empty : p.script ≡ []) where
  abbrev seen : Part
  seen = fresh_part (overlaid p.known p.batch)

  newest_over : (x : ℕ) → x < size → newest_at p x ≡ get_or (overlaid p.known p.batch) x None
  unfolding newest_at
  newest_over x l = ap (λ (es : List (ℕ × ℕ)). newer_of (value_for es x) (newer_of (value_for p.batch x) (get_or p.known x None))) empty ∙ sym (over_at p.known p.batch x (omega (arith, long, l)))

  -- it is part of a lawful memory
  pub part_of : (x v : ℕ) → x < size → newest_at p x ≡ Some v → memory_of a.0 x ≡ v
  part_of x v l e = a.3 x v (sym (newest_over x l) ∙ e)

  alike : (op : List ℕ) → RunsAlike (run_program (program op) seen) (run_program (program op) p)
  alike op = run_alike low size (program op) seen p (memory_of a.0) (record { below = λ x l. over_at p.known p.batch x (omega (arith, long, l)); script = sym empty })
      (part_fresh (overlaid p.known p.batch) a.0 a.3) (sound.inside (memory_of a.0) op a.2)

  pub walk_gives : (op : List ℕ) (r : RawReply) (q : Part) → run_program (program op) p ≡ Ends r q → (meaning_of keeps reads program).walk (overlaid p.known p.batch) op ≡ Gives (cond (keeps r) q.script []) r
  walk_gives op r q e = gives keeps (run_program (program op) seen) r q (subst (RunsAlike (run_program (program op) seen)) e (alike op))

  pub walk_needs : (op : List ℕ) (x : ℕ) → run_program (program op) p ≡ Lacks x → (meaning_of keeps reads program).walk (overlaid p.known p.batch) op ≡ Needs x
  walk_needs op x e = needs keeps (run_program (program op) seen) x (subst (RunsAlike (run_program (program op) seen)) e (alike op))
