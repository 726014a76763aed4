-- A script that only reads, as an operation of the work that is read from cells.
use Rattle.std.proofs.Common.{◌≡◌, ℕ, refl, sym, ◌∙◌, ap, subst, Bool, true, false, cond, Option, Result, Ok, Err, true, ◌&&◌, leb, List, [], length}
use Rattle.std.specs.Prelude.{MatchResult, OnErr}
use Rattle.of_mem.specs.declared.part.Need.{Need}
use Rattle.of_mem.specs.declared.plot.Plot.{Plot}
use Rattle.of_mem.specs.declared.work.RawReply.{RawReply}
use Rattle.of_mem.specs.Calls.{HasStore}
use Rattle.of_mem.specs.Meaning.{Gives, RunsAsWalked}
use Rattle.of_mem.specs.OnDemand.{Running, MayRun, RunsOn, HasOnlyRead, MayReadFrom, HasReadFrom}
use Rattle.of_mem.specs.Part.{Part, with_known}
use Rattle.of_mem.specs.Plots.{base}
use Rattle.of_mem.specs.Programs.{RunsAs, NeedsAt, run_program}
use Rattle.of_mem.specs.ProgramWork.{fresh_part, walk_of_run}
use Rattle.of_script.specs.declared.instr.TheConstants.{MOST_INSTRS}
use Rattle.of_script.proofs.Numbers.{both}
use Rattle.of_eval.specs.declared.scripts.Scripts.{Scripts}
use Rattle.of_eval.specs.Calls.{script, in_cells}
use Rattle.of_eval.specs.Scripts.{store_at, scripts_data_cells, LawfulCells, is_success, words_read, script_reads, scripts_meaning}
use Rattle.of_eval.specs.Stored.{cell_store, HasState}
use Rattle.of_eval.proofs.Overlay.{state_on}

-- each of its words only reads
pub words_of : (op : List ℕ) → script_reads op ≡ true → words_read op ≡ true
words_of op e = (both (leb (length op) MOST_INSTRS) (words_read op) (both (leb 1 (length op)) (leb (length op) MOST_INSTRS && words_read op) e).1).1

store_of : (plot : Plot) (p : Part) → HasState plot p → HasStore plot p
store_of plot p h = record { fits = h.fits; memory = h.memory; store = cell_store h.state; part = h.part; stands = h.stored.stands }

-- no writes, whether they would be kept or not
none_written : (t : Bool) (es : List (ℕ × ℕ)) → es ≡ [] → cond t es [] ≡ []
none_written true es none = none
none_written false es none = refl

module _ (w : Scripts) (op : List ℕ) (plot : Plot) (at : base plot ≡ store_at w) (blocks : plot.blocks ≡ w.blocks) (c : Running) (h : MayReadFrom (scripts_meaning w) (LawfulCells w) (scripts_data_cells w) op c) where
  fresh : (more : List (Option ℕ)) → with_known more c.part ≡ fresh_part more
  fresh more = λ i. record { known = more; batch = h.batch i; script = h.script i }

  walks : (more : List (Option ℕ)) → (scripts_meaning w).walk more op ≡ walk_of_run is_success (run_program (script plot op) (with_known more c.part))
  walks more = rw (fresh more, at, blocks) refl

  -- its words may run
  pub may_read_words : MayRun (script plot op) (HasStore plot) c
  may_read_words = record {
    knows = h.knows;
    always = λ more e k. let s = h.state more e k in subst (HasStore plot) (sym (fresh more)) (store_of plot (fresh_part more) (state_on w (fresh_part more) s.0 s.1 refl plot at blocks));
    serves = λ more e k a n. h.lacks more e k a (walks more ∙ ap (walk_of_run is_success) n);
  }

  -- and as they ran, the work walks
  pub has_read_words : (d : Running) (result : Result (Unit {0}) Need) (old new : RawReply) → HasOnlyRead c.part d.part → RunsOn (script plot op) c d (in_cells new result) → OnErr result (new ≡ old)
      → HasReadFrom (scripts_meaning w) op c d result old new
  has_read_words d result old new same r out = record { part = same; goes = r.goes; walk = go result r.walk out }
    where
      known : List (Option ℕ)
      known = d.part.known

      none : d.part.script ≡ []
      none = ap (λ (p : Part). p.script) same ∙ h.script

      go : (x : Result (Unit {0}) Need) → MatchResult (in_cells new x) (λ y. RunsAs (script plot op) (with_known d.part.known c.part) y d.part) (λ need. NeedsAt (script plot op) (with_known d.part.known c.part) need.addr) → OnErr x (new ≡ old)
          → RunsAsWalked (scripts_meaning w) d.part.known op x [] old new
      go (Ok u) ends out = walks d.part.known ∙ ap (walk_of_run is_success) ends ∙ ap (λ (es : List (ℕ × ℕ)). Gives es new) (none_written (is_success new) d.part.script none)
      go (Err need) lacks out = (walks d.part.known ∙ ap (walk_of_run is_success) lacks, refl, out)
