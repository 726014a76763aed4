-- A script that may write, as an operation of the work that is run from cells.
use Rattle.std.proofs.Common.{◌≡◌, ℕ, ◌∙◌, ap, Bool, true, false, cond, not, Option, Result, Ok, Err, List, []}
use Rattle.std.specs.Prelude.{MatchResult, IfOk, OnErr}
use Rattle.of_mem.specs.declared.part.Need.{Need}
use Rattle.of_mem.specs.declared.plot.Plot.{Plot}
use Rattle.of_mem.specs.declared.work.RawReply.{RawReply}
use Rattle.of_mem.specs.Meaning.{Gives, Needs}
use Rattle.of_mem.specs.OnDemand.{Running, MayRun, RunsOn, MayRunFrom, HasRunFrom, writes_left}
use Rattle.of_mem.specs.Part.{Extends, overlaid, with_known}
use Rattle.of_mem.specs.Plots.{base}
use Rattle.of_mem.specs.Programs.{RunsAs, NeedsAt, run_program}
use Rattle.of_mem.specs.ProgramWork.{walk_of_run}
use Rattle.of_eval.specs.declared.scripts.Scripts.{Scripts}
use Rattle.of_eval.specs.Calls.{script, in_cells}
use Rattle.of_eval.specs.Scripts.{store_at, scripts_data_cells, LawfulCells, is_success, scripts_meaning}
use Rattle.of_eval.specs.Stored.{HasState}
use Rattle.of_eval.proofs.Overlay.{state_on, walk_is}

-- the writes of a success are left, those of an abort are not
left_when : (undone success : Bool) (es : List (ℕ × ℕ)) → success ≡ not undone → cond success es [] ≡ writes_left undone es
left_when true success es e = ap (λ (t : Bool). cond t es []) e
left_when false success es e = ap (λ (t : Bool). cond t es []) e

module _ (w : Scripts) (op : List ℕ) (plot : Plot) (at : base plot ≡ store_at w) (blocks : plot.blocks ≡ w.blocks) (c : Running) (h : MayRunFrom (scripts_meaning w) (LawfulCells w) (scripts_data_cells w) op c) where
  -- whatever comes to be known, the work walks as the words run
  walks : (more : List (Option ℕ)) → Extends more c.part.known → c.may_know more → (scripts_meaning w).walk (overlaid more c.part.batch) op ≡ walk_of_run is_success (run_program (script plot op) (with_known more c.part))
  walks more e k = let s = h.state more e k in rw (at, blocks) (walk_is w (with_known more c.part) s.0 s.1 h.script op)

  -- its words may run
  pub may_run_words : MayRun (script plot op) (HasState plot) c
  may_run_words = record {
    knows = h.knows;
    always = λ more e k. let s = h.state more e k in state_on w (with_known more c.part) s.0 s.1 h.script plot at blocks;
    serves = λ more e k a n. h.lacks more e k a (walks more e k ∙ ap (walk_of_run is_success) n);
  }

  -- and as they ran, the work walks
  pub has_run_words : (d : Running) (result : Result Bool Need) (old new : RawReply) → RunsOn (script plot op) c d (in_cells new result) → IfOk result (λ aborted. is_success new ≡ not aborted) → OnErr result (new ≡ old)
      → HasRunFrom (scripts_meaning w) op c d result old new
  has_run_words d result old new r aborted out = record { batch = r.batch; goes = r.goes; walk = go result r.walk aborted out }
    where
      known : List (Option ℕ)
      known = d.part.known

      walks_on : (scripts_meaning w).walk (overlaid known d.part.batch) op ≡ walk_of_run is_success (run_program (script plot op) (with_known known c.part))
      walks_on = ap (λ (es : List (ℕ × ℕ)). (scripts_meaning w).walk (overlaid known es) op) r.batch ∙ walks known r.goes.more (r.goes.may_know known r.goes.knows)

      go : (x : Result Bool Need) → MatchResult (in_cells new x) (λ y. RunsAs (script plot op) (with_known d.part.known c.part) y d.part) (λ need. NeedsAt (script plot op) (with_known d.part.known c.part) need.addr)
          → IfOk x (λ aborted. is_success new ≡ not aborted) → OnErr x (new ≡ old)
          → MatchResult x (λ undone. (scripts_meaning w).walk (overlaid d.part.known d.part.batch) op ≡ Gives (writes_left undone d.part.script) new)
          (λ need. ((scripts_meaning w).walk (overlaid d.part.known d.part.batch) op ≡ Needs need.addr) × (new ≡ old))
      go (Ok undone) ends aborted out = walks_on ∙ ap (walk_of_run is_success) ends ∙ ap (λ (es : List (ℕ × ℕ)). Gives es new) (left_when undone (is_success new) d.part.script aborted)
      go (Err need) lacks aborted out = (walks_on ∙ ap (walk_of_run is_success) lacks, out)
