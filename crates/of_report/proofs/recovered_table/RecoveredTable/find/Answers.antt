use Rattle.std.proofs.Common.{◌≡◌, ℕ, ◌+◌, ◌<◌, List, length, get_or, drop, sym, ◌∙◌, ap, subst, arith}
use Rattle.std.specs.Prelude.{slice_range}
use Rattle.of_cell.specs.Words.{seq_of}
use Rattle.of_cell.specs.Cells.{data_cell, durable_cells, durable_place, table_words}
use Rattle.of_mem.proofs.BucketPlaces.{few_behind}
use Rattle.of_script.specs.declared.instr.TheConstants.{MOST_INSTRS}
use Rattle.of_plan.specs.Ended.{Ended}
use Rattle.of_eval.specs.Record.{plan_data_cells}
use Rattle.of_recover.specs.Recovered.{recovered_data, recovered_words}
use Rattle.std.proofs.lemmas.List.{take_at}
use Rattle.of_recover.proofs.Rows.{length-recovered}
use Rattle.of_report.proofs.Recovery.{found_seq, found_word}
use Rattle.of_report.proofs.recovered_table.RecoveredTable.find.Goals as goal

pub returns : goal.returns
returns c =
    let p = c.args.plan.now in
    let ws = c.args.ended.now.words in
    let words : c.deref.result.now ≡ ws = c.deref.ensures.value ∙ ap (λ (e : Ended). e.words) c.ended.view_is in
    let N = c.shape-shape.result.callers in
    let M = c.shape-shape.result.cells in
    let callers : N ≡ p.callers = c.shape-shape.ensures.callers in
    let plan = c.plot-plot.ensures.plan in
    let cells : M ≡ plan_data_cells p = c.shape-shape.ensures.cells in
    let long : length ws ≡ table_words N MOST_INSTRS M = c.requires ∙ (λ i. table_words (sym callers i) MOST_INSTRS (sym cells i)) in
    let row : c.in_ok-durable.durable.items ≡ slice_range ws (durable_cells N M) (durable_cells N M + durable_cells N M) =
    c.in_ok-durable.ensures ∙ ap (λ (l : List ℕ). slice_range l (durable_cells N M) (durable_cells N M + durable_cells N M)) words in
    let after : c.recover-seq.new.durable ≡ recovered_words N M c.in_ok-durable.durable.items = c.recover-seq.ensures.row ∙ ap (recovered_words N M) c.deref_mut.ensures.value in
    let kept : length c.recover-seq.new.durable ≡ c.in_ok-durable.durable.len = ap length c.recover-seq.ensures.row ∙ length-recovered N M c.deref_mut.result.now ∙ c.deref_mut.ensures.len in
    let part : c.in_ok-words.words.items ≡ slice_range (recovered_words N M c.in_ok-durable.durable.items) (data_cell N 0) (data_cell N 0 + M) =
    c.in_ok-words.ensures ∙ ap (λ (l : List ℕ). slice_range l (data_cell N 0) (data_cell N 0 + M)) (
    c.deref-2.ensures.value
    ∙ take_at c.recover-seq.new.durable (drop (length c.recover-seq.new.durable) c.in_ok-durable.durable.items) c.in_ok-durable.durable.len kept
    ∙ after) in
    record {
      plan = c.plot-plot.ensures.plan;
      callers = c.plot-plot.ensures.callers;
      blocks = c.plot-plot.ensures.blocks;
      seq = c.recover-seq.ensures.seq ∙ ap (λ (l : List ℕ). seq_of (get_or l 0 0)) c.deref_mut.ensures.value ∙ found_seq N M ws c.in_ok-durable.durable.items row ∙ (λ i. seq_of (get_or ws (durable_place (callers i) (cells i) 0) 0));
      words = λ a l.
          found_word N M ws c.in_ok-durable.durable.items c.in_ok-words.words.items (omega (arith, cells, plan.few_callers, plan.few_blocks, few_behind p.blocks plan.few_blocks)) long row part a (subst (λ (n : ℕ). a < n) (sym cells) l)
          ∙ (λ i. recovered_data (callers i) (cells i) (λ d. get_or ws (durable_place (callers i) (cells i) d) 0) a);
    }
