use Rattle.std.proofs.Common.{◌≡◌, [], length, map, take, replicate, arith, sym, ap, subst, ◌∙◌}
use Rattle.std.proofs.lemmas.List.{length-map}
use Rattle.std.proofs.lemmas.Option.{same_Some}
use Rattle.std.proofs.lemmas.Result.{MatchResult-at_ok}
use Rattle.of_mem.specs.CellMap.{put_all}
use Rattle.of_mem.specs.Part.{Part}
use Rattle.of_script.specs.Language.{instr_word}
use Rattle.of_store.specs.Store.{run}
use Rattle.of_store.specs.Replies.{reply_value_of}
use Rattle.of_eval.specs.Shapes.{IsWhole}
use Rattle.of_serial.specs.SerialRun.{CellsHoldStore}
use Rattle.of_serial.proofs.Cases.{ok_unless, some_if}
use Rattle.of_serial.proofs.KnownCells.{asked, width, nothing_needed, script_words, kept_holds, reply_held, reply_says}
use Rattle.of_serial.proofs.serial_run.cells.Cells.run.Goals as goal

pub run-requires-clause-agrees : goal.run-requires-clause-agrees
run-requires-clause-agrees c = asked c.args.self.now c.requires.0 c.requires.1

pub run-requires-clause-cells : goal.run-requires-clause-cells
run-requires-clause-cells c = width c.args.self.now c.requires.0 c.requires.1

pub run-requires-clause-some : goal.run-requires-clause-some
run-requires-clause-some c =
    let words = script_words c.args.script.now c.to_words.new.out (replicate _ 0) c.len.result c.len.ensures.len c.to_words.ensures.words in
    let many : length (take c.len.result c.to_words.new.out) ≡ length c.args.script.now = ap length words ∙ length-map c.args.script.now instr_word in
    omega (arith, many, c.len.ensures.len, c.len.ensures.some)

pub unwrap-requires : goal.unwrap-requires
unwrap-requires c = ok_unless c.run.result _ _ c.run.ensures.walk (λ need q. nothing_needed c.args.self.now c.requires.0 c.requires.1 (take c.len.result c.to_words.new.out) need.addr q.0)

pub unwrap-requires-2 : goal.unwrap-requires-2
unwrap-requires-2 c =
    some_if c.reply_of.result _ (c.reply_of.ensures.only _ (reply_held c.args.self.now c.requires.0 c.requires.1 (take c.len.result c.to_words.new.out) c.args.script.now c.len.ensures.fits
    (script_words c.args.script.now c.to_words.new.out _ c.len.result c.len.ensures.len c.to_words.ensures.words)
    c.run.new.part.script c.run.new.out (MatchResult-at_ok _ _ c.unwrap.result c.unwrap.ensures c.run.ensures.walk)))

pub returns-clause-whole : goal.returns-clause-whole
returns-clause-whole c =
    let s = c.requires.0 in
    let h = c.requires.1 in
    let words = script_words c.args.script.now c.to_words.new.out _ c.len.result c.len.ensures.len c.to_words.ensures.words in
    let gives = MatchResult-at_ok _ _ c.unwrap.result c.unwrap.ensures c.run.ensures.walk in
    let held = reply_held c.args.self.now s h (take c.len.result c.to_words.new.out) c.args.script.now c.len.ensures.fits words c.run.new.part.script c.run.new.out gives in
    subst IsWhole (same_Some _ _ (sym (c.reply_of.ensures.only _ held) ∙ c.unwrap-2.ensures)) held.0

pub returns-clause-runs : goal.returns-clause-runs
returns-clause-runs c = λ s h.
    let part : c.keep.new.self ≡ record { known = c.args.self.now.part.known; batch = put_all c.args.self.now.part.batch c.run.new.part.script; script = [] } =
    c.keep.ensures ∙ ap (λ (q : Part). record q { batch = put_all q.batch q.script; script = [] }) c.run.ensures.part in
    let words : take c.len.result c.to_words.new.out ≡ map instr_word c.args.script.now = script_words c.args.script.now c.to_words.new.out _ c.len.result c.len.ensures.len c.to_words.ensures.words in
    let gives = MatchResult-at_ok _ _ c.unwrap.result c.unwrap.ensures c.run.ensures.walk in
    let held = reply_held c.args.self.now s h (take c.len.result c.to_words.new.out) c.args.script.now c.len.ensures.fits words c.run.new.part.script c.run.new.out gives in (
      subst (λ (q : Part). CellsHoldStore (record c.args.self.now { part = q }) (run s c.args.script.now).0) (sym part)
          (kept_holds c.args.self.now s h (take c.len.result c.to_words.new.out) c.args.script.now c.len.ensures.fits words c.run.new.part.script c.run.new.out gives),
      ap reply_value_of (same_Some _ _ (sym c.unwrap-2.ensures ∙ c.reply_of.ensures.only _ held))
          ∙ reply_says c.args.self.now s h (take c.len.result c.to_words.new.out) c.args.script.now c.len.ensures.fits words c.run.new.part.script c.run.new.out gives,
    )
