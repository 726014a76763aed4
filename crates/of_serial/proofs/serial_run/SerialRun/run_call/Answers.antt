use Rattle.std.proofs.Common.{◌+◌, ◌++◌, [], ◌∷◌, map, ap, ◌∙◌}
use Rattle.std.proofs.lemmas.List.{map-append}
use Rattle.std.proofs.lemmas.List.Elements.{All-same, All-push}
use Rattle.of_plan.specs.Serial.{serial_entry}
use Rattle.of_report.specs.Report.{entry_value, HasWholeReply}
use Rattle.of_serial.proofs.serial_run.SerialRun.run_call.Goals as goal

pub returns : goal.returns
returns c = λ history has.
    let ran = c.run-reply.ensures.runs history.store has.store in
    record {
      entries = ap (map entry_value) c.in_ok-push.ensures.items ∙ map-append entry_value c.args.self.now.entries.items (_ ∷ [])
          ∙ (λ i. has.entries i ++ serial_entry (has.seq i + 1, ((c.args.caller, c.args.index), ran.1 i)) ∷ []);
      whole = All-same HasWholeReply _ _ c.in_ok-push.ensures.items (All-push HasWholeReply c.args.self.now.entries.items _ has.whole c.run-reply.ensures.whole);
      seq = ap (λ n. n + 1) has.seq;
      store = ran.0;
    }
