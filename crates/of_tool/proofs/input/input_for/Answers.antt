use Rattle.std.proofs.lemmas.Result.{MatchResult-weaker}
use Rattle.of_tool.proofs.Refused.{refuse, read_for}
use Rattle.of_tool.proofs.input.input_for.Goals as goal

pub read_input-requires : goal.read_input-requires
read_input-requires g c = c.in-Some.ensures.few

pub returns-in-Some-clause-input : goal.returns-in-Some-clause-input
returns-in-Some-clause-input g c =
    let is = c.in-Some.ensures in
    MatchResult-weaker c.read_input.result c.read_input.ensures
    (λ bytes read. read_for c.args.command _ bytes.items c.in-Some.most is read)
    (λ failure h. refuse c.args.command _ is.input is.reads (λ why refused. refused is.input is.is) failure h)
