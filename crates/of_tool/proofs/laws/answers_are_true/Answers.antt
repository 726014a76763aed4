use Rattle.of_tool.proofs.Telling.{done_is_made, found_is_wrong}
use Rattle.of_tool.proofs.Completeness.{valid_is_done}
use Rattle.of_tool.proofs.laws.answers_are_true.Goals as goal

pub returns : goal.returns
returns c = record {
  done = done_is_made;
  judged = found_is_wrong;
  complete = valid_is_done c.one_cut.ensures c.unlawful_have_none.ensures.none;
}
