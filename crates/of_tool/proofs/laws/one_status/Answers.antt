use Rattle.of_tool.proofs.OneStatus as one
use Rattle.of_tool.proofs.laws.one_status.Goals as goal

pub returns : goal.returns
returns c = record {
  status = one.one_status c.one_cut.ensures c.one_plan.ensures c.one_image.ensures c.unlawful_have_none.ensures.none;
  text = one.one_error c.one_cut.ensures c.one_plan.ensures c.one_image.ensures c.unlawful_have_none.ensures.none c.unlawful_have_none.ensures.one;
}
