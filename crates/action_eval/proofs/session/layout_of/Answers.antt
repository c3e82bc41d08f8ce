use Rattle.action_eval.proofs.session.layout_of.Goals as goal

pub returns : goal.returns
returns c = record {
  limits = c.in_ok-fill_counts.ensures.limits;
  are_spans = c.find_all.ensures.are_spans;
  found_is = c.find_all.ensures.found;
  heads_are = c.find_all.ensures.heads;
  left_is = c.in_ok-fill_counts.ensures.counts;
}
