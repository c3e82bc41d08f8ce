use Rattle.target_trait.proofs.Moves.{asks_within}
use Rattle.grown_plans.specs.GrownPlans.{cut_point}
use Rattle.grown_plans.proofs.KeptChildren.{usual_apart, usual_once, usual_texts}
use Rattle.grown_plans.proofs.laws.each_target_is_a_lawful_subject.Goals as goal

pub returns : goal.returns
returns g c setup workload limit = record {
  catalogue = g.met.T.Target.lawful;
  within = λ answers. asks_within _ _ (g.met.T.Target.within setup workload answers);
  once = usual_once (cut_point g.T.Target.names);
  apart = usual_apart (cut_point g.T.Target.names);
  texts = usual_texts (cut_point g.T.Target.names);
}
