use Rattle.std.proofs.Common.{◌≡◌, ℕ, List, length, ap, ◌∙◌}
use Rattle.std.proofs.lemmas.List.FromFn.{length-map-range_with_len}
use Rattle.action_eval.specs.Answers.{Reply}
use Rattle.target_trait.specs.Play.{Move}
use Rattle.plan_gen.specs.Census.{census_of}
use Rattle.campaign_core.proofs.planned.census_of.Goals as goal

-- a census has a count for each point
length_census : (asks : List Reply → Move) (names : List (List ℕ)) (seed limit : ℕ) → length (census_of asks names seed limit) ≡ length names
length_census asks names seed limit = length-map-range_with_len _ 0 (length names)

pub returns-clause-counts : goal.returns-clause-counts
returns-clause-counts g c =
    ap length c.in_ok-census.ensures.ok
    ∙ length_census (g.T.Target.asks c.in_ok-twin.twin c.args.subject.now.workload.now) g.T.Target.names _ _

pub returns-clause-points : goal.returns-clause-points
returns-clause-points g c = g.met.T.Target.lawful.few
