use Rattle.std.proofs.Common.{◌≡◌, ℕ, List, length, ap, sym, ◌∙◌}
use Rattle.std.proofs.lemmas.List.{length-map}
use Rattle.std.proofs.lemmas.List.FromFn.{length-map-range_with_len}
use Rattle.action_eval.specs.Answers.{Reply}
use Rattle.target_trait.specs.Play.{Move}
use Rattle.plan_gen.specs.Census.{census_of}
use Rattle.target_checks.proofs.singles.first_failure.Goals as goal

-- a census has a count for each point
length_census : (asks : List Reply → Move) (names : List (List ℕ)) (seed limit : ℕ) → length (census_of asks names seed limit) ≡ length names
length_census asks names seed limit = length-map-range_with_len _ 0 (length names)

pub plans-requires-clause-counts : goal.plans-requires-clause-counts
plans-requires-clause-counts g c =
    ap length c.in-Ok.ensures.ok ∙ length_census (g.T.Target.asks c.args.target.now c.args.workload.now) g.T.Target.names _ _
    ∙ ap length (sym c.catalogue.ensures) ∙ length-map c.catalogue.result.now (λ n. n.now)
