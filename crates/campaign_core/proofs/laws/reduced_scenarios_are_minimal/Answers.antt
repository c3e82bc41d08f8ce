use Rattle.std.proofs.Common.{ap, ◌∙◌, refl, eq-eqb}
use Rattle.result_book.specs.Verdicts.{verdicts_from, numbered}
use Rattle.result_book.specs.FirstFailures.{first_failures}
use Rattle.result_book.proofs.EachCodeLemmas.{firsts_of}
use Rattle.campaign_core.specs.FaultTest.{fails_with}
use Rattle.campaign_core.specs.Headline.{say, plans}
use Rattle.campaign_core.proofs.Firsts.{each_fails, findings_minimal}
use Rattle.campaign_core.proofs.Minimal.{reduced_minimal}
use Rattle.campaign_core.proofs.PlanNames.{plans_distinct}
use Rattle.campaign_core.proofs.laws.reduced_scenarios_are_minimal.Goals as goal

pub returns-clause-report : goal.returns-clause-report
returns-clause-report a = λ c points listed.
    findings_minimal c.asks c.points c.given.plans.seed c.given.max_hits (plans c) (first_failures (numbered (verdicts_from (say c) 0 (plans c))))
    (plans_distinct c points listed) (each_fails (say c) (plans c) _ (firsts_of (verdicts_from (say c) 0 (plans c))))

pub returns-clause-reduce : goal.returns-clause-reduce
returns-clause-reduce a = λ c stream scenario distinct code fails.
    reduced_minimal c.asks c.points c.given.plans.seed c.given.max_hits stream code scenario distinct (ap (fails_with code) fails ∙ eq-eqb code code refl)
