use Rattle.std.proofs.Common.{◌∙◌, Err, List, ap, drop}
use Rattle.target_trait.specs.Outcomes.{Told}
use Rattle.result_book.specs.Runs.{runs_from, unreached_of}
use Rattle.campaign_core.specs.CommandTexts.{tried, IsUnlisted}
use Rattle.campaign_core.specs.Headline.{Campaign, campaign_in, plans}
use Rattle.campaign_core.specs.inside.Ranges.{known_in, watched_if}
use Rattle.campaign_core.proofs.Surveyed.{surveyed_is}
use Rattle.campaign_core.proofs.Unlisted.{not_listed, passed_on}
use Rattle.campaign_core.proofs.ran.run_campaign.Goals as goal

pub returns-clause-unreached : goal.returns-clause-unreached
returns-clause-unreached g c = λ is.
    let k : Campaign = campaign_in g.T.Target c.args.subject.now in
    let planned = c.in_ok-planned.planned in
    let runs : List Told = runs_from (tried k) (known_in planned) (drop (known_in planned) (plans k)) in
    surveyed_is k planned c.in_ok-results.results.unreached.items c.in_ok-planned.ensures.planned
    (c.each_target_is_a_lawful_subject.ensures c.args.subject.now.target.now c.args.subject.now.workload.now k.given.max_hits)
    (c.in_ok-results.ensures.unreached ∙ ap (λ b. unreached_of (watched_if b planned) runs) is)

pub returns-in_err-planned-clause-fault : goal.returns-in_err-planned-clause-fault
returns-in_err-planned-clause-fault g c =
    let k : Campaign = campaign_in g.T.Target c.args.subject.now in
    passed_on c.from_residual.result c.in_err-planned.field-0.0 c.from_residual.ensures.1 (IsUnlisted k)
    (not_listed k c.in_err-planned.field-0.0 (λ is. c.in_err-planned.ensures.many (ap Err is)))
