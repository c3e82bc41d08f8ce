use Rattle.std.proofs.Common.{◌≡◌, ◌∙◌, ap, drop, length}
use Rattle.std.proofs.lemmas.Result.{IfOk-weaker}
use Rattle.result_book.specs.Runs.{runs_from, unreached_of}
use Rattle.campaign_core.specs.CommandTexts.{tried}
use Rattle.campaign_core.specs.Headline.{Campaign, campaign_in, plans}
use Rattle.campaign_core.specs.declared.results.Results.{Results}
use Rattle.campaign_core.specs.inside.Ranges.{known_in, watched_if}
use Rattle.campaign_core.proofs.Surveyed.{counts_few}
use Rattle.campaign_core.proofs.ran.results_of.Goals as goal

pub watched_of-requires : goal.watched_of-requires
watched_of-requires g c = counts_few (campaign_in g.T.Target c.args.subject.now) c.args.planned.now c.requires

pub returns-clause-unreached : goal.returns-clause-unreached
returns-clause-unreached g c =
    let k : Campaign = campaign_in g.T.Target c.args.subject.now in
    let planned = c.args.planned.now in
    let watched = watched_if c.args.is_surveyed planned in
    let known = length c.known_of.result.now in
    IfOk-weaker c.run_input_plans.result _
    (λ (r : Results). r.unreached.items ≡ unreached_of watched (runs_from (tried k) (known_in planned) (drop (known_in planned) (plans k))))
    (λ r h. h
    ∙ ap (λ points. unreached_of points (runs_from (tried k) known (drop known c.plans_of-plans.result))) (c.as_slice.ensures.value ∙ c.in_ok-watched.ensures)
    ∙ ap (λ ps. unreached_of watched (runs_from (tried k) known (drop known ps))) c.plans_of-plans.ensures
    ∙ ap (λ n. unreached_of watched (runs_from (tried k) n (drop n (plans k)))) c.known_of.ensures.many)
    c.run_input_plans.ensures.unreached
