use Rattle.std.proofs.Common.{◌∙◌, List, ap, true}
use Rattle.scenario_values.specs.Scenario.{Entries}
use Rattle.outside_campaign.specs.Partial.{partial_text, some_fails}
use Rattle.outside_campaign.specs.with_depth.Grown.{known}
use Rattle.outside_campaign.proofs.WithDepthLemmas.Told.{listed_all}
use Rattle.outside_campaign.proofs.with_depth.partial.grown_partial.Goals as goal

pub returns-clause-text : goal.returns-clause-text
returns-clause-text c =
    let k = c.args.known.now in
    let outside = c.args.campaign.now.outside.now in
    let asked = c.args.campaign.now.settings.now.plans in
    let are = listed_all k c.plan_settings.result asked c.in_ok-further.further c.all_plans-plans.result c.plan_settings.ensures.asked c.list.ensures.known.plans c.in_ok-further.ensures.further c.all_plans-plans.ensures in
    λ answers tells.
    record {
      runs = k.answered;
      tells = tells;
      agree = c.requires;
      text_is = c.in_ok-partial_text.ensures.text ∙ ap (λ (plans : List Entries). partial_text outside asked.seed true (known k.answered k.depth) plans) are;
      found_is = c.in_ok-partial_text.ensures.fails ∙ ap (λ (plans : List Entries). some_fails (known k.answered k.depth) plans) are;
    }
