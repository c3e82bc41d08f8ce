use Rattle.std.proofs.Common.{◌≡◌, ◌∙◌, List, ℕ, ap}
use Rattle.action_eval.specs.Answers.{texts}
use Rattle.answer_text.specs.Runs.{told_in}
use Rattle.scenario_values.specs.Scenario.{Entries}
use Rattle.outside_campaign.specs.Unmet.{unmet_count}
use Rattle.campaign_given.specs.Description.{Description}
use Rattle.campaign_main.proofs.StrictLemmas.{answered-is}
use Rattle.campaign_main.proofs.answer_notes.census_doubts.Goals as goal

pub returns : goal.returns
returns c =
    let outside = c.args.campaign.now.outside.now in
    let known = told_in c.args.known.now in
    let named : texts c.as_slice-points.result.now ≡ outside.points =
    ap texts c.as_slice-points.ensures.value ∙ c.in_ok-points.ensures ∙ c.as_slice.ensures.value ∙ ap (λ (d : Description). d.points) c.outside.view_is in
    answered-is _ _ _ _ _ _ _ _ _ _ _ _ c.in_ok-doubts.ensures named (c.as_slice-2.ensures.value ∙ ap (λ (d : Description). d.hits) c.outside.view_is)
    (c.in_ok-unmet.ensures ∙ ap (λ (names : List (List ℕ)). unmet_count names known c.args.plans.now) named ∙ ap (λ (plans : List Entries). unmet_count outside.points known plans) c.requires)
    c.new-lines.ensures.bytes c.in_ok-write_doubts.ensures c.in_ok-write_unmet.ensures c.in_ok-write_all_unhit.ensures
