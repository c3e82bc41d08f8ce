use Rattle.std.proofs.Common.{◌≤◌, ◌<◌, ◌∙◌, List, None, ap, length, subst, sym}
use Rattle.plan_gen.specs.PlanList.{most_plans}
use Rattle.scenario_values.specs.Scenario.{Entries}
use Rattle.outside_campaign.specs.Recorded.{Records, depth_of}
use Rattle.campaign_main.specs.Questions.{Subject}
use Rattle.campaign_main.proofs.PlanQuestions.{answered-fault, answered-notes, answered-text}
use Rattle.campaign_main.proofs.answering.by_census.Goals as goal

pub answer_by-requires : goal.answer_by-requires
answer_by-requires c =
    let s : Subject = (c.args.campaign.now.settings.now, c.args.campaign.now.outside.now) in
    let answers = c.args.answers.now in
    let list = c.by_census-plans.ensures ∙ c.in_ok-list.ensures.plans in
    let read = c.in_ok-runs.ensures in
    let records = subst (Records s.1 s.0 answers) (sym c.with_list.ensures) (record {
      told = read.known;
      strangers = read.strangers;
      readable = read.readable;
      list = list;
      few = subst (λ (ps : List Entries). length ps ≤ most_plans) (sym list) c.in_ok-list.ensures.few;
      some = subst (λ (ps : List Entries). 0 < length ps) (sym c.by_census-plans.ensures) c.in_ok-list.ensures.some;
    }) in
    (answers, records)

pub returns : goal.returns
returns c =
    let s : Subject = (c.args.campaign.now.settings.now, c.args.campaign.now.outside.now) in
    let answers = c.args.answers.now in
    let list = c.by_census-plans.ensures ∙ c.in_ok-list.ensures.plans in
    let read = c.in_ok-runs.ensures in
    let records = subst (Records s.1 s.0 answers) (sym c.with_list.ensures) (record {
      told = read.known;
      strangers = read.strangers;
      readable = read.readable;
      list = list;
      few = subst (λ (ps : List Entries). length ps ≤ most_plans) (sym list) c.in_ok-list.ensures.few;
      some = subst (λ (ps : List Entries). 0 < length ps) (sym c.by_census-plans.ensures) c.in_ok-list.ensures.some;
    }) in
    record {
      text = answered-text c.args.question s answers c.with_list.result None (ap depth_of c.with_list.ensures) records c.answer_by.result c.answer_by.ensures.text;
      notes = answered-notes c.args.question s answers c.with_list.result None (ap depth_of c.with_list.ensures) records c.answer_by.result c.answer_by.ensures.notes;
      fault = answered-fault c.args.question s answers c.with_list.result None (ap depth_of c.with_list.ensures) records c.answer_by.result c.answer_by.ensures.fault;
    }
