use Rattle.std.proofs.Common.{◌∙◌, ap, length, map, arith, List, sym}
use Rattle.std.specs.List.{range_with_len}
use Rattle.scenario_values.specs.Scenario.{Entries}
use Rattle.action_eval.specs.Answers.{texts}
use Rattle.action_eval.specs.declared.rig.Site.{Site}
use Rattle.plan_gen.specs.PlanList.{Asked}
use Rattle.plan_gen.specs.declared.drawing.Source.TheVariants.{Storm}
use Rattle.plan_gen.proofs.Counting.{sites_length}
use Rattle.plan_gen.proofs.Kept.{further_kept, kept_length}
use Rattle.plan_gen.proofs.further.made_plans.Goals as goal

pub sites_of-requires-clause-few : goal.sites_of-requires-clause-few
sites_of-requires-clause-few c = omega (arith, sites_length 0 c.args.counts.now, c.requires.sites)

pub new-drawing-requires-clause-few : goal.new-drawing-requires-clause-few
new-drawing-requires-clause-few c =
    let same = ap (λ (l : List Site). length l) c.in_ok-sites.ensures in
    omega (arith, same, c.requires.sites)

pub new-requires : goal.new-requires
new-requires c =
    let is = c.settings.view_is in
    let same = further_kept (texts c.args.catalogue.now) c.args.settings.now c.args.counts.now c.in_ok-sites.sites.items c.new-drawing.result c.in_ok-sources.sources.items c.settings.inside.seed c.settings.inside.rate c.settings.inside.listed.now
    c.in_ok-sites.ensures c.new-drawing.ensures (ap (λ (s : Asked). s.seed) is) (ap (λ (s : Asked). s.rate) is)
    (c.in_ok-sources.ensures ∙ ap (λ n. map Storm (range_with_len 0 n)) (ap (λ (s : Asked). s.storms) is)) (ap (λ (s : Asked). s.listed) is) in
    omega (arith, sym (kept_length c.new-drawing.result c.in_ok-sources.sources.items c.settings.inside.listed.now), ap (λ (l : List Entries). length l) same, c.requires.few)

pub returns : goal.returns
returns c =
    let is = c.settings.view_is in
    c.new.ensures ∙ further_kept (texts c.args.catalogue.now) c.args.settings.now c.args.counts.now c.in_ok-sites.sites.items c.new-drawing.result c.in_ok-sources.sources.items c.settings.inside.seed c.settings.inside.rate c.settings.inside.listed.now
    c.in_ok-sites.ensures c.new-drawing.ensures (ap (λ (s : Asked). s.seed) is) (ap (λ (s : Asked). s.rate) is)
    (c.in_ok-sources.ensures ∙ ap (λ n. map Storm (range_with_len 0 n)) (ap (λ (s : Asked). s.storms) is)) (ap (λ (s : Asked). s.listed) is)
