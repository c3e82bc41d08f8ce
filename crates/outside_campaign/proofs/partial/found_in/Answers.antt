use Rattle.std.proofs.Common.{◌≡◌, ◌+◌, ◌<◌, List, [], ◌∷◌, drop, length, ap, sym, ◌∙◌, arith}
use Rattle.scenario_values.specs.Scenario.{Entries}
use Rattle.report.proofs.Written.{next_of}
use Rattle.outside_campaign.specs.Campaigns.{code_name}
use Rattle.outside_campaign.proofs.PlansFound.{adds, few_answered}
use Rattle.outside_campaign.proofs.partial.found_in.Goals as goal

pub look_at-requires : goal.look_at-requires
look_at-requires g c =
    let few = few_answered (code_name c.args.words.now.outside.now.codes) (g.K.VerdictTable.verdicts c.args.known.now) c.args.plans.now (drop c.loop-number.number c.args.plans.now) c.loop-number.found c.loop-number.invariant in
    omega (arith, few, c.len-number-end.ensures.many, c.len-number-end.ensures.few)

pub loop-number-preserved : goal.loop-number-preserved
loop-number-preserved g c =
    let plans : List Entries = c.args.plans.now in
    let n = c.loop-number.number in
    let less : n < length plans = omega (arith, c.loop-number-test.true, c.len-number-end.ensures.many) in
    let first : drop n plans ≡ c.plan.result ∷ drop (n + 1) plans = next_of plans n [] less ∙ ap (λ (p : Entries). p ∷ drop (n + 1) plans) (sym c.plan.ensures) in
    adds (code_name c.args.words.now.outside.now.codes) (g.K.VerdictTable.verdicts c.args.known.now) plans (drop n plans) (drop (n + 1) plans) c.plan.result c.loop-number.found c.look_at.new.found first
    c.loop-number.invariant c.in_ok-look_at.ensures
