use Rattle.std.proofs.Common.{◌+◌, ◌∷◌, List, [], drop, arith, ap, sym, ◌∙◌}
use Rattle.scenario_values.specs.Scenario.{Entries}
use Rattle.target_trait.specs.declared.judgement.Verdict.TheVariants as verdict
use Rattle.report.proofs.Written.{next_of}
use Rattle.report.proofs.JsonFormLemmas.Lists.{told_next}
use Rattle.report.proofs.json_form.plans.write_each_reported.Goals as goal

pub loop-number-preserved : goal.loop-number-preserved
loop-number-preserved g c =
    let n = c.loop-number.number in
    let plans : List Entries = c.args.plans.now in
    told_next _ _ _ _ _ _ _ _ _ _ _ (next_of c.args.verdicts.now n verdict.Pass c.loop-number-test.true)
    (next_of plans n [] (omega (arith, c.requires, c.loop-number-test.true)) ∙ ap (λ (p : Entries). p ∷ drop (n + 1) plans) (sym c.plan.ensures))
    c.in_ok-write_reported.ensures c.loop-number.invariant
