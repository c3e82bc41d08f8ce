use Rattle.std.proofs.Common.{◌+◌, ◌∷◌, ◌++◌, List, [], drop, slice_index_or, arith, ap, sym, ◌∙◌}
use Rattle.std.specs.String.{string_bytes}
use Rattle.scenario_values.specs.Scenario.{Entries}
use Rattle.target_trait.specs.declared.judgement.Verdict.TheVariants as verdict
use Rattle.report.specs.Reports.{ReportFacts}
use Rattle.report.specs.junit_form.Junit.{case_text}
use Rattle.report.proofs.Written.{next_of}
use Rattle.report.proofs.JunitFormLemmas.OneByOne.{case_next}
use Rattle.report.proofs.junit_form.document.write_cases.Goals as goal

pub loop-number-preserved : goal.loop-number-preserved
loop-number-preserved g c =
    let n = c.loop-number.number in
    let plans : List Entries = c.args.plans.now in
    case_next (g.N.Names.code_text c.args.names.now) c.args.report.now _ _ _ n _ _ _ _ _ _ (next_of c.args.report.now.verdicts n verdict.Pass (omega (arith, c.requires)))
    (next_of plans n [] (omega arith) ∙ ap (λ (p : Entries). p ∷ drop (n + 1) plans) (sym c.plan.ensures))
    (c.in_ok-write_case.ensures
    ∙ ap (λ (r : ReportFacts). string_bytes c.loop-number.out
    ++ case_text (g.N.Names.code_text c.args.names.now) c.args.report.now n (slice_index_or r.verdicts n verdict.Pass) c.plan.result) c.report.view_is)
    c.loop-number.invariant
