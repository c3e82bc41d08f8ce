use Rattle.std.proofs.Common.{◌≡◌, ◌<◌, ℕ, List, All, length, map, ap, sym, subst, ◌∙◌, arith, get_or}
use Rattle.std.proofs.lemmas.List.{get_or_read}
use Rattle.scenario_values.specs.Scenario.{Entries}
use Rattle.target_trait.specs.declared.judgement.Verdict.{Verdict}
use Rattle.target_trait.specs.declared.judgement.Verdict.TheVariants as verdict
use Rattle.campaign_given.specs.Given.{Given}
use Rattle.result_book.specs.Verdicts.{verdicts_from, numbered}
use Rattle.result_book.specs.FirstFailures.{first_failures}
use Rattle.result_book.proofs.SlotLemmas.{length_verdicts}
use Rattle.campaign_core.specs.Findings.{finding, IsFailure}
use Rattle.campaign_core.specs.Headline.{Campaign, campaign_in, say, plans, census, growth}
use Rattle.campaign_core.proofs.Firsts.{each_fails, report_is}
use Rattle.campaign_core.proofs.reporting.report_of.Goals as goal

pub findings-requires-clause-fail : goal.findings-requires-clause-fail
findings-requires-clause-fail g c κs within =
    let k : Campaign = campaign_in g.T.Target c.args.subject.now in
    let vs : List Verdict = verdicts_from (say k) 0 (plans k) in
    let firsts : c.as_slice.result.now ≡ first_failures (numbered vs) = c.as_slice.ensures.value ∙ c.requires.results.1 in
    subst (λ (ps : List Entries). All (IsFailure (say k) ps) c.as_slice.result.now) (sym c.plans_of-plans.ensures)
    (subst (λ (fs : List (ℕ × ℕ)). All (IsFailure (say k) (plans k)) fs) (sym firsts)
    (each_fails (say k) (plans k) (first_failures (numbered vs)) (c.first_failures_are_the_least.ensures.each vs)))

pub index-requires : goal.index-requires
index-requires g c =
    let k : Campaign = campaign_in g.T.Target c.args.subject.now in
    let many = ap length c.requires.results.0 in
    let counted = length_verdicts (say k) 0 (plans k) in
    omega (arith, many, counted, c.requires.planned.some, c.args.ran.now.results.verdicts.ok.0)

pub returns-clause-report : goal.returns-clause-report
returns-clause-report g c =
    let k : Campaign = campaign_in g.T.Target c.args.subject.now in
    let vs : List Verdict = verdicts_from (say k) 0 (plans k) in
    let items = c.args.ran.now.results.verdicts.items in
    let many = ap length c.requires.results.0 in
    let counted = length_verdicts (say k) 0 (plans k) in
    let some : 0 < length items = omega (arith, many, counted, c.requires.planned.some) in
    let firsts : c.as_slice.result.now ≡ first_failures (numbered vs) = c.as_slice.ensures.value ∙ c.requires.results.1 in
    report_is (say k) k.label k.given.plans.seed (census k) (plans k) (growth k)
    c.label.result.now c.settings.inside.seed c.index.result.now c.as_slice-2.result.now c.as_slice-3.result.now c.in_ok-findings.findings.items c.in_ok-growth.growth
    c.label.ensures (ap (λ (s : Given). s.plans.seed) c.settings.view_is)
    (get_or_read items 0 c.index.result.now some c.index.ensures verdict.Unresolved
    ∙ ap (λ v. get_or v 0 verdict.Unresolved) (sym c.as_slice-3.ensures.value))
    (c.as_slice-2.ensures.value ∙ c.requires.planned.census) (c.as_slice-3.ensures.value ∙ c.requires.results.0)
    (c.in_ok-findings.ensures.found ∙ ap (λ ps. map (finding (say k) ps) c.as_slice.result.now) c.plans_of-plans.ensures
    ∙ ap (map (finding (say k) (plans k))) firsts)
    c.in_ok-growth.ensures
