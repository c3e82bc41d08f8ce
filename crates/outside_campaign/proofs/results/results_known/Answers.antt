use Rattle.std.proofs.Common.{◌≡◌, List, Option, ap, ◌∙◌}
use Rattle.std.proofs.lemmas.Result.{IfOk-weaker}
use Rattle.target_trait.specs.declared.judgement.Verdict.{Verdict}
use Rattle.result_book.specs.FirstFailures.{first_failures}
use Rattle.result_book.specs.Slots.{in_book}
use Rattle.outside_campaign.specs.Asked.{plan_verdicts, known_failures}
use Rattle.outside_campaign.specs.inside.ToldPlans.{AreResults}
use Rattle.outside_campaign.specs.inside.Results.{IsFirst}
use Rattle.outside_campaign.proofs.ResultLemmas.{all_below, failures_are, open_first, told_all}
use Rattle.outside_campaign.proofs.results.results_known.Goals as goal

pub findings_known-requires : goal.findings_known-requires
findings_known-requires g c =
    all_below (g.K.VerdictTable.verdicts c.args.known.now) c.args.plans.now c.in_ok-verdicts.verdicts.items c.as_slice-2.result.now c.in_ok-verdicts.ensures.verdicts
    (c.as_slice-2.ensures.value ∙ c.in_ok-failures.ensures ∙ ap (λ (slots : List (Option Verdict)). first_failures (in_book slots)) c.as_slice.ensures.value)

pub returns-in-Open : goal.returns-in-Open
returns-in-Open g c =
    let known = g.K.VerdictTable.verdicts c.args.known.now in
    let firsts : c.as_slice-2.result.now ≡ known_failures known c.args.plans.now =
    failures_are known c.args.plans.now c.in_ok-verdicts.verdicts.items c.as_slice-2.result.now c.in_ok-verdicts.ensures.verdicts
    (c.as_slice-2.ensures.value ∙ c.in_ok-failures.ensures ∙ ap (λ (slots : List (Option Verdict)). first_failures (in_book slots)) c.as_slice.ensures.value) in
    let h = rw c.in-Open.is at c.in_ok-requests.ensures in
    IfOk-weaker c.first_request.result (IsFirst c.in-Open.requests.items) (AreResults known c.args.plans.now)
    (λ r is. open_first known c.args.plans.now c.as_slice-2.result.now c.in-Open.requests.items r firsts h.1 is) c.first_request.ensures

pub returns : goal.returns
returns g c =
    let known = g.K.VerdictTable.verdicts c.args.known.now in
    let firsts : c.as_slice-2.result.now ≡ known_failures known c.args.plans.now =
    failures_are known c.args.plans.now c.in_ok-verdicts.verdicts.items c.as_slice-2.result.now c.in_ok-verdicts.ensures.verdicts
    (c.as_slice-2.ensures.value ∙ c.in_ok-failures.ensures ∙ ap (λ (slots : List (Option Verdict)). first_failures (in_book slots)) c.as_slice.ensures.value) in
    let h = rw c.in-Told.is at c.in_ok-requests.ensures in
    let same : c.as_slice-in-Told.result.now ≡ plan_verdicts known c.args.plans.now = c.as_slice-in-Told.ensures.value ∙ c.in_ok-verdicts.ensures.verdicts in
    IfOk-weaker c.with_verdicts.result _ (AreResults known c.args.plans.now)
    (λ r is. told_all known c.args.plans.now c.as_slice-2.result.now c.in-Told.findings.items r firsts h (is known same)) c.with_verdicts.ensures
