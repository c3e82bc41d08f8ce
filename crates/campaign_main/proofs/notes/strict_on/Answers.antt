use Rattle.std.proofs.Common.{◌≡◌, ◌<◌, ◌∙◌, List, All, ap, arith, count_by, get_or, length, subst, sym}
use Rattle.std.proofs.lemmas.List.{length-map}
use Rattle.target_trait.specs.Verdicts.{is_unresolved}
use Rattle.target_trait.specs.declared.judgement.Verdict.{Verdict}
use Rattle.target_trait.specs.declared.judgement.Verdict.TheVariants as verdict
use Rattle.result_book.specs.Verdicts.{verdicts_from}
use Rattle.result_book.proofs.SlotLemmas.{length_verdicts}
use Rattle.campaign_core.specs.Headline.{Campaign, campaign_in, plans, say}
use Rattle.campaign_core.proofs.Surveyed.{unreached_below}
use Rattle.campaign_main.specs.Notes.{is_unhit}
use Rattle.campaign_main.proofs.StrictLemmas.{same-doubts, strict-is}
use Rattle.campaign_main.proofs.notes.strict_on.Goals as goal

pub doubts_of-doubts-requires-clause-some : goal.doubts_of-doubts-requires-clause-some
doubts_of-doubts-requires-clause-some g c =
    let k : Campaign = campaign_in g.T.Target c.args.subject.now in
    let ran = c.requires.ran in
    let many = ap length (c.as_slice-verdicts.ensures.value ∙ ran.results.0) in
    let counted = length_verdicts (say k) 0 (plans k) in
    omega (arith, many, counted, ran.planned.some)

pub doubts_of-doubts-requires-clause-few : goal.doubts_of-doubts-requires-clause-few
doubts_of-doubts-requires-clause-few g c =
    let k : Campaign = campaign_in g.T.Target c.args.subject.now in
    let ran = c.requires.ran in
    let many = ap length (c.as_slice-verdicts.ensures.value ∙ ran.results.0) in
    let counted = length_verdicts (say k) 0 (plans k) in
    omega (arith, many, counted, ran.planned.few)

pub write_all_unreached-requires : goal.write_all_unreached-requires
write_all_unreached-requires g c =
    subst (λ n. All (λ p. p < n) c.as_slice-unreached.result.now) (ap length (sym c.catalogue.ensures) ∙ length-map c.catalogue.result.now (λ n. n.now))
    (unreached_below (campaign_in g.T.Target c.args.subject.now) c.as_slice-unreached.result.now (c.as_slice-unreached.ensures.value ∙ c.requires.unreached))

pub returns : goal.returns
returns g c =
    let k : Campaign = campaign_in g.T.Target c.args.subject.now in
    let ran = c.requires.ran in
    let vs : List Verdict = verdicts_from (say k) 0 (plans k) in
    let here : c.as_slice-verdicts.result.now ≡ vs = c.as_slice-verdicts.ensures.value ∙ ran.results.0 in
    let counted = length_verdicts (say k) 0 (plans k) in
    let told = c.doubts_of-doubts.ensures in
    let same = same-doubts _ _
    (told.clean ∙ ap (λ (v : List Verdict). is_unresolved (get_or v 0 verdict.Unresolved)) here)
    (told.unresolved ∙ ap (λ (v : List Verdict). count_by is_unresolved v) here)
    (told.plans ∙ ap (λ (v : List Verdict). length v) here ∙ counted)
    (told.unhit ∙ ap is_unhit (c.as_slice-census.ensures.value ∙ ran.planned.census))
    told.unstormed in
    strict-is k _ _ _ _ _ _ same c.catalogue.ensures (c.as_slice-unreached.ensures.value ∙ c.requires.unreached)
    c.new-lines.ensures.bytes c.in_ok-write_doubts.ensures c.in_ok-write_all_unreached.ensures
