use Rattle.std.proofs.Common.{rules, ◌≡◌, ◌≤◌, ◌<◌, ◌+◌, ℕ, List, [], Option, Some, None, Err, length, refl, sym, ap, ◌∙◌, subst, arith}
use Rattle.std.specs.Prelude.{slice_get}
use Rattle.std.proofs.lemmas.Option.{slice_get-get_or, slice_get_past}
use Rattle.action_eval.specs.declared.rig.Rig.{Rig}
use Rattle.grown_plans.specs.numbered.GrownScenarios.{grown_among, grown_scenarios}
use Rattle.campaign_core.specs.CommandTexts.{IsUnfound}
use Rattle.campaign_core.specs.Headline.{Campaign, campaign_in}
use Rattle.campaign_core.specs.Planned.{AreGrown}
use Rattle.campaign_core.proofs.Begun.{begun_rigged, begun_found, begun_counted, begun_whole, counted_all, counted_least}
use Rattle.campaign_core.proofs.Unlisted.{passed_on, too_many, unfound}
use Rattle.campaign_core.proofs.listing.plan_scenario.Goals as goal

pub returns-in_err-grown-clause-many : goal.returns-in_err-grown-clause-many
returns-in_err-grown-clause-many g c = λ h.
    let k : Campaign = campaign_in g.T.Target c.args.subject.now in
    let is = too_many c.from_residual.result c.in_err-grown.field-0.0 c.from_residual.ensures.1 h in
    let many = c.in_err-grown.ensures.many (ap Err is) in
    let least = counted_least k (c.args.number + 1) k.given.depth refl in
    omega (arith, many, least)

pub grown_plan-requires-clause-rigs : goal.grown_plan-requires-clause-rigs
grown_plan-requires-clause-rigs g c =
    let k : Campaign = campaign_in g.T.Target c.args.subject.now in
    begun_rigged k k.given.depth (c.args.number + 1) c.in_ok-grown.grown c.in_ok-grown.ensures.begun

pub returns-in-Some-clause-plan : goal.returns-in-Some-clause-plan
returns-in-Some-clause-plan g c =
    let k : Campaign = campaign_in g.T.Target c.args.subject.now in
    let found : slice_get (grown_scenarios k.points (grown_among c.in_ok-grown.grown)) c.args.number ≡ c.in_ok-found.found =
    ap (λ (ns : List (List ℕ)). slice_get (grown_scenarios ns (grown_among c.in_ok-grown.grown)) c.args.number) (sym c.catalogue.ensures) ∙ sym c.in_ok-found.ensures in
    sym (begun_found k k.given.depth (c.args.number + 1) c.args.number c.in_ok-grown.grown c.in-Some.scenario c.in_ok-grown.ensures.begun (found ∙ c.in-Some.is))

pub returns-in-Some-clause-few : goal.returns-in-Some-clause-few
returns-in-Some-clause-few g c =
    let k : Campaign = campaign_in g.T.Target c.args.subject.now in
    let found : slice_get (grown_scenarios k.points (grown_among c.in_ok-grown.grown)) c.args.number ≡ c.in_ok-found.found =
    ap (λ (ns : List (List ℕ)). slice_get (grown_scenarios ns (grown_among c.in_ok-grown.grown)) c.args.number) (sym c.catalogue.ensures) ∙ sym c.in_ok-found.ensures in
    begun_counted k k.given.depth (c.args.number + 1) c.args.number c.in_ok-grown.grown c.in-Some.scenario c.in_ok-grown.ensures.begun (found ∙ c.in-Some.is)

pub end_list-requires : goal.end_list-requires
end_list-requires g c =
    let k : Campaign = campaign_in g.T.Target c.args.subject.now in
    let found : slice_get (grown_scenarios k.points (grown_among c.in_ok-grown.grown)) c.args.number ≡ c.in_ok-found.found =
    ap (λ (ns : List (List ℕ)). slice_get (grown_scenarios ns (grown_among c.in_ok-grown.grown)) c.args.number) (sym c.catalogue.ensures) ∙ sym c.in_ok-found.ensures in
    let none : c.in_ok-found.found ≡ None = search rules in
    let all : AreGrown k k.given.depth c.in_ok-grown.grown = begun_whole k k.given.depth c.args.number c.in_ok-grown.grown c.in_ok-grown.ensures.begun (found ∙ none) in
    subst (λ (o : Option (List (List Rig))). AreGrown k k.given.depth o) (sym c.as_ref-before.ensures.value) all

pub returns-in_err-listed-clause-fault : goal.returns-in_err-listed-clause-fault
returns-in_err-listed-clause-fault g c =
    let k : Campaign = campaign_in g.T.Target c.args.subject.now in
    let found : slice_get (grown_scenarios k.points (grown_among c.in_ok-grown.grown)) c.args.number ≡ c.in_ok-found.found =
    ap (λ (ns : List (List ℕ)). slice_get (grown_scenarios ns (grown_among c.in_ok-grown.grown)) c.args.number) (sym c.catalogue.ensures) ∙ sym c.in_ok-found.ensures in
    let none : c.in_ok-found.found ≡ None = search rules in
    let all : AreGrown k k.given.depth c.in_ok-grown.grown = begun_whole k k.given.depth c.args.number c.in_ok-grown.grown c.in_ok-grown.ensures.begun (found ∙ none) in
    let same = counted_all k (c.args.number + 1) k.given.depth c.in_ok-grown.grown refl c.in_ok-grown.ensures.begun all in
    passed_on c.from_residual-in_err-listed.result c.in_err-listed.field-0.0 c.from_residual-in_err-listed.ensures.1 (IsUnfound k c.args.number)
    (unfound k c.args.number c.in_err-listed.field-0.0 (λ is. let many = c.in_err-listed.ensures.many (ap Err is) in omega (arith, many, same)))

pub plans_with-plans-requires-clause-grown : goal.plans_with-plans-requires-clause-grown
plans_with-plans-requires-clause-grown g c =
    let k : Campaign = campaign_in g.T.Target c.args.subject.now in
    let found : slice_get (grown_scenarios k.points (grown_among c.in_ok-grown.grown)) c.args.number ≡ c.in_ok-found.found =
    ap (λ (ns : List (List ℕ)). slice_get (grown_scenarios ns (grown_among c.in_ok-grown.grown)) c.args.number) (sym c.catalogue.ensures) ∙ sym c.in_ok-found.ensures in
    let none : c.in_ok-found.found ≡ None = search rules in
    let all : AreGrown k k.given.depth c.in_ok-grown.grown = begun_whole k k.given.depth c.args.number c.in_ok-grown.grown c.in_ok-grown.ensures.begun (found ∙ none) in
    subst (λ (o : Option (List (List Rig))). AreGrown k k.given.depth o) (sym c.as_ref-before.ensures.value) all

pub returns-then-number-len-clause-plan : goal.returns-then-number-len-clause-plan
returns-then-number-len-clause-plan g c =
    let past : length c.plans_with-plans.result ≤ c.args.number = search rules in
    sym (ap (λ ps. slice_get ps c.args.number) (sym c.plans_with-plans.ensures) ∙ slice_get_past c.plans_with-plans.result c.args.number past)

pub returns-clause-plan : goal.returns-clause-plan
returns-clause-plan g c =
    let within : c.args.number < length c.plans_with-plans.result = search rules in
    ap Some (c.in_ok-scenario.ensures ∙ c.plan.ensures)
    ∙ sym (slice_get-get_or c.plans_with-plans.result c.args.number [] within)
    ∙ ap (λ ps. slice_get ps c.args.number) c.plans_with-plans.ensures

pub returns-clause-few : goal.returns-clause-few
returns-clause-few g c =
    let k : Campaign = campaign_in g.T.Target c.args.subject.now in
    let found : slice_get (grown_scenarios k.points (grown_among c.in_ok-grown.grown)) c.args.number ≡ c.in_ok-found.found =
    ap (λ (ns : List (List ℕ)). slice_get (grown_scenarios ns (grown_among c.in_ok-grown.grown)) c.args.number) (sym c.catalogue.ensures) ∙ sym c.in_ok-found.ensures in
    let none : c.in_ok-found.found ≡ None = search rules in
    let all : AreGrown k k.given.depth c.in_ok-grown.grown = begun_whole k k.given.depth c.args.number c.in_ok-grown.grown c.in_ok-grown.ensures.begun (found ∙ none) in
    let same = counted_all k (c.args.number + 1) k.given.depth c.in_ok-grown.grown refl c.in_ok-grown.ensures.begun all in
    let few = c.in_ok-listed.ensures.few in
    omega (arith, few, same)
