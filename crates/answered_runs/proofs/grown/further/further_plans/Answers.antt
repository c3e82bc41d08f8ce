use Rattle.std.proofs.Common.{◌≡◌, ◌<◌, ◌≤◌, ◌+◌, ◌∙◌, ℕ, List, Option, length, ap, inl, subst, sym}
use Rattle.std.specs.Option.{option_map_or}
use Rattle.std.specs.Prelude.{None, Some}
use Rattle.scenario_values.specs.Scenario.{Entries}
use Rattle.plan_gen.specs.PlanList.{Asked, most_plans}
use Rattle.grown_runs.specs.known.Looks.{told}
use Rattle.std.proofs.lemmas.Result.{IfOk-weaker, on_ok_weaker}
use Rattle.answered_runs.specs.grown.Further.{clean_run, further_told}
use Rattle.answered_runs.proofs.GrownLemmas.Clean.{clean_seen, few_nothing, few_without, further_same, many_by_hits, told_by_hits, told_nothing, told_without}
use Rattle.answered_runs.proofs.grown.further.further_plans.Goals as goal

pub returns-in-Seen-clause-told : goal.returns-in-Seen-clause-told
returns-in-Seen-clause-told c =
    let a = c.args.runs.now in
    let clean : clean_run a ≡ Some (told c.in-Seen.field-0 (Some c.look_up.new.hits.items)) = rw c.in-Seen.is at c.in_ok-look_up.ensures.told in
    IfOk-weaker c.plans_over.result _ _
    (λ plans is. told_by_hits a c.args.settings.now c.points.result.now c.in-Seen.field-0 c.look_up.new.hits.items c.as_slice.result.now _ c.points.ensures.names clean c.as_slice.ensures.value is)
    c.plans_over.ensures.over

pub returns-in-Seen-clause-known : goal.returns-in-Seen-clause-known
returns-in-Seen-clause-known c =
    let a = c.args.runs.now in
    let clean : clean_run a ≡ Some (told c.in-Seen.field-0 (Some c.look_up.new.hits.items)) = rw c.in-Seen.is at c.in_ok-look_up.ensures.told in
    IfOk-weaker c.plans_over.result _ _
    (λ plans is t component agrees.
    told_by_hits a c.args.settings.now c.points.result.now c.in-Seen.field-0 c.look_up.new.hits.items c.as_slice.result.now _ c.points.ensures.names clean c.as_slice.ensures.value is
    ∙ further_same t a c.args.settings.now component agrees)
    c.plans_over.ensures.over

pub returns-in-Seen-clause-many : goal.returns-in-Seen-clause-many
returns-in-Seen-clause-many c = λ is.
    let a = c.args.runs.now in
    let clean : clean_run a ≡ Some (told c.in-Seen.field-0 (Some c.look_up.new.hits.items)) = rw c.in-Seen.is at c.in_ok-look_up.ensures.told in
    many_by_hits a c.args.settings.now c.args.before c.points.result.now c.in-Seen.field-0 c.look_up.new.hits.items c.as_slice.result.now c.points.ensures.names clean c.as_slice.ensures.value
    (c.plans_over.ensures.many is)

pub returns-in-Seen-clause-clean : goal.returns-in-Seen-clause-clean
returns-in-Seen-clause-clean c =
    let a = c.args.runs.now in
    let clean : clean_run a ≡ Some (told c.in-Seen.field-0 (Some c.look_up.new.hits.items)) = rw c.in-Seen.is at c.in_ok-look_up.ensures.told in
    on_ok_weaker c.plans_over.result
    (λ low. subst (λ (o : Option (List ℕ)). option_map_or length o 0 < most_plans) (sym (clean_seen a c.in-Seen.field-0 c.look_up.new.hits.items clean))
    (subst (λ (l : List ℕ). length l < most_plans) c.as_slice.ensures.value low))
    c.plans_over.ensures.low

-- without hits the listed scenarios stand alone
pub returns-in-Unseen-clause-told : goal.returns-in-Unseen-clause-told
returns-in-Unseen-clause-told c =
    let a = c.args.runs.now in
    let clean : clean_run a ≡ Some (told c.in-Unseen.field-0 None) = rw c.in-Unseen.is at c.in_ok-look_up.ensures.told in
    IfOk-weaker c.listed_alone.result _ _
    (λ plans is. is ∙ ap (λ (x : Asked). x.listed) c.settings.view_is ∙ told_without a c.args.settings.now c.in-Unseen.field-0 clean)
    c.listed_alone.ensures.listed

pub returns-in-Unseen-clause-known : goal.returns-in-Unseen-clause-known
returns-in-Unseen-clause-known c =
    let a = c.args.runs.now in
    let clean : clean_run a ≡ Some (told c.in-Unseen.field-0 None) = rw c.in-Unseen.is at c.in_ok-look_up.ensures.told in
    IfOk-weaker c.listed_alone.result _ _
    (λ plans is t component agrees.
    is ∙ ap (λ (x : Asked). x.listed) c.settings.view_is ∙ told_without a c.args.settings.now c.in-Unseen.field-0 clean ∙ further_same t a c.args.settings.now component agrees)
    c.listed_alone.ensures.listed

pub returns-in-Unseen-clause-few : goal.returns-in-Unseen-clause-few
returns-in-Unseen-clause-few c =
    let a = c.args.runs.now in
    let clean : clean_run a ≡ Some (told c.in-Unseen.field-0 None) = rw c.in-Unseen.is at c.in_ok-look_up.ensures.told in
    let same : c.settings.inside.listed.now ≡ further_told a c.args.settings.now =
    ap (λ (x : Asked). x.listed) c.settings.view_is ∙ told_without a c.args.settings.now c.in-Unseen.field-0 clean in
    on_ok_weaker c.listed_alone.result (λ few. subst (λ (l : List Entries). c.args.before + length l ≤ most_plans) same few) c.listed_alone.ensures.few

pub returns-in-Unseen-clause-clean : goal.returns-in-Unseen-clause-clean
returns-in-Unseen-clause-clean c =
    let a = c.args.runs.now in
    let clean : clean_run a ≡ Some (told c.in-Unseen.field-0 None) = rw c.in-Unseen.is at c.in_ok-look_up.ensures.told in
    on_ok_weaker c.listed_alone.result (λ few. few_without a c.in-Unseen.field-0 clean) c.listed_alone.ensures.few

pub returns-in-Unseen-clause-many : goal.returns-in-Unseen-clause-many
returns-in-Unseen-clause-many c = λ is.
    let a = c.args.runs.now in
    let clean : clean_run a ≡ Some (told c.in-Unseen.field-0 None) = rw c.in-Unseen.is at c.in_ok-look_up.ensures.told in
    let same : c.settings.inside.listed.now ≡ further_told a c.args.settings.now =
    ap (λ (x : Asked). x.listed) c.settings.view_is ∙ told_without a c.args.settings.now c.in-Unseen.field-0 clean in
    inl (subst (λ (l : List Entries). most_plans < c.args.before + length l) same (c.listed_alone.ensures.many is))

-- before the run without faults is recorded, none are known
pub returns-clause-told : goal.returns-clause-told
returns-clause-told c =
    let clean : clean_run c.args.runs.now ≡ None = rw c.in-Unknown.is at c.in_ok-look_up.ensures.told in
    IfOk-weaker c.listed_alone-in-Unknown.result _ _ (λ plans is. is ∙ told_nothing c.args.runs.now c.args.settings.now clean) c.listed_alone-in-Unknown.ensures.listed

pub returns-clause-known : goal.returns-clause-known
returns-clause-known c =
    let a = c.args.runs.now in
    let clean : clean_run a ≡ None = rw c.in-Unknown.is at c.in_ok-look_up.ensures.told in
    IfOk-weaker c.listed_alone-in-Unknown.result _ _
    (λ plans is t component agrees. is ∙ told_nothing a c.args.settings.now clean ∙ further_same t a c.args.settings.now component agrees)
    c.listed_alone-in-Unknown.ensures.listed

pub returns-clause-few : goal.returns-clause-few
returns-clause-few c =
    let a = c.args.runs.now in
    let clean : clean_run a ≡ None = rw c.in-Unknown.is at c.in_ok-look_up.ensures.told in
    on_ok_weaker c.listed_alone-in-Unknown.result
    (λ few. subst (λ (l : List Entries). c.args.before + length l ≤ most_plans) (told_nothing a c.args.settings.now clean) few) c.listed_alone-in-Unknown.ensures.few

pub returns-clause-clean : goal.returns-clause-clean
returns-clause-clean c =
    let clean : clean_run c.args.runs.now ≡ None = rw c.in-Unknown.is at c.in_ok-look_up.ensures.told in
    on_ok_weaker c.listed_alone-in-Unknown.result (λ few. few_nothing c.args.runs.now clean) c.listed_alone-in-Unknown.ensures.few

pub returns-clause-many : goal.returns-clause-many
returns-clause-many c = λ is.
    let a = c.args.runs.now in
    let clean : clean_run a ≡ None = rw c.in-Unknown.is at c.in_ok-look_up.ensures.told in
    inl (subst (λ (l : List Entries). most_plans < c.args.before + length l) (told_nothing a c.args.settings.now clean) (c.listed_alone-in-Unknown.ensures.many is))
