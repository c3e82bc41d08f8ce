-- What a report shows of a campaign.
use Rattle.std.proofs.Common.{◌≡◌, ℕ, List, ◌++◌, map, take, Option, None, Some, option_map, length, refl, ap, sym, subst, ◌∙◌, append_assoc}
use Rattle.std.proofs.lemmas.List.{length-map}
use Rattle.std.proofs.Math.Seq.{take-append_seam}
use Rattle.scenario_values.specs.Scenario.{Entries}
use Rattle.action_eval.specs.declared.rig.Rig.{Rig}
use Rattle.plan_gen.specs.Census.{sites_of}
use Rattle.plan_gen.specs.PlanList.{Asked, storm_part}
use Rattle.grown_plans.specs.GrownPlans.{grown, scenario_of}
use Rattle.grown_runs.specs.declared.levels.Grown.{Grown}
use Rattle.grown_plans.specs.numbered.GrownScenarios.{grown_among, grown_scenarios}
use Rattle.report.specs.Reports.{ReportFacts}
use Rattle.report.specs.json_form.About.{ShownFacts, shown_of}
use Rattle.report.specs.forms.Forms.{text_in}
use Rattle.report.specs.forms.Runs.{GrownAreFirst}
use Rattle.report.specs.declared.forms.forms.Form.{Form}
use Rattle.campaign_core.specs.Forms.{report_in, settings_text, shown, telling, text_or}
use Rattle.campaign_core.specs.Headline.{Campaign, census, grower, grown_to, plans, plans_to, report}
use Rattle.campaign_core.specs.Planned.{IsGrownTo}

pub grown_shown : (c : Campaign) (depth : Option ℕ) (g : Option Grown) → IsGrownTo c depth g
    → grown_among (option_map (λ (x : Grown). x.list.plans) g) ≡ grown_to c depth
grown_shown c None None h = refl
grown_shown c None (Some g) h = absurd h
grown_shown c (Some depth) None h = absurd h
grown_shown c (Some depth) (Some g) h = h.has_grown.plans

-- what is shown beside the report, by its parts
pub shown_is : (c : Campaign) (list : List Entries) (grew : List (List Rig)) (storms listed : ℕ) (settings : List ℕ) → list ≡ plans c → grew ≡ grown_to c c.given.depth
    → storms ≡ c.given.plans.storms → listed ≡ length c.given.plans.listed → settings ≡ text_or c.given.source (settings_text c)
    → shown_of list grew storms listed settings ≡ shown c
shown_is c list grew storms listed settings plans_are grew_are stormed counted given =
    let grew' : List (List Rig) = grown_to c c.given.depth in
    ap (λ p. shown_of p grew storms listed settings) plans_are
    ∙ ap (λ g. shown_of (plans c) g storms listed settings) grew_are
    ∙ ap (λ m. shown_of (plans c) grew' m listed settings) stormed
    ∙ ap (λ n. shown_of (plans c) grew' c.given.plans.storms n settings) counted
    ∙ ap (λ t. shown_of (plans c) grew' c.given.plans.storms (length c.given.plans.listed) t) given

first_part : {A B : Type 0} (f : A → B) (xs : List A) (ys zs : List B) → take (length xs) (map f xs ++ ys ++ zs) ≡ map f xs
first_part f xs ys zs =
    ap (take (length xs)) (append_assoc (map f xs) ys zs) ∙ ap (λ n. take n (map f xs ++ (ys ++ zs))) (sym (length-map xs f)) ∙ take-append_seam (map f xs) (ys ++ zs)

-- the plans that grew come first
pub grown_first : (c : Campaign) (depth : Option ℕ) → take (length (grown_to c depth)) (plans_to c depth) ≡ grown_scenarios c.points (grown_to c depth)
grown_first c None = refl
grown_first c (Some depth) =
    let asked : Asked = c.given.plans in
    first_part (scenario_of (grower c)) (grown (grower c) depth) (storm_part c.points asked.seed asked.rate asked.storms (sites_of (census c))) asked.listed

pub shown_first : (c : Campaign) (s : ShownFacts) → s ≡ shown c → GrownAreFirst c.points s
shown_first c s is = subst (λ (x : ShownFacts). GrownAreFirst c.points x) (sym is) (grown_first c c.given.depth)

pub text_is : (c : Campaign) (form : Form) (text : List ℕ) (r : ReportFacts) (s : ShownFacts) → text ≡ text_in form c.points c.codes (telling c) r s → r ≡ report c
    → s ≡ shown c → text ≡ report_in form c
unfolding report_in
text_is c form text r s h told also =
    h ∙ ap (λ (x : ReportFacts). text_in form c.points c.codes (telling c) x s) told ∙ ap (λ (x : ShownFacts). text_in form c.points c.codes (telling c) (report c) x) also
