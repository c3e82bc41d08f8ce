-- What answers come to.
use Rattle.std.proofs.Common.{◌≡◌, ℕ, zero, suc, ◌<◌, List, [], ◌∷◌, ◌++◌, Option, Some, None, length, get_or, map, All, refl, ap, sym, ◌∙◌, arith, subst, option_map}
use Rattle.std.specs.Prelude.{slice_get}
use Rattle.std.specs.List.{AllByRecursion}
use Rattle.std.proofs.lemmas.List.{length-map}
use Rattle.scenario_values.specs.Scenario.{Entries, IsScenario}
use Rattle.scenario_values.specs.Tidied.{tidied}
use Rattle.target_trait.specs.declared.judgement.Verdict.{Verdict}
use Rattle.target_trait.specs.declared.judgement.Verdict.TheVariants as verdict
use Rattle.result_book.specs.Verdicts.{verdicts_from, numbered}
use Rattle.result_book.specs.FirstFailures.{first_failures}
use Rattle.result_book.specs.Slots.{in_book}
use Rattle.result_book.proofs.EachCodeLemmas.{firsts_in, firsts_full}
use Rattle.result_book.proofs.SlotLemmas.{length_verdicts}
use Rattle.report.specs.Reports.{FindingFacts, ReportFacts}
use Rattle.answer_text.specs.Known.{KnownVerdicts, verdicts_in, Agrees, AgreesWithText}
use Rattle.answer_text.specs.Runs.{KnownRuns}
use Rattle.answer_text.proofs.Agreement.{some_agrees}
use Rattle.campaign_given.specs.Description.{Description}
use Rattle.campaign_given.specs.Given.{Given}
use Rattle.campaign_core.specs.Findings.{finding}
use Rattle.outside_campaign.specs.Outside.{Component, Components, say, say_each, EachAgrees}
use Rattle.outside_campaign.specs.Asked.{open_plans, open_requests, plan_verdicts, known_failures}
use Rattle.outside_campaign.specs.Campaigns.{plans as plans_of, code_name, report as report_by, report_in, runs_told, shown, first_failure, unmet_by, untried}
use Rattle.report.specs.forms.Forms.{text_in}
use Rattle.outside_campaign.specs.Readable.{IsReadable}
use Rattle.outside_campaign.specs.Unmet.{unmet_count}
use Rattle.outside_campaign.specs.inside.ToldPlans.{AreOf, AreResults}
use Rattle.outside_campaign.specs.inside.Results.{IsFirst, AreWithVerdicts, facts_of}
use Rattle.report.specs.declared.forms.forms.Form.{Form}
use Rattle.outside_campaign.proofs.Gathered.{each_by_known, each_by_known_agrees}
use Rattle.outside_campaign.proofs.Lines.{verdicts_known_are}
use Rattle.outside_campaign.specs.declared.results.Results.{Results}
use Rattle.outside_campaign.specs.declared.results.Results.TheVariants.{Told, NotAnswered}

-- ---- first failures

below : (slots : List (Option Verdict)) (n code : ℕ) → get_or slots n None ≡ Some (verdict.Fail code) → n < length slots
below [] n code h = absurd cc
below (s ∷ slots) zero code h = omega arith
below (s ∷ slots) (suc n) code h = let less = below slots n code h in omega arith

pub all_below : (known : KnownVerdicts) (plans : List Entries) (verdicts : List (Option Verdict)) (firsts : List (ℕ × ℕ)) → verdicts ≡ plan_verdicts known plans → firsts ≡ first_failures (in_book verdicts) → All (λ f. f.0 < length plans) firsts
all_below known plans verdicts firsts is e =
    let many : length verdicts ≡ length plans = ap length is ∙ length-map plans (λ p. known (tidied p)) in
    let P : List (ℕ × ℕ) → Type 0 = λ fs. All (λ f. f.0 < length plans) fs in
    subst P (sym e) (λ k d lt.
    let less = below verdicts (get_or (first_failures (in_book verdicts)) k d).0 (get_or (first_failures (in_book verdicts)) k d).1 ((firsts_in verdicts).least k d lt).0 in
    omega (arith, less, many))

pub failures_are : (known : KnownVerdicts) (plans : List Entries) (verdicts : List (Option Verdict)) (firsts : List (ℕ × ℕ)) → verdicts ≡ plan_verdicts known plans → firsts ≡ first_failures (in_book verdicts) → firsts ≡ known_failures known plans
failures_are known plans verdicts firsts is e = e ∙ ap (λ (slots : List (Option Verdict)). first_failures (in_book slots)) is

-- Where no plan is open, the failures that are known are the first failures, whichever family of components that agrees with what is known
-- the plans are run on.
pub failures_are_first : (known : KnownVerdicts) (plans : List Entries) (components : Components) → AllByRecursion (λ s. IsScenario s) plans → EachAgrees components known → open_plans known plans ≡ []
    → first_failures (numbered (verdicts_from (say_each components) 0 plans)) ≡ known_failures known plans
failures_are_first known plans components lawful agrees none =
    sym (firsts_full (verdicts_from (say_each components) 0 plans))
    ∙ ap (λ (slots : List (Option Verdict)). first_failures (in_book slots)) (sym (verdicts_known_are known components plans 0 lawful agrees none))

-- ---- results

pub open_first : (known : KnownVerdicts) (plans : List Entries) (failures : List (ℕ × ℕ)) (requests : List Entries) (r : Results) → failures ≡ known_failures known plans → requests ≡ open_requests known plans failures → IsFirst requests r → AreResults known plans r
open_first known plans failures requests (Told verdicts findings) fe ce h = absurd h
open_first known plans failures requests (NotAnswered t) fe ce h =
    (h.0 ++ open_plans known plans, ap (λ (fs : List (ℕ × ℕ)). open_requests known plans fs ++ open_plans known plans) (sym fe) ∙ ap (λ (cs : List Entries). cs ++ open_plans known plans) (sym ce ∙ h.1))

none_open : (known : KnownVerdicts) (plans : List Entries) (failures : List (ℕ × ℕ)) → failures ≡ known_failures known plans → open_requests known plans failures ≡ [] → untried known plans ≡ open_plans known plans
none_open known plans failures fe none = ap (λ (fs : List (ℕ × ℕ)). open_requests known plans fs ++ open_plans known plans) (sym fe) ∙ ap (λ (cs : List Entries). cs ++ open_plans known plans) none

pub told_all : (known : KnownVerdicts) (plans : List Entries) (failures : List (ℕ × ℕ)) (findings : List FindingFacts) (r : Results) → failures ≡ known_failures known plans
    → (open_requests known plans failures ≡ []) × ((components : Components) → EachAgrees components known → findings ≡ map (finding (say_each components) plans) failures)
    → AreWithVerdicts known plans findings r → AreResults known plans r
told_all known plans failures findings (Told verdicts told) fe h w = (
  none_open known plans failures fe h.0 ∙ w.1.1,
  λ components agrees.
      let vs : List Verdict = verdicts_from (say_each components) 0 plans in
      let mine : verdicts.items ≡ vs = w.1.2 components agrees in
      let firsts : failures ≡ first_failures (numbered vs) =
      fe ∙ ap (λ (slots : List (Option Verdict)). first_failures (in_book slots)) (sym w.1.0) ∙ firsts_full verdicts.items ∙ ap (λ (x : List Verdict). first_failures (numbered x)) mine in
      record { verdicts_are = mine; findings_are = w.0 ∙ h.1 components agrees ∙ ap (map (finding (say_each components) plans)) firsts },
)
told_all known plans failures findings (NotAnswered t) fe h w = (w.0, none_open known plans failures fe h.0 ∙ w.1)

-- ---- the report

-- the component under each stream number
abbrev each : Component → Components
each component stream = component

-- by the verdicts and findings of a component the report is its own
pub report_is : (outside : Description) (settings : Given) (known : KnownRuns) (component : Component) (plans : List Entries) (verdicts : List Verdict) (findings : List FindingFacts) → plans ≡ plans_of outside settings → AreOf (each component) plans verdicts findings
    → facts_of outside settings.plans.seed verdicts (unmet_by outside settings known) findings ≡ report_by outside settings known component
report_is outside settings known component plans verdicts findings is of =
    let facts : List Verdict → List FindingFacts → ReportFacts = λ vs. facts_of outside settings.plans.seed vs (unmet_by outside settings known) in
    let whole : List Entries → ReportFacts = λ ps. facts (verdicts_from (say component) 0 ps) (map (finding (say component) ps) (first_failures (numbered (verdicts_from (say component) 0 ps)))) in
    ap (λ (vs : List Verdict). facts vs findings) of.verdicts_are
    ∙ ap (λ (fs : List FindingFacts). facts (verdicts_from (say component) 0 plans) fs) of.findings_are
    ∙ ap whole is

first_of : (f : ℕ × ℕ → FindingFacts) (fs : List (ℕ × ℕ)) → ((x : ℕ × ℕ) → (f x).number ≡ x.0) → option_map (λ x. x.number) (slice_get (map f fs) 0) ≡ option_map (λ x. x.0) (slice_get fs 0)
first_of f [] own = refl
first_of f (x ∷ fs) own = ap (λ (n : ℕ). Some n) (own x)

pub first_is : (outside : Description) (settings : Given) (component : Component) (plans : List Entries) (verdicts : List Verdict) (findings : List FindingFacts) → plans ≡ plans_of outside settings → AreOf (each component) plans verdicts findings
    → option_map (λ f. f.number) (slice_get findings 0) ≡ first_failure outside settings component
first_is outside settings component plans verdicts findings is of =
    ap (λ (fs : List FindingFacts). option_map (λ f. f.number) (slice_get fs 0)) of.findings_are
    ∙ first_of (finding (say component) plans) (first_failures (numbered (verdicts_from (say component) 0 plans))) (λ x. refl)
    ∙ ap (λ (ps : List Entries). option_map (λ x. x.0) (slice_get (first_failures (numbered (verdicts_from (say component) 0 ps))) 0)) is

-- what is told is the report of each component that agrees
pub reported_is : (form : Form) (outside : Description) (settings : Given) (known : KnownRuns) (plans : List Entries) (verdicts : List Verdict) (findings : List FindingFacts) (report : ReportFacts) (bytes : List ℕ)
    → plans ≡ plans_of outside settings → ((components : Components) → EachAgrees components (verdicts_in known) → AreOf components plans verdicts findings)
    → report ≡ facts_of outside settings.plans.seed verdicts (unmet_by outside settings known) findings
    → bytes ≡ text_in form outside.points (code_name outside.codes) (runs_told outside known) report (shown outside settings)
    → (component : Component) → Agrees component (verdicts_in known) → bytes ≡ report_in form outside settings known component
reported_is form outside settings known plans verdicts findings report bytes p own r b component agrees =
    b ∙ ap (λ (facts : ReportFacts). text_in form outside.points (code_name outside.codes) (runs_told outside known) facts (shown outside settings))
    (r ∙ report_is outside settings known component plans verdicts findings p (own (each component) (λ stream. agrees)))

pub first_told : (outside : Description) (settings : Given) (known : KnownRuns) (plans : List Entries) (verdicts : List Verdict) (findings : List FindingFacts) (first : Option ℕ)
    → plans ≡ plans_of outside settings → ((components : Components) → EachAgrees components (verdicts_in known) → AreOf components plans verdicts findings)
    → first ≡ option_map (λ f. f.number) (slice_get findings 0) → (component : Component) → Agrees component (verdicts_in known) → first ≡ first_failure outside settings component
first_told outside settings known plans verdicts findings first p own is component agrees =
    is ∙ first_is outside settings component plans verdicts findings p (own (each component) (λ stream. agrees))

-- there is a verdict for each plan
pub verdicts_each : (known : KnownVerdicts) (plans : List Entries) (verdicts : List Verdict) (findings : List FindingFacts) → ((components : Components) → EachAgrees components known → AreOf components plans verdicts findings) → length verdicts ≡ length plans
verdicts_each known plans verdicts findings own =
    let of = own (each_by_known known) (each_by_known_agrees known) in
    ap length of.verdicts_are ∙ length_verdicts (say_each (each_by_known known)) 0 plans

pub some_component : (outside : Description) (answers : List ℕ) → IsReadable outside answers → (component : Component) × AgreesWithText outside.codes outside.points answers component
some_component outside answers h = some_agrees outside.codes outside.points answers h.said h.says

-- the plans that are unmet
pub unmet_is : (outside : Description) (settings : Given) (points : List (List ℕ)) (known : KnownRuns) (plans : List Entries) (n : ℕ) → points ≡ outside.points → plans ≡ plans_of outside settings
    → n ≡ unmet_count points known plans → n ≡ unmet_by outside settings known
unmet_is outside settings points known plans n e p is =
    is ∙ ap (λ (names : List (List ℕ)). unmet_count names known plans) e ∙ ap (unmet_count outside.points known) p
