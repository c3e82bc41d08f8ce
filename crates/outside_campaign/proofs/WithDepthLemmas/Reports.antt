-- What is told of a campaign with a depth, for a component that agrees with the answers.
use Rattle.std.proofs.Common.{◌≡◌, ◌≤◌, ◌<◌, ◌+◌, ◌++◌, ◌&&◌, take, Bool, length-append, ℕ, zero, suc, List, [], ◌∷◌, Some, Option, length, map, refl, ap, sym, ◌∙◌, subst, arith}
use Rattle.std.specs.Prelude.{option_map, slice_get, slice_index_or}
use Rattle.std.specs.List.{AllByRecursion, range_with_len}
use Rattle.std.proofs.lemmas.List.{length-map}
use Rattle.std.proofs.Math.Path.{fun_ext}
use Rattle.std.proofs.Math.Seq.{take-append_seam}
use Rattle.grown_plans.specs.numbered.GrownScenarios.{grown_scenario, grown_scenarios}
use Rattle.scenario_values.specs.Scenario.{Entries, IsScenario, all_faults}
use Rattle.scenario_values.specs.Keep.{are_faults, kept}
use Rattle.scenario_values.specs.Tidied.{tidied}
use Rattle.scenario_values.proofs.Limits.{kept_scenario}
use Rattle.action_eval.specs.Answers.{Reply, given_of}
use Rattle.action_eval.proofs.RunLaws.{tidied_means}
use Rattle.target_trait.specs.Outcomes.{outcome, verdict_with}
use Rattle.target_trait.specs.Play.{Move}
use Rattle.target_trait.specs.declared.judgement.Verdict.{Verdict}
use Rattle.target_trait.specs.declared.judgement.Verdict.TheVariants as verdict
use Rattle.target_trait.proofs.Verdicts.{outcome_same}
use Rattle.grown_plans.specs.GrownPlans.{Subject}
use Rattle.grown_runs.specs.known.Known.{KnownRuns}
use Rattle.grown_runs.specs.known.KnownPart.{known_part}
use Rattle.grown_runs.specs.known.KnownPlans.{AreKnown, level_size}
use Rattle.result_book.specs.Verdicts.{verdicts_from, numbered}
use Rattle.result_book.specs.FirstFailures.{first_failures}
use Rattle.ddmin_parallel.specs.Ddmin.{Reduced, ddmin}
use Rattle.report.specs.Reports.{FindingFacts, GrowthFacts, ReportFacts}
use Rattle.answer_text.specs.Runs.{told_in}
use Rattle.answer_text.proofs.AnswerLaws.{empty_lawful}
use Rattle.answered_runs.specs.Answered.{Answered}
use Rattle.answered_runs.specs.Components.{AgreesWithRuns, IsComponent}
use Rattle.answered_runs.proofs.Known.{true_of}
use Rattle.campaign_given.specs.Description.{Description}
use Rattle.campaign_given.specs.Given.{Given}
use Rattle.campaign_core.specs.FaultTest.{fails_with, fault_test}
use Rattle.campaign_core.specs.Findings.{finding, plan_at, reduction}
use Rattle.campaign_core.specs.Headline.{Campaign, grower, say}
use Rattle.outside_campaign.specs.Campaigns.{code_name, runs_told}
use Rattle.outside_campaign.specs.Outside.{EachAgrees, say_each}
use Rattle.action_eval.specs.declared.rig.Rig.{Rig}
use Rattle.grown_runs.specs.GrownRuns.{cause_at, over}
use Rattle.report.specs.Reports.{CauseFacts}
use Rattle.answered_runs.specs.Answered.{runs_in}
use Rattle.answered_runs.specs.WholeList.{unseen_count}
use Rattle.answered_runs.specs.KnownLists.{KnownList}
use Rattle.grown_plans.specs.declared.grown_list.GrownList.{GrownList}
use Rattle.campaign_core.specs.Findings.{cause_of}
use Rattle.outside_campaign.specs.Asked.{known_failures}
use Rattle.report.specs.json_form.About.{ShownFacts, shown_of}
use Rattle.report.specs.forms.Forms.{text_in}
use Rattle.report.specs.forms.Runs.{Telling}
use Rattle.report.specs.declared.forms.forms.Form.{Form}
use Rattle.outside_campaign.proofs.ResultLemmas.{failures_are_first}
use Rattle.answered_runs.specs.grown.Further.{census_seen, clean_hits}
use Rattle.answered_runs.specs.grown.Lists.{list_known}
use Rattle.answered_runs.specs.grown.Reached.{reached_seen}
use Rattle.outside_campaign.specs.with_depth.Grown.{campaign, known}
use Rattle.outside_campaign.specs.with_depth.Seen.{growth_seen, onward_seen, plans_seen, report_seen, shown_seen}
use Rattle.outside_campaign.specs.declared.with_depth.candidates.Told.{Told}
use Rattle.outside_campaign.specs.with_depth.inside.Outcomes.{IsCleanCensus, IsDecided, IsFirstNumberOf, IsTextOf}

-- ---- verdicts by a stream number

abbrev pub Say : Type 0
Say = ℕ → Entries → Verdict

-- what is said of a scenario once it is tidied
abbrev pub of_tidied : Say → Say
of_tidied f n s = f n (tidied s)

-- of lawful scenarios the same is said
abbrev pub SaysAlike : Say → Type 0
SaysAlike f = (n : ℕ) (s : Entries) → IsScenario s → of_tidied f n s ≡ f n s

pub says_alike : (asks : List Reply → Move) (names : List (List ℕ)) (seed limit : ℕ) → SaysAlike (verdict_with asks names seed limit)
unfolding verdict_with
says_alike asks names seed limit n s lawful =
    ap (λ o. o.verdict) (outcome_same asks names seed n limit (tidied s) s ((tidied_means s lawful.distinct_names).at names seed n limit))

pub verdicts_alike : (f : Say) → SaysAlike f → (n : ℕ) (plans : List Entries) → AllByRecursion (λ s. IsScenario s) plans
    → verdicts_from (of_tidied f) n plans ≡ verdicts_from f n plans
verdicts_alike f alike n [] lawful = refl
verdicts_alike f alike n (p ∷ ps) lawful =
    ap (λ (v : Verdict). v ∷ verdicts_from (of_tidied f) (n + 1) ps) (alike n p lawful.0)
    ∙ ap (λ (vs : List Verdict). f n p ∷ vs) (verdicts_alike f alike (n + 1) ps lawful.1)

tests_alike : (f : Say) → SaysAlike f → (n code : ℕ) (s : Entries) → IsScenario s → fault_test (of_tidied f n) code s ≡ fault_test (f n) code s
tests_alike f alike n code s lawful =
    fun_ext (λ (set : List ℕ). ap (λ (v : Verdict). are_faults (all_faults s) set && fails_with code v) (alike n (kept set s) (kept_scenario set s lawful)))

reduction_alike : (f : Say) → SaysAlike f → (n code : ℕ) (s : Entries) → IsScenario s → reduction (of_tidied f) n code s ≡ reduction f n code s
reduction_alike f alike n code s lawful = ap (λ (test : List ℕ → Bool). ddmin test (all_faults s)) (tests_alike f alike n code s lawful)

abbrev found_by : List Entries → ℕ × ℕ → Reduced → FindingFacts
found_by plans first r = record {
  number = first.0;
  code = first.1;
  scenario = plan_at plans first.0;
  reduced = tidied (kept r.kept (plan_at plans first.0));
  tests = r.tests;
}

finding_alike : (f : Say) → SaysAlike f → (plans : List Entries) (first : ℕ × ℕ) → IsScenario (plan_at plans first.0)
    → finding (of_tidied f) plans first ≡ finding f plans first
finding_alike f alike plans first lawful = ap (found_by plans first) (reduction_alike f alike first.0 first.1 (plan_at plans first.0) lawful)

plan_lawful : (plans : List Entries) (n : ℕ) → AllByRecursion (λ s. IsScenario s) plans → IsScenario (plan_at plans n)
plan_lawful [] n lawful = empty_lawful
plan_lawful (p ∷ ps) zero lawful = lawful.0
plan_lawful (p ∷ ps) (suc n) lawful = plan_lawful ps n lawful.1

pub findings_alike : (f : Say) → SaysAlike f → (plans : List Entries) → AllByRecursion (λ s. IsScenario s) plans → (firsts : List (ℕ × ℕ))
    → map (finding (of_tidied f) plans) firsts ≡ map (finding f plans) firsts
findings_alike f alike plans lawful [] = refl
findings_alike f alike plans lawful (x ∷ xs) =
    ap (λ (y : FindingFacts). y ∷ map (finding (of_tidied f) plans) xs) (finding_alike f alike plans x (plan_lawful plans x.0 lawful))
    ∙ ap (λ (ys : List FindingFacts). finding f plans x ∷ ys) (findings_alike f alike plans lawful xs)

-- ---- a component as one whose plans grow

abbrev over_points : Subject → List (List ℕ) → Subject
over_points t points = record { asks = t.asks; names = points; limit = t.limit; kinds = t.kinds }

module _ (outside : Description) (given : Given) (a : Answered) (depth : ℕ) (t : Subject) (is : IsComponent a.points a.listed t)
    (agrees : AgreesWithRuns t (told_in a.book)) (low : depth ≤ 64) (same : a.points ≡ outside.points) where
  abbrev pub c : Campaign
  c = campaign outside given depth t

  names : t.names ≡ outside.points
  names = is.names ∙ same

  pub grower_is : grower c ≡ t
  grower_is = ap (over_points t) (sym names)

  -- what it says of scenarios is what is known
  pub agree_each : EachAgrees (say c) (known a depth)
  unfolding verdict_with
  agree_each n s v lawful k =
      ap (λ (ns : List (List ℕ)). (outcome t.asks (given_of s ns given.plans.seed n t.limit)).verdict) (sym names)
      ∙ true_of t a.points a.listed (told_in a.book) depth is low agrees s v lawful k given.plans.seed n

  pub alike : SaysAlike (say c)
  alike = says_alike t.asks outside.points given.plans.seed t.limit

  abbrev pub runs : KnownRuns
  runs = runs_in a

  pub census_names : census_seen t given.plans.seed (clean_hits a) ≡ census_seen (grower c) given.plans.seed (clean_hits a)
  census_names = ap (λ (g : Subject). census_seen g given.plans.seed (clean_hits a)) (sym grower_is)

  pub plans_are : (list : List Entries) → list ≡ list_known t depth given.plans runs → list ≡ plans_seen c depth runs
  plans_are list is_list = is_list ∙ ap (λ (g : Subject). list_known g depth given.plans runs) (sym grower_is)

  pub growth_is : (list : List Entries) → list ≡ plans_seen c depth runs
      → growth_seen t given.plans.seed list depth runs ≡ growth_seen (grower c) given.plans.seed (plans_seen c depth runs) depth runs
  growth_is list e =
      ap (λ (g : Subject). growth_seen g given.plans.seed list depth runs) (sym grower_is)
      ∙ ap (λ (l : List Entries). growth_seen (grower c) given.plans.seed l depth runs) e

  abbrev pub first_ones : List Entries → List (ℕ × ℕ)
  first_ones list = first_failures (numbered (verdicts_from (say c) 0 list))

  abbrev pub facts : List Verdict → List FindingFacts → List ℕ → Option GrowthFacts → ReportFacts
  facts verdicts found counts g = record {
    label = outside.label;
    seed = given.plans.seed;
    clean = slice_index_or verdicts 0 verdict.Unresolved;
    census = counts;
    verdicts = verdicts;
    unmet = 0;
    findings = found;
    growth = g;
  }

  -- what is said of tidied scenarios makes the report
  pub report_is : (list : List Entries) (vs : List Verdict) (found : List FindingFacts) (failures : List (ℕ × ℕ)) (counts : List ℕ) (g : GrowthFacts) → list ≡ plans_seen c depth runs
      → AllByRecursion (λ s. IsScenario s) list → vs ≡ verdicts_from (say_each (say c)) 0 list → found ≡ map (finding (say_each (say c)) list) failures
      → first_failures (numbered (verdicts_from (say_each (say c)) 0 list)) ≡ failures → counts ≡ census_seen (grower c) given.plans.seed (clean_hits a)
      → g ≡ growth_seen (grower c) given.plans.seed (plans_seen c depth runs) depth runs → facts vs found counts (Some g) ≡ report_seen c depth runs
  report_is list vs found failures counts g e lawful vs_are found_are first_are counted grew =
      let verdicts : verdicts_from (say_each (say c)) 0 list ≡ verdicts_from (say c) 0 list = verdicts_alike (say c) alike 0 list lawful in
      let firsts : failures ≡ first_ones list = sym first_are ∙ ap (λ (x : List Verdict). first_failures (numbered x)) verdicts in
      let findings : found ≡ map (finding (say c) list) (first_ones list) =
      found_are ∙ findings_alike (say c) alike list lawful failures ∙ ap (map (finding (say c) list)) firsts in
      let counts' : List ℕ = census_seen (grower c) given.plans.seed (clean_hits a) in
      let grown : GrowthFacts = growth_seen (grower c) given.plans.seed (plans_seen c depth runs) depth runs in
      ap (λ (x : List Verdict). facts x found counts (Some g)) (vs_are ∙ verdicts)
      ∙ ap (λ (x : List FindingFacts). facts (verdicts_from (say c) 0 list) x counts (Some g)) findings
      ∙ ap (λ (x : List ℕ). facts (verdicts_from (say c) 0 list) (map (finding (say c) list) (first_ones list)) x (Some g)) counted
      ∙ ap (λ (x : GrowthFacts). facts (verdicts_from (say c) 0 list) (map (finding (say c) list) (first_ones list)) counts' (Some x)) grew
      ∙ ap (λ (l : List Entries). facts (verdicts_from (say c) 0 l) (map (finding (say c) l) (first_ones l)) counts' (Some grown)) e

  -- how the plans grew, by what is told of the list
  abbrev grew_by : List ℕ → ℕ → ℕ → ℕ → List ℕ → List CauseFacts → GrowthFacts
  grew_by levels last past untold most causes = record {
    depth = depth;
    levels = levels;
    onward = last;
    beyond = past;
    unseen = untold;
    reached = most;
    causes = causes;
  }

  abbrev causes_over : List Entries → List (List Rig) → List CauseFacts
  causes_over list these = map (cause_of list) (over (cause_at t given.plans.seed) these 0 (length these))

  pub grew : (l : GrownList) (untold : ℕ) (list : List Entries) (most : List ℕ) (causes : List (ℕ × ℕ)) → AreKnown t depth runs l → untold ≡ unseen_count runs l.plans → list ≡ plans_seen c depth runs
      → most ≡ reached_seen t depth runs → causes ≡ over (cause_at t given.plans.seed) l.plans 0 (length l.plans)
      → grew_by l.levels.items l.onward l.beyond untold most (map (cause_of list) causes) ≡ growth_seen (grower c) given.plans.seed (plans_seen c depth runs) depth runs
  grew l untold list most causes known unseen_is e reached_is caused =
      let levels : List ℕ = map (level_size t runs) (range_with_len 0 (depth + 1)) in
      let past : ℕ = level_size t runs (depth + 1) in
      let part : List (List Rig) = known_part t depth runs in
      ap (λ (x : List ℕ). grew_by x l.onward l.beyond untold most (map (cause_of list) causes)) known.levels
      ∙ ap (λ (x : ℕ). grew_by levels x l.beyond untold most (map (cause_of list) causes)) known.onward
      ∙ ap (λ (x : ℕ). grew_by levels (onward_seen t depth runs) x untold most (map (cause_of list) causes)) known.beyond
      ∙ ap (λ (x : ℕ). grew_by levels (onward_seen t depth runs) past x most (map (cause_of list) causes)) (unseen_is ∙ ap (unseen_count runs) known.plans)
      ∙ ap (λ (x : List ℕ). grew_by levels (onward_seen t depth runs) past (unseen_count runs part) x (map (cause_of list) causes)) reached_is
      ∙ ap (λ (x : List (ℕ × ℕ)). grew_by levels (onward_seen t depth runs) past (unseen_count runs part) (reached_seen t depth runs) (map (cause_of list) x)) caused
      ∙ ap (λ (x : List (List Rig)). grew_by levels (onward_seen t depth runs) past (unseen_count runs part) (reached_seen t depth runs) (causes_over list x)) known.plans
      ∙ growth_is list e

  -- what is shown beside the report
  abbrev shown_by : List Entries → List (List Rig) → ShownFacts
  shown_by list these = shown_of list these given.plans.storms (length given.plans.listed) given.source

  pub shown_is : (l : GrownList) (list : List Entries) → AreKnown t depth runs l → list ≡ plans_seen c depth runs → shown_by list l.plans ≡ shown_seen c depth runs
  shown_is l list known e =
      ap (λ (x : List Entries). shown_by x l.plans) e
      ∙ ap (λ (x : List (List Rig)). shown_by (plans_seen c depth runs) x) (known.plans ∙ ap (λ (g : Subject). known_part g depth runs) (sym grower_is))

-- the text of a report by what is told is that of each component that agrees
pub text_is : (form : Form) (outside : Description) (given : Given) (k : KnownList) (further list : List Entries) (all : List Verdict) (told : Told) (counts most : List ℕ) (untold : ℕ) (facts' : ReportFacts)
    (shown' : ShownFacts) (text : List ℕ) → IsDecided outside given k further list all told → IsCleanCensus k.answered counts → untold ≡ unseen_count (runs_in k.answered) k.list.plans
    → ((t : Subject) → IsComponent k.answered.points k.answered.listed t → AgreesWithRuns t (told_in k.answered.book) → most ≡ reached_seen t k.depth (runs_in k.answered))
    → facts' ≡ record {
      label = outside.label;
      seed = given.plans.seed;
      clean = slice_index_or all 0 verdict.Unresolved;
      census = counts;
      verdicts = all;
      unmet = 0;
      findings = told.findings.items;
      growth = Some (record {
        depth = k.depth;
        levels = k.list.levels.items;
        onward = k.list.onward;
        beyond = k.list.beyond;
        unseen = untold;
        reached = most;
        causes = map (cause_of list) told.causes.items;
      });
    }
    → shown' ≡ shown_of list k.list.plans given.plans.storms (length given.plans.listed) given.source
    → text ≡ text_in form outside.points (code_name outside.codes) (runs_told outside (told_in k.answered.book)) facts' shown' → IsTextOf form outside given k.answered k.depth text
text_is form outside given k further list all told counts most untold facts' shown' text d counted unseen_is reaches facts_are shown_are is_text t is agrees =
    let a = k.answered in
    let depth = k.depth in
    let c' : Campaign = campaign outside given depth t in
    let whole = d.lists_are.whole t is agrees in
    let e : list ≡ plans_seen c' depth (runs_in a) = plans_are outside given a depth t is agrees d.low d.points list (d.plans_are ∙ whole.whole) in
    let family = agree_each outside given a depth t is agrees d.low d.points in
    let growth' = grew outside given a depth t is agrees d.low d.points k.list untold list most told.causes.items whole.grown unseen_is e (reaches t is agrees) (d.told_is.causes t is d.low agrees given.plans.seed) in
    let report' = report_is outside given a depth t is agrees d.low d.points list all told.findings.items (known_failures (known a depth) list) counts _ e d.lawful
    (d.verdicts (say c') family) (d.told_is.findings (say c') family)
    (failures_are_first (known a depth) list (say c') d.lawful family d.none_open)
    (counted.each t is agrees given.plans.seed ∙ census_names outside given a depth t is agrees d.low d.points) growth' in
    let tell : Telling = runs_told outside (told_in a.book) in
    is_text ∙ ap (λ (r : ReportFacts). text_in form outside.points (code_name outside.codes) tell r shown') (facts_are ∙ report')
    ∙ ap (λ (s : ShownFacts). text_in form outside.points (code_name outside.codes) tell (report_seen c' depth (runs_in a)) s)
    (shown_are ∙ shown_is outside given a depth t is agrees d.low d.points k.list list whole.grown e)

-- the plans that grew come first
pub grown_first : (outside : Description) (given : Given) (k : KnownList) (further list : List Entries) (all : List Verdict) (told : Told) → IsDecided outside given k further list all told
    → take (length k.list.plans) list ≡ grown_scenarios outside.points k.list.plans
grown_first outside given k further list all told d =
    let grew : List (List Rig) = k.list.plans in
    ap (take (length grew)) d.plans_are
    ∙ ap (λ (n : ℕ). take n (grown_scenarios k.answered.points grew ++ further)) (sym (length-map grew (grown_scenario k.answered.points)))
    ∙ take-append_seam (grown_scenarios k.answered.points grew) further ∙ ap (λ (names : List (List ℕ)). grown_scenarios names grew) d.points

-- the number of the first failure that is told is that of each component's first plan that fails
pub first_is : (outside : Description) (given : Given) (k : KnownList) (further list : List Entries) (all : List Verdict) (told : Told) (first : Option ℕ) → IsDecided outside given k further list all told
    → first ≡ option_map (λ (f : FindingFacts). f.number) (slice_get told.findings.items 0) → IsFirstNumberOf outside given k.answered k.depth first
first_is outside given k further list all told first d is_first t is agrees =
    let a = k.answered in
    let depth = k.depth in
    let c' : Campaign = campaign outside given depth t in
    let whole = d.lists_are.whole t is agrees in
    let e : list ≡ plans_seen c' depth (runs_in a) = plans_are outside given a depth t is agrees d.low d.points list (d.plans_are ∙ whole.whole) in
    let family = agree_each outside given a depth t is agrees d.low d.points in
    let f : Say = say c' in
    let verdicts : verdicts_from (say_each f) 0 list ≡ verdicts_from f 0 list = verdicts_alike f (alike outside given a depth t is agrees d.low d.points) 0 list d.lawful in
    let firsts : known_failures (known a depth) list ≡ first_failures (numbered (verdicts_from f 0 (plans_seen c' depth (runs_in a)))) =
    sym (failures_are_first (known a depth) list f d.lawful family d.none_open) ∙ ap (λ (x : List Verdict). first_failures (numbered x)) verdicts
    ∙ ap (λ (l : List Entries). first_failures (numbered (verdicts_from f 0 l))) e in
    is_first ∙ ap (λ (x : List FindingFacts). option_map (λ (y : FindingFacts). y.number) (slice_get x 0)) (d.told_is.findings f family)
    ∙ number_of f list (known_failures (known a depth) list) ∙ ap (λ (x : List (ℕ × ℕ)). option_map (λ (p : ℕ × ℕ). p.0) (slice_get x 0)) firsts
  where
    number_of : (f : Say) (list : List Entries) (xs : List (ℕ × ℕ)) → option_map (λ (y : FindingFacts). y.number) (slice_get (map (finding (say_each f) list) xs) 0)
        ≡ option_map (λ (p : ℕ × ℕ). p.0) (slice_get xs 0)
    number_of f list [] = refl
    number_of f list (x ∷ xs) = refl

-- each cause that is told is a plan of the list
pub cause_within : (outside : Description) (given : Given) (k : KnownList) (further list : List Entries) (all : List Verdict) (told : Told) (causes : List (ℕ × ℕ)) → IsDecided outside given k further list all told
    → causes ≡ told.causes.items → (n : ℕ) (d : ℕ × ℕ) → n < length causes → (slice_index_or causes n d).0 < length list
cause_within outside given k further list all told causes decided is n d within =
    let among = decided.told_is.among n d (subst (λ (xs : List (ℕ × ℕ)). n < length xs) is within) in
    let here : (slice_index_or causes n d).0 < length k.list.plans = subst (λ (xs : List (ℕ × ℕ)). (slice_index_or xs n d).0 < length k.list.plans) (sym is) among in
    let parts : length list ≡ length k.list.plans + length further =
    ap length decided.plans_are ∙ length-append (grown_scenarios k.answered.points k.list.plans) further ∙ ap (λ (n : ℕ). n + length further) (length-map' k.list.plans) in
    omega (arith, here, parts)
  where
    length-map' : (plans : List (List Rig)) → length (grown_scenarios k.answered.points plans) ≡ length plans
    length-map' [] = refl
    length-map' (p ∷ ps) = let rest = length-map' ps in omega (arith, rest)
