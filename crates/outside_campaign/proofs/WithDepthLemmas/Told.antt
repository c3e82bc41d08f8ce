-- What is told of a campaign whose plans are all decided.
use Rattle.std.proofs.Common.{◌≡◌, ◌≤◌, ◌<◌, ◌++◌, ℕ, List, [], ◌∷◌, Some, Result, Ok, Err, IsErrAnd, length, map, ap, sym, ◌∙◌, subst, arith}
use Rattle.std.specs.Prelude.{IfErr}
use Rattle.std.specs.List.{AllByRecursion}
use Rattle.std.proofs.lemmas.List.{length-map}
use Rattle.scenario_values.specs.Scenario.{Entries, IsScenario}
use Rattle.scenario_values.specs.Tidied.{tidied}
use Rattle.action_eval.specs.declared.rig.Rig.{Rig}
use Rattle.grown_plans.specs.numbered.GrownScenarios.{grown_scenarios}
use Rattle.grown_plans.specs.GrownPlans.{Subject}
use Rattle.plan_gen.specs.PlanList.{Asked}
use Rattle.target_trait.specs.declared.judgement.Verdict.{Verdict}
use Rattle.answer_text.specs.Known.{KnownVerdicts}
use Rattle.answer_text.specs.Runs.{told_in}
use Rattle.answered_runs.specs.Answered.{Answered, known_plans, runs_in}
use Rattle.answered_runs.specs.Components.{AgreesWithRuns, IsComponent}
use Rattle.answered_runs.specs.WholeList.{AreAllTold}
use Rattle.answered_runs.specs.KnownLists.{IsKnownList, KnownList}
use Rattle.campaign_given.specs.Description.{Description}
use Rattle.campaign_given.specs.Given.{Given}
use Rattle.result_book.specs.Verdicts.{verdicts_from}
use Rattle.outside_campaign.specs.Asked.{open_plans, plan_verdicts}
use Rattle.outside_campaign.specs.Outside.{Components, EachAgrees, say_each}
use Rattle.answered_runs.specs.grown.Causes.{open_scenarios}
use Rattle.answered_runs.specs.grown.Further.{HasFewHits, further_told}
use Rattle.answered_runs.specs.grown.Lists.{IsListOf}
use Rattle.outside_campaign.specs.with_depth.Grown.{candidates, known, listed}
use Rattle.outside_campaign.specs.declared.with_depth.candidates.Told.{Told}
use Rattle.outside_campaign.specs.declared.with_depth.fault.QuestionFault.{QuestionFault}
use Rattle.outside_campaign.specs.with_depth.inside.Outcomes.{AreToldLists, IsDecided, IsTold, open_candidates}
use Rattle.outside_campaign.proofs.WithDepthLemmas.Refused.{some_known}

-- a fault that is passed up
pub err_with : {A : Type 0} (P : QuestionFault → Type 0) (result : Result A QuestionFault) (why : QuestionFault) → IsErrAnd result (λ e. e ≡ why) → P why → IfErr result P
err_with P (Ok x) why is h = tt
err_with P (Err e) why is h = subst P (sym is) h

-- the list, by the settings as contracts see them
pub lists_told : (k : KnownList) (asked' asked : Asked) (further : List Entries) → asked' ≡ asked → IsKnownList k.answered k.depth k.list → further ≡ further_told k.answered asked' → AreAllTold (runs_in k.answered) k.list.plans
    → ((t : Subject) → IsComponent k.answered.points k.answered.listed t → AgreesWithRuns t (told_in k.answered.book) → IsListOf t k.depth asked' k.answered k.list further) → AreToldLists k asked further
lists_told k asked' asked further alike is behind told whole = record {
  grown = is.plans;
  further_are = behind ∙ ap (further_told k.answered) alike;
  told = told;
  whole = λ t here agrees. subst (λ (x : Asked). IsListOf t k.depth x k.answered k.list further) alike (whole t here agrees);
}

pub is_listed : (k : KnownList) (asked : Asked) (further plans : List Entries) → AreToldLists k asked further → plans ≡ grown_scenarios k.answered.points k.list.plans ++ further → plans ≡ listed k.answered k.depth asked
is_listed k asked further plans s is =
    is ∙ ap (λ (ps : List (List Rig)). grown_scenarios k.answered.points ps ++ further) s.grown
    ∙ ap (λ (l : List Entries). grown_scenarios k.answered.points (known_plans k.answered k.depth) ++ l) s.further_are

-- the same before it is known that each is answered
pub listed_all : (k : KnownList) (asked' asked : Asked) (further plans : List Entries) → asked' ≡ asked → k.list.plans ≡ known_plans k.answered k.depth → further ≡ further_told k.answered asked'
    → plans ≡ grown_scenarios k.answered.points k.list.plans ++ further → plans ≡ listed k.answered k.depth asked
listed_all k asked' asked further plans alike grew behind is =
    is ∙ ap (λ (ps : List (List Rig)). grown_scenarios k.answered.points ps ++ further) grew
    ∙ ap (λ (l : List Entries). grown_scenarios k.answered.points (known_plans k.answered k.depth) ++ l) (behind ∙ ap (further_told k.answered) alike)

-- what the reductions and the causes of these plans wait for are the candidates
pub are_candidates : (a : Answered) (depth : ℕ) (asked : Asked) (plans : List Entries) (grew : List (List Rig)) → plans ≡ listed a depth asked → grew ≡ known_plans a depth
    → open_candidates a depth plans ++ open_scenarios a depth grew ≡ candidates a depth asked
are_candidates a depth asked plans grew is grown =
    ap (λ (l : List Entries). open_candidates a depth l ++ open_scenarios a depth grew) is
    ∙ ap (λ (ps : List (List Rig)). open_candidates a depth (listed a depth asked) ++ open_scenarios a depth ps) grown

pub no_candidates : (a : Answered) (depth : ℕ) (asked : Asked) (plans : List Entries) (grew : List (List Rig)) (told : Told) → plans ≡ listed a depth asked → grew ≡ known_plans a depth
    → IsTold a depth plans grew told → candidates a depth asked ≡ []
no_candidates a depth asked plans grew told is grown h =
    sym (are_candidates a depth asked plans grew is grown)
    ∙ ap (λ (l : List Entries). l ++ open_scenarios a depth grew) h.none_open ∙ h.none_lesser

-- each plan's verdict is known, and these are they
abbrev pub AreAllVerdicts : KnownVerdicts → List Entries → List Verdict → Type 0
AreAllVerdicts k plans v =
    (map (λ x. Some x) v ≡ plan_verdicts k plans) × (open_plans k plans ≡ [])
    × ((components : Components) → EachAgrees components k → v ≡ verdicts_from (say_each components) 0 plans)

pub each_verdict : (k : KnownVerdicts) (plans : List Entries) (all : List Verdict) → map (λ v. Some v) all ≡ plan_verdicts k plans → length all ≡ length plans
each_verdict k plans all is = sym (length-map all (λ (v : Verdict). Some v)) ∙ ap length is ∙ length-map plans (λ (p : Entries). k (tidied p))

pub decide : (outside : Description) (given : Given) (k : KnownList) (further plans : List Entries) (all v : List Verdict) (told : Told) → k.answered.points ≡ outside.points → k.depth ≤ 64 → HasFewHits k.answered
    → AreToldLists k given.plans further → plans ≡ grown_scenarios k.answered.points k.list.plans ++ further → AllByRecursion (λ s. IsScenario s) plans → all ≡ v → AreAllVerdicts (known k.answered k.depth) plans v
    → IsTold k.answered k.depth plans k.list.plans told → IsDecided outside given k further plans all told
decide outside given k further plans all v told points low clean s is lawful same verdicts h = record {
  points = points;
  low = low;
  clean = clean;
  lists_are = s;
  plans_are = is;
  lawful = lawful;
  none_open = verdicts.1;
  verdicts = λ components agrees. same ∙ verdicts.2 components agrees;
  many = ap length same ∙ each_verdict (known k.answered k.depth) plans v verdicts.0;
  told_is = h;
}

-- there is a verdict, since there is a plan
pub some_verdict : (k : KnownList) (asked : Asked) (further plans : List Entries) (all v : List Verdict) → AreToldLists k asked further → plans ≡ grown_scenarios k.answered.points k.list.plans ++ further → all ≡ v
    → AreAllVerdicts (known k.answered k.depth) plans v → 0 < length all
some_verdict k asked further plans all v s is same verdicts =
    let many : length all ≡ length plans = ap length same ∙ each_verdict (known k.answered k.depth) plans v verdicts.0 in
    let grew : length k.list.plans ≡ length (known_plans k.answered k.depth) = ap length s.grown in
    let parts = parts_of k.list.plans further in
    let whole : length plans ≡ length (grown_scenarios k.answered.points k.list.plans ++ further) = ap length is in
    let some = some_known k.answered k.depth in
    omega (arith, many, grew, parts, whole, some)
  where
    parts_of : (ps : List (List Rig)) (more : List Entries) → length ps ≤ length (grown_scenarios k.answered.points ps ++ more)
    parts_of [] more = omega arith
    parts_of (p ∷ ps) more = let rest = parts_of ps more in omega (arith, rest)
