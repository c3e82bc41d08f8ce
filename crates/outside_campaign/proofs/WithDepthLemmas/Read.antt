-- What is told of a text of answers that was read.
use Rattle.std.proofs.Common.{◌≡◌, ◌≤◌, ℕ, true, false, List, [], length, Some, None, Option, Ok, is_none, refl, ap, sym, ◌∙◌, subst}
use Rattle.std.specs.List.{AllByRecursion}
use Rattle.action_eval.specs.declared.rig.Rig.{Rig}
use Rattle.action_eval.specs.declared.rig.Kind.{Kind}
use Rattle.grown_plans.specs.GrownPlans.{Subject}
use Rattle.grown_plans.specs.Promises.{IsLawful}
use Rattle.grown_plans.proofs.Members.{all_weaker}
use Rattle.answer_text.specs.Runs.{known_runs, known_strangers, runs_of, told_in}
use Rattle.answer_text.specs.declared.runs.RunLine.{RunLine}
use Rattle.grown_runs.specs.known.KnownPart.{are_told, known_part, to_run}
use Rattle.grown_runs.specs.known.ToldPart.{part_known}
use Rattle.grown_runs.proofs.KnownLemmas.Listed.{filter_all, part_is}
use Rattle.action_eval.specs.Catalogue.{IsCatalogue}
use Rattle.answered_runs.specs.Agreement.{AreOfOne}
use Rattle.answered_runs.specs.Answered.{Answered, CanBeListed, known_plans, runs_in}
use Rattle.answered_runs.specs.Components.{AgreesWithRuns, IsComponent}
use Rattle.answered_runs.specs.WholeList.{AreAllTold}
use Rattle.answered_runs.proofs.Runs.{agree}
use Rattle.answered_runs.proofs.SomeComponent.{agreeing}
use Rattle.plan_gen.specs.PlanList.{most_plans}
use Rattle.campaign_given.specs.Description.{Description}
use Rattle.campaign_given.specs.Given.{Given}
use Rattle.campaign_core.specs.Headline.{Campaign, grower}
use Rattle.report.specs.declared.forms.forms.Form.{Form}
use Rattle.outside_campaign.specs.with_depth.Kinds.{listed_kinds}
use Rattle.outside_campaign.specs.with_depth.Grown.{campaign, listed, untried}
use Rattle.outside_campaign.specs.with_depth.Questions.{IsReportedText, Tells}
use Rattle.outside_campaign.specs.with_depth.Seen.{IsReportAsSeen, first_number_seen, report_seen_in}
use Rattle.outside_campaign.specs.with_depth.inside.Outcomes.{AreLawfulOf, IsFirstNumberOf, IsTextOf}
use Rattle.outside_campaign.proofs.WithDepthLemmas.AsSeen.{further_seen, keeps_promises, minimal_seen}
use Rattle.outside_campaign.proofs.WithDepthLemmas.Reports.{grower_is}
use Rattle.outside_campaign.proofs.WithDepthLemmas.Wholes.{is_whole}

pub tells : (outside : Description) (answers : List ℕ) (a : Answered) (codes points : List (List ℕ)) → codes ≡ outside.codes → points ≡ outside.points → a.points ≡ outside.points
    → a.listed ≡ listed_kinds outside → told_in a.book ≡ known_runs codes points answers → a.book.strangers ≡ known_strangers points (runs_of codes points answers)
    → (lines : List RunLine) × (runs_of codes points answers ≡ Ok lines) → Tells outside answers a
tells outside answers a codes points codes_are points_are same kinds told strangers read = record {
  points = same;
  listed = kinds;
  told = told ∙ ap (λ (cs : List (List ℕ)). known_runs cs points answers) codes_are ∙ ap (λ (ps : List (List ℕ)). known_runs outside.codes ps answers) points_are;
  strangers =
      strangers ∙ ap (λ (cs : List (List ℕ)). known_strangers points (runs_of cs points answers)) codes_are
      ∙ ap (λ (ps : List (List ℕ)). known_strangers ps (runs_of outside.codes ps answers)) points_are;
  lines = read.0;
  read = ap (λ (cs : List (List ℕ)). runs_of outside.codes cs answers) (sym points_are) ∙ ap (λ (cs : List (List ℕ)). runs_of cs points answers) (sym codes_are) ∙ read.1;
}

-- ---- each component's plans that are known are answered

told_one : {A : Type 0} (o : Option A) → are_told o ≡ true → is_none o ≡ false
told_one None e = absurd cc
told_one (Some x) e = refl

nothing_to_run : (a : Answered) (depth : ℕ) (t : Subject) → IsComponent a.points a.listed t → depth ≤ 64 → AgreesWithRuns t (told_in a.book) → AreAllTold (runs_in a) (known_plans a depth) → to_run t depth (runs_in a) ≡ []
nothing_to_run a depth t is low agrees told =
    let same : known_part t depth (runs_in a) ≡ known_plans a depth =
    part_is t is.lawful depth (runs_in a) (agree t a.points a.listed (told_in a.book) depth is low agrees) ∙ ap (λ (ks : ℕ → List Kind). part_known ks (runs_in a) depth) is.kinds in
    filter_all (λ (plan : List Rig). is_none (runs_in a plan)) false (known_part t depth (runs_in a))
    (subst (λ (ps : List (List Rig)). AllByRecursion (λ plan. is_none (runs_in a plan) ≡ false) ps) (sym same)
    (all_weaker (λ (plan : List Rig). are_told (runs_in a plan) ≡ true) (λ (plan : List Rig). is_none (runs_in a plan) ≡ false) (λ plan e. told_one (runs_in a plan) e) (known_plans a depth) told))

-- ---- the report of each component

as_seen : (form : Form) (outside : Description) (given : Given) (a : Answered) (depth : ℕ) (text : List ℕ) (first : Option ℕ) → depth ≤ 64 → a.points ≡ outside.points
    → IsTextOf form outside given a depth text → IsFirstNumberOf outside given a depth first → AreLawfulOf outside given a depth → AreAllTold (runs_in a) (known_plans a depth)
    → (t : Subject) → IsComponent a.points a.listed t → AgreesWithRuns t (told_in a.book) → IsReportAsSeen form (campaign outside given depth t) (told_in a.book) depth (runs_in a) text first
as_seen form outside given a depth text first low same is_text is_first lawful told t is agrees =
    let c : Campaign = campaign outside given depth t in
    let own : t ≡ grower c = sym (grower_is outside given a depth t is agrees low same) in
    let done : to_run t depth (runs_in a) ≡ [] = nothing_to_run a depth t is low agrees told in
    let text_is : text ≡ report_seen_in form c (told_in a.book) depth (runs_in a) = is_text t is agrees in
    let first_is : first ≡ first_number_seen c depth (runs_in a) = is_first t is agrees in
    let own_lawful : IsLawful (grower c) = subst IsLawful own is.lawful in
    let own_done : to_run (grower c) depth (runs_in a) ≡ [] = subst (λ (g : Subject). to_run g depth (runs_in a) ≡ []) own done in
    let scenarios = lawful t is agrees in
    record {
      text_is = text_is;
      first_is = first_is;
      whole = λ none.
          is_whole c depth (runs_in a) refl own_done none own_lawful is.few low (minimal_seen c depth (runs_in a) own_lawful own_done is.few low scenarios) form (told_in a.book) text first text_is first_is;
      promises = keeps_promises c depth (runs_in a) own_lawful own_done is.few low scenarios;
      further = further_seen c depth (runs_in a) own_lawful own_done is.few low scenarios;
    }

pub reported : (form : Form) (outside : Description) (given : Given) (a : Answered) (depth : ℕ) (answers text : List ℕ) (first : Option ℕ) → depth ≤ 64 → Tells outside answers a
    → IsCatalogue a.points → AllByRecursion CanBeListed a.listed → IsTextOf form outside given a depth text → IsFirstNumberOf outside given a depth first → AreLawfulOf outside given a depth → AreOfOne a → AreAllTold (runs_in a) (known_plans a depth) → untried a depth given.plans ≡ []
    → length (listed a depth given.plans) ≤ most_plans → IsReportedText form outside given depth answers text first
reported form outside given a depth answers text first low t points listed is_text is_first lawful one told all few = record {
  runs = a;
  tells = t;
  agree = one;
  all = all;
  few = few;
  some = agreeing a depth low (record {
    points = points;
    listed = listed;
    names = outside.codes;
    text = answers;
    read = t.told ∙ ap (λ (ps : List (List ℕ)). known_runs outside.codes ps answers) (sym t.points);
  }) one;
  each =
      λ s agrees. as_seen form outside given a depth text first low t.points is_text is_first lawful told s
      (subst (λ (ps : List (List ℕ)). IsComponent ps a.listed s) (sym t.points) (subst (λ (ls : List (List Kind)). IsComponent outside.points ls s) (sym t.listed) agrees.component)) (subst (AgreesWithRuns s) (sym t.told) agrees.agrees);
}
