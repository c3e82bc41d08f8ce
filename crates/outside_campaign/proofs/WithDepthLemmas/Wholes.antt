-- Where the hits of each run are told, the report of a campaign as far as it was seen is that of the whole one.
use Rattle.std.proofs.Common.{◌≡◌, ℕ, zero, suc, ◌+◌, ◌<◌, ◌≤◌, ◌^◌, true, All, IfSome, List, [], ◌∷◌, Some, None, Option, length, map, refl, ap, sym, ◌∙◌, subst, arith}
use Rattle.std.specs.Prelude.{option_map, slice_get}
use Rattle.std.specs.List.{AllByRecursion, range_with_len}
use Rattle.scenario_values.specs.Scenario.{Entries}
use Rattle.action_eval.specs.declared.rig.Rig.{Rig}
use Rattle.grown_plans.specs.GrownPlans.{Subject, beyond, grown, level, onward}
use Rattle.grown_plans.specs.Promises.{IsLawful}
use Rattle.grown_plans.proofs.Members.{all_contains}
use Rattle.grown_runs.specs.Grown.{level_sizes, reached_each}
use Rattle.grown_runs.specs.GrownRuns.{cause_at, over}
use Rattle.grown_runs.specs.known.Known.{KnownRuns, hits_of}
use Rattle.grown_runs.specs.known.KnownPart.{are_told, known_part, to_run}
use Rattle.grown_runs.specs.known.KnownPlans.{level_size}
use Rattle.grown_runs.specs.known.Promises.{IsWholeList}
use Rattle.grown_runs.specs.known.Unseen.{unseen}
use Rattle.grown_runs.proofs.KnownLemmas.Ends.{all_seen, ends_whole}
use Rattle.result_book.specs.Verdicts.{numbered, verdicts_from}
use Rattle.result_book.specs.FirstFailures.{first_failures}
use Rattle.report.specs.Reports.{CauseFacts, GrowthFacts, ReportFacts}
use Rattle.campaign_core.specs.Findings.{ReducesToMinimal, cause_of, growth_of, report_of}
use Rattle.campaign_core.specs.Headline.{Campaign, census, grower, grown_to, growth, plans, plans_to, report, say}
use Rattle.campaign_core.proofs.Promised.{keeps_promises}
use Rattle.answer_text.specs.Runs.{KnownRuns as ToldRuns}
use Rattle.report.specs.json_form.About.{ShownFacts, shown_of}
use Rattle.report.specs.forms.Forms.{text_in}
use Rattle.report.specs.declared.forms.forms.Form.{Form}
use Rattle.outside_campaign.specs.Telling.{telling}
use Rattle.answered_runs.specs.grown.Further.{census_seen}
use Rattle.answered_runs.specs.grown.Reached.{reached_seen}
use Rattle.answered_runs.proofs.GrownLemmas.Most.{reached_whole}
use Rattle.answered_runs.proofs.GrownLemmas.Whole.{empty_first, list_whole}
use Rattle.outside_campaign.specs.with_depth.Grown.{first_number, report_in, shown}
use Rattle.outside_campaign.specs.with_depth.Seen.{IsReportOf, first_number_seen, growth_seen, onward_seen, plans_seen, report_seen, report_seen_in, shown_seen}

sizes_are : (t : Subject) (known : KnownRuns) (d k n : ℕ) → ((m : ℕ) → m ≤ d + 1 → level_size t known m ≡ length (level t m)) → k + n ≤ d + 1
    → map (level_size t known) (range_with_len k n) ≡ map (λ (m : ℕ). length (level t m)) (range_with_len k n)
sizes_are t known d k zero each le = refl
sizes_are t known d k (suc n) each le =
    ap (λ (m : ℕ). m ∷ map (level_size t known) (range_with_len (k + 1) n)) (each k (omega (arith, le)))
    ∙ ap (λ (l : List ℕ). length (level t k) ∷ l) (sizes_are t known d (k + 1) n each (omega (arith, le)))

module _ (c : Campaign) (depth : ℕ) (known : KnownRuns) (at : c.given.depth ≡ Some depth) (done : to_run (grower c) depth known ≡ []) (none : unseen (grower c) depth known ≡ []) where
  abbrev t : Subject
  t = grower c

  whole : IsWholeList t depth known
  whole = ends_whole t depth known done none

  seen : AllByRecursion (λ plan. are_told (hits_of known plan) ≡ true) (grown t depth)
  seen = subst (λ (ps : List (List Rig)). AllByRecursion (λ plan. are_told (hits_of known plan) ≡ true) ps) whole.list (all_seen t depth known done none)

  clean : are_told (hits_of known []) ≡ true
  clean = all_contains (λ (plan : List Rig). are_told (hits_of known plan) ≡ true) (grown t depth) [] seen (empty_first t depth)

  pub plans_whole : plans_seen c depth known ≡ plans c
  plans_whole = list_whole t depth c.given.plans known whole clean ∙ ap (plans_to c) (sym at)

  census_whole : census_seen t c.given.plans.seed (hits_of known []) ≡ census c
  census_whole = by_hits (hits_of known []) clean
    where
      by_hits : (o : Option (List ℕ)) → are_told o ≡ true → census_seen t c.given.plans.seed o ≡ census c
      by_hits None e = absurd cc
      by_hits (Some hits) e = refl

  abbrev grew : List ℕ → ℕ → ℕ → ℕ → List ℕ → List CauseFacts → GrowthFacts
  grew levels last past untold most causes = record {
    depth = depth;
    levels = levels;
    onward = last;
    beyond = past;
    unseen = untold;
    reached = most;
    causes = causes;
  }

  abbrev causes_over : List Entries → List (List Rig) → List CauseFacts
  causes_over list these = map (cause_of list) (over (cause_at t c.given.plans.seed) these 0 (length these))

  onward_whole : onward_seen t depth known ≡ length (onward t depth)
  onward_whole = whole.onward_size

  growth_whole : Some (growth_seen t c.given.plans.seed (plans_seen c depth known) depth known) ≡ growth c
  growth_whole =
      let list : List Entries = plans_seen c depth known in
      let part : List (List Rig) = known_part t depth known in
      let one : depth + 1 ≡ suc depth = omega arith in
      let past : level_size t known (depth + 1) ≡ beyond t depth = whole.levels (depth + 1) (omega arith) ∙ ap (λ (n : ℕ). length (level t n)) one in
      ap (λ (x : List ℕ). Some (grew x (onward_seen t depth known) (level_size t known (depth + 1)) (length (unseen t depth known)) (reached_seen t depth known) (causes_over list part)))
      (sizes_are t known depth 0 (depth + 1) whole.levels (omega arith))
      ∙ ap (λ (x : ℕ). Some (grew (level_sizes t (depth + 1)) x (level_size t known (depth + 1)) (length (unseen t depth known)) (reached_seen t depth known) (causes_over list part))) onward_whole
      ∙ ap (λ (x : ℕ). Some (grew (level_sizes t (depth + 1)) (length (onward t depth)) x (length (unseen t depth known)) (reached_seen t depth known) (causes_over list part))) past
      ∙ ap (λ (x : List (List Rig)). Some (grew (level_sizes t (depth + 1)) (length (onward t depth)) (beyond t depth) (length x) (reached_seen t depth known) (causes_over list part))) none
      ∙ ap (λ (x : List ℕ). Some (grew (level_sizes t (depth + 1)) (length (onward t depth)) (beyond t depth) 0 x (causes_over list part))) (reached_whole t depth known whole.list seen)
      ∙ ap (λ (x : List (List Rig)). Some (grew (level_sizes t (depth + 1)) (length (onward t depth)) (beyond t depth) 0 (reached_each t depth) (causes_over list x))) whole.list
      ∙ ap (λ (l : List Entries). growth_of t c.given.plans.seed l (Some depth)) plans_whole
      ∙ ap (growth_of t c.given.plans.seed (plans c)) (sym at)

  report_whole : report_seen c depth known ≡ report c
  report_whole =
      let list : List Entries = plans_seen c depth known in
      ap (λ (x : List ℕ). report_of (say c) c.label c.given.plans.seed x list (Some (growth_seen t c.given.plans.seed list depth known))) census_whole
      ∙ ap (λ (x : Option GrowthFacts). report_of (say c) c.label c.given.plans.seed (census c) list x) growth_whole
      ∙ ap (λ (l : List Entries). report_of (say c) c.label c.given.plans.seed (census c) l (growth c)) plans_whole

  abbrev shown_by : List Entries → List (List Rig) → ShownFacts
  shown_by list these = shown_of list these c.given.plans.storms (length c.given.plans.listed) c.given.source

  shown_whole : shown_seen c depth known ≡ shown c
  shown_whole =
      ap (λ (l : List Entries). shown_by l (known_part t depth known)) plans_whole
      ∙ ap (shown_by (plans c)) whole.list
      ∙ ap (λ (o : Option ℕ). shown_by (plans c) (grown_to c o)) (sym at)

  pub report_in_whole : (form : Form) (told : ToldRuns) → report_seen_in form c told depth known ≡ report_in form c told
  report_in_whole form told =
      ap (λ (r : ReportFacts). text_in form c.points c.codes (telling c.points c.codes told) r (shown_seen c depth known)) report_whole
      ∙ ap (text_in form c.points c.codes (telling c.points c.codes told) (report c)) shown_whole

  pub first_whole : first_number_seen c depth known ≡ first_number c
  first_whole = ap (λ (l : List Entries). option_map (λ (first : ℕ × ℕ). first.0) (slice_get (first_failures (numbered (verdicts_from (say c) 0 l))) 0)) plans_whole

  pub is_whole : IsLawful t → c.given.max_hits < 2 ^ 32 → depth ≤ 64 → All (ReducesToMinimal (say c)) (report_seen c depth known).findings
      → (form : Form) (told : ToldRuns) (text : List ℕ) (first : Option ℕ) → text ≡ report_seen_in form c told depth known → first ≡ first_number_seen c depth known
      → IsReportOf form c told text first
  is_whole l few low minimal form told text first text_is first_is = record {
    text_is = text_is ∙ report_in_whole form told;
    first_is = first_is ∙ first_whole;
    promises =
        keeps_promises c l few (subst (λ (o : Option ℕ). IfSome o (λ d. d ≤ 64)) (sym at) low)
        (subst (λ (r : ReportFacts). All (ReducesToMinimal (say c)) r.findings) report_whole minimal);
  }
