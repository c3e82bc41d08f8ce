-- What a session knows of its chains before the first hit.
use Rattle.std.specs.Prelude.{◌≡◌, ℕ, List, [], map}
use Rattle.scenario_values.specs.Scenario.{Entries, IsScenario}
use Rattle.action_eval.specs.declared.found.Layout.{Layout}
use Rattle.action_eval.specs.declared.session.Faults.{Faults}
use Rattle.action_eval.specs.declared.session.Faults.TheVariants.{Written, Rigged}
use Rattle.action_eval.specs.Words.{Drawn}
use Rattle.action_eval.specs.Answers.{Run}
use Rattle.action_eval.specs.inside.Session.{AreSpans, found_of, head_of, left_counts, seen_in}

-- The scenario by which a session's hits are answered.
abbrev pub faults_of : Faults → Entries
faults_of (Written scenario) = scenario.now
faults_of (Rigged table) = table.now.scenario

-- The run that a session stands for, given what it holds.
abbrev pub run_of : Faults → List (List ℕ) → Drawn → ℕ → List ℕ → Run
run_of faults names draws limit hits = record {
  given = record { scenario = faults_of faults; catalogue = names; seed = draws.seed; stream = draws.stream; limit = limit };
  hits = hits;
}

-- The layout has the place where each point's chain is stored, what the first hit of each point meets, and the counts of all terms.
pub record IsLayout (scenario : Entries) (names : List (List ℕ)) (layout : Layout) : Type 0 where
  pub limits : IsScenario scenario
  pub are_spans : AreSpans scenario layout.spans.items
  pub found_is : map (seen_in scenario) layout.spans.items ≡ map (found_of scenario) names
  pub heads_are : layout.heads.items ≡ map head_of (map (seen_in scenario) layout.spans.items)
  pub left_is : layout.left.items ≡ left_counts [] scenario
