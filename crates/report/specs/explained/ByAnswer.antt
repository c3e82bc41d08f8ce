-- A run of a component that somebody else runs, hit by hit, from what an answer says of it: its scenario, its verdict and the points of its hits.
use Rattle.std.specs.Prelude.{ℕ, ◌-◌, Bool, nat_lt, List, [], length, take}
use Rattle.scenario_values.specs.Scenario.{Entries}
use Rattle.action_eval.specs.Answers.{Hit, and_then, given_of}
use Rattle.target_trait.specs.declared.judgement.Verdict.{Verdict}
use Rattle.target_trait.specs.declared.judgement.Verdict.TheVariants as verdict
use Rattle.report.specs.ReportText.{text_of}
use Rattle.report.specs.explained.Explained.{idle_lines, run_lines}
use Rattle.report.specs.explained.Told.{RunFacts}

-- What acted at the hits of these points under a scenario. Shares are 0 or 100 percent, so nothing is drawn, whatever the seed and the stream number;
-- and no limit cuts the hits off.
abbrev pub answered_hits : List (List ℕ) → Entries → List ℕ → List Hit
answered_hits points scenario hits = and_then (given_of scenario points 0 0 (length hits)) [] hits

-- Whether a fault of the scenario never acted, by the lines of the run.
abbrev pub has_idle : List (List ℕ) → Entries → List ℕ → Bool
has_idle points scenario hits = nat_lt 0 (length (idle_lines (answered_hits points scenario hits) scenario))

-- The text of a run, with the same lines as for a target's run, except for the limit. Nobody knows the limit of such a component, so if nothing else
-- stopped the run there is no line that says what did.
abbrev pub answer_text : List (List ℕ) → (ℕ → List ℕ) → Entries → Verdict → List ℕ → List ℕ
answer_text points code_name scenario v hits =
    let history = answered_hits points scenario hits in
    text_of (run_lines points code_name scenario v verdict.Pass history history)

-- The same, with lines for at most `most` hits.
abbrev pub answer_facts : ℕ → List (List ℕ) → (ℕ → List ℕ) → Entries → Verdict → List ℕ → RunFacts
answer_facts most points code_name scenario v hits =
    let history = answered_hits points scenario hits in
    record {
      text = text_of (run_lines points code_name scenario v verdict.Pass history (take most history));
      left_out = length history - most;
    }
