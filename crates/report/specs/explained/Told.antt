-- One run, hit by hit, in which the last hits may be left out.
use Rattle.std.specs.Prelude.{ℕ, ◌-◌, List, [], length, take}
use Rattle.action_eval.specs.Answers.{Given, Reply, and_then}
use Rattle.target_trait.specs.Play.{Move}
use Rattle.target_trait.specs.Outcomes.{outcome}
use Rattle.report.specs.ReportText.{text_of}
use Rattle.report.specs.explained.Explained.{run_lines}

-- The lines of a run, and how many of its hits have no line among them.
pub record RunFacts : Type 0 where
  pub text : List ℕ
  pub left_out : ℕ

-- The lines of a component's run, for at most `most` hits.
abbrev pub run_facts : ℕ → (ℕ → List ℕ) → (List Reply → Move) → Given → RunFacts
run_facts most code_name asks g =
    let told = outcome asks g in
    let history = and_then g [] told.asked in
    record {
      text = text_of (run_lines g.catalogue code_name g.scenario told.verdict told.verdict history (take most history));
      left_out = length history - most;
    }
