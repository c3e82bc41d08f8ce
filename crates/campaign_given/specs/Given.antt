-- What settings say of a campaign.
use Rattle.std.specs.Prelude.{ℕ, Bool, ◌≡◌, ◌≤◌, false, List, [], Option, None, IfSome, length}
use Rattle.scenario_values.specs.Scenario.{Entries}
use Rattle.action_eval.specs.Answers.{Reply}
use Rattle.target_trait.specs.declared.judgement.Verdict.{Verdict}
use Rattle.target_trait.specs.Outcomes.{verdict_with}
use Rattle.target_trait.specs.Play.{Move}
use Rattle.plan_gen.specs.PlanList.{Asked}

-- How many workers there are; how many hits of a run are answered; up to how many faults each behaviour is tried with, if plans grow from each run's
-- own hits; whether each run ends with a power cut that asks which pending writes it keeps; what the list of plans is made from, with the seed of
-- every draw; and the text from which all of it was read.
pub record Given : Type 0 where
  pub workers : ℕ
  pub max_hits : ℕ
  pub depth : Option ℕ
  pub crash_states : Bool
  pub plans : Asked
  pub source : List ℕ

-- The defaults.
abbrev pub defaults : Given
defaults = record {
  workers = 1;
  max_hits = 1000;
  depth = None;
  crash_states = false;
  plans = record { pairs = false; storms = 0; rate = 100; listed = []; seed = 0 };
  source = [];
}

-- The same, as read from a text.
abbrev pub read_from : List ℕ → Given → Given
read_from text g = record {
  workers = g.workers;
  max_hits = g.max_hits;
  depth = g.depth;
  crash_states = g.crash_states;
  plans = g.plans;
  source = text;
}

-- The same, with this many workers.
abbrev pub with_workers : ℕ → Given → Given
with_workers workers g = record {
  workers = workers;
  max_hits = g.max_hits;
  depth = g.depth;
  crash_states = g.crash_states;
  plans = g.plans;
  source = g.source;
}

-- The ranges of the values. With a depth there are no pairs.
pub record IsGiven (g : Given) : Type 0 where
  pub seed : g.plans.seed ≤ 9223372036854775807
  pub some_workers : 1 ≤ g.workers
  pub few_workers : g.workers ≤ 64
  pub some_hits : 1 ≤ g.max_hits
  pub few_hits : g.max_hits ≤ 100000
  pub some_depth : IfSome g.depth (λ faults. 1 ≤ faults)
  pub low_depth : IfSome g.depth (λ faults. faults ≤ 64)
  pub depth_without_pairs : IfSome g.depth (λ _. g.plans.pairs ≡ false)
  pub few_storms : g.plans.storms ≤ 10000
  pub rate : g.plans.rate ≤ 1000
  pub few_listed : length g.plans.listed ≤ 1000

-- The verdict of a scenario under a stream number, for a component over points with these names.
abbrev pub verdict_on : (List Reply → Move) → List (List ℕ) → Given → ℕ → Entries → Verdict
verdict_on asks names given = verdict_with asks names given.plans.seed given.max_hits
