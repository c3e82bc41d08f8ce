-- What the runs of a proved target come to.
use Rattle.std.specs.Prelude.{◌≡◌, ℕ, Bool, false, List}
use Rattle.action_eval.specs.Answers.{given_of}
use Rattle.target_trait.specs.Outcomes.{outcome}
use Rattle.target_trait.specs.declared.target.Target.{Ghosts}
use Rattle.campaign_core.specs.target_laws.Candidates.{Look}

-- A run came to what the target's definition gives, and asked nothing more.
pub record IsMadeOf {T W : Type 0} (target : Ghosts T W) (setup : T) (workload : W) (run : Look) : Type 0 where
  pub verdict : run.verdict ≡ (outcome (target.asks setup workload) (given_of run.scenario target.names run.seed run.stream run.limit)).verdict
  pub asked : run.asked ≡ (outcome (target.asks setup workload) (given_of run.scenario target.names run.seed run.stream run.limit)).asked
  pub stays : run.is_asked_on ≡ false
