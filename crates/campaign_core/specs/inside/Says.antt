-- The verdicts of a target's runs, in the terms that all targets share. Private contracts cite them.
use Rattle.std.specs.Prelude.{ℕ}
use Rattle.scenario_values.specs.Scenario.{Entries}
use Rattle.campaign_given.specs.Given.{verdict_on}
use Rattle.target_trait.specs.declared.judgement.Verdict.{Verdict}
use Rattle.target_trait.specs.declared.target.Target.{Ghosts}
use Rattle.campaign_core.specs.declared.probe.Failure.{Failure}

-- The verdict of a scenario under a stream number, in the tests that reduce a failure.
abbrev pub failure_says : {T W : Type 0} → (target : Ghosts T W) → T → Failure T W target → ℕ → Entries → Verdict
failure_says target setup failure = verdict_on (target.asks setup failure.workload.now) target.names failure.settings.now
