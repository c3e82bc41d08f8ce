-- The verdict of a scenario on an input that all runs share.
use Rattle.std.specs.Prelude.{ℕ}
use Rattle.scenario_values.specs.Scenario.{Entries}
use Rattle.target_trait.specs.declared.judgement.Verdict.{Verdict}
use Rattle.target_trait.specs.declared.target.Target.{Ghosts}
use Rattle.campaign_given.specs.Given.{verdict_on}
use Rattle.result_book.specs.declared.input.RunInput.{RunInput}

-- The verdict of a scenario under a stream number, on an input.
abbrev pub input_says : {T W : Type 0} → Ghosts T W → T → RunInput T W → ℕ → Entries → Verdict
input_says target setup input = verdict_on (target.asks setup input.workload.now) target.names input.settings.now
