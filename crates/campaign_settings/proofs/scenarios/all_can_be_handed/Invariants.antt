use Rattle.std.proofs.Common.{◌≡◌, drop}
use Rattle.std.specs.List.{list_all}
use Rattle.campaign_settings.specs.Outside.{can_be_handed}
use Rattle.campaign_settings.proofs.scenarios.all_can_be_handed.Given as goal

abbrev pub invariant-loop-scenario : goal.invariant-loop-scenario
invariant-loop-scenario l = list_all can_be_handed (drop l.scenario-index l.scenarios) ≡ list_all can_be_handed l.scenarios
