use Rattle.std.proofs.Common.{◌≡◌, drop}
use Rattle.campaign_settings.specs.Lists.{each}
use Rattle.campaign_settings.specs.Outside.{fault_of}
use Rattle.campaign_settings.proofs.ListLemmas.{joined}
use Rattle.campaign_settings.proofs.kinds.copy_each.Given as goal

abbrev pub invariant-loop-text : goal.invariant-loop-text
invariant-loop-text l = joined l.faults.items (each fault_of (drop l.text-index l.spelled)) ≡ each fault_of l.spelled
