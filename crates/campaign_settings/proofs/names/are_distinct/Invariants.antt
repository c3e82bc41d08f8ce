use Rattle.std.proofs.Common.{◌≡◌, drop}
use Rattle.campaign_given.specs.Description.{are_distinct}
use Rattle.campaign_settings.proofs.names.are_distinct.Given as goal

abbrev pub invariant-loop-i : goal.invariant-loop-i
invariant-loop-i l = are_distinct (drop l.i l.names) ≡ are_distinct l.names
