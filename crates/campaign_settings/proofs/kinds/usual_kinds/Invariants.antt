use Rattle.std.proofs.Common.{◌≡◌, [], replicate}
use Rattle.campaign_settings.proofs.kinds.usual_kinds.Given as goal

abbrev pub invariant-loop : goal.invariant-loop
invariant-loop l = l.kinds.items ≡ replicate l.counter []
