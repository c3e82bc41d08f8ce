use Rattle.std.proofs.Common.{◌≡◌, drop, option_and_then}
use Rattle.toml.specs.View.{table_view}
use Rattle.campaign_settings.specs.Lists.{each}
use Rattle.campaign_settings.specs.Outside.{texts_for, faults_where}
use Rattle.campaign_settings.proofs.ListLemmas.{joined}
use Rattle.campaign_settings.proofs.kinds.copy_kinds.Given as goal

abbrev pub invariant-loop-point : goal.invariant-loop-point
invariant-loop-point l =
    joined l.kinds.items (each (λ point. option_and_then faults_where (texts_for (table_view l.table) point)) (drop l.point-index l.points))
    ≡ each (λ point. option_and_then faults_where (texts_for (table_view l.table) point)) l.points
