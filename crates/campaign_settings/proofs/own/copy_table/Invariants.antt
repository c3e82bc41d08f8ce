use Rattle.std.proofs.Common.{◌≡◌}
use Rattle.toml.specs.View.{members_view, table_view}
use Rattle.campaign_settings.specs.Own.{own_table}
use Rattle.campaign_settings.proofs.ListLemmas.{joined}
use Rattle.campaign_settings.proofs.own.copy_table.Given as goal

abbrev pub invariant-loop-name : goal.invariant-loop-name
invariant-loop-name l = joined l.words.items (own_table (members_view l.name-iterator)) ≡ own_table (table_view l.table)
