use Rattle.std.proofs.Common.{◌≡◌, ◌≤◌, drop, length}
use Rattle.campaign_settings.specs.Settings.{spelled_from}
use Rattle.campaign_settings.proofs.SettingsLemmas.{glued}
use Rattle.campaign_settings.proofs.scenarios.parse_all.Given as goal

abbrev pub invariant-loop-text : goal.invariant-loop-text
invariant-loop-text l = (glued l.scenarios.items (spelled_from l.number (drop l.text-index l.texts)) ≡ spelled_from 0 l.texts)
    × (l.number ≡ l.text-index) × (length l.scenarios.items ≡ l.text-index) × (length l.texts ≤ 1000)
