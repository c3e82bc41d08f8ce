use Rattle.std.proofs.Common.{◌≡◌, ◌++◌, drop}
use Rattle.std.specs.String.{string_bytes}
use Rattle.report.specs.ReportText.{text_of}
use Rattle.campaign_core.specs.CommandTexts.{plan_lines}
use Rattle.campaign_core.proofs.listing.plans_text.Given as goal

abbrev pub invariant-loop-number : goal.invariant-loop-number
invariant-loop-number l = string_bytes l.text ++ text_of (plan_lines l.number (drop l.number l.plans)) ≡ text_of (plan_lines 0 l.plans)
