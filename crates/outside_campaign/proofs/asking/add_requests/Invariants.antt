use Rattle.std.proofs.Common.{◌≡◌, take}
use Rattle.answered_runs.specs.asked.Lines.{lines_behind}
use Rattle.outside_campaign.proofs.asking.add_requests.Given as goal

abbrev pub invariant-loop-request : goal.invariant-loop-request
invariant-loop-request l = l.lines ≡ lines_behind l.fn.lines (take l.request-index l.requests)
