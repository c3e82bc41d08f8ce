use Rattle.std.proofs.Common.{◌≡◌, length}
use Rattle.campaign_main.specs.Following.{lines_with}
use Rattle.campaign_main.specs.inside.Looks.{IsOfItsLines}
use Rattle.campaign_main.proofs.told.Told.add_all.Given as goal

abbrev pub invariant-loop-rest : goal.invariant-loop-rest
invariant-loop-rest l = IsOfItsLines l.self × (lines_with l.fn.self.lines.keys l.fn.text ≡ lines_with l.self.lines.keys l.rest)

abbrev pub decreases-loop-rest : goal.decreases-loop-rest
decreases-loop-rest l = length l.rest
