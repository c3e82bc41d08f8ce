use Rattle.std.proofs.Common.{◌++◌}
use Rattle.std.proofs.KnownBytes.{Consumes-trans}
use Rattle.campaign_main.proofs.input.read_lines.Goals as goal

pub returns-in_err-read_on-clause-rest : goal.returns-in_err-read_on-clause-rest
returns-in_err-read_on-clause-rest g c =
    (c.loop-bytes.invariant.1.0 ++ c.read_on.ensures.rest.0, Consumes-trans _ _ _ _ _ c.loop-bytes.invariant.1.1 c.read_on.ensures.rest.1)

pub returns-then-ends_line-clause-rest : goal.returns-then-ends_line-clause-rest
returns-then-ends_line-clause-rest g c =
    (c.loop-bytes.invariant.1.0 ++ c.read_on.ensures.rest.0, Consumes-trans _ _ _ _ _ c.loop-bytes.invariant.1.1 c.read_on.ensures.rest.1)
