use Rattle.std.proofs.Common.{◌++◌}
use Rattle.std.proofs.KnownBytes.{Consumes-trans}
use Rattle.campaign_main.proofs.input.read_bytes.Goals as goal

pub returns-in_err-read_on-clause-rest : goal.returns-in_err-read_on-clause-rest
returns-in_err-read_on-clause-rest g c =
    (c.loop-bytes.bytes.items ++ c.read_on.ensures.rest.0, Consumes-trans _ _ _ _ _ c.loop-bytes.invariant.1 c.read_on.ensures.rest.1)
