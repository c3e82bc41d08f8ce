use Rattle.std.proofs.Common.{append_assoc}
use Rattle.campaign_core.specs.Forms.{limits_text}
use Rattle.campaign_core.proofs.showing.write_limits.Goals as goal

pub returns : goal.returns
unfolding limits_text
returns c = rw (c.in_ok-write.ensures.bytes, c.in_ok-depth.ensures) (simp append_assoc)
