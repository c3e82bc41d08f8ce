use Rattle.std.proofs.Common.{append_assoc}
use Rattle.campaign_core.specs.Forms.{listing_text}
use Rattle.campaign_core.proofs.showing.write_listing.Goals as goal

pub returns : goal.returns
unfolding listing_text
returns c = rw (c.in_ok-write.ensures.bytes, c.bool_text-pairs.ensures) (simp append_assoc)
