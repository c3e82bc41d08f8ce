use Rattle.std.proofs.Common.{refl, []}
use Rattle.plan_gen.proofs.Rigged.{nothing_keeps}
use Rattle.outside_campaign.proofs.with_depth.explaining.spelled.Goals as goal

pub build-requires : goal.build-requires
build-requires c = nothing_keeps [] refl
