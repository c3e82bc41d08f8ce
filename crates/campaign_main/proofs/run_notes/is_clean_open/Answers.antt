use Rattle.std.proofs.Common.{refl, []}
use Rattle.plan_gen.proofs.Rigged.{nothing_keeps}
use Rattle.campaign_main.proofs.run_notes.is_clean_open.Goals as goal

pub build-requires : goal.build-requires
build-requires c = nothing_keeps [] refl
