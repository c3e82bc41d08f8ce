use Rattle.std.proofs.Common.{◌∷◌}
use Rattle.sim_device.specs.FileEffects.{PowerCut}
use Rattle.sim_device.proofs.InUse.{reads_held}
use Rattle.maildir_target.proofs.judge.judge_keeping.Goals as goal

pub returns : goal.returns
returns c = λ es tells. c.judgement.ensures _ (λ name. reads_held _ (PowerCut c.args.keep.now ∷ es) name (c.in_ok-cut_keeping.ensures.ok es tells).disk)
