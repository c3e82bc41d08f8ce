use Rattle.std.proofs.Common.{[], ◌∷◌, sym, subst}
use Rattle.sim_device.specs.FileEffects.{PowerCut}
use Rattle.sim_device.specs.Disk.{StandsFor}
use Rattle.file_replace.specs.Steps.{State}
use Rattle.file_replace.proofs.Playing.{played_over}
use Rattle.file_replace.proofs.play.play_through.Goals as goal

pub returns-clause-play : goal.returns-clause-play
returns-clause-play c = played_over _ _ _ _ _ c.in_ok-progress.ensures.played c.in_ok-progress.ensures.over _ c.judge.ensures.judged

pub returns-clause-left : goal.returns-clause-left
returns-clause-left c =
    let k = c.in_ok-progress.ensures.played in
    subst (λ (s : State). StandsFor c.judge.new.device (PowerCut [] ∷ s.effects)) (sym k.reached.here) (c.judge.ensures.cut k.effects k.device)
