use Rattle.std.proofs.Common.{◌∙◌}
use Rattle.commit_target.proofs.Never.{sound_run}
use Rattle.commit_target.proofs.commit.CommitTarget.run.Goals as goal

pub returns-clause-sound : goal.returns-clause-sound
returns-clause-sound c = λ e. sound_run c.self.inside.variant c.args.workload.now _ c.play.result c.play.ensures.some (c.self.view_is ∙ e) c.play.ensures.play
