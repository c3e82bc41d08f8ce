use Rattle.std.proofs.Common.{◌∙◌}
use Rattle.maildir_target.proofs.Never.{sound_run}
use Rattle.maildir_target.proofs.maildir.MaildirTarget.run.Goals as goal

pub returns-clause-sound : goal.returns-clause-sound
returns-clause-sound c = λ e. sound_run c.self.inside.variant c.args.messages.now _ c.play.result (c.self.view_is ∙ e) c.play.ensures.play
