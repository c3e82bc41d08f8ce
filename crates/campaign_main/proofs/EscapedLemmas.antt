-- The lines for texts that are too long, which escaping leaves as they are.
use Rattle.std.specs.Prelude.{◌≡◌, [], codes}
use Rattle.std.proofs.Common.{refl, ◌++◌}
use Rattle.std.specs.Str.{chars}
use lib.Utf8.{encode}
use Rattle.answer_text.specs.FaultText.{line_of as answers_line_of}
use Rattle.answer_text.specs.declared.fault.AnswersFault.TheVariants as answers
use Rattle.campaign_settings.specs.declared.fault.SettingsFault.TheVariants as settings
use Rattle.report.specs.ReportText.{ended}
use Rattle.campaign_main.specs.Escaped.{escaped}
use Rattle.campaign_main.specs.FaultLines.{settings_line}

pub long-settings : settings_line settings.TooLong ≡ codes "settings: too long\n"
unfolding chars encode
long-settings = refl

pub long-answers : ended (escaped (answers_line_of answers.TooLong ++ [])) ≡ ended (answers_line_of answers.TooLong)
unfolding chars encode
long-answers = refl
