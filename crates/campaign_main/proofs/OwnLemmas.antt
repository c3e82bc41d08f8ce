-- Answers over a target that the program brings itself, by what the settings' text gives.
use Rattle.std.proofs.Common.{◌≡◌, List, Ok, ap, refl, ℕ}
use Rattle.campaign_given.specs.Given.{Given}
use Rattle.campaign_settings.specs.Own.{own_settings_of}
use Rattle.campaign_settings.specs.Settings.{RefusedBy}
use Rattle.campaign_settings.specs.declared.fault.SettingsFault.{SettingsFault}
use Rattle.campaign_settings.specs.declared.fault.SettingsFault.TheVariants.{Memory}
use Rattle.campaign_core.specs.Headline.{Campaign}
use Rattle.campaign_core.specs.Writes.{Change}
use Rattle.command_words.specs.declared.words.Order.{Order}
use Rattle.campaign_main.specs.declared.exit.Exit.{Exit}
use Rattle.campaign_main.specs.declared.exit.Exit.TheVariants as exit
use Rattle.campaign_main.specs.Commands.{order_answer}
use Rattle.campaign_main.specs.Ends.{RefusesWith, TellsRefusal}
use Rattle.campaign_main.specs.FaultLines.{settings_line}
use Rattle.campaign_main.specs.OwnTarget.{own_given_answer, own_text_answer}
use Rattle.campaign_main.proofs.EndLemmas.{settings-tell}

module _ (order : Order) (campaign : Given → Campaign) (text : List ℕ) where
  pub own-answered : (given : Given) → own_settings_of text ≡ Ok given → own_text_answer order campaign text ≡ order_answer order (campaign given)
  unfolding own_text_answer
  own-answered given is = ap (own_given_answer order campaign) is

  pub own-tells : (end : Exit) (w : Change) → end ≡ exit.Refused → (f : SettingsFault) → RefusedBy (own_settings_of text) f → (f ≡ Memory → end ≡ exit.Memory)
      → RefusesWith (settings_line f) end w → TellsRefusal (own_text_answer order campaign text) w
  unfolding own_text_answer
  own-tells end w refused f h m told =
      settings-tell (own_given_answer order campaign) (λ _. refl) (own_settings_of text) end w refused f h m told
