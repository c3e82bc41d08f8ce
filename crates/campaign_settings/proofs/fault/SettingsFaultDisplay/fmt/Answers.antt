use Rattle.campaign_settings.proofs.fault.SettingsFaultDisplay.fmt.Goals as goal

pub returns-in-Kinds-clause-writes : goal.returns-in-Kinds-clause-writes
returns-in-Kinds-clause-writes g c = rw (c.in-UnknownKey.is, c.in-Kinds.is) c.write.ensures.writes
