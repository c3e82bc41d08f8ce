use Rattle.std.proofs.Common.{sym}
use Rattle.campaign_core.proofs.TargetLawsLemmas.Names.{text_at}
use Rattle.campaign_main.proofs.notes.point_name.Goals as goal

pub returns : goal.returns
returns c = sym (text_at c.args.points.now c.args.point)
