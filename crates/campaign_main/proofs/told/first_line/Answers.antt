use Rattle.campaign_main.proofs.LineLemmas.{cut-at, cut-none}
use Rattle.campaign_main.proofs.told.first_line.Goals as goal

pub returns-in-Some-clause-lines : goal.returns-in-Some-clause-lines
returns-in-Some-clause-lines c =
    rw (c.split_at.ensures.front, c.split_at.ensures.back) (cut-at c.args.text.now c.in-Some.end c.in-Some.ensures)

pub returns-in-None-clause-lines : goal.returns-in-None-clause-lines
returns-in-None-clause-lines c = cut-none c.args.text.now c.requires c.in-None.ensures
