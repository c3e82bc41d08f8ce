use Rattle.target_trait.proofs.CutPlays.{cut_follows, each_set, unchanged}
use Rattle.target_trait.proofs.laws.cut_asks_after_the_target.Goals as goal

pub returns-clause-follows : goal.returns-clause-follows
returns-clause-follows c = cut_follows

pub returns-clause-each : goal.returns-clause-each
returns-clause-each c = each_set

pub returns-clause-unchanged : goal.returns-clause-unchanged
returns-clause-unchanged c = unchanged
