use Rattle.std.proofs.Common.{◌∙◌, ap, sym, [], ◌∷◌}
use Rattle.sim_device.specs.FileEffects.{PowerCut}
use Rattle.file_replace.specs.Judgement.{judged_by}
use Rattle.file_replace.proofs.judge.judge.Goals as goal

pub returns-in-Some-clause-judged : goal.returns-in-Some-clause-judged
returns-in-Some-clause-judged c = λ es h. c.judgement.ensures ∙ ap (judged_by c.args.progress.now.past) (sym (c.in-Some.ensures (PowerCut [] ∷ es) (c.power_cut.ensures es h)))

pub returns-in-None-clause-judged : goal.returns-in-None-clause-judged
returns-in-None-clause-judged c = λ es h. ap (judged_by c.args.progress.now.past) (sym (c.in-None.ensures (PowerCut [] ∷ es) (c.power_cut.ensures es h)))
