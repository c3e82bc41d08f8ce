use Rattle.std.proofs.Common.{◌∙◌, ◌∷◌, ap, sym}
use Rattle.sim_device.specs.FileEffects.{PowerCut}
use Rattle.sim_device.proofs.InUse.{reads_held}
use Rattle.file_replace.specs.Words.{target}
use Rattle.file_replace.specs.Judgement.{judged_by}
use Rattle.file_replace.proofs.judge.judge_keeping.Goals as goal

pub returns-in-Some : goal.returns-in-Some
returns-in-Some c = λ es tells.
    let left = PowerCut c.args.keep.now ∷ es in
    c.judgement.ensures ∙ ap (judged_by c.args.progress.now.past) (sym c.in-Some.ensures ∙ reads_held _ left target (c.in_ok-cut_keeping.ensures.ok es tells).disk)

pub returns-in-None : goal.returns-in-None
returns-in-None c = λ es tells.
    let left = PowerCut c.args.keep.now ∷ es in
    ap (judged_by c.args.progress.now.past) (sym c.in-None.ensures ∙ reads_held _ left target (c.in_ok-cut_keeping.ensures.ok es tells).disk)
