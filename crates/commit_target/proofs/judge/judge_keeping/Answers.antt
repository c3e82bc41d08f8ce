use Rattle.std.proofs.Common.{ℕ, List, ap, ◌∙◌}
use Rattle.commit_target.specs.Judgement.{judged_by}
use Rattle.commit_target.specs.Crash.{known_keeping, own_keeping}
use Rattle.commit_target.proofs.judge.judge_keeping.Goals as goal

pub returns : goal.returns
returns c = λ es h.
    c.judgement.ensures (known_keeping es c.args.keep.now) (own_keeping es c.args.keep.now) (c.in_ok-restart_keeping.ensures c.args.participants es h)
    ∙ ap (λ (told : List ℕ). judged_by c.args.participants told (known_keeping es c.args.keep.now) (own_keeping es c.args.keep.now) c.begun.result) c.told.ensures
    ∙ ap (λ (begun : ℕ). judged_by c.args.participants c.args.progress.now.told (known_keeping es c.args.keep.now) (own_keeping es c.args.keep.now) begun) c.begun.ensures
