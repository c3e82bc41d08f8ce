use Rattle.std.proofs.Common.{ap, ◌∙◌, subst, List, [], ℕ, ◌<◌, length, get_or}
use Rattle.file_replace.specs.Steps.{begun}
use Rattle.file_replace.specs.inside.Seen.{step_of}
use Rattle.file_replace.proofs.Counted.{begun_counted}
use Rattle.file_replace.proofs.progress.Progress.begin.Goals as goal

pub returns : goal.returns
returns c =
    begun_counted c.args.is_there c.self.inside.workload.now.old c.self.inside.workload.now.replacements c.self.inside.acknowledged c.self.inside.begun c.in-Some.next.now (step_of c.self.inside.stage) _ c.self.invariant.0
    (subst (λ (l : List (List (List ℕ))). c.self.inside.begun < length l) c.as_slice.ensures c.in-Some.ensures.lookup.3.0) (c.in-Some.ensures.lookup.3.1 [] ∙ ap (λ (l : List (List (List ℕ))). get_or l c.self.inside.begun []) c.as_slice.ensures)
    c.first_stage-self-inside.ensures
    ∙ ap (begun c.args.is_there) c.self.view_is
