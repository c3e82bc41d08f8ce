use Rattle.std.proofs.Common.{ap, ◌∙◌}
use Rattle.file_replace.specs.Steps.{acknowledged}
use Rattle.file_replace.specs.inside.Seen.{step_of}
use Rattle.file_replace.proofs.Counted.{acknowledged_counted}
use Rattle.file_replace.proofs.progress.Progress.acknowledge.Goals as goal

pub returns : goal.returns
returns c =
    acknowledged_counted c.self.inside.workload.now.old c.self.inside.workload.now.replacements c.self.inside.acknowledged c.self.inside.begun (step_of c.self.inside.stage) c.self.invariant.1
    ∙ ap acknowledged c.self.view_is
