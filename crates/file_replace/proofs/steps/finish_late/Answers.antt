use Rattle.file_replace.proofs.steps.finish_late.Goals as goal

pub returns : goal.returns
returns g c = λ es h. c.finish.ensures _ (c.sync.ensures es h)
