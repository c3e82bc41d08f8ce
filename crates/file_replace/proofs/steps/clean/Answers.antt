use Rattle.file_replace.proofs.steps.clean.Goals as goal

pub returns : goal.returns
returns g c = λ es h. c.next.ensures _ (c.in_ok-unlink.ensures es h)
