use Rattle.std.proofs.Common.{◌∙◌}
use Rattle.ddmin_parallel.proofs.Places.{some_taken, none_taken}
use Rattle.ddmin_parallel.proofs.sets.take_from.Goals as goal

pub returns-in-Some-clause-rest : goal.returns-in-Some-clause-rest
returns-in-Some-clause-rest c =
    c.remove.ensures.items ∙ some_taken c.args.set.now c.as_slice.result.now c.args.out.now.items c.in-Some.place c.as_slice.ensures.value
    c.in-Some.ensures

pub returns-in-None-clause-rest : goal.returns-in-None-clause-rest
returns-in-None-clause-rest c = none_taken c.args.set.now c.as_slice.result.now c.args.out.now.items c.as_slice.ensures.value c.in-None.ensures
