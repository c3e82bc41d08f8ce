use Rattle.std.proofs.Common.{arith}
use Rattle.std.proofs.lemmas.Grind.{common_steps}
use Rattle.sim_device.proofs.Overwrites.{written_over}
use Rattle.sim_device.proofs.file.overwrite.Goals as goal

pub returns-clause-ok : goal.returns-clause-ok
returns-clause-ok c =
    written_over c.args.place c.in-Some.end c.args.bytes.now c.args.held.now.items c.lengthen.new.held.items c.lay_over.new.held.items (grind (arith, common_steps))
    (grind (arith, common_steps)) (grind (arith, common_steps)) c.lay_over.ensures
