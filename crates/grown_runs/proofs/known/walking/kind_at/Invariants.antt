use Rattle.std.proofs.Common.{◌≡◌, drop}
use Rattle.std.specs.Prelude.{find}
use Rattle.plan_gen.specs.RiggedAnswers.{acts_at}
use Rattle.grown_runs.proofs.known.walking.kind_at.Given as goal

abbrev pub invariant-loop-rig : goal.invariant-loop-rig
invariant-loop-rig l = find (acts_at l.site.point l.site.hit) (drop l.rig-index l.rigs) ≡ find (acts_at l.site.point l.site.hit) l.rigs
