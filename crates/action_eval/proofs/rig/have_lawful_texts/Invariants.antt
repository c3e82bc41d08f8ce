use Rattle.std.proofs.Common.{take}
use Rattle.action_eval.specs.RiggedScenario.{HaveLawfulTexts}
use Rattle.action_eval.proofs.rig.have_lawful_texts.Given as goal

abbrev pub invariant-loop-rig : goal.invariant-loop-rig
invariant-loop-rig l = HaveLawfulTexts (take l.rig-index l.rigs)
