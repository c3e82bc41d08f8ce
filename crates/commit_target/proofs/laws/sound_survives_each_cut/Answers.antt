use Rattle.target_trait.proofs.Survives.{survives}
use Rattle.commit_target.specs.declared.variant.Variant.TheVariants.{Sound}
use Rattle.commit_target.specs.Steps.{asks_of}
use Rattle.commit_target.specs.Crash.{cut_of}
use Rattle.commit_target.proofs.Safe.{sound_keeps}
use Rattle.commit_target.proofs.laws.sound_survives_each_cut.Goals as goal

pub returns : goal.returns
returns c = λ w some. survives (asks_of Sound w) (cut_of Sound w) 7 (sound_keeps w some) _
