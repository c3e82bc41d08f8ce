use Rattle.target_trait.proofs.Survives.{survives}
use Rattle.file_replace.specs.declared.variant.Variant.TheVariants.{Sound}
use Rattle.file_replace.specs.Steps.{asks_of}
use Rattle.file_replace.specs.Crash.{cut_of}
use Rattle.file_replace.proofs.Sturdy.{sound_keeps}
use Rattle.file_replace.proofs.laws.sound_survives_each_cut.Goals as goal

pub returns : goal.returns
returns c = let w = c.args.workload.now in survives (asks_of Sound w) (cut_of Sound w) 7 (sound_keeps w) _
