use Rattle.std.proofs.Common.{ℕ, List, ◌≤◌, length, subst}
use Rattle.target_trait.proofs.Survives.{survives}
use Rattle.journal_target.specs.declared.variant.Variant.TheVariants.{Sound}
use Rattle.journal_target.specs.Crash.{asks_of, cut_of}
use Rattle.journal_target.proofs.Sturdy.{sound_keeps}
use Rattle.journal_target.proofs.laws.sound_survives_each_cut.Goals as goal

pub returns : goal.returns
returns c = λ plain.
    let w = c.args.workload.now in
    let few = subst (λ (x : List (List (List ℕ))). length x ≤ 100) c.as_slice.ensures.is c.as_slice.ensures.few in
    survives (asks_of Sound w) (cut_of Sound w) 3 (sound_keeps w few plain) _
