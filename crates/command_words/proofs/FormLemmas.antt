-- One form at most is named.
use Rattle.std.proofs.Common.{◌≡◌, ◌<◌, ◌≤◌, List, [], ◌∷◌, arith, length, refl}
use Rattle.clap.specs.declared.error.kind.ErrorKind.TheVariants.{ArgumentConflict}
use Rattle.command_words.specs.Words.{IsRefusedFor, only, only_kinds}
use Rattle.command_words.specs.declared.words.WordsFault.{WordsFault}

pub one_taken : {A : Type 0} (usual : A) (named : List A) → length named < 2 → only_kinds (only usual named) ≡ []
one_taken usual [] few = refl
one_taken usual (x ∷ []) few = refl
one_taken usual (x ∷ (other ∷ more)) few = let none : ⊥ = omega (arith, few) in absurd none

pub two_refused : {A : Type 0} (usual : A) (named : List A) (fault : WordsFault) → 2 ≤ length named → IsRefusedFor (ArgumentConflict ∷ []) fault
    → IsRefusedFor (only_kinds (only usual named)) fault
two_refused usual [] fault many refused = let none : ⊥ = omega (arith, many) in absurd none
two_refused usual (x ∷ []) fault many refused = let none : ⊥ = omega (arith, many) in absurd none
two_refused usual (x ∷ (other ∷ more)) fault many refused = refused
