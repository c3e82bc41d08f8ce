use Rattle.std.specs.Prelude.{◌≡◌, ℕ, true, false, List, Option, None, Some}
use Rattle.std.specs.List.{list_any}
use Rattle.ddmin_parallel.specs.Ddmin.{Reduced}
use Rattle.ddmin_parallel.specs.CoreEvents.{State, same_set, Position, End}
use Rattle.ddmin_parallel.specs.declared.reducer_core.RequestFault.{RequestFault}
use Rattle.ddmin_parallel.specs.declared.reducer_core.RequestFault.TheVariants.{Stranger, Memory}

-- Why an answer to the request wasn't accepted (the set isn't out, or memory was refused), and that this request came back.
abbrev pub IsFault : List (List ℕ) → List ℕ → RequestFault → Type 0
IsFault out request (Stranger c) = (c ≡ request) × (list_any (same_set request) out ≡ false)
IsFault out request (Memory c) = (c ≡ request) × (list_any (same_set request) out ≡ true)

abbrev pub IsPutFault : State → List ℕ → RequestFault → Type 0
IsPutFault state request = IsFault state.out request

-- The reduction, if this is the end; none if it isn't.
abbrev pub IsFinished : Position → Option Reduced → Type 0
IsFinished p (Some r) = p ≡ End r
IsFinished p None = (r : Reduced) → p ≡ End r → ⊥
