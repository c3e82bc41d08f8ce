-- What the code of the core keeps and its callers need not know.

use Rattle.std.specs.Prelude.{◌≡◌, ℕ, ◌≤◌, ◌<◌, true, false, List, [], ◌∷◌, length, Option, None, Some, remove, refl}
use Rattle.std.specs.List.{list_any}
use Rattle.std.specs.FinMap.{get, code}
use Rattle.std.specs.Coded.{Coded, code_by, coded×, coded_ℕ, coded_bool, coded_list}
use Rattle.ddmin_parallel.specs.Ddmin.{Fits}
use Rattle.ddmin_parallel.specs.CoreEvents.{Position, Empty, Round, End, Known, State, same_set, without}

-- A position that a reduction can be at.
abbrev pub IsLawful : Position → Type 0
IsLawful (Empty faults) = 0 < faults
IsLawful (Round c n tests) = Fits c n × (2 ≤ length c)
IsLawful (End r) = Unit {0}

-- The position has no more faults than a reduction takes.
abbrev pub IsSmall : Position → Type 0
IsSmall (Empty faults) = faults ≤ 4096
IsSmall (Round c n tests) = length c ≤ 4096
IsSmall (End r) = Unit {0}

-- A state is stored as its fields.
abbrev pub state_code : Coded State
state_code = code_by (ℕ × (Known × List (List ℕ))) (coded× coded_ℕ (coded× (code (coded_list coded_ℕ) coded_bool) (coded_list (coded_list coded_ℕ))))
    (λ s. (s.faults, (s.known, s.out))) (λ p. record { faults = p.0; known = p.1.0; out = p.1.1 }) (λ _. refl)

-- The place of a set among those that are out, if it is one of them.
abbrev pub IsPlaceOf : List ℕ → List (List ℕ) → Option ℕ → Type 0
IsPlaceOf s out None = list_any (same_set s) out ≡ false
IsPlaceOf s out (Some k) = (k < length out) × (list_any (same_set s) out ≡ true) × (without s out ≡ remove out k)

-- No set that is out is known, and none is out twice.
abbrev pub AreOpen : Known → List (List ℕ) → Type 0
AreOpen known [] = Unit {0}
AreOpen known (s ∷ out) = (get known s ≡ None) × (list_any (same_set s) out ≡ false) × AreOpen known out
