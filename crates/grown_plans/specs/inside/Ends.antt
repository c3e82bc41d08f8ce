-- The place of a fault's hit in a run.
use Rattle.std.specs.Prelude.{◌≡◌, ℕ, ◌+◌, ◌<◌, ◌≤◌, ◌⊎◌, Option, None, Some, List, [], ◌∷◌, length, take, slice_index_or}
use Rattle.action_eval.specs.declared.rig.Site.{Site}
use Rattle.action_eval.specs.declared.rig.Rig.{Rig}
use Rattle.plan_gen.specs.LoopRuns.{times}

-- The first n hits of a run are those before this hit, or all of them if the run doesn't have this hit.
abbrev pub EndsAt : Site → List ℕ → ℕ → Type 0
EndsAt s asked n =
    (n ≤ length asked) × (times s.point (take n asked) < s.hit)
    × ((n ≡ length asked) ⊎ (n < length asked) × (slice_index_or asked n 0 ≡ s.point) × (times s.point (take n asked) + 1 ≡ s.hit))

-- The hit of a plan's last fault.
abbrev pub last_site : List Rig → Option Site
last_site [] = None
last_site (r ∷ rs) = Some r.site

-- The same for the hit of a plan's last fault.
abbrev pub EndsPlan : List Rig → List ℕ → ℕ → Type 0
EndsPlan [] asked n = Unit {0}
EndsPlan (r ∷ rs) asked n = EndsAt r.site asked n
