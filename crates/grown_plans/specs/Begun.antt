-- How the runs of a plan's children begin.
use Rattle.std.specs.Prelude.{◌≡◌, ℕ, ◌<◌, ◌≤◌, List, [], ◌∷◌, Some, None, length, take, slice_index_or}
use Rattle.action_eval.specs.declared.rig.Rig.{Rig}
use Rattle.plan_gen.specs.LoopRuns.{times}
use Rattle.grown_plans.specs.AskedPoints.{AreCounts}
use Rattle.grown_plans.specs.declared.begun.Begun.{Begun}

-- The hits of a point are counted from 1.
abbrev pub AreOrdinals : List Rig → Type 0
AreOrdinals [] = Unit {0}
AreOrdinals (r ∷ rs) = 0 < r.site.hit

-- The counts are those of the first hits of a run.
abbrev pub CountsFirst : Begun → List ℕ → Type 0
CountsFirst b asked = (b.hits ≤ length asked) × AreCounts b.counts.items (take b.hits asked)

-- The counts can be used for this plan: if they were made for its parent, and the hit of its last
-- fault isn't among what was counted, its run begins with that.
abbrev pub Serves : Begun → ℕ → List Rig → List ℕ → Type 0
Serves b parent [] asked = Unit {0}
Serves b parent (r ∷ rs) asked = b.parent ≡ Some parent → slice_index_or b.counts.items r.site.point 0 < r.site.hit → CountsFirst b asked

-- The beginning of the plan's run is counted, and the count stops before the hit of its last fault.
abbrev pub IsBegun : Begun → ℕ → List Rig → List ℕ → Type 0
IsBegun b parent [] asked = b.parent ≡ None
IsBegun b parent (r ∷ rs) asked = (b.parent ≡ Some parent) × CountsFirst b asked × (times r.site.point (take b.hits asked) < r.site.hit)
