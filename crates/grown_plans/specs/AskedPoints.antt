-- A plan's children, determined by the points that its run asked, which is what the runner of the plan gets to know.
use Rattle.std.specs.Prelude.{◌≡◌, ℕ, ◌+◌, ◌<◌, ◌≤◌, ◌==◌, ◌&&◌, length, if◌then◌else◌, Bool, false, List, [], ◌∷◌, ◌++◌, map, take, count_by, slice_index_or}
use Rattle.std.specs.List.{flat_map, list_any, AllByRecursion}
use Rattle.action_eval.specs.Answers.{Given}
use Rattle.action_eval.specs.declared.rig.Site.{Site}
use Rattle.action_eval.specs.declared.rig.Rig.{Rig}
use Rattle.action_eval.specs.declared.rig.Kind.{Kind}
use Rattle.action_eval.specs.declared.rig.Kind.TheVariants.{OnwardReturn}
use Rattle.action_eval.specs.RiggedScenario.{rig, text_of}
use Rattle.target_trait.specs.Outcomes.{outcome}
use Rattle.plan_gen.specs.LoopRuns.{times}
use Rattle.grown_plans.specs.GrownPlans.{Subject, given_for, children, is_once_return, onward_of, run_of_plan}

-- The hits of these points, asked one after another, after the points `before`.
abbrev pub sites_from : List ℕ → List ℕ → List Site
sites_from before [] = []
sites_from before (p ∷ ps) = record { point = p; hit = times p before + 1 } ∷ sites_from (before ++ p ∷ []) ps

-- The hits after a plan's last fault.
abbrev pub sites_after : Site → List Site → List Site
sites_after s [] = []
sites_after s (x ∷ xs) = if (x.point == s.point) && (x.hit == s.hit) then xs else sites_after s xs

abbrev pub sites_past : List Rig → List Site → List Site
sites_past [] xs = xs
sites_past (r ∷ rs) xs = sites_after r.site xs

abbrev pub children_by : (ℕ → List Kind) → List Rig → List ℕ → List (List Rig)
children_by kinds plan asked = flat_map (λ s. map (λ kind. rig s kind ∷ plan) (kinds s.point)) (sites_past plan (sites_from [] asked))

-- A plan's children are those determined by the points that its run asked, under any seed and stream number.
abbrev pub GrowsByAsked : Subject → List Rig → Type 0
GrowsByAsked t plan = (seed stream : ℕ) → children t plan ≡ children_by t.kinds plan (outcome t.asks (given_for t plan seed stream)).asked

-- The plan with its last fault sticky is determined in the same way: it exists if the last fault is a return and its point is asked again after it.
abbrev pub is_point_of : List Rig → ℕ → Bool
is_point_of [] p = false
is_point_of (r ∷ rs) p = p == r.site.point

abbrev pub is_asked_again : List Rig → List ℕ → Bool
is_asked_again plan asked = list_any (λ s. is_point_of plan s.point) (sites_past plan (sites_from [] asked))

abbrev pub is_last_return : List Rig → Bool
is_last_return [] = false
is_last_return (r ∷ rs) = is_once_return r.kind

abbrev pub goes_onward : List Rig → List ℕ → Bool
goes_onward plan asked = is_last_return plan && is_asked_again plan asked

-- The plan with its last fault made sticky.
abbrev pub from_then_on : List Rig → List Rig
from_then_on [] = []
from_then_on (r ∷ rs) = rig r.site (OnwardReturn (text_of r.kind)) ∷ rs

abbrev pub onward_if : Bool → List Rig → List (List Rig)
onward_if goes plan = if goes then from_then_on plan ∷ [] else []

abbrev pub onward_by : List Rig → List ℕ → List (List Rig)
onward_by plan asked = onward_if (goes_onward plan asked) plan

abbrev pub GoesOnwardByAsked : Subject → List Rig → Type 0
GoesOnwardByAsked t plan = (seed stream : ℕ) → onward_of t plan ≡ onward_by plan (outcome t.asks (given_for t plan seed stream)).asked

-- So is how often the plan's run hits a point.
abbrev pub ReachesByAsked : Subject → List Rig → Type 0
ReachesByAsked t plan = (seed stream point : ℕ)
    → count_by (λ m. m.site.point == point) (run_of_plan t plan) ≡ times point (outcome t.asks (given_for t plan seed stream)).asked

-- What one run asks before this hit, the other run asks first too.
abbrev pub AsksFirst : Site → List ℕ → List ℕ → Type 0
AsksFirst s one other = (n : ℕ) → n ≤ length one → times s.point (take n one) < s.hit → (n ≤ length other) × (take n one ≡ take n other)

-- Two runs ask the same points before a hit.
abbrev pub AskAlike : Site → List ℕ → List ℕ → Type 0
AskAlike s one other = (0 < s.hit) × AsksFirst s one other × AsksFirst s other one

-- Before the hit of its last fault, a plan's run asks the same points as the run of the plan that it grew from.
abbrev pub AsksLikeParent : Subject → List Rig → Type 0
AsksLikeParent t plan =
    (r : Rig) (rs : List Rig) → plan ≡ r ∷ rs → (seed stream other : ℕ)
    → AskAlike r.site (outcome t.asks (given_for t plan seed stream)).asked (outcome t.asks (given_for t rs seed other)).asked

-- A run asks only points of the catalogue.
abbrev pub AsksWithin : Subject → Type 0
AsksWithin t = (g : Given) → AllByRecursion (λ p. p < length t.names) (outcome t.asks g).asked

-- A catalogue has at most this many points.
abbrev pub most_points : ℕ
most_points = 64

-- How often each point is among those asked.
abbrev pub AreCounts : List ℕ → List ℕ → Type 0
AreCounts counts asked = (length counts ≡ most_points) × ((p : ℕ) → p < most_points → slice_index_or counts p 0 ≡ times p asked)
