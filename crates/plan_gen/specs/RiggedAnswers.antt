-- What rigged hits mean: how each hit is answered under the scenario of rigged hits.
use Rattle.std.specs.Prelude.{◌≡◌, ℕ, ◌+◌, ◌<◌, ◌==◌, ◌&&◌, ◌⊎◌, nat_le, if◌then◌else◌, Bool, true, false, List, [], ◌∷◌, find, map, length}
use Rattle.std.specs.Option.{option_map_or}
use Rattle.std.specs.List.{AllByRecursion}
use Rattle.scenario_values.specs.Scenario.{Entries}
use Rattle.action_eval.specs.Answers.{Reply, Go, Return, Halt, run_of, reply_to}
use Rattle.action_eval.specs.declared.rig.Site.{Site}
use Rattle.action_eval.specs.declared.rig.Rig.{Rig}
use Rattle.action_eval.specs.declared.rig.Kind.{Kind}
use Rattle.action_eval.specs.declared.rig.Kind.TheVariants.{OnceReturn, OnwardReturn, OncePanic}
use Rattle.plan_gen.specs.LoopRuns.{times}
use Rattle.action_eval.specs.RiggedScenario.{rigged_scenario}

-- A site is before another if its point is earlier, or if it is an earlier hit of the same point.
abbrev pub IsBefore : Site → Site → Type 0
IsBefore a b = (a.point < b.point) ⊎ ((a.point ≡ b.point) × (a.hit < b.hit))

-- The sites are in order, and none comes twice. Hits are counted from 1.
abbrev pub AreInOrder : List Site → Type 0
AreInOrder [] = Unit {0}
AreInOrder (s ∷ ss) = (0 < s.hit) × AllByRecursion (λ t. IsBefore s t) ss × AreInOrder ss

abbrev pub is_onward : Kind → Bool
is_onward (OnceReturn text) = false
is_onward (OnwardReturn text) = true
is_onward OncePanic = false

-- A rigged hit acts at hit k of point p if it is that hit. A sticky one acts at each later hit of its point, too.
abbrev pub acts_at : ℕ → ℕ → Rig → Bool
acts_at p k r = (r.site.point == p) && (if is_onward r.kind then nat_le r.site.hit k else r.site.hit == k)

-- The answer that a rigged hit gives.
abbrev pub reply_by : Kind → Reply
reply_by (OnceReturn text) = Return text
reply_by (OnwardReturn text) = Return text
reply_by OncePanic = Halt

-- The answer to hit k of point p: that of the first rigged hit that acts there, or to go on if none does.
abbrev pub rigged_reply : List Rig → ℕ → ℕ → Reply
rigged_reply rigs p k = option_map_or (λ r. reply_by r.kind) (find (acts_at p k) rigs) Go

-- Under the scenario of rigged hits the next hit of a point is answered as rigged, whatever was hit before. Its number is one more than the hits of
-- the point until then. Seed and stream number make no difference.
abbrev pub AnswersAsRigged : List (List ℕ) → List Rig → Type 0
AnswersAsRigged names rigs =
    (seed stream limit : ℕ) (hits : List ℕ) (p : ℕ) → p < length names → length hits < limit
    → reply_to (run_of (rigged_scenario names rigs) names seed stream limit hits) p ≡ rigged_reply rigs p (times p hits + 1)

-- A plan is the scenario of rigged hits that are in order, none twice.
abbrev pub IsOfHits : List (List ℕ) → Entries → Type 0
IsOfHits names plan = (rigs : List Rig) × ((plan ≡ rigged_scenario names rigs) × AreInOrder (map (λ r. r.site) rigs))
