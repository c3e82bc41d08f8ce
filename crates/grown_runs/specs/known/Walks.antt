-- What rigged hits come to, by recorded runs. A walk starts at the plan without faults. It looks up which rigged hit acts next in the run of the plan
-- that it has come to, and goes on to the plan with that fault too. If more of them act than plans have faults, it may end at a plan with a sticky
-- last fault.
use Rattle.std.specs.Prelude.{ℕ, zero, suc, ◌&&◌, Bool, true, false, not, if◌then◌else◌, List, [], ◌∷◌, Option, None, Some, find, option_map}
use Rattle.std.specs.List.{list_all}
use Rattle.action_eval.specs.declared.rig.Site.{Site}
use Rattle.action_eval.specs.declared.rig.Rig.{Rig}
use Rattle.action_eval.specs.declared.rig.Kind.{Kind}
use Rattle.action_eval.specs.declared.rig.Kind.TheVariants.{OnceReturn, OnwardReturn, OncePanic}
use Rattle.action_eval.specs.RiggedScenario.{rig, text_of, is_same_text}
use Rattle.plan_gen.specs.RiggedAnswers.{acts_at}
use Rattle.grown_plans.specs.AskedPoints.{sites_from, sites_past}
use Rattle.target_trait.specs.declared.judgement.Verdict.{Verdict}
use Rattle.grown_runs.specs.known.Known.{KnownRuns, Told, hits_of}
use Rattle.grown_runs.specs.known.ToldPart.{onward_told}

-- What a fault does at one hit at which it acts: a sticky one returns, with its text.
abbrev pub once : Kind → Kind
once (OnceReturn text) = OnceReturn text
once (OnwardReturn text) = OnceReturn text
once OncePanic = OncePanic

-- The first of these hits at which a rigged one acts, with what that does there.
abbrev pub acting_by : Site → Option Rig → Option Rig → Option Rig
acting_by s None later = later
acting_by s (Some r) later = Some (rig s (once r.kind))

abbrev pub first_acting : List Rig → List Site → Option Rig
first_acting rigs [] = None
first_acting rigs (s ∷ ss) = acting_by s (find (acts_at s.point s.hit) rigs) (first_acting rigs ss)

-- What acts next in the run of a plan: nobody knows, nothing, or this fault.
pub data Next : Type 0 where
  Unknown : Next
  Nothing : Next
  Acts : (fault : Rig) → Next

abbrev pub next_of : Option Rig → Next
next_of None = Nothing
next_of (Some r) = Acts r

abbrev pub next_told : List Rig → List Rig → Option (List ℕ) → Next
next_told rigs plan None = Unknown
next_told rigs plan (Some hits) = next_of (first_acting rigs (sites_past plan (sites_from [] hits)))

-- The plan that a walk comes to from this one, given what acts next: none if nobody knows that, this plan if nothing acts.
abbrev pub walk_on : (List Rig → Option (List Rig)) → List Rig → Next → Option (List Rig)
walk_on further plan Unknown = None
walk_on further plan Nothing = Some plan
walk_on further plan (Acts r) = further (r ∷ plan)

-- ---- sticky faults

-- What rigged hits do at a hit.
abbrev pub doing : List Rig → Site → Option Kind
doing rigs s = option_map (λ r. r.kind) (find (acts_at s.point s.hit) rigs)

abbrev pub is_return : Kind → Bool
is_return (OnceReturn text) = true
is_return (OnwardReturn text) = true
is_return OncePanic = false

-- Two faults do the same: both return with the same text, or both panic.
abbrev pub are_alike : Kind → Kind → Bool
are_alike a b = if is_return a then is_return b && is_same_text (text_of a) (text_of b) else not (is_return b)

abbrev pub is_alike : Option Kind → Option Kind → Bool
is_alike None None = true
is_alike None (Some b) = false
is_alike (Some a) None = false
is_alike (Some a) (Some b) = are_alike a b

-- Two lists of rigged hits do the same at each of these hits.
abbrev pub do_alike : List Rig → List Rig → List Site → Bool
do_alike rigs others ss = list_all (λ s. is_alike (doing rigs s) (doing others s)) ss

-- The plan, if its hits are recorded and the rigged hits do the same as the plan at each of them.
abbrev pub if_alike : List Rig → List Rig → Option (List ℕ) → Option (List Rig)
if_alike rigs plan None = None
if_alike rigs plan (Some hits) = if do_alike rigs plan (sites_from [] hits) then Some plan else None

abbrev pub alike_of : KnownRuns → List Rig → List (List Rig) → Option (List Rig)
alike_of known rigs [] = None
alike_of known rigs (plan ∷ plans) = if_alike rigs plan (hits_of known plan)

-- The plan with its last fault sticky, if there is one and the rigged hits do the same at each hit of its run.
abbrev pub onward_walked : KnownRuns → List Rig → List Rig → Option (List Rig)
onward_walked known rigs plan = alike_of known rigs (onward_told plan (hits_of known plan))

-- ---- the walk

unfoldable pub walk_from : KnownRuns → List Rig → ℕ → List Rig → Option (List Rig)
walk_from known rigs zero plan = walk_on (λ longer. onward_walked known rigs plan) plan (next_told rigs plan (hits_of known plan))
walk_from known rigs (suc n) plan = walk_on (walk_from known rigs n) plan (next_told rigs plan (hits_of known plan))

abbrev pub walk : KnownRuns → List Rig → ℕ → Option (List Rig)
walk known rigs d = walk_from known rigs d []

-- The verdict that rigged hits come to, if recorded runs give one.
abbrev pub verdict_told : Option Told → Option Verdict
verdict_told None = None
verdict_told (Some told) = Some told.verdict

abbrev pub verdict_at : KnownRuns → Option (List Rig) → Option Verdict
verdict_at known None = None
verdict_at known (Some plan) = verdict_told (known plan)

abbrev pub verdict_walked : KnownRuns → List Rig → ℕ → Option Verdict
verdict_walked known rigs d = verdict_at known (walk known rigs d)
