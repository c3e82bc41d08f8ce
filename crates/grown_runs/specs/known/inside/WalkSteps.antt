-- One step of a walk. Private contracts cite it.
use Rattle.std.specs.Prelude.{◌≡◌, Bool, true, false, List, [], ◌∷◌, Option, None, Some, map}
use Rattle.action_eval.specs.declared.rig.Rig.{Rig}
use Rattle.action_eval.specs.declared.rig.Site.{Site}
use Rattle.target_trait.specs.declared.judgement.Verdict.{Verdict}
use Rattle.grown_plans.specs.Kept.{Grew}
use Rattle.grown_runs.specs.known.Known.{KnownRuns, hits_of}
use Rattle.grown_runs.specs.known.Walks.{Unknown, Nothing, Acts, next_told, verdict_told}
use Rattle.grown_runs.specs.declared.known.walking.Step.{Step}
use Rattle.grown_runs.specs.declared.known.walking.Step.TheVariants as step

-- The hits at which children grew.
abbrev pub grew_at : List Grew → List Site
grew_at gs = map (λ g. g.fault.site) gs

-- What follows a plan in a walk.
abbrev pub IsStep : KnownRuns → List Rig → List Rig → Step → Type 0
IsStep known rigs plan step.Unknown = next_told rigs plan (hits_of known plan) ≡ Unknown
IsStep known rigs plan (step.Ends verdict) = (next_told rigs plan (hits_of known plan) ≡ Nothing) × (verdict_told (known plan) ≡ Some verdict)
IsStep known rigs plan (step.Acts fault) = next_told rigs plan (hits_of known plan) ≡ Acts fault

-- A walk came to this plan, and the plan has this verdict; or it came to none.
abbrev pub CameTo : KnownRuns → Option (List Rig) → List Rig → Option Verdict → Type 0
CameTo known walked plan None = walked ≡ None
CameTo known walked plan (Some v) = (walked ≡ Some plan) × (verdict_told (known plan) ≡ Some v)

-- Whether there is a plan with its last fault sticky, and if so, its faults are these.
abbrev pub IsOnward : List (List Rig) → List Rig → Bool → Type 0
IsOnward plans faults true = plans ≡ faults ∷ []
IsOnward plans faults false = plans ≡ []
