-- What a worker hands back after it has run plans one after another.
use Rattle.std.specs.Prelude.{◌≡◌, ℕ, List, [], map, length}
use Rattle.action_eval.specs.declared.rig.Rig.{Rig}
use Rattle.grown_plans.specs.GrownPlans.{Subject}
use Rattle.target_trait.specs.declared.target.Target.{Ghosts}
use Rattle.grown_plans.specs.Kept.{GrewFrom, plan_of}
use Rattle.grown_runs.specs.declared.input.Part.{Part}
use Rattle.grown_runs.specs.declared.input.Place.{Place}
use Rattle.grown_runs.specs.declared.input.Place.TheVariants.{Inner, Last, Onward}
use Rattle.grown_runs.specs.declared.input.Purpose.{Purpose}
use Rattle.grown_runs.specs.declared.input.Purpose.TheVariants.{Plans, Report}
use Rattle.grown_runs.specs.declared.input.GrownRunInput.{GrownRunInput}
use Rattle.grown_runs.specs.declared.kept.Growth.{Growth}
use Rattle.grown_runs.specs.declared.outcomes.Outcomes.{Outcomes}
use Rattle.grown_runs.specs.GrownRuns.{subject_of, over, verdict_at, children_at, onward_at, cause_at, AreMost}

-- What is kept of the runs of a part of the list: the children if the level isn't the last, and the plans with a sticky last fault if it is.
abbrev pub if_inner : {A : Type 0} → Place → List A → List A
if_inner Inner xs = xs
if_inner Last xs = []
if_inner Onward xs = []

abbrev pub if_last : {A : Type 0} → Place → List A → List A
if_last Inner xs = []
if_last Last xs = xs
if_last Onward xs = []

-- Causes are only found for a report.
abbrev pub if_report : {A : Type 0} → Purpose → List A → List A
if_report Plans xs = []
if_report Report xs = xs

-- What plans are run on: a target's subject.
abbrev pub subject_on : {T W : Type 0} → (target : Ghosts T W) → T → GrownRunInput T W target → Subject
subject_on target setup input = subject_of target setup input.workload.now input.limits.max_hits

-- What the runs of `count` plans came to, from number `first` on.
pub record AreTold (t : Subject) (seed : ℕ) (purpose : Purpose) (plans : List (List Rig)) (first count : ℕ) (outcomes : Outcomes) : Type 0 where
  pub verdicts : outcomes.verdicts.items ≡ over (verdict_at t seed) plans first count
  pub causes : outcomes.causes.items ≡ if_report purpose (over (cause_at t seed) plans first count)
  pub hits : length outcomes.hits.items ≡ length t.names
  pub most : AreMost t seed plans first count outcomes.hits.items

-- What the runs came to, and what is kept of them.
pub record IsGrowth (t : Subject) (seed : ℕ) (part : Part) (plans : List (List Rig)) (first count : ℕ) (growth : Growth) : Type 0 where
  pub told : AreTold t seed part.purpose plans first count growth.outcomes
  pub children : growth.children.items ≡ if_inner part.place (over (children_at t seed) plans first count)
  pub many : growth.child_count ≡ length (over (children_at t seed) plans first count)
  pub onward : map (plan_of plans) growth.onward.items ≡ if_last part.place (over (onward_at t seed) plans first count)
  pub from : GrewFrom (length plans) growth.onward.items

-- The same on a target's input.
abbrev pub IsGrowthOn : {T W : Type 0} → (target : Ghosts T W) → T → GrownRunInput T W target → ℕ → ℕ → Growth → Type 0
IsGrowthOn target setup input first count growth =
    IsGrowth (subject_on target setup input) input.limits.seed input.part input.plans.now first count growth
