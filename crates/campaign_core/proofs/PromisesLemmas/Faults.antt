-- The faults that act in a behaviour, as hits and as rigged hits.
use Rattle.std.proofs.Common.{◌≡◌, ◌⊎◌, inl, inr, List, [], ◌∷◌, refl, ap, sym, ◌∙◌, subst, arith}
use Rattle.std.specs.Prelude.{Contains}
use Rattle.std.specs.List.{AllByRecursion}
use Rattle.action_eval.specs.declared.rig.Site.{Site}
use Rattle.action_eval.specs.declared.rig.Rig.{Rig}
use Rattle.action_eval.specs.declared.rig.Kind.TheVariants.{OnceReturn, OncePanic}
use Rattle.action_eval.specs.Answers.{Reply, Go, Return, Halt}
use Rattle.action_eval.specs.RiggedScenario.{rig}
use Rattle.plan_gen.specs.RiggedAnswers.{reply_by}
use Rattle.grown_plans.specs.Runs.{Met, met}
use Rattle.grown_plans.proofs.Members.{all_weaker, all_contains, contains_head, contains_tail, contains_cases}
use Rattle.grown_plans.proofs.Faults.{noted, faults as faults_of}
use Rattle.campaign_core.specs.promises.Behaviours.{faults}

-- the hit at which a rigged one acts
abbrev pub hit_of : Rig → Met
hit_of r = met r.site (reply_by r.kind)

stays : (acc : List Rig) (ms : List Met) (r : Rig) → Contains acc r → Contains (faults_of acc ms) r
stays acc [] r c = c
stays acc (m ∷ ms) r c = stays (noted m.site m.reply acc) ms r (more m.reply)
  where
    more : (reply : Reply) → Contains (noted m.site reply acc) r
    more Go = c
    more (Return text) = contains_tail (rig m.site (OnceReturn text)) r acc c
    more Halt = contains_tail (rig m.site OncePanic) r acc c

-- each hit at which a fault acts is that of a rigged one
abbrev IsRigged : List Rig → Met → Type 0
IsRigged rigs m = (r : Rig) × Contains rigs r × (hit_of r ≡ m)

pub rigged_ones : (acc : List Rig) (ms : List Met) → AllByRecursion (IsRigged (faults_of acc ms)) (faults ms)
rigged_ones acc [] = tt
rigged_ones acc (m ∷ ms) = by_reply m.site m.reply (λ more. rigged_ones more ms)
  where
    by_reply : (s : Site) (reply : Reply) → ((more : List Rig) → AllByRecursion (IsRigged (faults_of more ms)) (faults ms))
        → AllByRecursion (IsRigged (faults_of acc (met s reply ∷ ms))) (faults (met s reply ∷ ms))
    by_reply s Go rest = rest acc
    by_reply s (Return text) rest = let r : Rig = rig s (OnceReturn text) in ((r, stays (r ∷ acc) ms r (contains_head r acc), refl), rest (r ∷ acc))
    by_reply s Halt rest = let r : Rig = rig s OncePanic in ((r, stays (r ∷ acc) ms r (contains_head r acc), refl), rest (r ∷ acc))

-- and each rigged one that is noted is that of such a hit
pub acts_somewhere : (acc : List Rig) (ms : List Met) (r : Rig) → Contains (faults_of acc ms) r → Contains acc r ⊎ Contains (faults ms) (hit_of r)
acts_somewhere acc [] r c = inl c
acts_somewhere acc (m ∷ ms) r c = by_reply m.site m.reply (λ more. acts_somewhere more ms r) c
  where
    here : (s : Site) (reply : Reply) (one : Rig) → hit_of one ≡ met s reply → Contains (one ∷ acc) r ⊎ Contains (faults ms) (hit_of r)
        → Contains acc r ⊎ Contains (met s reply ∷ faults ms) (hit_of r)
    here s reply one e (inr d) = inr (contains_tail (met s reply) (hit_of r) (faults ms) d)
    here s reply one e (inl d) = elim (contains_cases one r acc d) [
      | inl same ↦ inr (subst (λ (x : Met). Contains (met s reply ∷ faults ms) x) (sym e ∙ ap hit_of same) (contains_head (met s reply) (faults ms)))
      | inr old ↦ inl old
    ]

    by_reply : (s : Site) (reply : Reply) → ((more : List Rig) → Contains (faults_of more ms) r → Contains more r ⊎ Contains (faults ms) (hit_of r))
        → Contains (faults_of acc (met s reply ∷ ms)) r → Contains acc r ⊎ Contains (faults (met s reply ∷ ms)) (hit_of r)
    by_reply s Go rest d = rest acc d
    by_reply s (Return text) rest d = here s (Return text) (rig s (OnceReturn text)) refl (rest (rig s (OnceReturn text) ∷ acc) d)
    by_reply s Halt rest d = here s Halt (rig s OncePanic) refl (rest (rig s OncePanic ∷ acc) d)

pub acts_in : (ms : List Met) (r : Rig) → Contains (faults_of [] ms) r → Contains (faults ms) (hit_of r)
acts_in ms r c = elim (acts_somewhere [] ms r c) [
  | inl none ↦ absurd (omega (arith, none.1))
  | inr d ↦ d
]

-- a plan's faults are among those of another run where the plan's rigged hits are
pub faults_among : (ms others : List Met) → AllByRecursion (Contains (faults_of [] others)) (faults_of [] ms) → AllByRecursion (Contains (faults others)) (faults ms)
faults_among ms others a =
    all_weaker (IsRigged (faults_of [] ms)) (Contains (faults others))
    (λ m h. subst (λ (x : Met). Contains (faults others) x) h.2 (acts_in others h.0 (all_contains (Contains (faults_of [] others)) (faults_of [] ms) h.0 a h.1)))
    (faults ms) (rigged_ones [] ms)
