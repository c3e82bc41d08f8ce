-- The hits of a plan's run, by the points that are recorded of it.
use Rattle.std.proofs.Common.{◌≡◌, ℕ, List, [], ◌∷◌, ◌++◌, map, refl, ap, sym, ◌∙◌}
use Rattle.std.specs.Prelude.{Contains, Option, Some, None, IfSome}
use Rattle.action_eval.specs.declared.rig.Site.{Site}
use Rattle.action_eval.specs.declared.rig.Rig.{Rig}
use Rattle.action_eval.specs.Answers.{Given, Reply}
use Rattle.target_trait.specs.Play.{Move}
use Rattle.target_trait.specs.Outcomes.{outcome}
use Rattle.grown_plans.specs.Runs.{Met, run}
use Rattle.grown_plans.specs.GrownPlans.{Subject, given_for, run_of_plan, hits_past, grown}
use Rattle.grown_plans.specs.AskedPoints.{sites_from, sites_past}
use Rattle.grown_plans.proofs.Members.{all_contains}
use Rattle.grown_plans.proofs.AskedSites.{sites_of, run_sites, past_sites}
use Rattle.grown_runs.specs.known.Known.{Agrees, KnownRuns, Told, IsTrueOf, hits_of, hits_told, points_met}

points_of_sites : (ms : List Met) → points_met ms ≡ map (λ s. s.point) (sites_of ms)
points_of_sites [] = refl
points_of_sites (m ∷ ms) = ap (λ (l : List ℕ). m.site.point ∷ l) (points_of_sites ms)

points_from : (before asked : List ℕ) → map (λ s. s.point) (sites_from before asked) ≡ asked
points_from before [] = refl
points_from before (p ∷ ps) = ap (λ (l : List ℕ). p ∷ l) (points_from (before ++ p ∷ []) ps)

-- the points of a run's hits are those that it asks
pub asked_met : (asks : List Reply → Move) (g : Given) → points_met (run asks g) ≡ (outcome asks g).asked
asked_met asks g = points_of_sites (run asks g) ∙ ap (map (λ (s : Site). s.point)) (run_sites asks g) ∙ points_from [] (outcome asks g).asked

-- the points that a plan's run meets are those that its case asks
pub plan_asked : (t : Subject) (plan : List Rig) → points_met (run_of_plan t plan) ≡ (outcome t.asks (given_for t plan 0 0)).asked
unfolding run_of_plan
plan_asked t plan = asked_met t.asks (given_for t plan 0 0)

-- What a plan's run asks is what is recorded of it.
pub asked_told : (t : Subject) (plan : List Rig) (hits : List ℕ) → points_met (run_of_plan t plan) ≡ hits → (outcome t.asks (given_for t plan 0 0)).asked ≡ hits
unfolding run_of_plan
asked_told t plan hits e = sym (asked_met t.asks (given_for t plan 0 0)) ∙ e

pub sites_told : (t : Subject) (plan : List Rig) (hits : List ℕ) → points_met (run_of_plan t plan) ≡ hits → sites_of (run_of_plan t plan) ≡ sites_from [] hits
unfolding run_of_plan
sites_told t plan hits e = run_sites t.asks (given_for t plan 0 0) ∙ ap (sites_from []) (sym (asked_met t.asks (given_for t plan 0 0)) ∙ e)

-- The hits past a plan's last fault, by what is recorded of its run.
pub past_told : (t : Subject) (plan : List Rig) (hits : List ℕ) → points_met (run_of_plan t plan) ≡ hits → sites_past plan (sites_from [] hits) ≡ sites_of (hits_past plan (run_of_plan t plan))
past_told t plan hits e = ap (sites_past plan) (sym (sites_told t plan hits e)) ∙ sym (past_sites plan (run_of_plan t plan))

-- ---- what is recorded of a plan of the list

told_true : (t : Subject) (plan : List Rig) (o : Option Told) (hits : List ℕ) → IfSome o (IsTrueOf t plan) → hits_told o ≡ Some hits → points_met (run_of_plan t plan) ≡ hits
told_true t plan None hits h e = absurd cc
told_true t plan (Some told) hits h e = by_hits told.hits h.hits e
  where
    by_hits : (o : Option (List ℕ)) → IfSome o (λ points. points_met (run_of_plan t plan) ≡ points) → o ≡ Some hits → points_met (run_of_plan t plan) ≡ hits
    by_hits None k f = absurd cc
    by_hits (Some points) k f = k ∙ (let same : points ≡ hits = cc in same)

pub hits_true : (t : Subject) (d : ℕ) (known : KnownRuns) (plan : List Rig) (hits : List ℕ) → Agrees t d known → Contains (grown t d) plan → hits_of known plan ≡ Some hits → points_met (run_of_plan t plan) ≡ hits
hits_true t d known plan hits a c e = told_true t plan (known plan) hits (all_contains (λ p. IfSome (known p) (IsTrueOf t p)) (grown t d) plan a c) e
