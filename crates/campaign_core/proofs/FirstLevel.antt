-- If plans grow, a census has few sites: each is a fault of the first level.
use Rattle.std.proofs.Common.{◌≡◌, ℕ, zero, suc, ◌+◌, ◌<◌, ◌≤◌, Bool, true, false, cond, Option, None, List, [], ◌∷◌, ◌++◌, map, length, refl, ap, ◌∙◌, subst, arith, length-append}
use Rattle.std.specs.List.{flat_map}
use Rattle.std.proofs.lemmas.List.{append-nil, length-map}
use Rattle.scenario_values.specs.Scenario.{Entries}
use Rattle.action_eval.specs.Answers.{Reply, given_of}
use Rattle.action_eval.specs.RiggedScenario.{rigged_scenario, rig}
use Rattle.action_eval.specs.declared.rig.Rig.{Rig}
use Rattle.action_eval.specs.declared.rig.Site.{Site}
use Rattle.action_eval.specs.declared.rig.Kind.{Kind}
use Rattle.action_eval.specs.declared.rig.Kind.TheVariants.{OnceReturn, OncePanic}
use Rattle.target_trait.specs.Play.{Move}
use Rattle.target_trait.specs.Outcomes.{outcome}
use Rattle.plan_gen.specs.Census.{census_of, sites_of}
use Rattle.plan_gen.proofs.Counting.{sites_length}
use Rattle.plan_gen.proofs.HitCounts.{total_counts}
use Rattle.grown_plans.specs.GrownPlans.{Subject, cut_point, is_cut, usual_at, usual_kinds, usual_subject, children, level, levels, levels_to, onward, grown}
use Rattle.grown_plans.specs.AskedPoints.{GrowsByAsked, sites_from}
use Rattle.grown_plans.specs.Promises.{IsLawful}
use Rattle.grown_plans.proofs.AskedSites.{grows_by_asked}
use Rattle.plan_gen.proofs.Rigged.{rigged_scenario_nothing}

-- ---- each hit of the run without faults has a child, at least

length_sites : (before asked : List ℕ) → length (sites_from before asked) ≡ length asked
length_sites before [] = refl
length_sites before (p ∷ asked) = ap suc (length_sites (before ++ p ∷ []) asked)

some_kind : (cut : Option ℕ) (point : ℕ) → 1 ≤ length (usual_at cut point)
some_kind cut point = by_choice (is_cut cut point)
  where
    by_choice : (b : Bool) → 1 ≤ length (cond b (OnceReturn None ∷ []) (OnceReturn None ∷ OncePanic ∷ []))
    by_choice true = omega arith
    by_choice false = omega arith

each_has_one : (cut : Option ℕ) (sites : List Site) → length sites ≤ length (flat_map (λ (s : Site). map (λ kind. rig s kind ∷ []) (usual_at cut s.point)) sites)
each_has_one cut [] = omega arith
each_has_one cut (s ∷ ss) =
    let f : Site → List (List Rig) = λ s. map (λ kind. rig s kind ∷ []) (usual_at cut s.point) in
    let here = length-map (usual_at cut s.point) (λ kind. rig s kind ∷ []) in
    let one = some_kind cut s.point in
    let rest = each_has_one cut ss in
    let whole = length-append (f s) (flat_map f ss) in
    omega (arith, here, one, rest, whole)

first_level : (asks : List Reply → Move) (names : List (List ℕ)) (limit seed : ℕ) → GrowsByAsked (usual_subject asks names limit) []
    → length (outcome asks (given_of [] names seed 0 limit)).asked ≤ length (level (usual_subject asks names limit) 1)
unfolding level
first_level asks names limit seed grows =
    let t : Subject = usual_subject asks names limit in
    let asked : Entries → List ℕ = λ s. (outcome asks (given_of s names seed 0 limit)).asked in
    let sites = sites_from [] (asked (rigged_scenario names [])) in
    let many = ap length (append-nil (children t []) ∙ grows seed 0) in
    let each = each_has_one (cut_point names) sites in
    let all : length sites ≡ length (asked []) = length_sites [] (asked (rigged_scenario names [])) ∙ ap (λ s. length (asked s)) (rigged_scenario_nothing names [] refl) in
    omega (arith, many, each, all)

-- ---- the first level is one of those that grow

first_of_levels : (t : Subject) (d : ℕ) → 1 ≤ d → length (level t 1) < length (levels t d)
unfolding levels_to level
first_of_levels t zero some = absurd (omega arith)
first_of_levels t (suc zero) some = let e = length-append (levels t 0) (level t 1) in omega (arith, e)
first_of_levels t (suc (suc d)) some =
    let e = length-append (levels t (suc d)) (level t (suc (suc d))) in
    let rest = first_of_levels t (suc d) (omega arith) in
    omega (arith, e, rest)

-- If few plans grow, there are few sites.
pub few_sites_grow : (asks : List Reply → Move) (names : List (List ℕ)) (limit seed d : ℕ) → GrowsByAsked (usual_subject asks names limit) [] → 1 ≤ d
    → length (grown (usual_subject asks names limit) d) ≤ 65536 → length (sites_of (census_of asks names seed limit)) < 65536
few_sites_grow asks names limit seed d grows some few =
    let t : Subject = usual_subject asks names limit in
    let hits = (outcome asks (given_of [] names seed 0 limit)).asked in
    let one = first_level asks names limit seed grows in
    let part = first_of_levels t d some in
    let both = length-append (levels t d) (onward t d) in
    let counted = total_counts (length names) hits in
    let sites = sites_length 0 (census_of asks names seed limit) in
    omega (arith, one, part, both, counted, sites, few)

-- the children of the run without faults follow from what it asked
pub first_grows : (t : Subject) → IsLawful t → GrowsByAsked t []
unfolding level
first_grows t lawful = (grows_by_asked t lawful 0).0

-- the same of what grows by the usual kinds of faults
pub few_sites_of : (t : Subject) (seed d : ℕ) → t.kinds ≡ usual_kinds t.names → IsLawful t → 1 ≤ d → length (grown t d) ≤ 65536
    → length (sites_of (census_of t.asks t.names seed t.limit)) < 65536
few_sites_of t seed d usual lawful some few =
    few_sites_grow t.asks t.names t.limit seed d (subst (λ (x : Subject). GrowsByAsked x []) same (first_grows t lawful)) some
    (subst (λ (x : Subject). length (grown x d) ≤ 65536) same few)
  where
    by_kinds : (ℕ → List Kind) → Subject
    by_kinds kinds = record { asks = t.asks; names = t.names; limit = t.limit; kinds = kinds }

    same : t ≡ usual_subject t.asks t.names t.limit
    same = ap by_kinds usual
