-- The names in each plan's scenario are distinct.
use Rattle.std.proofs.Common.{◌≡◌, ℕ, ◌+◌, Bool, true, false, Option, None, Some, List, [], ◌∷◌, ◌++◌, map}
use Rattle.std.specs.List.{AllByRecursion, All, flat_map, range_with_len}
use Rattle.std.specs.Str.{bytes_eq}
use Rattle.std.proofs.lemmas.List.Elements.{All-from_recursion, recursion_from_All}
use Rattle.scenario_values.specs.declared.term.Term.{Term}
use Rattle.scenario_values.specs.Scenario.{Entries, New, DistinctNames}
use Rattle.action_eval.specs.Catalogue.{HasDistinct}
use Rattle.action_eval.specs.declared.rig.Rig.{Rig}
use Rattle.action_eval.specs.declared.rig.Site.{Site}
use Rattle.action_eval.specs.declared.rig.Kind.TheVariants.{OnceReturn}
use Rattle.action_eval.specs.RiggedScenario.{chain_from, entry, entries_from, rig, rigged_scenario}
use Rattle.plan_gen.specs.Census.{sites_of}
use Rattle.grown_plans.specs.GrownPlans.{Subject, rigs_of, scenario_of, grown, grown_list}
use Rattle.campaign_core.specs.Headline.{Campaign, census, grower, plans, plans_to}
use Rattle.plan_gen.specs.PlanList.{Asked, plan_list, site_plans, pair_plans, pairs_of, pair_part, storm, storm_part, alone, second}

-- ---- lists

all_both : {X : Type 0} (P : X → Type 0) (a b : List X) → AllByRecursion P a → AllByRecursion P b → AllByRecursion P (a ++ b)
all_both P [] b h k = k
all_both P (x ∷ xs) b h k = (h.0, all_both P xs b h.1 k)

all_map : {X Y : Type 0} (P : Y → Type 0) (f : X → Y) → ((x : X) → P (f x)) → (xs : List X) → AllByRecursion P (map f xs)
all_map P f h [] = tt
all_map P f h (x ∷ xs) = (h x, all_map P f h xs)

all_flat : {X Y : Type 0} (P : Y → Type 0) (f : X → List Y) → ((x : X) → AllByRecursion P (f x)) → (xs : List X) → AllByRecursion P (flat_map f xs)
all_flat P f h [] = tt
all_flat P f h (x ∷ xs) = all_both P (f x) (flat_map f xs) (h x) (all_flat P f h xs)

-- ---- rigged hits

entry_new : (name other : List ℕ) (ts : List Term) → bytes_eq other name ≡ false → New name (entry other ts)
entry_new name other [] h = tt
entry_new name other (t ∷ ts) h = (h, tt)

entries_new : (name : List ℕ) (p : ℕ) (names : List (List ℕ)) (rs : List Rig) → AllByRecursion (λ other. bytes_eq other name ≡ false) names
    → New name (entries_from p names rs)
entries_new name p [] rs h = tt
entries_new name p (other ∷ names) rs h =
    all_both (λ f. bytes_eq f.0 name ≡ false) (entry other (chain_from p 0 rs)) (entries_from (p + 1) names rs) (entry_new name other (chain_from p 0 rs) h.0)
    (entries_new name (p + 1) names rs h.1)

entry_distinct : (name : List ℕ) (ts : List Term) (s : Entries) → New name s → DistinctNames s → DistinctNames (entry name ts ++ s)
entry_distinct name [] s h d = d
entry_distinct name (t ∷ ts) s h d = (h, d)

entries_distinct : (p : ℕ) (names : List (List ℕ)) (rs : List Rig) → HasDistinct names → DistinctNames (entries_from p names rs)
entries_distinct p [] rs d = tt
entries_distinct p (name ∷ names) rs d =
    entry_distinct name (chain_from p 0 rs) (entries_from (p + 1) names rs) (entries_new name (p + 1) names rs d.0) (entries_distinct (p + 1) names rs d.1)

pub rigged_scenario_distinct : (names : List (List ℕ)) (rs : List Rig) → HasDistinct names → DistinctNames (rigged_scenario names rs)
unfolding rigged_scenario
rigged_scenario_distinct names rs d = entries_distinct 0 names rs d

-- ---- the list of plans

pair_part_distinct : (names : List (List ℕ)) (wanted : Bool) (sites : List Site) → HasDistinct names
    → AllByRecursion (λ s. DistinctNames s) (pair_part names wanted sites)
pair_part_distinct names true sites d =
    all_flat (λ s. DistinctNames s) (pair_plans names)
    (λ p. all_map (λ s. DistinctNames s) _ (λ kind. rigged_scenario_distinct names (rig p.0 (OnceReturn None) ∷ rig p.1 kind ∷ []) d) second) (pairs_of sites)
pair_part_distinct names false sites d = tt

listed_distinct : (names : List (List ℕ)) (counts : List ℕ) (asked : Asked) → HasDistinct names → AllByRecursion (λ s. DistinctNames s) asked.listed
    → AllByRecursion (λ s. DistinctNames s) (plan_list names counts asked)
unfolding plan_list
listed_distinct names counts asked d listed =
    let P : Entries → Type 0 = λ s. DistinctNames s in
    let sites : List Site = sites_of counts in
    let alone_part : List Entries = flat_map (site_plans names) sites in
    let pairs : List Entries = pair_part names asked.pairs sites in
    let storms : List Entries = storm_part names asked.seed asked.rate asked.storms sites in
    let empty : List Entries = [] ∷ [] in
    let one = all_flat P (site_plans names) (λ s. all_map P _ (λ kind. rigged_scenario_distinct names (rig s kind ∷ []) d) alone) sites in
    let two = pair_part_distinct names asked.pairs sites d in
    let many = all_map P _ (λ j. rigged_scenario_distinct names (storm asked.seed asked.rate sites j) d) (range_with_len 0 asked.storms) in
    all_both P (empty ++ alone_part ++ pairs ++ storms) asked.listed
    (all_both P (empty ++ alone_part ++ pairs) storms (all_both P (empty ++ alone_part) pairs (all_both P empty alone_part (tt, tt) one) two) many) listed

-- the same of plans that grow, with storms and listed scenarios behind them
grown_distinct : (t : Subject) (d : ℕ) (asked : Asked) (sites : List Site) → HasDistinct t.names → AllByRecursion (λ s. DistinctNames s) asked.listed
    → AllByRecursion (λ s. DistinctNames s) (grown_list t d asked sites)
grown_distinct t d asked sites distinct listed =
    let P : Entries → Type 0 = λ s. DistinctNames s in
    let many = all_map P _ (λ j. rigged_scenario_distinct t.names (storm asked.seed asked.rate sites j) distinct) (range_with_len 0 asked.storms) in
    let grew = all_map P _ (λ plan. rigged_scenario_distinct t.names (rigs_of plan) distinct) (grown t d) in
    all_both P (map (scenario_of t) (grown t d) ++ storm_part t.names asked.seed asked.rate asked.storms sites) asked.listed
    (all_both P (map (scenario_of t) (grown t d)) (storm_part t.names asked.seed asked.rate asked.storms sites) grew many) listed

-- Each plan's scenario has distinct names, if the names of the points and those in each listed scenario are distinct.
pub plans_distinct : (c : Campaign) → HasDistinct c.points → All (λ s. DistinctNames s) c.given.plans.listed → All (λ s. DistinctNames s) (plans c)
plans_distinct c distinct listed =
    All-from_recursion (λ s. DistinctNames s) (plans c) (each c.given.depth (recursion_from_All (λ s. DistinctNames s) c.given.plans.listed listed))
  where
    each : (depth : Option ℕ) → AllByRecursion (λ s. DistinctNames s) c.given.plans.listed → AllByRecursion (λ s. DistinctNames s) (plans_to c depth)
    each None h = listed_distinct c.points (census c) c.given.plans distinct h
    each (Some d) h = grown_distinct (grower c) d c.given.plans (sites_of (census c)) distinct h
