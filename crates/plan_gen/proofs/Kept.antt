-- What a list keeps of its plans stands for its plans.
use Rattle.std.proofs.Common.{◌≡◌, ℕ, Bool, true, false, cond, List, [], ◌∷◌, ◌++◌, ◌+◌, map, length, length-append, refl, ap, ◌∙◌}
use Rattle.std.proofs.lemmas.List.{map-append}
use Rattle.std.specs.List.{flat_map, range_with_len}
use Rattle.action_eval.specs.declared.rig.Site.{Site}
use Rattle.scenario_values.specs.Scenario.{Entries}
use Rattle.plan_gen.specs.declared.drawing.Source.{Source}
use Rattle.plan_gen.specs.declared.drawing.Source.TheVariants.{Empty, Storm}
use Rattle.plan_gen.specs.Census.{sites_of}
use Rattle.plan_gen.specs.PlanList.{Asked, pairs_of, site_plans, pair_plans, pair_part, storm_part, plans_over, plan_list, further_list}
use Rattle.plan_gen.proofs.Lists.{map_length}
use Rattle.plan_gen.specs.inside.Drawn.{Shared, drawn, plans_of, site_sources, pair_sources, sources_of}

map_flat : {A B C : Type 0} (f : B → C) (g : A → List B) (h : A → List C) → ((x : A) → map f (g x) ≡ h x) → (xs : List A) → map f (flat_map g xs) ≡ flat_map h xs
map_flat f g h each [] = refl
map_flat f g h each (x ∷ xs) = map-append f (g x) (flat_map g xs) ∙ ap (λ l. l ++ map f (flat_map g xs)) (each x) ∙ ap (λ l. h x ++ l) (map_flat f g h each xs)

map_twice : {A B C : Type 0} (f : B → C) (g : A → B) (xs : List A) → map f (map g xs) ≡ map (λ x. f (g x)) xs
map_twice f g [] = refl
map_twice f g (x ∷ xs) = ap (λ l. f (g x) ∷ l) (map_twice f g xs)

pairs_kept : (d : Shared) (wanted : Bool) (sites : List Site) → map (drawn d) (cond wanted (flat_map pair_sources (pairs_of sites)) []) ≡ pair_part d.names wanted sites
pairs_kept d true sites = map_flat (drawn d) pair_sources (pair_plans d.names) (λ p. refl) (pairs_of sites)
pairs_kept d false sites = refl

four : {A B : Type 0} (f : A → B) (a b c d : List A) → map f (a ++ b ++ c ++ d) ≡ map f a ++ map f b ++ map f c ++ map f d
four f a b c d =
    map-append f (a ++ b ++ c) d
    ∙ ap (λ l. l ++ map f d) (map-append f (a ++ b) c ∙ ap (λ l. l ++ map f c) (map-append f a b))

sources_kept : (d : Shared) (asked : Asked) (sites : List Site) → map (drawn d) (sources_of asked sites)
    ≡ ([] ∷ []) ++ flat_map (site_plans d.names) sites ++ pair_part d.names asked.pairs sites ++ storm_part d.names d.seed d.rate asked.storms d.sites
sources_kept d asked sites =
    let names = d.names in
    let f = drawn d in
    let pairs = cond asked.pairs (flat_map pair_sources (pairs_of sites)) [] in
    let start : List Entries = [] ∷ [] in
    four f (Empty ∷ []) (flat_map site_sources sites) pairs (map Storm (range_with_len 0 asked.storms))
    ∙ ap (λ l. start ++ l ++ map f pairs ++ map f (map Storm (range_with_len 0 asked.storms))) (map_flat f site_sources (site_plans names) (λ s. refl) sites)
    ∙ ap (λ l. start ++ flat_map (site_plans names) sites ++ l ++ map f (map Storm (range_with_len 0 asked.storms))) (pairs_kept d asked.pairs sites)
    ∙ ap (λ l. start ++ flat_map (site_plans names) sites ++ pair_part names asked.pairs sites ++ l) (map_twice f Storm (range_with_len 0 asked.storms))

abbrev shared : List (List ℕ) → List Site → ℕ → ℕ → Shared
shared names sites seed rate = record { names = names; sites = sites; seed = seed; rate = rate }

-- a list over what is asked for has the plans that are asked for
pub list_kept : (names : List (List ℕ)) (asked : Asked) (counts : List ℕ) (sites : List Site) (d : Shared) (sources : List Source) (seed rate : ℕ) (listed : List Entries)
    → sites ≡ sites_of counts → d ≡ record { names = names; sites = sites; seed = seed; rate = rate } → seed ≡ asked.seed → rate ≡ asked.rate → sources ≡ sources_of asked sites → listed ≡ asked.listed
    → plans_of d sources listed ≡ plan_list names counts asked
unfolding plan_list
list_kept names asked counts sites d sources seed rate listed there is s r kept more =
    ap (λ (e : Shared). plans_of e sources listed) (is ∙ ap (λ k. shared names sites k rate) s ∙ ap (λ k. shared names sites asked.seed k) r)
    ∙ ap (λ (l : List Source). plans_of (shared names sites asked.seed asked.rate) l listed) kept
    ∙ ap (λ l. l ++ listed) (sources_kept (shared names sites asked.seed asked.rate) asked sites)
    ∙ ap (λ l. plans_over names (record asked { listed = l }) sites) more
    ∙ ap (plans_over names asked) there

-- the same of storms and listed scenarios alone
pub further_kept : (names : List (List ℕ)) (asked : Asked) (counts : List ℕ) (sites : List Site) (d : Shared) (sources : List Source) (seed rate : ℕ) (listed : List Entries)
    → sites ≡ sites_of counts → d ≡ record { names = names; sites = sites; seed = seed; rate = rate } → seed ≡ asked.seed → rate ≡ asked.rate
    → sources ≡ map Storm (range_with_len 0 asked.storms) → listed ≡ asked.listed → plans_of d sources listed ≡ further_list names counts asked
further_kept names asked counts sites d sources seed rate listed there is s r kept more =
    ap (λ (e : Shared). plans_of e sources listed) (is ∙ ap (λ k. shared names sites k rate) s ∙ ap (λ k. shared names sites asked.seed k) r)
    ∙ ap (λ (l : List Source). plans_of (shared names sites asked.seed asked.rate) l listed) kept
    ∙ ap (λ l. l ++ listed) (map_twice (drawn (shared names sites asked.seed asked.rate)) Storm (range_with_len 0 asked.storms))
    ∙ ap (λ l. storm_part names asked.seed asked.rate asked.storms sites ++ l) more
    ∙ ap (λ ss. storm_part names asked.seed asked.rate asked.storms ss ++ asked.listed) there

-- and as many as its parts
pub kept_length : (d : Shared) (sources : List Source) (listed : List Entries) → length (plans_of d sources listed) ≡ length sources + length listed
kept_length d sources listed = length-append (map (drawn d) sources) listed ∙ ap (λ n. n + length listed) (map_length (drawn d) sources)
