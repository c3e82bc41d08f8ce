-- The list of plans: the empty plan, each site alone, each pair of sites, storms, and listed scenarios. The parts, their order and the limits are
-- this project's own.
use Rattle.std.specs.Prelude.{ℕ, ◌+◌, ◌/◌, ◌%◌, ◌==◌, nat_lt, if◌then◌else◌, Bool, None, List, [], ◌∷◌, ◌++◌, map, filter, zip, take, flat_map, length}
use Rattle.std.specs.List.{range_with_len}
use Rattle.scenario_values.specs.Scenario.{Entries}
use Rattle.action_eval.specs.Words.{word}
use Rattle.action_eval.specs.declared.rig.Site.{Site}
use Rattle.action_eval.specs.declared.rig.Rig.{Rig}
use Rattle.action_eval.specs.declared.rig.Kind.{Kind}
use Rattle.action_eval.specs.declared.rig.Kind.TheVariants.{OnceReturn, OnwardReturn, OncePanic}
use Rattle.plan_gen.specs.Census.{sites_of}
use Rattle.action_eval.specs.RiggedScenario.{rig, rigged_scenario, most_rigs}

-- A list has at most this many plans.
abbrev pub most_plans : ℕ
most_plans = 65536

-- The stream number of the first storm's random words. The stream numbers of plans begin at 0.
abbrev pub first_stream : ℕ
first_stream = 4294967296

-- What is done at a site alone. Returns have no text.
abbrev pub alone : List Kind
alone = OnceReturn None ∷ OnwardReturn None ∷ OncePanic ∷ []

abbrev pub site_plans : List (List ℕ) → Site → List Entries
site_plans names s = map (λ kind. rigged_scenario names (rig s kind ∷ [])) alone

-- What is done at the second of two sites. The first one returns once.
abbrev pub second : List Kind
second = OnceReturn None ∷ OncePanic ∷ []

abbrev pub pair_plans : List (List ℕ) → Site × Site → List Entries
pair_plans names p = map (λ kind. rigged_scenario names (rig p.0 (OnceReturn None) ∷ rig p.1 kind ∷ [])) second

-- Each two sites, in the order of the first and then of the second.
abbrev pub pairs_of : List Site → List (Site × Site)
pairs_of [] = []
pairs_of (a ∷ rest) = map (λ b. (a, b)) rest ++ pairs_of rest

-- Each site with its random word. Words are drawn in order, one for each site.
abbrev pub with_words : (ℕ → ℕ) → List Site → List (Site × ℕ)
with_words word sites = zip sites (map word (range_with_len 0 (length sites)))

-- A word takes its site if it is below the rate, modulo 1000.
abbrev pub is_taken : ℕ → Site × ℕ → Bool
is_taken rate s = nat_lt (s.1 % 1000) rate

-- What a word does at a site that it takes: one word in eight panics, and the others return.
abbrev pub storm_kind : ℕ → Kind
storm_kind w = if w / 1000 % 8 == 0 then OncePanic else OnceReturn None

-- The rigged hits of a storm, by its words: the sites that are taken, but only the first ones up to `most_rigs`.
abbrev pub storm_by : (ℕ → ℕ) → ℕ → List Site → List Rig
storm_by word rate sites = map (λ s. rig s.0 (storm_kind s.1)) (take most_rigs (filter (is_taken rate) (with_words word sites)))

-- Storm number j, by the words of its stream.
unfoldable pub storm : ℕ → ℕ → List Site → ℕ → List Rig
storm seed rate sites j = storm_by (word seed (first_stream + j)) rate sites

-- What a list of plans is made from, besides the sites.
pub record Asked : Type 0 where
  pub pairs : Bool
  pub storms : ℕ
  pub rate : ℕ
  pub listed : List Entries
  pub seed : ℕ

abbrev pub pair_part : List (List ℕ) → Bool → List Site → List Entries
pair_part names wanted sites = if wanted then flat_map (pair_plans names) (pairs_of sites) else []

abbrev pub storm_part : List (List ℕ) → ℕ → ℕ → ℕ → List Site → List Entries
storm_part names seed rate storms sites = map (λ j. rigged_scenario names (storm seed rate sites j)) (range_with_len 0 storms)

-- The list of plans over these sites.
abbrev pub plans_over : List (List ℕ) → Asked → List Site → List Entries
plans_over names asked sites =
    ([] ∷ []) ++ flat_map (site_plans names) sites ++ pair_part names asked.pairs sites ++ storm_part names asked.seed asked.rate asked.storms sites
    ++ asked.listed

-- The part at the end of the list: the storms and the listed scenarios.
abbrev pub further_list : List (List ℕ) → List ℕ → Asked → List Entries
further_list names counts asked = storm_part names asked.seed asked.rate asked.storms (sites_of counts) ++ asked.listed

-- The list of plans, by the counts of a census.
unfoldable pub plan_list : List (List ℕ) → List ℕ → Asked → List Entries
plan_list names counts asked = plans_over names asked (sites_of counts)
