-- Plans that grow from the hits of each other's runs.
use Rattle.std.specs.Prelude.{ℕ, zero, suc, ◌+◌, ◌==◌, ◌&&◌, ◌||◌, nat_lt, if◌then◌else◌, Bool, true, false, Option, None, Some, List, [], ◌∷◌, ◌++◌, map, length, count_by, position, codes}
use Rattle.std.specs.List.{flat_map, list_any}
use Rattle.std.specs.Str.{bytes_eq}
use Rattle.scenario_values.specs.Scenario.{Entries}
use Rattle.action_eval.specs.Answers.{Reply, Given, given_of}
use Rattle.action_eval.specs.declared.rig.Site.{Site}
use Rattle.action_eval.specs.declared.rig.Rig.{Rig}
use Rattle.action_eval.specs.declared.rig.Kind.{Kind}
use Rattle.action_eval.specs.declared.rig.Kind.TheVariants.{OnceReturn, OnwardReturn, OncePanic}
use Rattle.action_eval.specs.RiggedScenario.{rig, rigged_scenario, text_of, is_same_text}
use Rattle.target_trait.specs.Play.{Move}
use Rattle.plan_gen.specs.PlanList.{Asked, storm_part}
use Rattle.plan_gen.specs.RiggedAnswers.{is_onward}
use Rattle.grown_plans.specs.Runs.{Met, run}

-- What is tested: what it asks, the names of its points, how many hits of a run are answered, and which kinds of
-- faults are tried at the hits of each point, in which order.
pub record Subject : Type 0 where
  pub asks : List Reply → Move
  pub names : List (List ℕ)
  pub limit : ℕ
  pub kinds : ℕ → List Kind

-- The point at which a power cut asks which pending writes it keeps, if the catalogue has one.
abbrev pub cut_point : List (List ℕ) → Option ℕ
cut_point names = position (λ name. bytes_eq name (codes "power::keep")) names

abbrev pub is_cut : Option ℕ → ℕ → Bool
is_cut None point = false
is_cut (Some cut) point = point == cut

-- The kinds that are tried if none are listed: a return without a text, and a panic. At the point of a power cut it is only a return, which keeps a
-- write: every other answer loses the write, as if there were no fault.
abbrev pub usual_at : Option ℕ → ℕ → List Kind
usual_at cut point = if is_cut cut point then OnceReturn None ∷ [] else (OnceReturn None ∷ OncePanic ∷ [])

abbrev pub usual_kinds : List (List ℕ) → ℕ → List Kind
usual_kinds names = usual_at (cut_point names)

-- The kinds that are listed for a point, in the order of the points. If nothing is listed for a point, there are none.
abbrev pub listed_at : List (List Kind) → ℕ → List Kind
listed_at [] point = []
listed_at (kinds ∷ rest) zero = kinds
listed_at (kinds ∷ rest) (suc point) = listed_at rest point

abbrev pub or_usual : List Kind → List Kind → List Kind
or_usual [] usual = usual
or_usual (kind ∷ kinds) usual = kind ∷ kinds

-- What determines the kinds that are tried: the point of the power cut, if there is one, and the kinds that are listed.
pub record Tried : Type 0 where
  pub cut : Option ℕ
  pub listed : List (List Kind)

abbrev pub tried_over : List (List ℕ) → List (List Kind) → Tried
tried_over names listed = record { cut = cut_point names; listed = listed }

abbrev pub kinds_at : Tried → ℕ → List Kind
kinds_at tried point = or_usual (listed_at tried.listed point) (usual_at tried.cut point)

abbrev pub usual_subject : (List Reply → Move) → List (List ℕ) → ℕ → Subject
usual_subject asks names limit = record { asks = asks; names = names; limit = limit; kinds = usual_kinds names }

-- ---- the scenario of a plan, which is the list of its faults, the last one to act first

abbrev pub is_before : Site → Site → Bool
is_before a b = nat_lt a.point b.point || ((a.point == b.point) && nat_lt a.hit b.hit)

abbrev pub placed : Rig → List Rig → List Rig
placed r [] = r ∷ []
placed r (t ∷ ts) = if is_before r.site t.site then r ∷ t ∷ ts else (t ∷ placed r ts)

-- The faults in the order of their points, and at each point of its hits.
abbrev pub in_order : List Rig → List Rig
in_order [] = []
in_order (r ∷ rs) = placed r (in_order rs)

abbrev pub is_once_return : Kind → Bool
is_once_return (OnceReturn text) = true
is_once_return (OnwardReturn text) = false
is_once_return OncePanic = false

-- A return just before a sticky one with the same text is merged into it: `1*return->return` is `return`.
abbrev pub is_part : Rig → Rig → Bool
is_part r t =
    is_once_return r.kind && is_onward t.kind && is_same_text (text_of r.kind) (text_of t.kind)
    && (r.site.point == t.site.point) && (r.site.hit + 1 == t.site.hit)

abbrev pub merged_onto : Rig → List Rig → List Rig
merged_onto r [] = r ∷ []
merged_onto r (t ∷ ts) = if is_part r t then rig r.site t.kind ∷ ts else (r ∷ t ∷ ts)

abbrev pub merged : List Rig → List Rig
merged [] = []
merged (r ∷ rs) = merged_onto r (merged rs)

-- The hits that are rigged for a plan, and the plan's scenario.
abbrev pub rigs_of : List Rig → List Rig
rigs_of plan = merged (in_order plan)

abbrev pub scenario_of : Subject → List Rig → Entries
scenario_of t plan = rigged_scenario t.names (rigs_of plan)

-- The run of a plan. A law says that it is the same for every seed and stream number.
abbrev pub given_for : Subject → List Rig → ℕ → ℕ → Given
given_for t plan seed stream = given_of (scenario_of t plan) t.names seed stream t.limit

unfoldable pub run_of_plan : Subject → List Rig → List Met
run_of_plan t plan = run t.asks (given_for t plan 0 0)

-- ---- the list

abbrev pub is_at : Site → Met → Bool
is_at s m = (m.site.point == s.point) && (m.site.hit == s.hit)

-- The hits of a run after a plan's last fault.
abbrev pub hits_after : Site → List Met → List Met
hits_after s [] = []
hits_after s (m ∷ ms) = if is_at s m then ms else hits_after s ms

abbrev pub hits_past : List Rig → List Met → List Met
hits_past [] ms = ms
hits_past (r ∷ rs) ms = hits_after r.site ms

-- The plan with one more fault, for each kind that is tried at the hit's point.
abbrev pub grown_at : Subject → List Rig → Met → List (List Rig)
grown_at t plan m = map (λ kind. rig m.site kind ∷ plan) (t.kinds m.site.point)

-- A plan's children: one more fault at each hit of its own run after its last fault, in the order of the hits.
abbrev pub children : Subject → List Rig → List (List Rig)
children t plan = flat_map (grown_at t plan) (hits_past plan (run_of_plan t plan))

-- The plans of n faults: the empty plan for n = 0, and otherwise the children of each plan of the level before, in order.
unfoldable pub level : Subject → ℕ → List (List Rig)
level t zero = [] ∷ []
level t (suc n) = flat_map (children t) (level t n)

-- Levels 0 to d.
unfoldable pub levels_to : (ℕ → List (List Rig)) → ℕ → List (List Rig)
levels_to level zero = level zero
levels_to level (suc d) = levels_to level d ++ level (suc d)

abbrev pub levels : Subject → ℕ → List (List Rig)
levels t d = levels_to (level t) d

-- Whether the point of a fault is hit again after the fault.
abbrev pub is_hit_again : Site → List Met → Bool
is_hit_again s ms = list_any (λ m. m.site.point == s.point) (hits_after s ms)

-- The plan with its last fault made sticky, with the same text, if that fault is a return and its point is hit again after it.
abbrev pub onward_of : Subject → List Rig → List (List Rig)
onward_of t [] = []
onward_of t (r ∷ rs) =
    if is_once_return r.kind && is_hit_again r.site (run_of_plan t (r ∷ rs)) then (rig r.site (OnwardReturn (text_of r.kind)) ∷ rs) ∷ [] else []

unfoldable pub onward : Subject → ℕ → List (List Rig)
onward t d = flat_map (onward_of t) (level t d)

-- The grown plans of depth d.
abbrev pub grown : Subject → ℕ → List (List Rig)
grown t d = levels t d ++ onward t d

-- The list of depth d: the grown plans, followed by the storms and listed scenarios as without a depth. A plan's number is its place in the list.
abbrev pub grown_list : Subject → ℕ → Asked → List Site → List Entries
grown_list t d asked sites =
    map (scenario_of t) (grown t d) ++ storm_part t.names asked.seed asked.rate asked.storms sites ++ asked.listed

-- ---- what a report says of it

-- How many plans the next level has.
abbrev pub beyond : Subject → ℕ → ℕ
beyond t d = length (level t (suc d))

abbrev pub most : List ℕ → ℕ
most [] = 0
most (n ∷ ns) = if nat_lt (most ns) n then n else most ns

-- The most hits of this point in the run of any one grown plan.
abbrev pub reached : Subject → ℕ → ℕ → ℕ
reached t d point = most (map (λ plan. count_by (λ m. m.site.point == point) (run_of_plan t plan)) (grown t d))
