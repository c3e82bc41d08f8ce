-- The rigged hits that a scenario is made of, if it only has hits that return or panic once each, or return from one hit on.
use Rattle.std.specs.Prelude.{ℕ, ◌+◌, ◌==◌, ◌&&◌, Bool, true, List, [], ◌∷◌, ◌++◌, Option, None, Some, option_and_then, option_map, nat_le, nat_lt, length, if◌then◌else◌}
use Rattle.std.specs.List.{list_all}
use Rattle.std.specs.Option.{option_map_or, unwrap_or}
use Rattle.std.specs.Str.{bytes_eq}
use Rattle.scenario_values.specs.Printed.{printed}
use Rattle.scenario_values.specs.Scenario.{Entries, chain_at, entry_of, is_argument}
use Rattle.scenario_values.specs.declared.term.Task.{Task}
use Rattle.scenario_values.specs.declared.term.Task.TheVariants as task
use Rattle.scenario_values.specs.declared.term.Term.{Term}
use Rattle.action_eval.specs.declared.rig.Kind.{Kind}
use Rattle.action_eval.specs.declared.rig.Kind.TheVariants.{OnceReturn, OnwardReturn, OncePanic}
use Rattle.action_eval.specs.declared.rig.Rig.{Rig}
use Rattle.action_eval.specs.RiggedScenario.{rig, rigged_scenario, most_text, text_of}
use Rattle.grown_plans.specs.GrownPlans.{is_before}

abbrev pub most_hit : ℕ
most_hit = 4294967295

-- The rigged hits with one more of this kind.
abbrev pub with_kind : ℕ → ℕ → Kind → List Rig → List Rig
with_kind point hit kind rigs = rigs ++ rig (record { point = point; hit = hit }) kind ∷ []

-- Whether a return has a text that a rigged hit may have, or none.
abbrev pub is_short : Option (List ℕ) → Bool
is_short None = true
is_short (Some text) = is_argument text && nat_le (length text) most_text

abbrev pub if_short : Option (List ℕ) → Kind → ℕ → ℕ → List Rig → Option (List Rig)
if_short text kind point hit rigs = if is_short text then Some (with_kind point hit kind rigs) else None

-- The rigged hits with what a task adds that acts `count` times, or without end. `off` with a count adds none, a return or a panic that acts once
-- adds one, and a return without end adds a sticky one. Any other task gives no result.
abbrev pub with_task : ℕ → ℕ → Option ℕ → Task → List Rig → Option (List Rig)
with_task point hit (Some count) task.Off rigs = Some rigs
with_task point hit (Some count) (task.Return text) rigs = if count == 1 then if_short text (OnceReturn text) point hit rigs else None
with_task point hit (Some count) (task.Panic None) rigs = if count == 1 then Some (with_kind point hit OncePanic rigs) else None
with_task point hit None (task.Return text) rigs = if_short text (OnwardReturn text) point hit rigs
with_task point hit count _ rigs = None

-- The rigged hits with what a term adds. The term acts at hits of the point up to this one or, if it has no count, from this one on. There is no
-- result if no rigged hit acts like that.
abbrev pub with_term : ℕ → ℕ → Term → List Rig → Option (List Rig)
with_term point hit t rigs = if (t.share == 1000000) && nat_le hit most_hit then with_task point hit t.count t.task rigs else None

-- The same for a term after `done` hits of the point, with how many hits there are after it. A term without a count takes one hit.
abbrev pub term_into : ℕ → ℕ → Term → List Rig → Option (ℕ × List Rig)
term_into point done t rigs =
    option_map (λ more. (done + unwrap_or t.count 1, more)) (with_term point (done + unwrap_or t.count 1) t rigs)

-- The rigged hits with those of a chain.
unfoldable pub chain_into : ℕ → ℕ → List Term → List Rig → Option (List Rig)
chain_into point done [] rigs = Some rigs
chain_into point done (t ∷ ts) rigs = option_and_then (λ next. chain_into point next.0 ts next.1) (term_into point done t rigs)

-- The chain of a point's name. It is empty if the scenario doesn't have the name.
abbrev pub chain_named : Entries → List ℕ → List Term
chain_named s name = option_map_or (chain_at s) (entry_of s name) []

-- The rigged hits with those of points that are numbered from `point` on.
unfoldable pub points_into : Entries → ℕ → List (List ℕ) → List Rig → Option (List Rig)
points_into s point [] rigs = Some rigs
points_into s point (name ∷ names) rigs = option_and_then (points_into s (point + 1) names) (chain_into point 0 (chain_named s name) rigs)

-- Whether rigged hits are few, short and in order, and make exactly this scenario.
abbrev pub are_in_order : List Rig → Bool
are_in_order [] = true
are_in_order (r ∷ rs) = nat_lt 0 r.site.hit && list_all (λ s. is_before r.site s.site) rs && are_in_order rs

abbrev pub are_small : List Rig → Bool
are_small rigs = list_all (λ r. nat_le r.site.hit most_hit) rigs

abbrev pub are_short : List Rig → Bool
are_short rigs = list_all (λ r. is_short (text_of r.kind)) rigs

abbrev pub are_lawful : List Rig → Bool
are_lawful rigs = nat_le (length rigs) 64 && are_small rigs && are_short rigs && are_in_order rigs

abbrev pub make : List (List ℕ) → List Rig → Entries → Bool
make points rigs s = are_lawful rigs && bytes_eq (printed (rigged_scenario points rigs)) (printed s)

abbrev pub if_made : List (List ℕ) → Entries → List Rig → Option (List Rig)
if_made points s rigs = if make points rigs s then Some rigs else None

-- The rigged hits that a scenario is made of, if there are any.
abbrev pub rigs_of_scenario : List (List ℕ) → Entries → Option (List Rig)
rigs_of_scenario points s = option_and_then (if_made points s) (points_into s 0 points [])
