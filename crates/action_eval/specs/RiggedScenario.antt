-- The scenario that makes faults act at rigged hits: entries in catalogue order, and one chain of terms for all rigged hits of a point.
use Rattle.std.specs.Prelude.{◌≡◌, ℕ, ◌+◌, ◌-◌, ◌^◌, ◌<◌, ◌≤◌, length, ◌==◌, if◌then◌else◌, Bool, true, false, List, [], ◌∷◌, ◌++◌, Option, Some, None}
use Rattle.std.specs.List.{AllByRecursion}
use Rattle.std.specs.Option.{IfSome}
use Rattle.std.specs.Str.{bytes_eq}
use Rattle.scenario_values.specs.declared.term.Term.{Term}
use Rattle.scenario_values.specs.declared.term.Task.{Task}
use Rattle.scenario_values.specs.declared.term.Task.TheVariants as task
use Rattle.scenario_values.specs.Scenario.{Entries, is_argument}
use Rattle.action_eval.specs.declared.rig.Site.{Site}
use Rattle.action_eval.specs.declared.rig.Rig.{Rig}
use Rattle.action_eval.specs.declared.rig.Kind.{Kind}
use Rattle.action_eval.specs.declared.rig.Kind.TheVariants.{OnceReturn, OnwardReturn, OncePanic}

-- A term of full share (a million millionths), which acts whenever it is reached.
abbrev pub full : Option ℕ → Task → Term
full count what = record { share = 1000000; count = count; task = what }

-- The term `N*off`: at the next n hits nothing is done. If n is 0, there is no term.
abbrev pub offs : ℕ → List Term
offs n = if n == 0 then [] else (full (Some n) task.Off ∷ [])

-- The term of a fault: `1*return` or `1*return(TEXT)`; for a sticky fault `return` or `return(TEXT)`; or `1*panic`.
abbrev pub term_of : Kind → Term
term_of (OnceReturn text) = full (Some 1) (task.Return text)
term_of (OnwardReturn text) = full None (task.Return text)
term_of OncePanic = full (Some 1) (task.Panic None)

-- The terms of a rigged hit, after `done` hits of its point.
abbrev pub rigged : ℕ → Rig → List Term
rigged done r = offs (r.site.hit - done - 1) ++ term_of r.kind ∷ []

-- What a rigged hit adds to the chain of point p; and below, how many hits of p are covered after it.
abbrev pub terms_at : ℕ → ℕ → Rig → List Term
terms_at p done r = if r.site.point == p then rigged done r else []

abbrev pub done_after : ℕ → ℕ → Rig → ℕ
done_after p done r = if r.site.point == p then r.site.hit else done

-- The chain of point p for rigged hits in ascending order, after `done` hits of p.
abbrev pub chain_from : ℕ → ℕ → List Rig → List Term
chain_from p done [] = []
chain_from p done (r ∷ rs) = terms_at p done r ++ chain_from p (done_after p done r) rs

-- The entry of a point. A point without terms has none.
abbrev pub entry : List ℕ → List Term → Entries
entry name [] = []
entry name (t ∷ ts) = (name, t ∷ ts) ∷ []

-- The entries of the points from number p on, in catalogue order.
abbrev pub entries_from : ℕ → List (List ℕ) → List Rig → Entries
entries_from p [] rigs = []
entries_from p (name ∷ names) rigs = entry name (chain_from p 0 rigs) ++ entries_from (p + 1) names rigs

-- A scenario is made of at most this many rigged hits.
abbrev pub most_rigs : ℕ
most_rigs = 64

-- The text of a rigged fault has at most this many bytes.
abbrev pub most_text : ℕ
most_text = 32

-- The text with which a fault returns, if it has one.
abbrev pub text_of : Kind → Option (List ℕ)
text_of (OnceReturn text) = text
text_of (OnwardReturn text) = text
text_of OncePanic = None

-- If the fault has a text, it may stand in a scenario and is short.
abbrev pub HasLawfulText : Kind → Type 0
HasLawfulText kind = IfSome (text_of kind) (λ text. (is_argument text ≡ true) × (length text ≤ most_text))

abbrev pub HaveLawfulTexts : List Rig → Type 0
HaveLawfulTexts rigs = AllByRecursion (λ r. HasLawfulText r.kind) rigs

-- The rigged hits of which a scenario can be made.
abbrev pub CanBeRigged : List Rig → Type 0
CanBeRigged rigs = (length rigs ≤ most_rigs) × AllByRecursion (λ r. r.site.hit < 2 ^ 32) rigs × HaveLawfulTexts rigs

-- Whether two returns have the same text, or both have none.
abbrev pub is_same_text : Option (List ℕ) → Option (List ℕ) → Bool
is_same_text None None = true
is_same_text None (Some text) = false
is_same_text (Some text) None = false
is_same_text (Some text) (Some other) = bytes_eq text other

-- The scenario of these rigged hits, for a catalogue of names.
unfoldable pub rigged_scenario : List (List ℕ) → List Rig → Entries
rigged_scenario names rigs = entries_from 0 names rigs

abbrev pub rig : Site → Kind → Rig
rig s kind = record { site = s; kind = kind }

-- What a fault table holds: the names of the points, and the scenario of the hits that are rigged at them.
pub record Rigged : Type 0 where
  pub names : List (List ℕ)
  pub scenario : Entries

abbrev pub rigged_as : List (List ℕ) → Entries → Rigged
rigged_as names scenario = record { names = names; scenario = scenario }
