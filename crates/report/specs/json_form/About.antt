-- What a document says besides its report: who made it, by which settings, each plan that grew, and runs hit by hit.
use Rattle.std.specs.Prelude.{ℕ, ◌-◌, List, [], ◌∷◌, ◌++◌, codes, drop, length, map, take, Option, None, Some}
use Rattle.std.specs.Fmt.{decimal}
use Rattle.json.specs.Json.{Json, string, object, no_members, member}
use Rattle.scenario_values.specs.Scenario.{Entries}
use Rattle.action_eval.specs.declared.rig.Rig.{Rig}
use Rattle.action_eval.specs.declared.rig.Kind.{Kind}
use Rattle.action_eval.specs.declared.rig.Kind.TheVariants.{OnceReturn, OnwardReturn, OncePanic}
use Rattle.report.specs.json_form.Runs.{RunsFacts, or_null, run_value, shown_value}
use Rattle.report.specs.json_form.Values.{list_of, scenario_value}

-- The program's version, the source of the runs (`target` or `answers`), and the command.
pub record NotesFacts : Type 0 where
  pub version : List ℕ
  pub told_by : List ℕ
  pub command : List ℕ

-- The plans of a report; those that grew, which come first among them; how many storms and how many listed scenarios come at the end; and the text of
-- the settings.
pub record ShownFacts : Type 0 where
  pub plans : List Entries
  pub grown : List (List Rig)
  pub storms : ℕ
  pub listed : ℕ
  pub settings : List ℕ

-- The facts with these parts.
abbrev pub shown_of : List Entries → List (List Rig) → ℕ → ℕ → List ℕ → ShownFacts
shown_of plans grown storms listed settings = record { plans = plans; grown = grown; storms = storms; listed = listed; settings = settings }

-- ---- plans

-- The number of the first listed scenario and, below, that of the first storm.
abbrev pub listed_from : ShownFacts → ℕ
listed_from shown = length shown.plans - shown.listed

abbrev pub storms_from : ShownFacts → ℕ
storms_from shown = listed_from shown - shown.storms

abbrev pub plans_between : ℕ → ℕ → List Entries → List Entries
plans_between first end plans = drop first (take end plans)

-- What happens at a hit, in the syntax of scenarios.
abbrev pub argument_text : Option (List ℕ) → List ℕ
argument_text None = []
argument_text (Some text) = codes "(" ++ text ++ codes ")"

abbrev pub kind_text : Kind → List ℕ
kind_text (OnceReturn text) = codes "1*return" ++ argument_text text
kind_text (OnwardReturn text) = codes "return" ++ argument_text text
kind_text OncePanic = codes "1*panic"

-- A fault: the place of its point in the census, which hit of the point it is at, and what happens there.
abbrev pub fault_text : Rig → List ℕ
fault_text r = decimal r.site.point ++ codes " " ++ decimal r.site.hit ++ codes " " ++ kind_text r.kind

abbrev pub separator : List Rig → List ℕ
separator [] = []
separator (r ∷ earlier) = codes "; "

-- A plan that grew: its faults in the order in which they act, as in `2 1 1*return; 4 1 1*panic`. Its text begins with that of the plan that it grew
-- from.
abbrev pub faults_text : List Rig → List ℕ
faults_text [] = []
faults_text (r ∷ earlier) = faults_text earlier ++ separator earlier ++ fault_text r

abbrev pub grown_value : List Rig → Json
grown_value plan = string (faults_text plan)

-- ---- the whole

abbrev pub about_value : NotesFacts → ShownFacts → RunsFacts → Json
about_value notes shown runs =
    object (member (codes "program_version") (string notes.version)
    (member (codes "told_by") (string notes.told_by)
    (member (codes "command") (string notes.command)
    (member (codes "settings") (string shown.settings)
    (member (codes "storms") (list_of (map scenario_value (plans_between (storms_from shown) (listed_from shown) shown.plans)))
    (member (codes "listed") (list_of (map scenario_value (plans_between (listed_from shown) (length shown.plans) shown.plans)))
    (member (codes "grown") (list_of (map grown_value shown.grown))
    (member (codes "clean_run") (or_null run_value runs.clean)
    (member (codes "finding_runs") (list_of (map (or_null shown_value) runs.findings))
    (member (codes "cause_runs") (list_of (map (or_null shown_value) runs.causes)) no_members))))))))))
