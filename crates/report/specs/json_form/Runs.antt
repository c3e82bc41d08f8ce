-- The runs that a document shows hit by hit.
use Rattle.std.specs.Prelude.{List, codes, Option, None, Some}
use Rattle.json.specs.Json.{Json, Members, null, string, object, no_members, member}
use Rattle.report.specs.explained.Told.{RunFacts}
use Rattle.report.specs.declared.json_form.runs.ShownRun.{ShownRun}
use Rattle.report.specs.json_form.Values.{nonzero}

-- The run without faults, those of the findings, and those of the causes, each if it is known.
pub record RunsFacts : Type 0 where
  pub clean : Option RunFacts
  pub findings : List (Option ShownRun)
  pub causes : List (Option ShownRun)

-- The lines of `explain`, how many hits have no line among them, and then further members.
abbrev pub run_with : RunFacts → Members → Json
run_with run others = object (member (codes "explained") (string run.text) (nonzero (codes "left_out") run.left_out others))

abbrev pub run_value : RunFacts → Json
run_value run = run_with run no_members

-- A run, and then the run of the plan that its plan grew from, if that is known.
abbrev pub parent_member : Option RunFacts → Members
parent_member None = no_members
parent_member (Some parent) = member (codes "parent") (run_value parent) no_members

abbrev pub shown_value : ShownRun → Json
shown_value shown = run_with shown.run (parent_member shown.parent)

abbrev pub or_null : {A : Type 0} → (A → Json) → Option A → Json
or_null value None = null
or_null value (Some run) = value run
