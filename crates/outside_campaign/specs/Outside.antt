-- The verdicts of a component that somebody else runs. It is run under tidied scenarios, whose exact text it is given. Nothing is drawn for it, so
-- its verdicts don't depend on the stream number. Verdicts that do are those of a family, with a component for each stream number.
use Rattle.std.specs.Prelude.{ℕ}
use Rattle.scenario_values.specs.Scenario.{Entries}
use Rattle.scenario_values.specs.Tidied.{tidied}
use Rattle.target_trait.specs.declared.judgement.Verdict.{Verdict}
use Rattle.answer_text.specs.Known.{KnownVerdicts, Agrees}

-- A component, given by its verdict for each tidied scenario.
abbrev pub Component : Type 0
Component = Entries → Verdict

-- The verdict for any scenario, under any stream number.
abbrev pub say : Component → ℕ → Entries → Verdict
say component stream s = component (tidied s)

-- A family of components, one for each stream number.
abbrev pub Components : Type 0
Components = ℕ → Component

-- The verdict for any scenario under a stream number: that of the component with this number.
abbrev pub say_each : Components → ℕ → Entries → Verdict
say_each components stream s = components stream (tidied s)

-- Each component of the family agrees with what is known.
abbrev pub EachAgrees : Components → KnownVerdicts → Type 0
EachAgrees components known = (stream : ℕ) → Agrees (components stream) known
