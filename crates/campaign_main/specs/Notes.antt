-- The notes on a command's text: names in scenarios that no point of the target has, scenarios with control characters, and what a strict report
-- doesn't show.
use Rattle.std.specs.Prelude.{◌≡◌, ◌++◌, ◌+◌, ◌==◌, ◌&&◌, [], ◌∷◌, ℕ, Bool, true, false, List, codes, count_by, flat_map, length, map, nat_lt, slice_index_or, if◌then◌else◌}
use Rattle.std.specs.Fmt.{decimal}
use Rattle.std.specs.List.{list_all, list_any}
use Rattle.std.specs.Str.{bytes_eq}
use Rattle.scenario_values.specs.Printed.{printed}
use Rattle.scenario_values.specs.Scenario.{Entries}
use Rattle.answer_text.specs.FirstFault.{has_control}
use Rattle.target_trait.specs.Verdicts.{is_unresolved}
use Rattle.report.specs.ReportText.{ended, text_of}
use Rattle.plan_gen.specs.PlanList.{Asked}
use Rattle.campaign_core.specs.Headline.{Campaign, census, plans, report}
use Rattle.campaign_core.specs.Ran.{unreached}
use Rattle.campaign_main.specs.Escaped.{escaped}
use Rattle.campaign_main.specs.declared.notes.Doubts.{Doubts}
use Rattle.campaign_main.specs.declared.notes.Origin.{Origin}
use Rattle.campaign_main.specs.declared.notes.Origin.TheVariants.{Taken, Listed, Answered}
use Rattle.command_words.specs.declared.words.Order.{Order}
use Rattle.command_words.specs.declared.words.Order.TheVariants as order

-- Whether a point has the name.
abbrev pub is_point : List (List ℕ) → List ℕ → Bool
is_point points name = list_any (λ point. bytes_eq point name) points

-- The words that say which scenario a note is about.
abbrev pub origin_text : Origin → List ℕ
origin_text Taken = codes "scenario"
origin_text (Listed number) = codes "settings: scenario " ++ decimal number
origin_text (Answered number) = codes "answers: line " ++ decimal number

-- The line for a name that no point has, which says in which scenario it stands: `settings: scenario 1: no point is named NAME`.
abbrev pub stranger_line : Origin → List ℕ → List ℕ
stranger_line origin name = origin_text origin ++ codes ": no point is named " ++ escaped name

abbrev pub stranger_of : List (List ℕ) → Origin → List ℕ → List (List ℕ)
stranger_of points origin name = if is_point points name then [] else stranger_line origin name ∷ []

-- The lines for the names of a scenario that no point has, in the scenario's order.
abbrev pub strangers_in : List (List ℕ) → Origin → Entries → List (List ℕ)
strangers_in points origin scenario = flat_map (λ e. stranger_of points origin e.0) scenario

-- The line for a scenario with a control character. A text has the character as it is, so after a line feed the rest looks like another line.
abbrev pub control_line : Origin → List ℕ
control_line origin = origin_text origin ++ codes ": a control character: what follows it in the text may look like a line of its own"

abbrev pub control_lines : Origin → Entries → List (List ℕ)
control_lines origin scenario = if has_control (printed scenario) then control_line origin ∷ [] else []

-- The notes on a scenario.
unfoldable pub scenario_notes : List (List ℕ) → Origin → Entries → List ℕ
scenario_notes points origin scenario = text_of (strangers_in points origin scenario) ++ text_of (control_lines origin scenario)

-- The notes on the scenario that a command takes.
abbrev pub notes_of : List (List ℕ) → Entries → List ℕ
notes_of points scenario = scenario_notes points Taken scenario

-- The notes on scenarios that the settings list, numbered from n.
abbrev pub listed_from : List (List ℕ) → ℕ → List Entries → List ℕ
listed_from points n [] = []
listed_from points n (scenario ∷ more) =
    scenario_notes points (Listed n) scenario ++ listed_from points (n + 1) more

-- The notes on all of them, numbered from 0.
abbrev pub listed_notes : List (List ℕ) → List Entries → List ℕ
listed_notes points listed = listed_from points 0 listed

-- ---- what a report doesn't show

abbrev pub unresolved_line : ℕ → ℕ → List ℕ
unresolved_line unresolved plans = codes "strict: " ++ (decimal unresolved ++ (codes " of " ++ (decimal plans ++ codes " plans unresolved")))

abbrev pub text_if : Bool → List ℕ → List ℕ
text_if true line = ended line
text_if false line = []

abbrev pub doubt_notes : Doubts → List ℕ
doubt_notes d =
    text_if d.clean (codes "strict: clean unresolved")
    ++ (text_if (nat_lt 0 d.unresolved) (unresolved_line d.unresolved d.plans)
    ++ (text_if d.unhit (codes "strict: no hits without faults")
    ++ text_if d.unstormed (codes "strict: storms of rate 0")))

-- There are storms, and they draw nothing, as their rate is 0.
abbrev pub draws_nothing : Asked → Bool
draws_nothing asked = nat_lt 0 asked.storms && asked.rate == 0

-- No point is hit.
abbrev pub is_unhit : List ℕ → Bool
is_unhit counts = list_all (λ count. count == 0) counts

-- What a campaign's report doesn't show: whether the run without faults is unresolved, how many plans are, whether no point is hit without faults,
-- and whether there are storms that draw nothing.
abbrev pub doubts_of : Campaign → Doubts
doubts_of c = record {
  clean = is_unresolved (report c).clean;
  unresolved = count_by is_unresolved (report c).verdicts;
  plans = length (plans c);
  unhit = is_unhit (census c);
  unstormed = draws_nothing c.given.plans;
}

-- The line for a point that no run of a plan reaches.
abbrev pub unreached_line : List ℕ → List ℕ
unreached_line name = codes "strict: no run reaches " ++ name

abbrev pub unreached_lines : List (List ℕ) → List ℕ → List (List ℕ)
unreached_lines points unreached = map (λ p. unreached_line (slice_index_or points p [])) unreached

-- The notes on what a strict report doesn't show.
abbrev pub strict_notes : Campaign → List ℕ
strict_notes c = doubt_notes (doubts_of c) ++ text_of (unreached_lines c.points (unreached c))

-- The notes on a report: those on listed scenarios and, if it is strict, on what it doesn't show.
abbrev pub report_notes : Bool → Campaign → List ℕ
report_notes true c = listed_notes c.points c.given.plans.listed ++ strict_notes c
report_notes false c = listed_notes c.points c.given.plans.listed

-- There are notes, and they count, as the report is strict.
abbrev pub is_doubted : Bool → List ℕ → Bool
is_doubted strict notes = strict && nat_lt 0 (length notes)

-- ---- which notes there may be

-- The notes are those on some scenario, over some points; or, by the second definition, those on some listed scenarios.
abbrev pub NotesAScenario : List ℕ → Type 0
NotesAScenario notes = (points : List (List ℕ)) × ((scenario : Entries) × (notes ≡ notes_of points scenario))

abbrev pub NotesListed : List ℕ → Type 0
NotesListed notes = (points : List (List ℕ)) × ((listed : List Entries) × (notes ≡ listed_notes points listed))

-- Which notes an order may have: `run` those on some campaign's report, `plans` those on listed scenarios, the others those on one scenario.
abbrev pub MayNote : Order → List ℕ → Type 0
MayNote (order.Run form strict) notes = (c : Campaign) × (notes ≡ report_notes strict c)
MayNote order.Plans notes = NotesListed notes
MayNote (order.Try which) notes = NotesAScenario notes
MayNote (order.Reduce which) notes = NotesAScenario notes
MayNote (order.Explain which) notes = NotesAScenario notes
