-- The notes on the answer to a question on a component that somebody else runs: names in listed scenarios and in answers that no point of it has, and
-- what a strict report doesn't show.
use Rattle.std.specs.Prelude.{ℕ, ◌==◌, ◌&&◌, ◌++◌, Bool, false, not, List, [], ◌∷◌, Option, None, Some, codes, count_by, length, nat_lt, option_map, if◌then◌else◌, map, is_some}
use Rattle.std.specs.Fmt.{decimal}
use Rattle.std.specs.List.{filter, list_any, range_with_len}
use Rattle.std.specs.Option.{option_map_or}
use Rattle.scenario_values.specs.Scenario.{Entries}
use Rattle.scenario_values.specs.Tidied.{tidied}
use Rattle.target_trait.specs.Verdicts.{is_unresolved}
use Rattle.report.specs.ReportText.{text_of}
use Rattle.answer_text.specs.Known.{KnownVerdicts, verdicts_in}
use Rattle.answer_text.specs.Runs.{KnownRuns, known_runs, known_strangers, reading_of}
use Rattle.answer_text.specs.declared.runs.Stranger.{Stranger}
use Rattle.answer_text.specs.declared.runs.ToldRun.{ToldRun}
use Rattle.action_eval.specs.declared.rig.Kind.{Kind}
use Rattle.action_eval.specs.declared.rig.Rig.{Rig}
use Rattle.plan_gen.specs.Census.{counts_of}
use Rattle.plan_gen.specs.PlanList.{Asked}
use Rattle.grown_plans.specs.numbered.GrownScenarios.{grown_scenarios}
use Rattle.grown_runs.specs.known.Known.{hits_of}
use Rattle.grown_runs.specs.known.ToldPart.{part_known}
use Rattle.outside_campaign.specs.with_depth.Kinds.{listed_kinds}
use Rattle.answered_runs.specs.Answered.{kinds_over, plan_runs}
use Rattle.answered_runs.specs.Verdicts.{verdict_by}
use Rattle.answered_runs.specs.WholeList.{unseen_count}
use Rattle.outside_campaign.specs.Readable.{told_by}
use Rattle.outside_campaign.specs.Unmet.{unmet_count}
use Rattle.answered_runs.specs.grown.Further.{further_by}
use Rattle.answered_runs.specs.grown.Reached.{reached_told}
use Rattle.campaign_given.specs.Description.{Description}
use Rattle.campaign_given.specs.Given.{Given}
use Rattle.command_words.specs.declared.words.Question.{Question}
use Rattle.command_words.specs.declared.words.Question.TheVariants.{Asks, Report, Explain}
use Rattle.campaign_main.specs.Commands.{outside_plans}
use Rattle.campaign_main.specs.Notes.{doubt_notes, draws_nothing, is_doubted, is_unhit, listed_notes, stranger_line, text_if, unreached_lines}
use Rattle.campaign_main.specs.declared.notes.Doubts.{Doubts}
use Rattle.campaign_main.specs.declared.notes.Origin.TheVariants.{Answered}

-- ---- names that no point has

-- The notes on names in answered scenarios.
abbrev pub stranger_notes : List Stranger → List ℕ
stranger_notes strangers = text_of (map (λ s. stranger_line (Answered s.line) s.name) strangers)

-- The notes on the listed scenarios, and then those on a text of answers. With a depth its lines have to record hits.
abbrev pub name_notes : Option ℕ → Given → Description → List ℕ → List ℕ
name_notes depth given outside answers =
    listed_notes outside.points given.plans.listed
    ++ stranger_notes (known_strangers outside.points (reading_of (is_some depth) outside.codes outside.points answers))

-- ---- what a report without a depth doesn't show

-- Whether a scenario is known to be unresolved.
abbrev pub is_left_open : KnownVerdicts → Entries → Bool
is_left_open known s = option_map_or is_unresolved (known (tidied s)) false

-- Whether the run without faults is unresolved, how many plans are, whether no point is hit without faults, and whether storms draw nothing.
abbrev pub doubts_by : KnownVerdicts → Given → Description → Doubts
doubts_by known given outside = record {
  clean = is_left_open known [];
  unresolved = count_by (is_left_open known) (outside_plans given outside);
  plans = length (outside_plans given outside);
  unhit = is_unhit outside.hits;
  unstormed = draws_nothing given.plans;
}

-- The line for a point that isn't hit without faults. Another run may hit it, which answers needn't record.
abbrev pub unhit_line : List ℕ → List ℕ
unhit_line name = codes "strict: no hit without faults of " ++ name

abbrev pub unhit_of : List ℕ → ℕ → List (List ℕ)
unhit_of name hits = if hits == 0 then unhit_line name ∷ [] else []

-- A line for each such point, by the points' names and how often each is hit.
abbrev pub unhit_lines : List (List ℕ) → List ℕ → List (List ℕ)
unhit_lines [] hits = []
unhit_lines (name ∷ names) [] = []
unhit_lines (name ∷ names) (n ∷ hits) = unhit_of name n ++ unhit_lines names hits

abbrev pub unmet_line : ℕ → ℕ → List ℕ
unmet_line unmet plans =
    codes "strict: " ++ (decimal unmet ++ (codes " of " ++ (decimal plans ++ codes " plans pass without meeting all of their faults")))

abbrev pub unmet_notes : ℕ → ℕ → List ℕ
unmet_notes unmet plans = text_if (nat_lt 0 unmet) (unmet_line unmet plans)

-- What a strict report without a depth doesn't show, by the recorded runs.
abbrev pub census_doubts : Given → Description → KnownRuns → List ℕ
census_doubts given outside known =
    doubt_notes (doubts_by (verdicts_in known) given outside)
    ++ (unmet_notes (unmet_count outside.points known (outside_plans given outside)) (length (outside_plans given outside))
    ++ text_of (unhit_lines outside.points outside.hits))

-- ---- what a report with a depth doesn't show, by the names of the points and recorded runs

-- The plans that grow and are known by now. `listed` has the kinds of faults that are listed for each point.
abbrev pub plans_told : List (List ℕ) → List (List Kind) → KnownRuns → ℕ → List (List Rig)
plans_told points listed known depth = part_known (kinds_over points listed) (plan_runs points known) depth

-- How often each point is hit in the run without faults, if its hits are recorded.
abbrev pub census_told : List (List ℕ) → KnownRuns → Option (List ℕ)
census_told points known = option_map (counts_of (length points)) (hits_of (plan_runs points known) [])

-- The scenarios of these plans, and then the storms and listed scenarios.
abbrev pub list_told : List (List ℕ) → List (List Kind) → KnownRuns → ℕ → Asked → List Entries
list_told points listed known depth asked =
    grown_scenarios points (plans_told points listed known depth) ++ further_by points asked (plan_runs points known [])

-- Whether the run without faults is unresolved, how many plans are, whether no point is hit without faults, and whether storms draw nothing.
abbrev pub doubts_told : List (List ℕ) → List (List Kind) → KnownRuns → ℕ → Given → Doubts
doubts_told points listed known depth given = record {
  clean = is_left_open (verdict_by points known depth) [];
  unresolved = count_by (is_left_open (verdict_by points known depth)) (list_told points listed known depth given.plans);
  plans = length (list_told points listed known depth given.plans);
  unhit = option_map_or is_unhit (census_told points known) false;
  unstormed = draws_nothing given.plans;
}

-- Whether a recorded run hits a point.
abbrev pub is_hit_in : ℕ → Option ToldRun → Bool
is_hit_in point None = false
is_hit_in point (Some run) = option_map_or (list_any (λ s. s.point == point)) run.hits false

-- Whether the recorded run of one of these scenarios hits a point.
abbrev pub is_hit_by : KnownRuns → List Entries → ℕ → Bool
is_hit_by known scenarios point = list_any (λ s. is_hit_in point (known (tidied s))) scenarios

-- The numbers of the points that no recorded run hits: neither that of a plan that grew, nor that of a scenario behind them.
abbrev pub unreached_told : List (List ℕ) → List (List Kind) → KnownRuns → ℕ → List Entries → List ℕ
unreached_told points listed known depth further =
    filter (λ p. (reached_told (plan_runs points known) (plans_told points listed known depth) p == 0) && not (is_hit_by known further p))
    (range_with_len 0 (length points))

-- How many plans that grew are recorded without their hits.
abbrev pub unseen_told : List (List ℕ) → List (List Kind) → KnownRuns → ℕ → ℕ
unseen_told points listed known depth = unseen_count (plan_runs points known) (plans_told points listed known depth)

abbrev pub unseen_line : ℕ → ℕ → List ℕ
unseen_line unseen plans = codes "strict: " ++ (decimal unseen ++ (codes " of " ++ (decimal plans ++ codes " plans without known hits")))

abbrev pub unseen_notes : ℕ → ℕ → List ℕ
unseen_notes unseen plans = text_if (nat_lt 0 unseen) (unseen_line unseen plans)

abbrev pub run_doubts : List (List ℕ) → List (List Kind) → KnownRuns → ℕ → Given → List ℕ
run_doubts points listed known depth given =
    doubt_notes (doubts_told points listed known depth given)
    ++ (unseen_notes (unseen_told points listed known depth) (length (list_told points listed known depth given.plans))
    ++ text_of (unreached_lines points (unreached_told points listed known depth (further_by points given.plans (plan_runs points known [])))))

-- ---- with or without a depth

abbrev pub strict_doubts : Option ℕ → Given → Description → List ℕ → List ℕ
strict_doubts None given outside answers = census_doubts given outside (told_by outside answers)
strict_doubts (Some depth) given outside answers =
    run_doubts outside.points (listed_kinds outside) (known_runs outside.codes outside.points answers) depth given

-- ---- the notes on an answer

-- What a report that is to be strict doesn't show; nothing of another question.
abbrev pub question_doubts : Option ℕ → Question → Given → Description → List ℕ → List ℕ
question_doubts depth Asks given outside answers = []
question_doubts depth (Report what strict) given outside answers = if strict then strict_doubts depth given outside answers else []
question_doubts depth (Explain text) given outside answers = []

-- The notes of a campaign with this depth, if it has one.
abbrev pub notes_to : Option ℕ → Question → Given → Description → List ℕ → List ℕ
notes_to depth question given outside answers = name_notes depth given outside answers ++ question_doubts depth question given outside answers

abbrev pub question_notes : Question → Given → Description → List ℕ → List ℕ
question_notes question given outside answers = notes_to given.depth question given outside answers

-- Whether there are notes that count, as the report is strict.
abbrev pub is_question_doubted : Question → List ℕ → Bool
is_question_doubted Asks notes = false
is_question_doubted (Report what strict) notes = is_doubted strict notes
is_question_doubted (Explain text) notes = false
