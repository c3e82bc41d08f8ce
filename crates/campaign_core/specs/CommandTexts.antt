-- What the commands write: the list of plans, one scenario tried, one scenario reduced.
use Rattle.std.specs.Prelude.{◌≡◌, ◌≤◌, ◌<◌, ℕ, ◌+◌, List, [], ◌∷◌, ◌++◌, Option, None, Some, length, codes}
use Rattle.std.specs.Fmt.{decimal}
use Rattle.scenario_values.specs.Scenario.{Entries}
use Rattle.action_eval.specs.Answers.{Given, given_of}
use Rattle.target_trait.specs.declared.judgement.Verdict.{Verdict}
use Rattle.target_trait.specs.declared.judgement.Verdict.TheVariants as verdict
use Rattle.target_trait.specs.Outcomes.{Told, outcome}
use Rattle.plan_gen.specs.PlanList.{most_plans}
use Rattle.plan_gen.specs.declared.list.PlanFault.{PlanFault}
use Rattle.plan_gen.specs.declared.list.PlanFault.TheVariants as plan_faults
use Rattle.report.specs.ReportText.{scenario_text, verdict_text, text_of}
use Rattle.report.specs.explained.Explained.{explain_text}
use Rattle.campaign_core.specs.Findings.{reduced, reduction, IsMinimal}
use Rattle.campaign_core.specs.Headline.{Campaign, grower, say, plans}
use Rattle.campaign_core.specs.Writes.{Change, IsUntouched, WritesPart}
use Rattle.grown_runs.specs.Grown.{begun}
use Rattle.campaign_core.specs.declared.ending.CampaignFault.{CampaignFault}
use Rattle.campaign_core.specs.declared.ending.CampaignFault.TheVariants as fault

-- ---- the list of plans

abbrev pub plan_line : ℕ → Entries → List ℕ
plan_line number plan = codes "plan " ++ decimal number ++ codes " " ++ scenario_text plan

-- A line for each plan. The plans are numbered from n on.
abbrev pub plan_lines : ℕ → List Entries → List (List ℕ)
plan_lines n [] = []
plan_lines n (plan ∷ plans) = plan_line n plan ∷ plan_lines (n + 1) plans

abbrev pub plans_text : Campaign → List ℕ
plans_text c = text_of (plan_lines 0 (plans c))

-- How many plans a list has that begins with n grown plans: storms and listed scenarios follow them.
abbrev pub with_rest : Campaign → ℕ → ℕ
with_rest c n = n + c.given.plans.storms + length c.given.plans.listed

-- How many plans have to be counted to look at the first `count` plans of the list. Without a depth these are all plans; with one, those of the
-- levels that are needed, and the plans after the levels.
abbrev pub counted_to : Campaign → ℕ → Option ℕ → ℕ
counted_to c count None = length (plans c)
counted_to c count (Some depth) = with_rest c (length (begun (grower c) depth count))

-- How many plans have to be counted to look up the plan of this number.
abbrev pub counted : Campaign → ℕ → ℕ
counted c number = counted_to c (number + 1) c.given.depth

-- Why the plan isn't found: too many plans would have to be counted, or memory was refused.
abbrev pub IsUnfound : Campaign → ℕ → CampaignFault → Type 0
IsUnfound c number fault.TooManyPlans = most_plans < counted c number
IsUnfound c number fault.Memory = Unit {0}
IsUnfound c number (fault.Write n) = ⊥

-- Why a list isn't made: it is too long, or memory was refused.
abbrev pub IsUnlisted : Campaign → CampaignFault → Type 0
IsUnlisted c fault.TooManyPlans = most_plans < length (plans c)
IsUnlisted c fault.Memory = Unit {0}
IsUnlisted c (fault.Write n) = ⊥

-- ---- one scenario tried

-- The lines of a tried scenario: the verdict, how many points were asked, how many random words were taken,
-- the simulated milliseconds, and how many notes there are.
abbrev pub try_lines : (ℕ → List ℕ) → Told → List (List ℕ)
try_lines code_name told =
    (codes "verdict " ++ verdict_text code_name told.verdict)
    ∷ (codes "asked " ++ decimal (length told.asked))
    ∷ (codes "words " ++ decimal told.words)
    ∷ (codes "millis " ++ decimal told.millis)
    ∷ (codes "notes " ++ decimal (length told.notes))
    ∷ []

abbrev pub try_text : (ℕ → List ℕ) → Told → List ℕ
try_text code_name told = text_of (try_lines code_name told)

-- What the run of a scenario under a stream number is given in a campaign.
abbrev pub case_in : Campaign → ℕ → Entries → Given
case_in c stream scenario = given_of scenario c.points c.given.plans.seed stream c.given.max_hits

-- The outcome of that run.
abbrev pub tried : Campaign → ℕ → Entries → Told
tried c stream scenario = outcome c.asks (case_in c stream scenario)

-- The text that explains that run hit by hit, with these lines at its end.
abbrev pub explained : (Given → List (List ℕ)) → Campaign → ℕ → Entries → List ℕ
explained end c stream scenario = explain_text c.codes c.asks end (case_in c stream scenario)

-- ---- one scenario reduced

-- The lines of a scenario that fails with this code under this stream number: what it is reduced to, and how many tests that took.
abbrev pub found_lines : (ℕ → Entries → Verdict) → ℕ → ℕ → Entries → List (List ℕ)
found_lines say stream code scenario =
    (codes "reduced " ++ scenario_text (reduced say stream code scenario))
    ∷ (codes "tests " ++ decimal (reduction say stream code scenario).tests)
    ∷ []

-- The same lines if the verdict is a failure, and no lines otherwise.
abbrev pub reduced_lines : Campaign → ℕ → Entries → Verdict → List (List ℕ)
reduced_lines c stream scenario verdict.Pass = []
reduced_lines c stream scenario (verdict.Fail code) = found_lines (say c) stream code scenario
reduced_lines c stream scenario verdict.Unresolved = []

-- The lines of the verdict of a scenario under a stream number, and of what it is reduced to.
abbrev pub reduce_lines : Campaign → ℕ → Entries → List (List ℕ)
reduce_lines c stream scenario =
    (codes "verdict " ++ verdict_text c.codes (say c stream scenario)) ∷ reduced_lines c stream scenario (say c stream scenario)

abbrev pub reduce_text : Campaign → ℕ → Entries → List ℕ
reduce_text c stream scenario = text_of (reduce_lines c stream scenario)

-- If the scenario fails, what it is reduced to fails with the same code, under the same seed, stream
-- number and limit, and no single fault can be left out of it.
abbrev pub IsReducedToMinimal : Campaign → ℕ → Entries → Type 0
IsReducedToMinimal c stream scenario =
    (code : ℕ) → say c stream scenario ≡ verdict.Fail code → IsMinimal (say c stream) code (reduced (say c) stream code scenario)

-- ---- faults

-- The fault of a command whose list of plans isn't made.
abbrev pub plan_fault : PlanFault → CampaignFault
plan_fault plan_faults.TooManyPlans = fault.TooManyPlans
plan_fault plan_faults.Memory = fault.Memory

-- What a fault means if a text wasn't written as a whole. If memory was refused, nothing was written, and the sink hasn't failed. If a write failed,
-- the first n bytes were written, fewer than all, and the sink has failed.
abbrev pub LeavesOnly : List ℕ → Change → CampaignFault → Type 0
LeavesOnly text w fault.TooManyPlans = ⊥
LeavesOnly text w fault.Memory = IsUntouched w
LeavesOnly text w (fault.Write n) = WritesPart text n w

-- The same for a text about the list of plans: if the list is too long, the command is refused and nothing is written.
abbrev pub IsFault : Campaign → List ℕ → Change → CampaignFault → Type 0
IsFault c text w fault.TooManyPlans = IsUntouched w × (most_plans < length (plans c))
IsFault c text w fault.Memory = IsUntouched w
IsFault c text w (fault.Write n) = WritesPart text n w × (length (plans c) ≤ most_plans)
