-- What is still to be tried, by the verdicts that are known.
use Rattle.std.specs.Prelude.{◌≡◌, ℕ, None, List, [], ◌∷◌, ◌++◌, is_none, if◌then◌else◌, map, flat_map, Option}
use Rattle.scenario_values.specs.Scenario.{Entries}
use Rattle.scenario_values.specs.Tidied.{tidied}
use Rattle.target_trait.specs.declared.judgement.Verdict.{Verdict}
use Rattle.result_book.specs.FirstFailures.{first_failures}
use Rattle.result_book.specs.Slots.{in_book}
use Rattle.answered_runs.specs.asked.Lines.{lines_for}
use Rattle.answer_text.specs.Known.{KnownVerdicts}
use Rattle.campaign_core.specs.Findings.{plan_at}
use Rattle.outside_campaign.specs.Reached.{open_candidates}

-- The verdict of each plan, if it is known.
abbrev pub plan_verdicts : KnownVerdicts → List Entries → List (Option Verdict)
plan_verdicts known plans = map (λ plan. known (tidied plan)) plans

-- For each code with which a plan is known to fail, the lowest number of such a plan, and the code.
abbrev pub known_failures : KnownVerdicts → List Entries → List (ℕ × ℕ)
known_failures known plans = first_failures (in_book (plan_verdicts known plans))

-- The plans that aren't answered, tidied, in their order.
abbrev pub open_plans : KnownVerdicts → List Entries → List Entries
open_plans known [] = []
open_plans known (p ∷ ps) = if is_none (known (tidied p)) then tidied p ∷ open_plans known ps else open_plans known ps

-- The open candidates of the reductions of these failures, each of which is the number of a plan and its code.
abbrev pub open_requests : KnownVerdicts → List Entries → List (ℕ × ℕ) → List Entries
open_requests known plans failures = flat_map (λ failure. open_candidates known failure.1 (plan_at plans failure.0)) failures

-- What is still to be tried: first those candidates, and then the open plans.
abbrev pub to_try : KnownVerdicts → List Entries → List (ℕ × ℕ) → List Entries
to_try known plans failures = open_requests known plans failures ++ open_plans known plans

-- The lines that ask for it.
abbrev pub asked : KnownVerdicts → List Entries → List (ℕ × ℕ) → List (List ℕ)
asked known plans failures = lines_for (to_try known plans failures)

-- A tidied scenario whose verdict isn't known.
abbrev pub IsUntried : KnownVerdicts → Entries → Type 0
IsUntried known t = (known t ≡ None) × (tidied t ≡ t)
