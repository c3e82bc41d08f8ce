-- What is found of plans that are looked at one after another. Private contracts cite it.
use Rattle.std.specs.Prelude.{◌≡◌, ℕ, ◌+◌, ◌++◌, List, Option, if◌then◌else◌, is_some, slice_get, string_bytes}
use Rattle.std.specs.Option.{option_or}
use Rattle.scenario_values.specs.Scenario.{Entries}
use Rattle.target_trait.specs.declared.judgement.Verdict.{Verdict}
use Rattle.report.specs.ReportText.{text_of}
use Rattle.answer_text.specs.Known.{KnownVerdicts}
use Rattle.outside_campaign.specs.Partial.{answered_count, failure_of, first_so_far, known_line_of, known_lines}
use Rattle.outside_campaign.specs.declared.partial.Found.{Found}

-- What a plan adds to what was found, if its verdict is known.
pub record IsAdded (code_name : ℕ → List ℕ) (plan : Entries) (verdict : Option Verdict) (old new : Found) : Type 0 where
  pub answered_is : new.answered ≡ old.answered + (if is_some verdict then 1 else 0)
  pub lines_are : string_bytes new.lines ≡ string_bytes old.lines ++ text_of (known_line_of code_name plan verdict)
  pub first_is : new.first ≡ option_or old.first (slice_get (failure_of plan verdict) 0)

-- What is found of these plans.
pub record IsFound (code_name : ℕ → List ℕ) (known : KnownVerdicts) (plans : List Entries) (found : Found) : Type 0 where
  pub answered_is : found.answered ≡ answered_count known plans
  pub lines_are : string_bytes found.lines ≡ text_of (known_lines code_name known plans)
  pub first_is : found.first ≡ first_so_far known plans
