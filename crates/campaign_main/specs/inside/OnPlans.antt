-- Questions on the plans of a campaign. Private contracts cite them.
use Rattle.command_words.specs.declared.words.Question.{Question}
use Rattle.command_words.specs.declared.words.Question.TheVariants.{Asks, Report}
use Rattle.std.specs.Prelude.{length}
use Rattle.answered_runs.specs.Answered.{known_plans}
use Rattle.answered_runs.specs.grown.Further.{AreTooMany}
use Rattle.campaign_given.specs.Given.{Given}
use Rattle.outside_campaign.specs.declared.recorded.Recorded.{Recorded}
use Rattle.outside_campaign.specs.declared.recorded.Recorded.TheVariants.{ByCensus, ByRuns}
use Rattle.campaign_main.specs.declared.answering.OnPlans.{OnPlans}
use Rattle.campaign_main.specs.declared.answering.OnPlans.TheVariants as plans

abbrev pub question_on : OnPlans → Question
question_on plans.Asks = Asks
question_on (plans.Report shown strict) = Report shown strict

-- Recorded runs make too many plans known. The plans of a campaign without a depth are listed before.
abbrev pub IsTooLong : Given → Recorded → Type 0
IsTooLong given (ByCensus runs plans) = ⊥
IsTooLong given (ByRuns known) = AreTooMany known.now.answered given.plans (length (known_plans known.now.answered known.now.depth))
