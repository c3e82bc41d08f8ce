-- Questions on the plans of a campaign.
use Rattle.std.proofs.Common.{◌≡◌, ◌∙◌, ℕ, List, Option, Result, Ok, Err, IfOk, ap, subst}
use Rattle.std.specs.Prelude.{IfErr}
use Rattle.std.specs.String.{string_bytes}
use Rattle.outside_campaign.specs.Recorded.{Records, depth_of}
use Rattle.outside_campaign.specs.declared.recorded.Recorded.{Recorded}
use Rattle.outside_campaign.specs.with_depth.Questions.{RefusesYet}
use Rattle.outside_campaign.specs.declared.with_depth.fault.QuestionFault.{QuestionFault}
use Rattle.campaign_main.specs.QuestionNotes.{notes_to}
use Rattle.campaign_main.specs.Questions.{IsAnswerTo, IsUnansweredTo, Subject, report_form}
use Rattle.campaign_main.specs.declared.answering.Answer.{Answer}
use Rattle.campaign_main.specs.declared.answering.OnPlans.{OnPlans}
use Rattle.campaign_main.specs.declared.answering.OnPlans.TheVariants as plans
use Rattle.campaign_main.specs.inside.OnPlans.{question_on}
use Rattle.campaign_main.proofs.QuestionLemmas.{yet-shown}

-- what refuses a text that waits for nothing refuses each of them
pub yet-unanswered : (depth : Option ℕ) (question : OnPlans) (s : Subject) (answers : List ℕ) (why : QuestionFault) → RefusesYet depth s.1 s.0 answers why
    → IsUnansweredTo depth (question_on question) s answers why
yet-unanswered depth plans.Asks s answers why h = h
yet-unanswered depth (plans.Report shown strict) s answers why h = yet-shown depth (report_form shown) s answers why h

-- what answers by the value that was read is an answer to the question
module _ (question : OnPlans) (s : Subject) (answers : List ℕ) (recorded : Recorded) (depth : Option ℕ) (deep : depth_of recorded ≡ depth) (records : Records s.1 s.0 answers recorded) where
  pub answered-text : {E : Type 0} (result : Result Answer E)
      → IfOk result (λ a. (known : List ℕ) → Records s.1 s.0 known recorded → IsAnswerTo (depth_of recorded) (question_on question) s known a.text.items a.found)
      → IfOk result (λ a. IsAnswerTo depth (question_on question) s answers a.text.items a.found)
  answered-text (Ok a) h = subst (λ (d : Option ℕ). IsAnswerTo d (question_on question) s answers a.text.items a.found) deep (h answers records)
  answered-text (Err f) h = tt

  pub answered-notes : {E : Type 0} (result : Result Answer E)
      → IfOk result (λ a. (known : List ℕ) → Records s.1 s.0 known recorded → string_bytes a.notes ≡ notes_to (depth_of recorded) (question_on question) s.0 s.1 known)
      → IfOk result (λ a. string_bytes a.notes ≡ notes_to depth (question_on question) s.0 s.1 answers)
  answered-notes (Ok a) h = h answers records ∙ ap (λ (d : Option ℕ). notes_to d (question_on question) s.0 s.1 answers) deep
  answered-notes (Err f) h = tt

  pub answered-fault : {A : Type 0} (result : Result A QuestionFault)
      → IfErr result (λ why. (known : List ℕ) → Records s.1 s.0 known recorded → IsUnansweredTo (depth_of recorded) (question_on question) s known why)
      → IfErr result (IsUnansweredTo depth (question_on question) s answers)
  answered-fault (Ok a) h = tt
  answered-fault (Err why) h = subst (λ (d : Option ℕ). IsUnansweredTo d (question_on question) s answers why) deep (h answers records)
