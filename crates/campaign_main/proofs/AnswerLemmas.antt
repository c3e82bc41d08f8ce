-- Answers, by what a command did.
use Rattle.std.proofs.Common.{◌≡◌, ◌≤◌, ◌<◌, ◌∙◌, ℕ, Bool, false, List, Option, Some, None, Result, Ok, Err, IfErr, IsErrAnd, OnOk, length, refl, sym, ap, is_some, option_map, subst, if◌then◌else◌}
use Rattle.std.proofs.lemmas.Bool.{le-ltb, lt-ltb}
use Rattle.std.specs.Io.KnownBytes.{Appends}
use Rattle.scenario_values.specs.Scenario.{Entries}
use Rattle.action_eval.specs.Answers.{Given}
use Rattle.target_trait.specs.declared.judgement.Verdict.{Verdict}
use Rattle.plan_gen.specs.PlanList.{most_plans}
use Rattle.campaign_core.specs.Headline.{Campaign, say, plans, first_failure}
use Rattle.campaign_core.specs.CommandTexts.{explained, IsFault, IsUnlisted, LeavesOnly, plan_lines, plans_text, reduce_text, tried, try_text}
use Rattle.campaign_core.specs.Writes.{Change, IsUntouched, WritesPart, WritesWhole}
use Rattle.campaign_core.specs.declared.ending.CampaignFault.{CampaignFault}
use Rattle.campaign_core.specs.declared.ending.CampaignFault.TheVariants as campaign
use Rattle.command_words.specs.declared.words.Form.{Form}
use Rattle.command_words.specs.declared.words.Order.TheVariants as order
use Rattle.outside_campaign.specs.Campaigns.{IsCut, IsUnwritten}
use Rattle.report.specs.ReportText.{text_of}
use Rattle.campaign_main.specs.declared.fault.CommandFault.{CommandFault}
use Rattle.campaign_main.specs.declared.fault.CommandFault.TheVariants as faults
use Rattle.campaign_main.specs.declared.exit.Answered.{Answered}
use Rattle.campaign_main.specs.declared.exit.Conclusion.{Conclusion}
use Rattle.campaign_main.specs.declared.exit.Conclusion.TheVariants.{Clean}
use Rattle.campaign_main.specs.Exit.{concluded}
use Rattle.campaign_main.specs.Commands.{Answer, Refusal, explain_answer, of_few_plans, of_verdict, outside_answer, plans_answer, reduce_answer, report_in, run_answer, taken_answer, too_many_plans, try_answer}
use Rattle.campaign_main.specs.Notes.{is_doubted, listed_notes, notes_of, report_notes}
use Rattle.campaign_main.specs.Ends.{ComesTo, FallsShort, HasNotes, IsCutOff, IsUntaken, IsWritten}

-- why a list of plans isn't made
abbrev IsUnmade : List Entries → CampaignFault → Type 0
IsUnmade plans campaign.TooManyPlans = most_plans < length plans
IsUnmade plans campaign.Memory = Unit {0}
IsUnmade plans (campaign.Write n) = ⊥

-- what a command came to that wrote its whole text
abbrev pub IsDone : Answer → Change → Conclusion → List ℕ → Type 0
IsDone answer w found notes = IsWritten answer w found × HasNotes answer notes

module _ (plans : List Entries) (a : List ℕ × Conclusion × List ℕ) where
  few_plans : length plans ≤ most_plans → of_few_plans plans a ≡ Ok a
  few_plans few = let f : Bool → Answer = λ b. if b then Err too_many_plans else Ok a in ap f (le-ltb most_plans (length plans) few)

  many_plans : most_plans < length plans → of_few_plans plans a ≡ Err too_many_plans
  many_plans many = let f : Bool → Answer = λ b. if b then Err too_many_plans else Ok a in ap f (lt-ltb most_plans (length plans) many)

-- what comes of a list of plans and of its text, where that is the answer
module _ (plans : List Entries) (answer : Answer) (text : List ℕ) (found : Conclusion) (notes : List ℕ) (is : answer ≡ of_few_plans plans (text, found, notes)) (w : Change) where
  done_plans : (lines : List ℕ) → length plans ≤ most_plans → WritesWhole text w → lines ≡ notes → IsDone answer w found lines
  done_plans lines few written same =
      let P : Answer → Type 0 = λ x. IsDone x w found lines in
      subst P (sym (is ∙ few_plans plans (text, found, notes) few)) ((written, refl), same)

  long_plans : IsUntouched w → most_plans < length plans → FallsShort answer w (faults.Campaign campaign.TooManyPlans)
  long_plans untouched many = (untouched, is ∙ many_plans plans (text, found, notes) many)

  part_of_plans : (n : ℕ) → WritesPart text n w → length plans ≤ most_plans → IsCutOff answer w n
  part_of_plans n part few =
      let P : Answer → Type 0 = λ x. IsCutOff x w n in
      subst P (sym (is ∙ few_plans plans (text, found, notes) few)) part

  -- a list that isn't made, before anything is written
  unlisted_plans : (f : CampaignFault) → IsUntouched w → IsUnmade plans f → FallsShort answer w (faults.Campaign f)
  unlisted_plans campaign.TooManyPlans untouched h = long_plans untouched h
  unlisted_plans campaign.Memory untouched h = untouched
  unlisted_plans (campaign.Write n) untouched h = absurd h

module _ (c : Campaign) (answer : Answer) (text : List ℕ) (found : Conclusion) (notes : List ℕ) (is : answer ≡ of_few_plans (plans c) (text, found, notes)) (w : Change) where
  short_of_plans : (f : CampaignFault) → IsFault c text w f → FallsShort answer w (faults.Campaign f)
  short_of_plans campaign.TooManyPlans h = long_plans (plans c) answer text found notes is w h.0 h.1
  short_of_plans campaign.Memory h = h
  short_of_plans (campaign.Write n) h = part_of_plans (plans c) answer text found notes is w n h.0 h.1

-- whether there is a first failure, by its number
first_found : (first : Option (ℕ × ℕ)) → is_some (option_map (λ f. f.0) first) ≡ is_some first
first_found None = refl
first_found (Some f) = refl

-- ---- the commands

-- what comes of a campaign and of its text, where that is the answer
module _ (c : Campaign) (answer : Answer) (text : List ℕ) (doubted : Bool) (notes : List ℕ)
    (is : answer ≡ of_few_plans (plans c) (text, concluded (is_some (first_failure c)) doubted, notes)) (w : Change) where
  done_campaign : (found : Conclusion) (first : Option ℕ) (lines : List ℕ) → length (plans c) ≤ most_plans → WritesWhole text w
      → found ≡ concluded (is_some first) doubted → first ≡ option_map (λ f. f.0) (first_failure c) → lines ≡ notes → IsDone answer w found lines
  done_campaign found first lines few written has first-is same =
      let P : Conclusion → Type 0 = λ b. IsDone answer w b lines in
      let f : Bool → Conclusion = λ b. concluded b doubted in
      let comes : found ≡ concluded (is_some (first_failure c)) doubted = has ∙ ap f (ap is_some first-is ∙ first_found (first_failure c)) in
      subst P (sym comes) (done_plans (plans c) answer text (concluded (is_some (first_failure c)) doubted) notes is w lines few written same)

module _ (c : Campaign) (form : Form) (strict : Bool) (w : Change) where
  abbrev run-ended : Conclusion
  run-ended = concluded (is_some (first_failure c)) (is_doubted strict (report_notes strict c))

  pub run-done : (found : Conclusion) (first : Option ℕ) (some doubted : Bool) (notes : List ℕ) → length (plans c) ≤ most_plans → WritesWhole (report_in form c) w
      → found ≡ concluded some doubted → some ≡ is_some first → first ≡ option_map (λ f. f.0) (first_failure c)
      → doubted ≡ is_doubted strict notes → notes ≡ report_notes strict c → IsDone (run_answer form strict c) w found notes
  unfolding run_answer
  run-done found first some doubted notes few written is has first-is doubts same =
      let f : Bool → Conclusion = λ b. concluded b doubted in
      let g : Bool → Conclusion = λ d. concluded (is_some first) d in
      let h : List ℕ → Bool = is_doubted strict in
      done_campaign c (run_answer form strict c) (report_in form c) (is_doubted strict (report_notes strict c)) (report_notes strict c) refl w
      found first notes few written (is ∙ ap f has ∙ ap g (doubts ∙ ap h same)) first-is same

  pub run-short : (f : CampaignFault) → IsFault c (report_in form c) w f → FallsShort (run_answer form strict c) w (faults.Campaign f)
  unfolding run_answer
  run-short f h = short_of_plans c (run_answer form strict c) (report_in form c) run-ended (report_notes strict c) refl w f h

  pub run-unlisted : (f : CampaignFault) → IsUntouched w → IsUnlisted c f → FallsShort (run_answer form strict c) w (faults.Campaign f)
  unfolding run_answer
  run-unlisted campaign.TooManyPlans untouched h =
      unlisted_plans (plans c) (run_answer form strict c) (report_in form c) run-ended (report_notes strict c) refl w campaign.TooManyPlans untouched h
  run-unlisted campaign.Memory untouched h = untouched
  run-unlisted (campaign.Write n) untouched h = absurd h

module _ (c : Campaign) (w : Change) where
  abbrev listed : List ℕ
  listed = listed_notes c.points c.given.plans.listed

  pub plans-done : (notes : List ℕ) → length (plans c) ≤ most_plans → WritesWhole (plans_text c) w → notes ≡ listed → IsDone (plans_answer c) w Clean notes
  unfolding plans_answer
  plans-done notes few written same = done_plans (plans c) (plans_answer c) (plans_text c) Clean listed refl w notes few written same

  pub plans-short : (f : CampaignFault) → IsFault c (plans_text c) w f → FallsShort (plans_answer c) w (faults.Campaign f)
  unfolding plans_answer
  plans-short f h = short_of_plans c (plans_answer c) (plans_text c) Clean listed refl w f h

-- ---- a command on the scenario that it takes

-- the answer that tells a scenario's text and verdict, where it is taken
module _ (answer : ℕ → Entries → Answer) (text : ℕ → Entries → List ℕ) (verdict : ℕ → Entries → Verdict) (points : List (List ℕ))
    (is : (stream : ℕ) (scenario : Entries) → answer stream scenario ≡ Ok (text stream scenario, of_verdict (verdict stream scenario), notes_of points scenario))
    (read : Result (ℕ × Entries) Refusal) (t : ℕ × Entries) (takes : read ≡ Ok t) (w : Change) where
  taken-is : taken_answer answer read ≡ Ok (text t.0 t.1, of_verdict (verdict t.0 t.1), notes_of points t.1)
  taken-is = ap (taken_answer answer) takes ∙ is t.0 t.1

  pub taken-done : (found : Conclusion) (v : Verdict) (notes : List ℕ) → WritesWhole (text t.0 t.1) w → found ≡ of_verdict v → v ≡ verdict t.0 t.1 → notes ≡ notes_of points t.1
      → IsDone (taken_answer answer read) w found notes
  taken-done found v notes written comes judged same =
      let P : Answer → Type 0 = λ x. IsDone x w found notes in
      subst P (sym taken-is) ((written, sym (comes ∙ ap of_verdict judged)), same)

  pub taken-short : (f : CampaignFault) → LeavesOnly (text t.0 t.1) w f → FallsShort (taken_answer answer read) w (faults.Campaign f)
  taken-short campaign.TooManyPlans h = absurd h
  taken-short campaign.Memory h = h
  taken-short (campaign.Write n) h =
      let P : Answer → Type 0 = λ x. IsCutOff x w n in
      subst P (sym taken-is) h

module _ (c : Campaign) where
  abbrev pub tried_text : ℕ → Entries → List ℕ
  tried_text stream scenario = try_text c.codes (tried c stream scenario)

  abbrev pub tried_verdict : ℕ → Entries → Verdict
  tried_verdict stream scenario = (tried c stream scenario).verdict

  pub try-is : (stream : ℕ) (scenario : Entries) → try_answer c stream scenario ≡ Ok (tried_text stream scenario, of_verdict (tried_verdict stream scenario), notes_of c.points scenario)
  unfolding try_answer
  try-is stream scenario = refl

  pub explain-is : (end : Given → List (List ℕ)) (stream : ℕ) (scenario : Entries)
      → explain_answer end c stream scenario ≡ Ok (explained end c stream scenario, of_verdict (tried_verdict stream scenario), notes_of c.points scenario)
  unfolding explain_answer
  explain-is end stream scenario = refl

  pub reduce-is : (stream : ℕ) (scenario : Entries) → reduce_answer c stream scenario ≡ Ok (reduce_text c stream scenario, of_verdict (say c stream scenario), notes_of c.points scenario)
  unfolding reduce_answer
  reduce-is stream scenario = refl

-- ---- the scenario that a command takes

-- memory may be refused, whichever scenario was to be taken
pub memory-untaken : {T : Type 0} (taken : Result (ℕ × Entries) Refusal) (result : Result T CommandFault) → IsErrAnd result (λ f. f ≡ faults.Campaign campaign.Memory) → IfErr result (IsUntaken taken)
memory-untaken taken (Ok t) is = absurd is
memory-untaken taken (Err f) is = let P : CommandFault → Type 0 = λ x. IsUntaken taken x in subst P (sym is) tt

-- ---- the plans of a component that somebody else runs

module _ (plans : List Entries) (notes : List ℕ) (w : Change) where
  abbrev outside : Answer
  outside = outside_answer order.Plans None plans notes

  abbrev outside-text : List ℕ
  outside-text = text_of (plan_lines 0 plans)

  pub outside-done : (lines : List ℕ) → length plans ≤ most_plans → Appends w.old w.new outside-text → w.failed ≡ false → lines ≡ notes → IsDone outside w Clean lines
  unfolding outside_answer
  outside-done lines few written sound same = done_plans plans outside outside-text Clean notes refl w lines few (written, sound) same

  pub outside-short : (f : CampaignFault) → IsUnwritten plans (IsCut w.old w.new outside-text) w.old w.new w.failed f → FallsShort outside w (faults.Campaign f)
  unfolding outside_answer
  outside-short campaign.TooManyPlans h = long_plans plans outside outside-text Clean notes refl w (h.0, h.1) h.2
  outside-short campaign.Memory h = h
  outside-short (campaign.Write n) h = part_of_plans plans outside outside-text Clean notes refl w n (h.0.0, h.0.1, h.1) h.2

-- a fault that is passed up
pub short-up : (answer : Answer) (w : Change) (result : Result Answered CommandFault) (fault : CommandFault) → IsErrAnd result (λ f. f ≡ fault)
    → FallsShort answer w fault → ComesTo answer w result
short-up answer w (Ok done) fault is short = absurd is
short-up answer w (Err f) fault is short = let P : CommandFault → Type 0 = λ x. FallsShort answer w x in subst P (sym is) short

-- ---- two promises of a call

pub both-kept : {V E : Type 0} (A B : Type 0) (r : Result V E) → OnOk r A → OnOk r B → OnOk r (A × B)
both-kept A B (Ok v) a b = (a, b)
both-kept A B (Err x) a b = tt
