use Rattle.std.proofs.Common.{◌∙◌, Bor, Option, ap, sym}
use Rattle.std.specs.Prelude.{option_map}
use Rattle.scenario_values.specs.Scenario.{Entries}
use Rattle.scenario_values.specs.Tidied.{tidied}
use Rattle.answer_text.specs.Runs.{KnownRuns}
use Rattle.answer_text.specs.declared.runs.ToldRun.{ToldRun}
use Rattle.outside_campaign.specs.with_depth.Explained.{RefusesText}
use Rattle.outside_campaign.proofs.WithDepthLemmas.Answered.{hidden_why}
use Rattle.outside_campaign.proofs.WithDepthLemmas.Asking.{err_is}
use Rattle.outside_campaign.proofs.with_depth.explaining.explained_text.Goals as goal

pub returns-in-Some-clause-shown : goal.returns-in-Some-clause-shown
returns-in-Some-clause-shown c =
    let s : Entries = c.in_ok-scenario.scenario in
    record {
      scenario = s;
      spells = c.in_ok-scenario.ensures;
      run = c.in-Some.run'.now;
      told = ap (λ (known : KnownRuns). known (tidied s)) (sym c.in_ok-told.ensures.known) ∙ sym c.in_ok-run.ensures
          ∙ ap (λ (o : Option (Bor ToldRun)). option_map (λ r. r.now) o) c.in-Some.is;
      shown = c.in_ok-lines-in-Some.ensures.shown;
    }

pub returns-in_err-lines-in-Some-clause-fault : goal.returns-in_err-lines-in-Some-clause-fault
returns-in_err-lines-in-Some-clause-fault c =
    let s : Entries = c.in_ok-scenario.scenario in
    let outside = c.args.campaign.now.outside.now in
    let given = c.args.campaign.now.settings.now in
    let told = ap (λ (known : KnownRuns). known (tidied s)) (sym c.in_ok-told.ensures.known) ∙ sym c.in_ok-run.ensures
    ∙ ap (λ (o : Option (Bor ToldRun)). option_map (λ r. r.now) o) c.in-Some.is in
    err_is c.from_residual-in_err-lines-in-Some.result c.in_err-lines-in-Some.field-0.0 (RefusesText c.args.text.now outside given c.args.answers.now) c.from_residual-in_err-lines-in-Some.ensures.1
    (hidden_why c.args.text.now outside given c.args.answers.now s c.in_ok-scenario.ensures c.in-Some.run'.now told c.in_err-lines-in-Some.field-0.0 c.in_err-lines-in-Some.ensures.fault)

pub returns-clause-fault : goal.returns-clause-fault
returns-clause-fault c =
    let s : Entries = c.in_ok-scenario.scenario in
    record {
      scenario = s;
      spells = c.in_ok-scenario.ensures;
      untold = ap (λ (known : KnownRuns). known (tidied s)) (sym c.in_ok-told.ensures.known) ∙ sym c.in_ok-run.ensures
          ∙ ap (λ (o : Option (Bor ToldRun)). option_map (λ r. r.now) o) c.in-None.is;
      read = c.in_ok-told.ensures.read;
      tidied_is = c.in_ok-tidied-in-None.ensures;
    }
