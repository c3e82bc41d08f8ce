use Rattle.std.proofs.Common.{sym, subst}
use Rattle.std.specs.Prelude.{IfSome, OnOk}
use Rattle.commit_target.specs.Crash.{calls_of as commit_calls}
use Rattle.commit_target.specs.Words.{point_names as commit_points}
use Rattle.file_replace.specs.Crash.{calls_of as replace_calls}
use Rattle.file_replace.specs.Words.{point_names as replace_points}
use Rattle.maildir_target.specs.Crash.{calls_of as maildir_calls}
use Rattle.maildir_target.specs.Words.{point_names as maildir_points}
use Rattle.campaign_main.specs.Commands.{bundled_answer, campaign_for, choice_answer, committing_in, delivering_in, replacing_in}
use Rattle.campaign_main.specs.Ends.{ComesTo}
use Rattle.campaign_main.specs.Promises.{KeepsPromises}
use Rattle.campaign_core.specs.Writes.{change}
use Rattle.campaign_main.proofs.chosen.chosen_command.Goals as goal

pub returns-in-Replace-clause-text : goal.returns-in-Replace-clause-text
returns-in-Replace-clause-text g c =
    let W = g.W.Sink in
    let order = c.args.order.now in
    let settings = c.args.settings.now.campaign in
    subst (λ chosen. ComesTo (choice_answer order settings chosen) (change W c.args.output.now c.bundled_command.new.output) c.bundled_command.result) (sym c.in-Replace.is)
    (subst (λ variant. ComesTo (bundled_answer (replace_calls variant c.in-Replace.work) replace_points settings order (replacing_in settings variant c.in-Replace.work)) (change W c.args.output.now c.bundled_command.new.output) c.bundled_command.result)
    c.new.ensures c.bundled_command.ensures.text)

pub returns-in-Replace-clause-promises : goal.returns-in-Replace-clause-promises
returns-in-Replace-clause-promises g c =
    let order = c.args.order.now in
    let settings = c.args.settings.now.campaign in
    subst (λ chosen. OnOk c.bundled_command.result (IfSome (campaign_for settings chosen) (KeepsPromises order))) (sym c.in-Replace.is)
    (subst (λ variant. OnOk c.bundled_command.result (KeepsPromises order (replacing_in settings variant c.in-Replace.work))) c.new.ensures c.bundled_command.ensures.promises)

pub returns-in-Maildir-clause-text : goal.returns-in-Maildir-clause-text
returns-in-Maildir-clause-text g c =
    let W = g.W.Sink in
    let order = c.args.order.now in
    let settings = c.args.settings.now.campaign in
    subst (λ chosen. ComesTo (choice_answer order settings chosen) (change W c.args.output.now c.bundled_command-in-Maildir.new.output) c.bundled_command-in-Maildir.result) (sym c.in-Maildir.is)
    (subst (λ variant. ComesTo (bundled_answer (maildir_calls variant c.in-Maildir.work) maildir_points settings order (delivering_in settings variant c.in-Maildir.work)) (change W c.args.output.now c.bundled_command-in-Maildir.new.output) c.bundled_command-in-Maildir.result)
    c.new-in-Maildir.ensures c.bundled_command-in-Maildir.ensures.text)

pub returns-in-Maildir-clause-promises : goal.returns-in-Maildir-clause-promises
returns-in-Maildir-clause-promises g c =
    let order = c.args.order.now in
    let settings = c.args.settings.now.campaign in
    subst (λ chosen. OnOk c.bundled_command-in-Maildir.result (IfSome (campaign_for settings chosen) (KeepsPromises order))) (sym c.in-Maildir.is)
    (subst (λ variant. OnOk c.bundled_command-in-Maildir.result (KeepsPromises order (delivering_in settings variant c.in-Maildir.work))) c.new-in-Maildir.ensures c.bundled_command-in-Maildir.ensures.promises)

pub returns-in-Commit-clause-text : goal.returns-in-Commit-clause-text
returns-in-Commit-clause-text g c =
    let W = g.W.Sink in
    let order = c.args.order.now in
    let settings = c.args.settings.now.campaign in
    subst (λ chosen. ComesTo (choice_answer order settings chosen) (change W c.args.output.now c.bundled_command-in-Commit.new.output) c.bundled_command-in-Commit.result) (sym c.in-Commit.is)
    (subst (λ variant. ComesTo (bundled_answer (commit_calls variant c.in-Commit.work) commit_points settings order (committing_in settings variant c.in-Commit.work)) (change W c.args.output.now c.bundled_command-in-Commit.new.output) c.bundled_command-in-Commit.result)
    c.new-in-Commit.ensures c.bundled_command-in-Commit.ensures.text)

pub returns-in-Commit-clause-promises : goal.returns-in-Commit-clause-promises
returns-in-Commit-clause-promises g c =
    let order = c.args.order.now in
    let settings = c.args.settings.now.campaign in
    subst (λ chosen. OnOk c.bundled_command-in-Commit.result (IfSome (campaign_for settings chosen) (KeepsPromises order))) (sym c.in-Commit.is)
    (subst (λ variant. OnOk c.bundled_command-in-Commit.result (KeepsPromises order (committing_in settings variant c.in-Commit.work))) c.new-in-Commit.ensures c.bundled_command-in-Commit.ensures.promises)
