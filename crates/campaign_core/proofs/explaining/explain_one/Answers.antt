use Rattle.std.proofs.Common.{subst, IfErr, OnOk, ℕ, List}
use Rattle.campaign_core.specs.CommandTexts.{LeavesOnly}
use Rattle.campaign_core.specs.Writes.{change, WritesWhole}
use Rattle.campaign_core.proofs.ToldRuns.{twin_text_is}
use Rattle.report.specs.explained.Explained.{explain_text}
use Rattle.campaign_core.proofs.explaining.explain_one.Goals as goal

pub returns-clause-text : goal.returns-clause-text
returns-clause-text g c =
    let T = g.T.Target in
    let work = c.args.subject.now.workload.now in
    let end = g.E.RunEnd.lines c.args.what.now.end.now in
    subst (λ (text : List ℕ). OnOk c.write_judged.result (WritesWhole text (change g.W.Sink c.args.sink.now c.write_judged.new.sink)))
    (twin_text_is T.names (λ t. explain_text T.code_text (T.asks t work) (end t work)) _ _ _ _ _ _ c.as_str.ensures.value c.in_ok-told.ensures.text c.case-case.ensures
    c.in_ok-twin.ensures)
    c.write_judged.ensures.text

pub returns-clause-fault : goal.returns-clause-fault
returns-clause-fault g c =
    let T = g.T.Target in
    let work = c.args.subject.now.workload.now in
    let end = g.E.RunEnd.lines c.args.what.now.end.now in
    subst (λ (text : List ℕ). IfErr c.write_judged.result (LeavesOnly text (change g.W.Sink c.args.sink.now c.write_judged.new.sink)))
    (twin_text_is T.names (λ t. explain_text T.code_text (T.asks t work) (end t work)) _ _ _ _ _ _ c.as_str.ensures.value c.in_ok-told.ensures.text c.case-case.ensures
    c.in_ok-twin.ensures)
    c.write_judged.ensures.fault
