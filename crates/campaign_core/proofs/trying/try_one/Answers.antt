use Rattle.std.proofs.Common.{ap, ◌∙◌, subst, IfErr, OnOk, ℕ, List}
use Rattle.target_trait.specs.Outcomes.{outcome}
use Rattle.campaign_core.specs.CommandTexts.{try_text, LeavesOnly}
use Rattle.campaign_core.specs.Writes.{change, WritesWhole}
use Rattle.campaign_core.proofs.ToldRuns.{twin_text_is}
use Rattle.campaign_core.proofs.trying.try_one.Goals as goal

pub returns-clause-text : goal.returns-clause-text
returns-clause-text g c =
    let T = g.T.Target in
    let work = c.args.subject.now.workload.now in
    subst (λ (text : List ℕ). OnOk c.write_judged.result (WritesWhole text (change g.W.Sink c.args.sink.now c.write_judged.new.sink)))
    (twin_text_is T.names (λ t x. try_text T.code_text (outcome (T.asks t work) x)) _ _ _ _ _ _ c.as_str.ensures.value
    (c.in_ok-text.ensures ∙ ap (try_text T.code_text) c.in_ok-outcome.ensures.ok) c.case-case.ensures c.in_ok-twin.ensures)
    c.write_judged.ensures.text

pub returns-clause-fault : goal.returns-clause-fault
returns-clause-fault g c =
    let T = g.T.Target in
    let work = c.args.subject.now.workload.now in
    subst (λ (text : List ℕ). IfErr c.write_judged.result (LeavesOnly text (change g.W.Sink c.args.sink.now c.write_judged.new.sink)))
    (twin_text_is T.names (λ t x. try_text T.code_text (outcome (T.asks t work) x)) _ _ _ _ _ _ c.as_str.ensures.value
    (c.in_ok-text.ensures ∙ ap (try_text T.code_text) c.in_ok-outcome.ensures.ok) c.case-case.ensures c.in_ok-twin.ensures)
    c.write_judged.ensures.fault
