use Rattle.std.proofs.Common.{refl, ◌<◌, ◌∙◌, ap, length, arith, sym}
use Rattle.std.specs.List.{list_all}
use Rattle.answered_runs.specs.Agreement.{is_sure}
use Rattle.answered_runs.proofs.PlayedRuns.{certain_all, certain_more, certain_not}
use Rattle.answered_runs.proofs.certain.is_certain.Goals as goal

pub loop-entry-init : goal.loop-entry-init
loop-entry-init c = refl

pub returns-then-not-are_sure-clause-certain : goal.returns-then-not-are_sure-clause-certain
returns-then-not-are_sure-clause-certain c =
    let less : c.loop-entry.entry < length c.args.scenario.now = omega (arith, c.loop-entry-test.true, c.len-entry-end.ensures) in
    certain_not c.args.scenario.now c.loop-entry.entry less (ap (list_all is_sure) (sym c.chain.ensures) ∙ sym c.are_sure.ensures ∙ c.if-not-are_sure.true)

pub loop-entry-preserved : goal.loop-entry-preserved
loop-entry-preserved c =
    let less : c.loop-entry.entry < length c.args.scenario.now = omega (arith, c.loop-entry-test.true, c.len-entry-end.ensures) in
    certain_more c.args.scenario.now c.loop-entry.entry less c.loop-entry.invariant (ap (list_all is_sure) (sym c.chain.ensures) ∙ sym c.are_sure.ensures ∙ c.if-not-are_sure.false)

pub returns-clause-certain : goal.returns-clause-certain
returns-clause-certain c =
    certain_all c.args.scenario.now c.loop-entry.entry (omega (arith, c.loop-entry-test.false, c.len-entry-end.ensures)) c.loop-entry.invariant
