use Rattle.std.proofs.Common.{ap, ◌+◌, rules}
use Rattle.action_eval.specs.Answers.{texts}
use Rattle.plan_gen.proofs.Lists.{next_of, none_left}
use Rattle.answered_runs.proofs.Found.{points_go, points_stop, points_end, took_all, took_none}
use Rattle.answered_runs.proofs.rigged.push_points.Goals as goal

pub returns-then-not-branch : goal.returns-then-not-branch
returns-then-not-branch c =
    points_stop c.args.scenario.now c.loop-name.point _ _ _ c.loop-name.rigs.items _ (ap texts (next_of c.args.points.now c.loop-name.name-index _ c.loop-name-test.true))
    (took_none _ _ _ c.in_ok-push_point.ensures (search rules)) c.loop-name.invariant.leads

pub loop-name-preserved : goal.loop-name-preserved
loop-name-preserved c = record {
  number = ap (λ n. n + 1) c.loop-name.invariant.number;
  leads = points_go c.args.scenario.now c.loop-name.point _ _ _ c.loop-name.rigs.items c.push_point.new.rigs.items _ (ap texts (next_of c.args.points.now c.loop-name.name-index _ c.loop-name-test.true))
      (took_all _ _ _ c.in_ok-push_point.ensures (search rules)) c.loop-name.invariant.leads;
}

pub returns : goal.returns
returns c = points_end c.args.scenario.now c.loop-name.point _ c.loop-name.rigs.items _ (ap texts (none_left c.args.points.now c.loop-name.name-index c.loop-name-test.false)) c.loop-name.invariant.leads
