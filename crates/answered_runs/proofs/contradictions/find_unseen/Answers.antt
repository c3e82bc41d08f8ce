use Rattle.std.proofs.Common.{subst}
use Rattle.answered_runs.specs.inside.Trees.{StaysApart}
use Rattle.answered_runs.proofs.PlayedRuns.{all_kept, apart_all, apart_more, known_points, of_one}
use Rattle.answered_runs.proofs.contradictions.find_unseen.Goals as goal

pub unseen_contradiction-requires-clause-kept : goal.unseen_contradiction-requires-clause-kept
unseen_contradiction-requires-clause-kept c = all_kept c.args.runs.now c.args.played.now c.requires.done

pub unseen_contradiction-requires-clause-known : goal.unseen_contradiction-requires-clause-known
unseen_contradiction-requires-clause-known c = known_points c.args.runs.now _ _ _ c.lines.ensures.of c.lines.ensures.names

pub loop-run-preserved : goal.loop-run-preserved
loop-run-preserved c =
    apart_more c.args.runs.now c.as_slice-run-items.result.now c.args.played.now.unseen.items c.loop-run.run-index c.run-item.result c.as_slice-run-items.ensures.value c.loop-run-test.true c.run-item.is c.loop-run.invariant
    (subst (StaysApart c.args.runs.now c.run-item.result) c.in_default.is c.in_ok-broken.ensures)

pub returns : goal.returns
returns c =
    of_one c.args.runs.now c.args.played.now c.requires.done c.requires.state
    (apart_all c.args.runs.now c.as_slice-run-items.result.now c.args.played.now.unseen.items c.loop-run.run-index c.as_slice-run-items.ensures.value c.loop-run-test.false c.loop-run.invariant)
