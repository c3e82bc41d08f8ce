use Rattle.std.proofs.Common.{◌<◌, length, refl, ap, arith}
use Rattle.grown_plans.specs.GrownPlans.{rigs_of}
use Rattle.grown_plans.specs.declared.grown_list.GrownList.{GrownList}
use Rattle.grown_runs.proofs.Overs.{over_next}
use Rattle.answered_runs.specs.grown.Causes.{Verdicts, cause_known, verdicts_in}
use Rattle.answered_runs.proofs.GrownLemmas.Open.{all_open, open_more, verdict_of_plan}
use Rattle.answered_runs.proofs.grown.causing.find_all.Goals as goal

pub note-requires-clause-verdict : goal.note-requires-clause-verdict
note-requires-clause-verdict c =
    let known = c.args.known.now in
    let less : c.loop-number.number < length known.list.plans = omega (arith, c.loop-number-test.true, c.len-number-end.ensures, ap (λ (l : GrownList). length l.plans) c.list.ensures.same) in
    verdict_of_plan (λ plan. verdicts_in known.answered known.depth (rigs_of plan)) known.list.plans c.args.verdicts.now c.requires.0 c.loop-number.number c.requires.1 less

pub loop-number-preserved : goal.loop-number-preserved
loop-number-preserved c =
    let a = c.args.known.now.answered in
    let depth = c.args.known.now.depth in
    let known : Verdicts = verdicts_in a depth in
    let plans = c.args.known.now.list.plans in
    let n = c.loop-number.number in
    let less : n < length plans = omega (arith, c.loop-number-test.true, c.len-number-end.ensures, ap (λ (l : GrownList). length l.plans) c.list.ensures.same) in
    record {
      causes = over_next (cause_known known) plans 0 n n _ _ _ (omega arith) c.loop-number.invariant.causes refl c.in_ok-note.ensures.causes;
      waiting = open_more a depth n plans _ _ _ less c.loop-number.invariant.waiting refl c.in_ok-note.ensures.waiting;
    }

pub returns-clause-waiting : goal.returns-clause-waiting
returns-clause-waiting c =
    let known = c.args.known.now in
    all_open known.answered known.depth c.loop-number.number known.list.plans _
    (omega (arith, c.loop-number-test.false, c.len-number-end.ensures, ap (λ (l : GrownList). length l.plans) c.list.ensures.same)) c.loop-number.invariant.waiting
