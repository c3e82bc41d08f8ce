use Rattle.std.proofs.Common.{◌∙◌, ap, sym, subst, not}
use Rattle.action_eval.specs.RiggedScenario.{CanBeRigged}
use Rattle.grown_runs.specs.GrownRuns.{fails_with, told_of_rigs}
use Rattle.grown_runs.specs.inside.Growths.{subject_on}
use Rattle.grown_runs.proofs.Lesser.{left_can, fine_next, fine_all, fails_at}
use Rattle.grown_runs.proofs.causes.is_cause.Goals as goal

pub run_rigs-requires : goal.run_rigs-requires
run_rigs-requires g c =
    let rigs = c.args.failed.now.rigs.now in
    subst CanBeRigged (sym c.as_slice.ensures.value)
    (left_can rigs c.loop-left_out.left_out c.leave_out.new.less.items (search) c.in_ok-leave_out.ensures c.requires)

pub loop-left_out-preserved : goal.loop-left_out-preserved
loop-left_out-preserved g c =
    let rigs = c.args.failed.now.rigs.now in
    let input = c.args.input.now in
    let n = c.args.failed.now.number in
    let inv = c.loop-left_out.invariant in
    let said = c.in_ok-verdict.ensures.verdict
    ∙ ap (λ t. (told_of_rigs (subject_on g.T.Target t input) input.limits.seed c.from-stream.result c.as_slice.result.now).verdict) inv.setup
    ∙ ap (λ k. (told_of_rigs (subject_on g.T.Target c.args.target.now input) input.limits.seed k c.as_slice.result.now).verdict) c.from-stream.ensures
    ∙ ap (λ rs. (told_of_rigs (subject_on g.T.Target c.args.target.now input) input.limits.seed n rs).verdict) c.as_slice.ensures.value in
    record {
      setup = c.run_rigs.ensures.setup ∙ inv.setup;
      fine =
          fine_next (λ less. not (fails_with c.args.failed.now.code (told_of_rigs (subject_on g.T.Target c.args.target.now input) input.limits.seed n less).verdict)) rigs
          c.loop-left_out.left_out c.leave_out.new.less.items c.loop-left_out-test.true c.in_ok-leave_out.ensures
          (ap (λ v. not (fails_with c.args.failed.now.code v)) (sym said) ∙ ap not (sym c.fails_with.ensures ∙ c.if-fails_with.false)) inv.fine;
    }

pub returns-clause-least : goal.returns-clause-least
returns-clause-least g c =
    let input = c.args.input.now in
    sym (fine_all (λ less. not (fails_with c.args.failed.now.code (told_of_rigs (subject_on g.T.Target c.args.target.now input) input.limits.seed c.args.failed.now.number less).verdict))
    c.args.failed.now.rigs.now c.loop-left_out.left_out c.loop-left_out-test.false c.loop-left_out.invariant.fine)

pub returns-then-fails_with-clause-least : goal.returns-then-fails_with-clause-least
returns-then-fails_with-clause-least g c =
    let rigs = c.args.failed.now.rigs.now in
    let input = c.args.input.now in
    let n = c.args.failed.now.number in
    let inv = c.loop-left_out.invariant in
    let said = c.in_ok-verdict.ensures.verdict
    ∙ ap (λ t. (told_of_rigs (subject_on g.T.Target t input) input.limits.seed c.from-stream.result c.as_slice.result.now).verdict) inv.setup
    ∙ ap (λ k. (told_of_rigs (subject_on g.T.Target c.args.target.now input) input.limits.seed k c.as_slice.result.now).verdict) c.from-stream.ensures
    ∙ ap (λ rs. (told_of_rigs (subject_on g.T.Target c.args.target.now input) input.limits.seed n rs).verdict) c.as_slice.ensures.value in
    sym (fails_at (λ less. not (fails_with c.args.failed.now.code (told_of_rigs (subject_on g.T.Target c.args.target.now input) input.limits.seed n less).verdict)) rigs
    c.loop-left_out.left_out c.leave_out.new.less.items c.loop-left_out-test.true c.in_ok-leave_out.ensures
    (ap (λ v. not (fails_with c.args.failed.now.code v)) (sym said) ∙ ap not (sym c.fails_with.ensures ∙ c.if-fails_with.true)))
