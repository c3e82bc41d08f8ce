use Rattle.std.proofs.Common.{◌≡◌, ◌+◌, false, refl, sym, ◌∙◌, ap, arith}
use Rattle.ddmin_parallel.specs.inside.Candidates.{candidate}
use Rattle.ddmin_parallel.specs.Ddmin.{decide}
use Rattle.ddmin_parallel.proofs.Steps.{from, from_all, decide_pass}
use Rattle.ddmin_parallel.proofs.plain.first_failing.Goals as goal

pub loop-place-init : goal.loop-place-init
loop-place-init g c =
    let n = c.args.parts in
    record {
      all = c.candidate_count-place-end.ensures;
      setup = refl;
      told = ap (λ ss. decide (g.P.Probe.answers c.args.probe.now) ss c.args.tests) (from_all c.args.kept.now n);
    }

pub loop-place-preserved : goal.loop-place-preserved
loop-place-preserved g c =
    let answers = g.P.Probe.answers in
    let kept = c.args.kept.now in
    let n = c.args.parts in
    let k = c.loop-place.place in
    let set : c.as_slice.result.now ≡ (candidate kept n k).set =
    c.as_slice.ensures.value ∙ ap (λ s. s.set) (c.attempt.view_is ∙ c.in_ok-attempt.ensures) in
    let no : answers c.args.probe.now (candidate kept n k).set ≡ false =
    sym (ap (λ f. f c.as_slice.result.now) c.loop-place.invariant.setup ∙ ap (answers c.args.probe.now) set)
    ∙ sym c.in_ok-test.ensures.answer ∙ c.if-branch.false in
    record {
      all = c.loop-place.invariant.all;
      setup = c.in_ok-test.ensures.setup ∙ c.loop-place.invariant.setup;
      told = ap (decide (answers c.args.probe.now) (from kept n (k + 1))) c.saturating_add-tests.ensures
          ∙ sym (decide_pass (answers c.args.probe.now) kept n k c.loop-place.tests (omega arith) no)
          ∙ c.loop-place.invariant.told;
    }
