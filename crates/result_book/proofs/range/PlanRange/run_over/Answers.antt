use Rattle.std.proofs.Common.{◌≡◌, ℕ, ◌≤◌, ◌+◌, length, List, [], ◌∷◌, ◌++◌, filter, get_or, not, refl, ap, sym, ◌∙◌, subst, arith}
use Rattle.scenario_values.specs.Scenario.{Entries}
use Rattle.target_trait.specs.declared.judgement.Verdict.{Verdict}
use Rattle.target_trait.specs.Outcomes.{Told}
use Rattle.result_book.specs.Says.{input_says}
use Rattle.result_book.specs.Runs.{input_runs, is_asked, runs_from, unreached_of}
use Rattle.result_book.specs.Ranges.{AreSaid}
use Rattle.result_book.specs.Verdicts.{verdicts_from}
use Rattle.result_book.proofs.RangeLemmas.{none_in, plan_range_more, range_said, range_length}
use Rattle.result_book.proofs.Reached.{filter_all, unreached_more}
use Rattle.result_book.proofs.range.PlanRange.run_over.Goals as goal

pub loop-number-init : goal.loop-number-init
loop-number-init g c =
    let input = c.args.input.now in
    let target = c.args.target.now in
    let first = c.args.numbers.start in
    let none = none_in input.plans.now first in
    record {
      setup = refl;
      verdicts = c.in_ok-verdicts.ensures.items ∙ sym (ap (verdicts_from (input_says g.T.Target target input) first) none);
      unreached = c.in_ok-unreached.ensures.items ∙ filter_all input.watched.now
          ∙ sym (ap (λ ps. unreached_of input.watched.now (runs_from (input_runs g.T.Target target input) first ps)) none);
    }

pub loop-number-preserved : goal.loop-number-preserved
loop-number-preserved g c =
    let input = c.args.input.now in
    let plans : List Entries = input.plans.now in
    let n = c.loop-number.number in
    let say_of : g.row.T.Denot → ℕ → Entries → Verdict = λ setup. input_says g.T.Target setup input in
    let say = say_of c.args.target.now in
    let so_far = c.loop-number.verdicts.items in
    let runs_of : g.row.T.Denot → ℕ → Entries → Told = λ setup. input_runs g.T.Target setup input in
    let runs = runs_of c.args.target.now in
    let left = c.loop-number.unreached.items in
    record {
      setup = c.in_ok-verdict.ensures.setup ∙ c.loop-number.invariant.setup;
      verdicts = c.in_ok-push.ensures.items
          ∙ ap (λ v. so_far ++ v ∷ []) (c.in_ok-verdict.ensures.ok ∙ ap (λ setup. say_of setup n (get_or plans n [])) c.loop-number.invariant.setup)
          ∙ ap (λ vs. vs ++ say n (get_or plans n []) ∷ []) c.loop-number.invariant.verdicts
          ∙ sym (plan_range_more say plans c.args.numbers.start n (omega arith) (omega arith));
      unreached = c.in_ok-verdict.ensures.unreached
          ∙ ap (λ setup. filter (λ p. not (is_asked p (runs_of setup n (get_or plans n [])).asked)) left) c.loop-number.invariant.setup
          ∙ ap (filter (λ p. not (is_asked p (runs n (get_or plans n [])).asked))) c.loop-number.invariant.unreached
          ∙ unreached_more runs plans input.watched.now c.args.numbers.start n (omega arith) (omega arith);
    }

pub invariant_of-result : goal.invariant_of-result
invariant_of-result g c =
    let input = c.args.input.now in
    let plans : List Entries = input.plans.now in
    let first = c.args.numbers.start in
    let n = c.loop-number.number in
    let say = input_says g.T.Target c.args.target.now input in
    let up : first ≤ n = omega arith in
    let fits : n ≤ length plans = omega arith in
    let ends : first + length c.loop-number.verdicts.items ≡ n = ap (λ vs. first + length vs) c.loop-number.invariant.verdicts ∙ range_length say plans first n up fits in
    (omega (arith, ends), (c.args.target.now, subst (AreSaid say plans first) (sym c.loop-number.invariant.verdicts) (range_said say plans first n up fits)))
