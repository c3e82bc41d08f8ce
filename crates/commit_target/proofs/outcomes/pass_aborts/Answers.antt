use Rattle.std.proofs.Common.{◌≤◌, ℕ, length, arith}
use Rattle.commit_target.proofs.Rounds.{aborts_passed}
use Rattle.commit_target.proofs.outcomes.pass_aborts.Goals as goal

pub returns-clause-led : goal.returns-clause-led
returns-clause-led c =
    let n : ℕ = c.in_ok-passed.passed in
    let most : n ≤ c.voters.result = c.in_ok-passed.ensures.count in
    let few : n ≤ length c.args.progress.now.yes = omega arith in (
      few,
      aborts_passed c.args.script.variant c.args.script.workload.now c.args.session.now c.args.progress.now c.args.logs.now n few c.requires c.in_ok-passed.ensures.told
          _ c.in_ok-passed.ensures.ok c.in_ok-passed.ensures.goes_on _ c.in_ok-abort_each.ensures.adds,
    )
