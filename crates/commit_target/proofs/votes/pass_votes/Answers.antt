use Rattle.std.proofs.Common.{◌≡◌, ◌≤◌, ◌+◌, ℕ, subst, arith}
use Rattle.commit_target.specs.declared.work.Vote.TheVariants.{Yes}
use Rattle.commit_target.specs.Work.{Work, wish}
use Rattle.commit_target.specs.Steps.{number}
use Rattle.commit_target.specs.inside.Seen.{WishYes}
use Rattle.commit_target.proofs.Rounds.{votes_passed}
use Rattle.commit_target.proofs.votes.pass_votes.Goals as goal

pub returns-clause-led : goal.returns-clause-led
returns-clause-led c =
    let w : Work = c.args.script.workload.now in
    let i : ℕ = c.args.participant in
    let n : ℕ = c.in_ok-passed.passed in
    let most : n ≤ c.willing-willing.result = c.in_ok-passed.ensures.count in
    let few : i + n ≤ w.participants = omega arith in
    let all : WishYes w (number c.args.progress.now) i n = λ k h.
    subst (λ (t : ℕ). wish w t (i + k) ≡ Yes) c.number.ensures (c.willing-willing.ensures.yes k (omega arith)) in (
      few,
      votes_passed c.args.script.variant w c.args.session.now c.args.progress.now c.args.logs.now i n c.requires.within few all c.requires.stands c.in_ok-passed.ensures.told
          _ c.in_ok-passed.ensures.ok c.in_ok-passed.ensures.goes_on _ c.in_ok-prepare_each.ensures.adds _ c.in_ok-take_yes.ensures.ok,
    )
