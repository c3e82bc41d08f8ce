use Rattle.std.proofs.Common.{◌≤◌, ◌+◌, ◌-◌, ℕ, subst, arith}
use Rattle.commit_target.specs.declared.records.Record.{Record}
use Rattle.commit_target.specs.declared.records.Party.TheVariants.{Participant}
use Rattle.commit_target.specs.declared.records.Write.TheVariants.{Force}
use Rattle.commit_target.specs.Work.{Work}
use Rattle.commit_target.specs.inside.Batches.{AddsAll}
use Rattle.commit_target.proofs.Rounds.{commits_passed}
use Rattle.commit_target.proofs.outcomes.pass_commits.Goals as goal

pub returns-clause-led : goal.returns-clause-led
returns-clause-led c =
    let w : Work = c.args.script.workload.now in
    let i : ℕ = c.args.participant in
    let n : ℕ = c.in_ok-passed.passed in
    let most : n ≤ c.participants.result - i = c.in_ok-passed.ensures.count in
    let few : i + n ≤ w.participants = omega arith in (
      few,
      commits_passed c.args.script.variant w c.args.session.now c.args.progress.now c.args.logs.now i n c.requires.within few c.requires.stands c.in_ok-passed.ensures.told
          _ c.in_ok-passed.ensures.ok c.in_ok-passed.ensures.goes_on _
          (subst (λ (x : Record). AddsAll c.args.logs.now c.add_each.new.self (λ j. Force (Participant j) x) i n) c.entry-entry.ensures c.in_ok-add_each.ensures.adds),
    )
