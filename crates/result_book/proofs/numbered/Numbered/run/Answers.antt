use Rattle.std.proofs.Common.{ap}
use Rattle.result_book.proofs.numbered.Numbered.run.Goals as goal

pub invariant_of-result : goal.invariant_of-result
invariant_of-result g c = (c.args.target.now, c.in_ok-verdict.ensures.ok)

pub returns-clause-ok : goal.returns-clause-ok
returns-clause-ok g c = ap (λ v. record { number = c.args.number; verdict = v }) c.in_ok-verdict.ensures.ok
