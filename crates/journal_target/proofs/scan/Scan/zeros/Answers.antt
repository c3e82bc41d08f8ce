use Rattle.std.proofs.Common.{sym, ◌∙◌, arith}
use Rattle.journal_target.proofs.Scans.{zeros_scanned}
use Rattle.journal_target.proofs.scan.Scan.zeros.Goals as goal

pub returns-else-count-eq0-clause-is : goal.returns-else-count-eq0-clause-is
returns-else-count-eq0-clause-is c = λ transaction some. c.number.ensures.is ∙ sym (zeros_scanned transaction c.args.count c.args.self some (omega (arith, c.if-count-eq0.false)))
