use Rattle.answered_runs.proofs.broken.BrokenRunDisplay.fmt.Goals as goal

pub returns-in-Hits-clause-writes : goal.returns-in-Hits-clause-writes
returns-in-Hits-clause-writes g c = rw c.in-Hits.is c.write.ensures.writes

pub returns-in-Verdict-clause-writes : goal.returns-in-Verdict-clause-writes
returns-in-Verdict-clause-writes g c = rw c.in-Verdict.is c.write-in-Verdict.ensures.writes
