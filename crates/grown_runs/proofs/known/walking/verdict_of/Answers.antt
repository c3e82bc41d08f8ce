use Rattle.std.proofs.lemmas.Result.{IfOk-weaker}
use Rattle.grown_runs.proofs.KnownLemmas.Steps.{came_verdict, same_verdict}
use Rattle.grown_runs.proofs.known.walking.verdict_of.Goals as goal

pub returns-clause-walked : goal.returns-clause-walked
returns-clause-walked g c =
    IfOk-weaker c.walk.result _ _ (λ o came. came_verdict (g.T.RunTable.known c.args.table.now) c.args.rigs.now c.args.depth c.walk.new.plan.items o came) c.walk.ensures

pub returns-clause-same : goal.returns-clause-same
returns-clause-same g c =
    IfOk-weaker c.walk.result _ _
    (λ v came t l a o k. same_verdict (g.T.RunTable.known c.args.table.now) c.args.rigs.now c.args.depth v
    (came_verdict (g.T.RunTable.known c.args.table.now) c.args.rigs.now c.args.depth c.walk.new.plan.items v came) t l a o k) c.walk.ensures
