use Rattle.std.proofs.lemmas.Result.{IfOk-weaker}
use Rattle.grown_runs.proofs.KnownLemmas.Steps.{end_acts, end_ends, end_stops}
use Rattle.grown_runs.proofs.known.walking.end_walk.Goals as goal

pub returns-in-Unknown : goal.returns-in-Unknown
returns-in-Unknown g c =
    end_stops (g.T.RunTable.known c.args.table.now) c.args.rigs.now c.args.plan.now.items c.as_slice.result.now c.in_ok-next_step.field-0 c.as_slice.ensures.value c.in-Unknown.is c.in_ok-next_step.ensures

pub returns-in-Ends : goal.returns-in-Ends
returns-in-Ends g c =
    end_ends (g.T.RunTable.known c.args.table.now) c.args.rigs.now c.args.plan.now.items c.as_slice.result.now c.in_ok-next_step.field-0 c.in-Ends.verdict c.as_slice.ensures.value c.in-Ends.is c.in_ok-next_step.ensures

pub returns-in-Acts : goal.returns-in-Acts
returns-in-Acts g c =
    IfOk-weaker c.go_onward.result _ _
    (λ o e. end_acts (g.T.RunTable.known c.args.table.now) c.args.rigs.now c.args.plan.now.items c.as_slice.result.now c.go_onward.new.plan.items c.in_ok-next_step.field-0 c.in-Acts.field-0 o c.as_slice.ensures.value c.in-Acts.is c.in_ok-next_step.ensures e)
    c.go_onward.ensures
