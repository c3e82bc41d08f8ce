use Rattle.std.proofs.Common.{get_or, [], length, ◌<◌, subst, sym}
use Rattle.std.proofs.lemmas.Result.{IfOk-weaker}
use Rattle.grown_runs.specs.known.Looks.{IsLook}
use Rattle.answered_runs.specs.Answered.{runs_in}
use Rattle.answered_runs.specs.KnownLists.{KnownList}
use Rattle.answered_runs.proofs.WholeLists.{look_here}
use Rattle.answered_runs.proofs.plans.KnownPlans.look.Goals as goal

pub returns-clause-told : goal.returns-clause-told
returns-clause-told c =
    let inside = c.self.inside in
    let plans = inside.told.list.plans in
    let n = c.args.number in
    let hits = c.read_found.new.hits.items in
    let less : n < length plans = subst (λ (k : KnownList). n < length k.list.plans) (sym c.self.view_is) c.requires in
    IfOk-weaker c.read_found.result _ _
    (λ l is. subst (λ (k : KnownList). IsLook (runs_in k.answered (get_or k.list.plans n [])) hits l) c.self.view_is
    (look_here _ (runs_in inside.runs.now) inside.told.runs.items plans n c.index.result.now c.self.invariant.3 less c.index.ensures hits l is))
    c.read_found.ensures.told
