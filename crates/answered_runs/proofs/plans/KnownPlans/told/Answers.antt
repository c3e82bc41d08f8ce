use Rattle.std.proofs.Common.{◌≡◌, get_or, [], length, ◌<◌, subst, sym}
use Rattle.std.specs.Prelude.{option_map}
use Rattle.answered_runs.specs.Answered.{plan_told}
use Rattle.answered_runs.specs.KnownLists.{KnownList}
use Rattle.answered_runs.proofs.WholeLists.{told_here}
use Rattle.answered_runs.proofs.plans.KnownPlans.told.Goals as goal

pub returns : goal.returns
returns c =
    let inside = c.self.inside in
    let plans = inside.told.list.plans in
    let n = c.args.number in
    let less : n < length plans = subst (λ (k : KnownList). n < length k.list.plans) (sym c.self.view_is) c.requires in
    subst (λ (k : KnownList). option_map (λ r. r.now) c.index.result.now ≡ plan_told k.answered (get_or k.list.plans n [])) c.self.view_is
    (told_here inside.runs.now inside.told.runs.items plans n c.index.result.now c.self.invariant.4 less c.index.ensures)
