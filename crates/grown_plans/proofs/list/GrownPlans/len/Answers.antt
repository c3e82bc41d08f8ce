use Rattle.std.proofs.Common.{[], ◌∷◌, ap, length, arith}
use Rattle.grown_plans.proofs.KeptPlans.{from_length}
use Rattle.grown_plans.proofs.list.GrownPlans.len.Goals as goal

pub returns : goal.returns
returns c =
    let many = ap length c.self.view_is in
    let plans = from_length ([] ∷ []) c.self.inside.children.items in
    let kept = c.len.ensures in
    omega (arith, many, plans, kept)
