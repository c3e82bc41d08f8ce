use Rattle.std.proofs.Common.{[], ◌∷◌, ap, length, arith}
use Rattle.grown_plans.proofs.KeptPlans.{earlier, from_length, parent_is, first_has_no_parent}
use Rattle.grown_plans.proofs.list.GrownPlans.parent_of.Goals as goal

pub index-child-requires : goal.index-child-requires
index-child-requires c =
    let many = ap length c.self.view_is in
    let plans = from_length ([] ∷ []) c.self.inside.children.items in
    omega (arith, many, plans, c.requires, c.if-number-eq0.false, c.self.inside.children.ok.0)

pub returns-then-number-eq0-clause-grew : goal.returns-then-number-eq0-clause-grew
returns-then-number-eq0-clause-grew c = first_has_no_parent c.args.self.now c.self.inside.children.items c.args.number c.self.view_is c.if-number-eq0.true

pub returns-clause-before : goal.returns-clause-before
returns-clause-before c =
    let before = earlier c.args.self.now c.self.inside.children.items c.args.number c.parent.result c.index-child.result.now c.self.view_is c.self.invariant c.requires
    (omega (arith, c.if-number-eq0.false)) c.index-child.ensures c.parent.ensures in
    omega (arith, before)

pub returns-clause-grew : goal.returns-clause-grew
returns-clause-grew c =
    parent_is c.args.self.now c.self.inside.children.items c.args.number c.parent.result c.index-child.result.now c.self.view_is c.self.invariant c.requires
    (omega (arith, c.if-number-eq0.false)) c.index-child.ensures c.parent.ensures
