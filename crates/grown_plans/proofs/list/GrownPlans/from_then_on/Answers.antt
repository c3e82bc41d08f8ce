use Rattle.std.proofs.Common.{ap, length, arith, [], ◌∷◌, inl, inr}
use Rattle.grown_plans.specs.GrownPlans.{is_once_return}
use Rattle.grown_plans.proofs.KeptPlans.{from_length, no_return_first, no_return_last, return_last}
use Rattle.grown_plans.proofs.list.GrownPlans.from_then_on.Goals as goal

pub index-child-requires : goal.index-child-requires
index-child-requires c =
    let many = ap length c.self.view_is in
    let plans = from_length ([] ∷ []) c.self.inside.children.items in
    omega (arith, many, plans, c.requires, c.if-number-eq0.false, c.self.inside.children.ok.0)

pub returns-then-number-eq0 : goal.returns-then-number-eq0
returns-then-number-eq0 c = no_return_first c.args.self.now c.self.inside.children.items c.args.number c.self.view_is c.if-number-eq0.true

pub returns-in-OnceReturn : goal.returns-in-OnceReturn
returns-in-OnceReturn c =
    return_last c.args.self.now c.self.inside.children.items c.args.number c.index-child.result.now c.from_then_on.result c.fault.result
    c.self.view_is c.self.invariant c.requires (omega (arith, c.if-number-eq0.false))
    c.index-child.ensures
    c.fault.ensures (ap is_once_return c.in-OnceReturn.is) c.from_then_on.ensures

pub returns-in-OnwardReturn : goal.returns-in-OnwardReturn
returns-in-OnwardReturn c =
    no_return_last c.args.self.now c.self.inside.children.items c.args.number c.index-child.result.now c.fault.result
    c.self.view_is c.self.invariant c.requires (omega (arith, c.if-number-eq0.false))
    c.index-child.ensures
    c.fault.ensures (elim c.in-OnwardReturn.is [ inl e ↦ ap is_once_return e.1 | inr e ↦ ap is_once_return e ])
