use Rattle.std.proofs.Common.{is_ok, sym}
use Rattle.grown_plans.proofs.KeptPlans.{added_before, added_is}
use Rattle.grown_plans.proofs.list.GrownPlans.add.Goals as goal

pub invariant_of-self : goal.invariant_of-self
invariant_of-self c =
    added_before (is_ok c.extend_from_slice.result) c.args.self.now c.self.inside.children.items c.args.children.now c.extend_from_slice.new.self.items
    (sym c.self.view_is) c.self.invariant c.requires c.extend_from_slice.ensures.items

pub returns-clause-ok : goal.returns-clause-ok
returns-clause-ok c =
    added_is c.extend_from_slice.result c.args.self.now c.self.inside.children.items c.args.children.now c.extend_from_slice.new.self.items
    (sym c.self.view_is) c.requires c.extend_from_slice.ensures.items
