use Rattle.std.proofs.Common.{◌<◌, ◌-◌, ap, length, arith, [], ◌∷◌}
use Rattle.std.proofs.lemmas.List.{get_or_read}
use Rattle.grown_plans.proofs.KeptPlans.{from_length, step_back, at_the_first}
use Rattle.grown_plans.proofs.list.GrownPlans.faults_of.Goals as goal

pub index-child-requires : goal.index-child-requires
index-child-requires c =
    let many = ap length c.self.view_is in
    let plans = from_length ([] ∷ []) c.self.inside.children.items in
    omega (arith, many, plans, c.loop-number.invariant.within, c.loop-number-test.true)

pub loop-number-smaller : goal.loop-number-smaller
loop-number-smaller c =
    let gs = c.self.inside.children.items in
    let many = ap length c.self.view_is in
    let plans = from_length ([] ∷ []) gs in
    let lt : c.loop-number.number - 1 < length gs = omega (arith, many, plans, c.loop-number.invariant.within, c.loop-number-test.true) in
    let child = c.index-child.result.now in
    (step_back c.args.self.now gs c.loop-number.number c.parent-number.result child c.fault-kind.result c.loop-number.faults.items c.push.new.self.items _
    c.self.view_is c.self.invariant c.loop-number.invariant.within c.loop-number-test.true
    (get_or_read gs (c.loop-number.number - 1) child lt c.index-child.ensures child) c.parent-number.ensures c.fault-kind.ensures
    c.in_ok-push.ensures.items c.loop-number.invariant.rest).0

pub loop-number-preserved : goal.loop-number-preserved
loop-number-preserved c =
    let gs = c.self.inside.children.items in
    let many = ap length c.self.view_is in
    let plans = from_length ([] ∷ []) gs in
    let lt : c.loop-number.number - 1 < length gs = omega (arith, many, plans, c.loop-number.invariant.within, c.loop-number-test.true) in
    let child = c.index-child.result.now in
    let back =
    step_back c.args.self.now gs c.loop-number.number c.parent-number.result child c.fault-kind.result c.loop-number.faults.items c.push.new.self.items _
    c.self.view_is c.self.invariant c.loop-number.invariant.within c.loop-number-test.true
    (get_or_read gs (c.loop-number.number - 1) child lt c.index-child.ensures child) c.parent-number.ensures c.fault-kind.ensures
    c.in_ok-push.ensures.items c.loop-number.invariant.rest in
    record { within = back.1; rest = back.2 }

pub returns : goal.returns
returns c =
    at_the_first c.args.self.now c.self.inside.children.items c.loop-number.number c.loop-number.faults.items _ c.self.view_is
    (omega (arith, c.loop-number-test.false)) c.loop-number.invariant.rest
