use Rattle.std.proofs.Common.{◌-◌, ◌*◌, ◌/◌, ◌≤◌, length, refl, arith}
use Rattle.std.proofs.Math.Nat.{div-mul-le_self, mul-le-mul_right}
use Rattle.action_eval.proofs.Steps.{open_of}
use Rattle.action_eval.proofs.PassedHits.{rounds_after, known_all, within_all}
use Rattle.action_eval.proofs.session.Session.pass_rounds.Goals as goal

pub pass_points-requires-clause-known : goal.pass_points-requires-clause-known
pass_points-requires-clause-known c = known_all _ _ _ _ _ _ _ _ c.self.invariant.0 _ c.self.invariant.1 c.self.view_is _ c.requires.known _ c.deref.ensures.value

pub pass_points-requires-clause-within : goal.pass_points-requires-clause-within
pass_points-requires-clause-within c = within_all _ _ _ _ _ _ _ _ c.self.invariant.0 _ c.self.invariant.1 c.self.view_is _ c.requires.known _ c.deref.ensures.value _ refl

pub invariant_of-self-2 : goal.invariant_of-self-2
invariant_of-self-2 c =
    let k = length c.args.points.now in
    let n = c.in_ok-count.count in
    let q = c.saturating_sub.result in
    let few : n ≤ q / k = omega (arith, c.in_ok-count.ensures.count, c.min-most.ensures) in
    let room : n * k ≤ c.self.inside.max_hits - length c.self.inside.hits.items = omega (arith, open_of _ _ _ _ _ _ _ _ c.self.invariant.0 _ _ _ c.self.invariant.3 c.self.view_is c.requires.running, mul-le-mul_right k few, div-mul-le_self q k, c.saturating_sub.ensures) in
    let a = rounds_after _ _ _ _ _ _ _ _ c.self.invariant.0 c.self.view_is c.requires.running _ c.self.invariant.1 _ _ c.requires.known _ c.deref.ensures.value _ c.in_ok-count.ensures.left room _ c.in_ok-count.ensures.hits in
    (a.keeps, c.self.invariant.1, c.self.invariant.2, c.self.invariant.3)

pub returns-clause-told : goal.returns-clause-told
returns-clause-told c =
    let k = length c.args.points.now in
    let n = c.in_ok-count.count in
    let q = c.saturating_sub.result in
    let few : n ≤ q / k = omega (arith, c.in_ok-count.ensures.count, c.min-most.ensures) in
    let room : n * k ≤ c.self.inside.max_hits - length c.self.inside.hits.items = omega (arith, open_of _ _ _ _ _ _ _ _ c.self.invariant.0 _ _ _ c.self.invariant.3 c.self.view_is c.requires.running, mul-le-mul_right k few, div-mul-le_self q k, c.saturating_sub.ensures) in
    let a = rounds_after _ _ _ _ _ _ _ _ c.self.invariant.0 c.self.view_is c.requires.running _ c.self.invariant.1 _ _ c.requires.known _ c.deref.ensures.value _ c.in_ok-count.ensures.left room _ c.in_ok-count.ensures.hits in
    a.go

pub returns-clause-goes_on : goal.returns-clause-goes_on
returns-clause-goes_on c =
    let k = length c.args.points.now in
    let n = c.in_ok-count.count in
    let q = c.saturating_sub.result in
    let few : n ≤ q / k = omega (arith, c.in_ok-count.ensures.count, c.min-most.ensures) in
    let room : n * k ≤ c.self.inside.max_hits - length c.self.inside.hits.items = omega (arith, open_of _ _ _ _ _ _ _ _ c.self.invariant.0 _ _ _ c.self.invariant.3 c.self.view_is c.requires.running, mul-le-mul_right k few, div-mul-le_self q k, c.saturating_sub.ensures) in
    let a = rounds_after _ _ _ _ _ _ _ _ c.self.invariant.0 c.self.view_is c.requires.running _ c.self.invariant.1 _ _ c.requires.known _ c.deref.ensures.value _ c.in_ok-count.ensures.left room _ c.in_ok-count.ensures.hits in
    a.running
