use Rattle.std.proofs.Common.{◌≡◌, true, false, length, Some, None, rules, refl, ap, sym, ◌∙◌, subst, arith}
use Rattle.action_eval.specs.Answers.{stopped}
use Rattle.target_trait.specs.Play.{IsRunning}
use Rattle.target_trait.proofs.Running.{running_at, runs_go, runs_return, nearer}
use Rattle.target_trait.proofs.Tables.{asked_within, answered_go, answered_return, halted, nothing_asked, reached_halt, state_is}
use Rattle.target_trait.proofs.protocol.play_out.Goals as goal

pub loop-point-init : goal.loop-point-init
loop-point-init g c =
    let runs : stopped c.args.session.now ≡ None = search rules in
    record {
      given = refl;
      here = search rules;
      running = running_at _ _ runs;
    }

pub hit-requires-clause-known : goal.hit-requires-clause-known
hit-requires-clause-known g c =
    let t = g.P.Protocol.table c.args.protocol.now c.args.workload.now in
    let asks : t.point c.loop-point.state ≡ Some c.in-Some.point = sym c.point.ensures ∙ c.in-Some.is in
    let within = asked_within t (length g.P.Protocol.names) c.loop-point.state c.in-Some.point (g.met.P.Protocol.within c.args.protocol.now c.args.workload.now c.loop-point.state) asks in
    let points = ap (λ (x : _). length x.catalogue) c.loop-point.invariant.given in
    omega (arith, within, points, c.requires.points)

pub hit-requires-clause-running : goal.hit-requires-clause-running
hit-requires-clause-running g c =
    let asks : (g.P.Protocol.table c.args.protocol.now c.args.workload.now).point c.loop-point.state ≡ Some c.in-Some.point = sym c.point.ensures ∙ c.in-Some.is in subst (λ o. IsRunning o c.loop-point.session) asks c.loop-point.invariant.running

pub loop-point-smaller-in-Continue-branch-4 : goal.loop-point-smaller-in-Continue-branch-4
loop-point-smaller-in-Continue-branch-4 g c =
    let asks : (g.P.Protocol.table c.args.protocol.now c.args.workload.now).point c.loop-point.state ≡ Some c.in-Some.point = sym c.point.ensures ∙ c.in-Some.is in
    nearer c.loop-point.session c.in-Some.point _ asks c.loop-point.invariant.running c.hit.new.self c.in_ok-hit.ensures.ok

pub loop-point-preserved-in-Continue-branch-4 : goal.loop-point-preserved-in-Continue-branch-4
loop-point-preserved-in-Continue-branch-4 g c =
    let t = g.P.Protocol.table c.args.protocol.now c.args.workload.now in
    let asks : t.point c.loop-point.state ≡ Some c.in-Some.point = sym c.point.ensures ∙ c.in-Some.is in
    record {
      given = search rules;
      here = answered_go t c.loop-point.session c.loop-point.state c.in-Some.point c.loop-point.invariant.here asks
          c.hit.new.self c.in_ok-hit.ensures.ok _ c.in_ok-hit.ensures.told c.in-Go.is c.go.new.state c.in_ok-go-in-Go.ensures;
      running = running_at _ _ (runs_go _ c.hit.new.self c.in-Go.is c.in_ok-hit.ensures.goes_on);
    }

pub loop-point-smaller : goal.loop-point-smaller
loop-point-smaller g c =
    let asks : (g.P.Protocol.table c.args.protocol.now c.args.workload.now).point c.loop-point.state ≡ Some c.in-Some.point = sym c.point.ensures ∙ c.in-Some.is in
    nearer c.loop-point.session c.in-Some.point _ asks c.loop-point.invariant.running c.hit.new.self c.in_ok-hit.ensures.ok

pub loop-point-preserved : goal.loop-point-preserved
loop-point-preserved g c =
    let t = g.P.Protocol.table c.args.protocol.now c.args.workload.now in
    let asks : t.point c.loop-point.state ≡ Some c.in-Some.point = sym c.point.ensures ∙ c.in-Some.is in
    record {
      given = search rules;
      here = answered_return t c.loop-point.session c.loop-point.state c.in-Some.point c.loop-point.invariant.here asks
          c.hit.new.self c.in_ok-hit.ensures.ok _ c.in_ok-hit.ensures.told _ c.in-Return.is c.fail.new.state c.in_ok-fail-in-Return.ensures;
      running = running_at _ _ (runs_return _ _ c.hit.new.self c.in-Return.is c.in_ok-hit.ensures.goes_on);
    }

pub returns-in-Halt-clause-play : goal.returns-in-Halt-clause-play
returns-in-Halt-clause-play g c =
    let t = g.P.Protocol.table c.args.protocol.now c.args.workload.now in
    let asks : t.point c.loop-point.state ≡ Some c.in-Some.point = sym c.point.ensures ∙ c.in-Some.is in
    halted t c.hit.new.self c.loop-point.state (reached_halt t c.loop-point.session c.loop-point.state c.in-Some.point c.loop-point.invariant.here asks
    c.hit.new.self c.in_ok-hit.ensures.ok _ c.in_ok-hit.ensures.told c.in-Halt.is)

pub returns-in-Halt-clause-state : goal.returns-in-Halt-clause-state
returns-in-Halt-clause-state g c =
    let t = g.P.Protocol.table c.args.protocol.now c.args.workload.now in
    let asks : t.point c.loop-point.state ≡ Some c.in-Some.point = sym c.point.ensures ∙ c.in-Some.is in
    state_is t c.hit.new.self c.loop-point.state true (reached_halt t c.loop-point.session c.loop-point.state c.in-Some.point c.loop-point.invariant.here asks
    c.hit.new.self c.in_ok-hit.ensures.ok _ c.in_ok-hit.ensures.told c.in-Halt.is)

pub returns-clause-play : goal.returns-clause-play
returns-clause-play g c =
    let t = g.P.Protocol.table c.args.protocol.now c.args.workload.now in
    nothing_asked t c.loop-point.session c.loop-point.state c.loop-point.invariant.here (search rules)

pub returns-clause-state : goal.returns-clause-state
returns-clause-state g c =
    let t = g.P.Protocol.table c.args.protocol.now c.args.workload.now in
    state_is t c.loop-point.session c.loop-point.state false c.loop-point.invariant.here
