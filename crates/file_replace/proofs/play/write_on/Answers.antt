use Rattle.std.proofs.Common.{◌∙◌, ◌≤◌, ℕ, List, length, take, is_none, ap, refl, sym, subst, arith}
use Rattle.action_eval.specs.Answers.{Run}
use Rattle.file_replace.specs.Words.{write_point}
use Rattle.sim_device.specs.FileEffects.{Effect, Append}
use Rattle.sim_device.specs.Disk.{entry_at}
use Rattle.file_replace.specs.inside.Devices.{Adds, with_chunks}
use Rattle.file_replace.specs.inside.Left.{left}
use Rattle.file_replace.specs.declared.stage.Stage.{Stage}
use Rattle.file_replace.specs.Steps.{Tally, Writing, point_at}
use Rattle.file_replace.specs.inside.Ready.{IsReadyOn}
use Rattle.file_replace.specs.inside.Seen.{step_of, Played}
use Rattle.file_replace.proofs.Playing.{ok_weaker, wrote, played_on, played_return, played_halt, writing_now, more_hits}
use Rattle.file_replace.proofs.Readying.{ready_now, name_stays}
use Rattle.file_replace.proofs.play.write_on.Goals as goal

pub append-requires : goal.append-requires
append-requires g c =
    let k = writing_now c.args.variant c.args.workload.now c.loop-stage.session c.loop-stage.progress c.loop-stage.device _ (Writing c.in-Writing.chunk.now (left c.in-Writing.rest)) c.loop-stage.invariant.played (ap step_of c.in-Writing.is) in
    ap (λ (n : ℕ). is_none (entry_at (g.D.Device.names c.loop-stage.device) n).live) c.written-name.ensures ∙ ready_now g.D.Device.names g.met.D.Device.led c.args.variant c.args.workload.now _ _ _ k

pub append_chunks-requires-clause-there : goal.append_chunks-requires-clause-there
append_chunks-requires-clause-there g c =
    let k = writing_now c.args.variant c.args.workload.now c.loop-stage.session c.loop-stage.progress c.loop-stage.device _ (Writing c.in-Writing.chunk.now (left c.in-Writing.rest)) c.loop-stage.invariant.played (ap step_of c.in-Writing.is) in
    name_stays g.D.Device.names g.met.D.Device.led c.args.variant c.args.workload.now _ _ _ c.append.new.self _ c.in-Writing.chunk.now k c.in_ok-append-in-Go.ensures
    (ap (λ (n : ℕ). is_none (entry_at (g.D.Device.names c.loop-stage.device) n).live) c.written-name.ensures ∙ ready_now g.D.Device.names g.met.D.Device.led c.args.variant c.args.workload.now _ _ _ k)

pub append_chunks-requires-clause-few : goal.append_chunks-requires-clause-few
append_chunks-requires-clause-few g c =
    subst (λ (n : ℕ). c.in_ok-passed.passed ≤ n) (c.at_once.ensures.most ∙ ap g.D.Device.most c.len.ensures) c.in_ok-passed.ensures.count

pub fail-requires : goal.fail-requires
fail-requires g c =
    subst (λ (t : Tally). IsReadyOn c.args.variant t.step (g.D.Device.names c.loop-stage.device)) (sym c.go_to.ensures)
    (ready_now g.D.Device.names g.met.D.Device.led c.args.variant c.args.workload.now _ _ _ c.loop-stage.invariant.played)

pub loop-stage-preserved : goal.loop-stage-preserved
loop-stage-preserved g c =
    let k = writing_now c.args.variant c.args.workload.now c.loop-stage.session c.loop-stage.progress c.loop-stage.device _ (Writing c.in-Writing.chunk.now (left c.in-Writing.rest)) c.loop-stage.invariant.played (ap step_of c.in-Writing.is) in
    let one =
    wrote c.args.variant c.args.workload.now _ c.loop-stage.progress _ c.in-Writing.chunk.now (left c.in-Writing.rest) k c.hit.new.self c.in_ok-hit.ensures.ok _ c.in-Go.is
    c.in_ok-hit.ensures.told c.in_ok-hit.ensures.goes_on c.append.new.self
    (subst (λ (n : ℕ). Adds g.D.Device.stands c.loop-stage.device c.append.new.self (Append n c.in-Writing.chunk.now)) c.written-name.ensures c.in_ok-append-in-Go.ensures) in
    let few : c.in_ok-passed.passed ≤ length (left c.in-Writing.rest) = omega (arith, c.in_ok-passed.ensures.count, c.at_once.ensures.few, c.len.ensures) in
    record {
      given = ap (λ (r : Run). r.given) c.in_ok-passed.ensures.ok ∙ ap (λ (r : Run). r.given) c.in_ok-hit.ensures.ok ∙ c.loop-stage.invariant.given;
      played =
          played_on c.args.variant c.args.workload.now c.hit.new.self c.loop-stage.progress c.append.new.self (left c.in-Writing.rest) c.in_ok-passed.passed one few
          c.pass.new.self c.in_ok-passed.ensures.ok c.in_ok-passed.ensures.told (c.in_ok-passed.ensures.goes_on) c.append_chunks.new.self
          (subst
          (λ (n : ℕ). (es : List Effect) → g.D.Device.stands c.append.new.self es → g.D.Device.stands c.append_chunks.new.self (with_chunks n (take c.in_ok-passed.passed (left c.in-Writing.rest)) es))
          c.written-name.ensures c.in_ok-append_chunks.ensures) (left c.split_at.result.1) c.split_at.ensures.rest _ c.write_stage-stage.ensures;
      more = more_hits _ _ _ _ c.in_ok-passed.ensures.ok (more_hits _ _ _ _ c.in_ok-hit.ensures.ok c.loop-stage.invariant.more);
    }

pub returns-in-Return-clause-played : goal.returns-in-Return-clause-played
returns-in-Return-clause-played g c =
    let k = subst (λ (t : Tally). Played g.D.Device.stands c.args.variant c.args.workload.now c.loop-stage.session t c.loop-stage.device) (sym c.go_to.ensures) c.loop-stage.invariant.played in
    let at = ap (λ (t : Tally). point_at t.step) c.go_to.ensures ∙ ap (λ (x : Stage). point_at (step_of x)) c.in-Writing.is in
    ok_weaker c.fail.result
    (λ fails. played_return c.args.variant c.args.workload.now _ _ _ write_point k at _ c.in_ok-hit.ensures.ok _ _ c.in-Return.is c.in_ok-hit.ensures.told c.in_ok-hit.ensures.goes_on _ _ fails)
    c.fail.ensures

pub returns-in-Halt-clause-played : goal.returns-in-Halt-clause-played
returns-in-Halt-clause-played g c =
    let k = writing_now c.args.variant c.args.workload.now c.loop-stage.session c.loop-stage.progress c.loop-stage.device _ (Writing c.in-Writing.chunk.now (left c.in-Writing.rest)) c.loop-stage.invariant.played (ap step_of c.in-Writing.is) in
    played_halt c.args.variant c.args.workload.now _ _ _ write_point k refl _ c.in_ok-hit.ensures.ok _ c.in-Halt.is c.in_ok-hit.ensures.told _ c.go_to-in-Halt.ensures
