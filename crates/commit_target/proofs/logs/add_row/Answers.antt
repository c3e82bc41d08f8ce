use Rattle.std.proofs.Common.{rules, ◌≡◌, ◌<◌, ◌∙◌, ℕ, length, get_or, arith}
use Rattle.std.proofs.lemmas.List.{get_or_default}
use Rattle.sim_device.specs.LogEffects.{Log, AddsLogEffect}
use Rattle.commit_target.specs.declared.records.Record.{Record}
use Rattle.commit_target.specs.Writes.{log_at}
use Rattle.commit_target.specs.inside.Batches.{effect_of}
use Rattle.commit_target.proofs.Rows.{one_written}
use Rattle.commit_target.proofs.logs.add_row.Goals as goal

pub loop-number-preserved : goal.loop-number-preserved
loop-number-preserved c =
    let number : ℕ = c.loop-number.number in
    let there : number < length c.loop-number.logs = omega arith in
    let was : Log Record = get_or c.loop-number.logs number c.index-logs-number.result in
    let own : was ≡ log_at c.loop-number.logs number = get_or_default c.loop-number.logs number _ _ there in
    let adds : AddsLogEffect was c.add.new.self (effect_of c.args.manner c.args.entry) = c.in_ok-add.ensures.ok in
    record {
      within = omega arith;
      same = search rules;
      done = one_written _ _ _ c.args.first number was c.add.new.self there (own ∙ c.loop-number.invariant.left number (omega arith)) adds c.loop-number.invariant.done;
      below = search rules;
      left = search rules;
    }

pub returns : goal.returns
returns c = record {
  same = c.loop-number.invariant.same;
  written = λ n from before. c.loop-number.invariant.done n from (omega arith);
  below = c.loop-number.invariant.below;
  above = λ n from after. c.loop-number.invariant.left n (omega arith);
}
