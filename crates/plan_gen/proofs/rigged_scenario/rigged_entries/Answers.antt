use Rattle.std.proofs.Common.{◌+◌, ap, refl}
use Rattle.action_eval.specs.Answers.{texts}
use Rattle.plan_gen.proofs.Lists.{next_of, none_left}
use Rattle.plan_gen.proofs.Rigged.{entry_next, entries_done, entries_begin}
use Rattle.plan_gen.proofs.rigged_scenario.rigged_entries.Goals as goal

pub loop-name-init : goal.loop-name-init
loop-name-init c = record {
  number = refl;
  built = entries_begin (texts c.args.catalogue.now) c.args.rigs.now c.new-to.result.entries c.new-to.ensures.empty;
}

pub loop-name-preserved : goal.loop-name-preserved
loop-name-preserved c = record {
  number = ap (λ n. n + 1) c.loop-name.invariant.number;
  built =
      entry_next c.loop-name.point _ c.loop-name.to.entries _ _ c.in_ok-terms.terms.items _ _ c.args.rigs.now _
      (ap texts (next_of c.args.catalogue.now c.loop-name.name-index _ c.loop-name-test.true)) c.in_ok-terms.ensures refl c.in_ok-put_chain.ensures c.loop-name.invariant.built;
}

pub returns : goal.returns
returns c = entries_done c.loop-name.point c.loop-name.to.entries _ c.args.rigs.now _ (ap texts (none_left c.args.catalogue.now c.loop-name.name-index c.loop-name-test.false)) c.loop-name.invariant.built
