use Rattle.std.proofs.Common.{[], refl, ap, sym, subst}
use Rattle.scenario_values.specs.Scenario.{Entries, IsScenario}
use Rattle.action_eval.specs.Answers.{texts}
use Rattle.action_eval.specs.RiggedScenario.{rigged_as}
use Rattle.action_eval.proofs.Rigged.{nothing_keeps, rigged_scenario_keeps}
use Rattle.action_eval.proofs.LaidChains.{loaded_sizes, loaded_entries}
use Rattle.action_eval.proofs.fault_table.FaultTable.load.Goals as goal

pub invariant_of-self : goal.invariant_of-self
invariant_of-self c = (tt, tt, nothing_keeps [] refl)

pub invariant_of-self-2 : goal.invariant_of-self-2
invariant_of-self-2 c =
    let names = texts c.args.catalogue.now in
    let rigs = c.args.rigs.now in
    let laid = loaded_entries c.args.catalogue.now rigs _ _ _ refl c.in_ok-lay.ensures.sizes c.in_ok-lay.ensures.terms in (
      c.requires.lawful.distinct,
      loaded_sizes c.args.catalogue.now rigs _ _ _ refl c.in_ok-lay.ensures.sizes c.in_ok-lay.ensures.terms,
      subst (λ (s : Entries). IsScenario s) (sym laid) (rigged_scenario_keeps names rigs c.requires.lawful c.requires.small.0 c.requires.small.1 c.requires.small.2),
    )

pub returns-clause-ok : goal.returns-clause-ok
returns-clause-ok c =
    ap (rigged_as (texts c.args.catalogue.now)) (loaded_entries c.args.catalogue.now c.args.rigs.now _ _ _ refl c.in_ok-lay.ensures.sizes c.in_ok-lay.ensures.terms)
