use Rattle.std.proofs.Common.{◌+◌, ◌∷◌, ap, drop, sym, ◌∙◌}
use Rattle.scenario_values.specs.declared.term.Term.{Term}
use Rattle.plan_gen.proofs.Lists.{next_of, none_left}
use Rattle.answered_runs.proofs.Found.{chain_goes, chain_stops, chain_ends, took_to, took_to_none}
use Rattle.answered_runs.proofs.rigged.push_chain.Goals as goal

pub returns : goal.returns
returns c = chain_ends c.args.point c.loop-term.done _ c.loop-term.rigs.items _ (none_left c.args.terms.now c.loop-term.term-index c.loop-term-test.false) c.loop-term.invariant

pub returns-in-None : goal.returns-in-None
returns-in-None c =
    chain_stops c.args.point c.loop-term.done _ _ _ c.loop-term.rigs.items _ (next_of c.args.terms.now c.loop-term.term-index _ c.loop-term-test.true ∙ ap (λ (t : Term). t ∷ drop (c.loop-term.term-index + 1) c.args.terms.now) (sym c.term-item.is)) (took_to_none _ _ _ c.in_ok-hit.ensures c.in-None.is) c.loop-term.invariant

pub loop-term-preserved : goal.loop-term-preserved
loop-term-preserved c =
    chain_goes c.args.point c.loop-term.done _ _ _ c.loop-term.rigs.items c.push_term.new.rigs.items c.in-Some.hit _ (next_of c.args.terms.now c.loop-term.term-index _ c.loop-term-test.true ∙ ap (λ (t : Term). t ∷ drop (c.loop-term.term-index + 1) c.args.terms.now) (sym c.term-item.is))
    (took_to _ _ _ c.in-Some.hit c.in_ok-hit.ensures c.in-Some.is) c.loop-term.invariant
