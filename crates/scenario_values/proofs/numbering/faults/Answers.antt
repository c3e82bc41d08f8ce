use Rattle.std.proofs.Common.{ap, ◌∙◌, ◌++◌}
use Rattle.std.specs.Map.Iter.{deref_pair}
use Rattle.std.proofs.lemmas.Map.Iter.{rest_more, rest_all}
use Rattle.scenario_values.specs.Faults.{chain_faults}
use Rattle.scenario_values.proofs.Limits.{faults_go_on_by, faults_done_by}
use Rattle.scenario_values.proofs.numbering.faults.Goals as goal

pub loop-chain-preserved : goal.loop-chain-preserved
loop-chain-preserved c =
    let here = rest_more deref_pair c.loop-chain.chain-iterator c.next.new.self c.next.result (c.in-Some.field-0-0, c.in-Some.chain) c.in-Some.is c.next.ensures.steps in
    faults_go_on_by c.loop-chain.places.items c.push_faults.new.places.items _ c.loop-chain.chain-iterator c.next.new.self c.loop-chain.entry (c.in-Some.field-0-0.now, c.in-Some.chain.now) here
    (c.in_ok-push_faults.ensures ∙ ap (λ ts. c.loop-chain.places.items ++ chain_faults c.loop-chain.entry 0 ts) c.terms.ensures) c.loop-chain.invariant

pub returns : goal.returns
returns c = faults_done_by c.loop-chain.places.items _ c.loop-chain.chain-iterator c.loop-chain.entry (rest_all deref_pair c.loop-chain.chain-iterator c.next.new.self c.next.result c.in-None.is c.next.ensures.steps) c.loop-chain.invariant
