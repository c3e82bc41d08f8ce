use Rattle.std.proofs.Common.{◌-◌, List, length, drop, ap, ◌∙◌}
use Rattle.std.proofs.lemmas.List.{take_rest}
use Rattle.scenario_values.specs.declared.term.Term.{Term}
use Rattle.action_eval.proofs.Spans.{span_is}
use Rattle.action_eval.proofs.found.chain_in.Goals as goal

pub returns : goal.returns
returns c =
    let n = c.args.span.end - c.args.span.start in
    take_rest c.chain-chain.result.now (length c.chain-chain.result.now - n) ∙ ap (λ (l : List Term). drop (length l - n) l) c.chain-chain.ensures
    ∙ span_is c.args.scenario.now c.args.span c.requires
