use Rattle.std.proofs.Common.{length, ap, ◌∙◌, sym, arith}
use Rattle.action_eval.proofs.NamedCounts.{found}
use Rattle.action_eval.proofs.Spans.{few_terms, there}
use Rattle.action_eval.proofs.Steps.{short_at}
use Rattle.action_eval.proofs.found.find.Goals as goal

pub chain-requires : goal.chain-requires
chain-requires c = (found c.args.scenario.now c.args.name.now c.in_ok-entry.entry (sym c.entry_of.ensures ∙ c.in_ok-entry.was)).within

pub start_of-start-requires : goal.start_of-start-requires
start_of-start-requires c = omega (arith, (found c.args.scenario.now c.args.name.now c.in_ok-entry.entry (sym c.entry_of.ensures ∙ c.in_ok-entry.was)).within)

pub overflow_add-result : goal.overflow_add-result
overflow_add-result c =
    let s = c.args.scenario.now in
    let e = c.in_ok-entry.entry in
    let limits = c.entries.ensures.limits in
    let within = (found s c.args.name.now e (sym c.entry_of.ensures ∙ c.in_ok-entry.was)).within in
    omega (arith, c.start_of-start.ensures, few_terms s e limits.short_chains, ap length c.chain.ensures, short_at s e limits.short_chains, limits.few_entries, within)

pub returns-clause-span : goal.returns-clause-span
returns-clause-span c =
    let at = sym c.entry_of.ensures ∙ c.in_ok-entry.was in
    (there c.args.scenario.now c.args.name.now c.in_ok-entry.entry _ _ at (found c.args.scenario.now c.args.name.now c.in_ok-entry.entry at).within c.start_of-start.ensures c.chain.ensures).span

pub returns-clause-seen : goal.returns-clause-seen
returns-clause-seen c =
    let at = sym c.entry_of.ensures ∙ c.in_ok-entry.was in
    (there c.args.scenario.now c.args.name.now c.in_ok-entry.entry _ _ at (found c.args.scenario.now c.args.name.now c.in_ok-entry.entry at).within c.start_of-start.ensures c.chain.ensures).seen
