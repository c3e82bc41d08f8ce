use Rattle.std.proofs.Common.{◌≡◌, List, ℕ, None, subst, sym}
use Rattle.std.specs.String.{string_bytes}
use Rattle.std.specs.Map.Iter.{deref_pair}
use Rattle.std.proofs.lemmas.Map.Iter.{rest_more, rest_all}
use Rattle.scenario_grammar.specs.FirstFault.{fault}
use Rattle.scenario_grammar.specs.Spelling.{Spells}
use Rattle.scenario_grammar.proofs.RoundTrip.{printed_spells, printed_unfaulty}
use Rattle.scenario_grammar.proofs.Printed.{entry_written, all_written}
use Rattle.scenario_grammar.proofs.printing.print.Goals as goal

pub loop-name-preserved : goal.loop-name-preserved
loop-name-preserved c =
    let here = rest_more deref_pair c.loop-name.name-iterator c.next.new.self c.next.result (c.in-Some.name, c.in-Some.chain) c.in-Some.is c.next.ensures.steps in
    entry_written (string_bytes c.loop-name.out) (string_bytes c.write_entry.new.out) _ c.loop-name.first c.loop-name.name-iterator c.next.new.self (c.in-Some.name.now, c.in-Some.chain.now) here (rw c.terms.ensures at c.in_ok-write_entry.ensures) c.loop-name.invariant

pub returns : goal.returns
returns c =
    let bytes = all_written (string_bytes c.loop-name.out) _ c.loop-name.first c.loop-name.name-iterator (rest_all deref_pair c.loop-name.name-iterator c.next.new.self c.next.result c.in-None.is c.next.ensures.steps) c.loop-name.invariant in
    let s = c.args.scenario.now in
    let limits = c.entries-name-items.ensures.limits in
    let P : List ℕ → Type 0 = λ text. Spells text s × (fault text ≡ None) in
    record { bytes = bytes; spelled = subst P (sym bytes) (printed_spells s limits, printed_unfaulty s limits) }
