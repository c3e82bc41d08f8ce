use Rattle.std.proofs.Common.{◌+◌, [], drop, Bor, List, ℕ}
use Rattle.std.proofs.lemmas.Result.{err_from_is_err_and}
use Rattle.scenario_grammar.proofs.Chains.{goes_on, ends, is_done, next_of, none_left, bytes_of}
use Rattle.scenario_grammar.proofs.terms.chain_of.Goals as goal

nowhere : Bor (List ℕ)
nowhere = record { ref_ptr = (0, 0); now = [] }

pub returns-in_err-term-clause-value : goal.returns-in_err-term-clause-value
unfolding nowhere
returns-in_err-term-clause-value c =
    let p = err_from_is_err_and c.from_residual.result c.from_residual.ensures.1 in
    let i = c.loop-part.part-index in
    rw (p.1, p.2) (ends c.in_err-term.field-0.0 c.args.entry (c.loop-part.number + 1) c.loop-part.faults c.loop-part.terms.items _ (bytes_of (drop i c.args.parts.now)) _ _ (next_of c.args.parts.now i nowhere c.loop-part-test.true) c.in_err-term.ensures.value c.loop-part.invariant.2)

pub loop-part-preserved : goal.loop-part-preserved
unfolding nowhere
loop-part-preserved c =
    let i = c.loop-part.part-index in
    (c.in_ok-term.ensures.small, c.in_ok-term.ensures.few, rw c.in_ok-push.ensures.items (goes_on c.args.entry (c.loop-part.number + 1) c.loop-part.faults c.in_ok-term.now c.loop-part.terms.items _ (bytes_of (drop i c.args.parts.now)) _ c.in_ok-term.term _ (next_of c.args.parts.now i nowhere c.loop-part-test.true) c.in_ok-term.ensures.value c.loop-part.invariant.2))

pub returns-clause-value : goal.returns-clause-value
returns-clause-value c = is_done c.args.entry (c.loop-part.number + 1) c.loop-part.faults c.loop-part.terms.items (bytes_of (drop c.loop-part.part-index c.args.parts.now)) _ (none_left c.args.parts.now c.loop-part.part-index c.loop-part-test.false) c.loop-part.invariant.2
