use Rattle.std.proofs.Common.{◌≡◌, ◌<◌, ◌∙◌, [], length, get_or, sym, arith}
use Rattle.grown_plans.specs.Promises.{lesser}
use Rattle.grown_runs.proofs.Lesser.{left_is, lesser_length}
use Rattle.answered_runs.proofs.GrownLemmas.Caused.{left_few}
use Rattle.answered_runs.proofs.GrownLemmas.Open.{all_looked, fails_here, goes_on, none_failed, taken_back}
use Rattle.answered_runs.proofs.grown.causing.one_fails.Goals as goal

pub verdict_or_open-requires : goal.verdict_or_open-requires
verdict_or_open-requires c =
    let rigs = c.args.rigs.now in
    let i = c.loop-left_out.left_out in
    let lt : i < length rigs = omega (arith, c.loop-left_out-test.true) in
    let less = left_is rigs i c.leave_out.new.less.items lt c.in_ok-leave_out.ensures in
    left_few 64 rigs i c.as_slice.result.now lt (c.as_slice.ensures.value ∙ less) c.requires

pub loop-left_out-preserved : goal.loop-left_out-preserved
loop-left_out-preserved c =
    let a = c.args.known.now.answered in
    let rigs = c.args.rigs.now in
    let i = c.loop-left_out.left_out in
    let many = lesser_length rigs in
    let lt : i < length rigs = omega (arith, c.loop-left_out-test.true) in
    let less : c.as_slice.result.now ≡ get_or (lesser rigs) i [] = c.as_slice.ensures.value ∙ left_is rigs i c.leave_out.new.less.items lt c.in_ok-leave_out.ensures in
    goes_on a c.args.known.now.depth c.args.code i (lesser rigs) c.as_slice.result.now c.in_ok-verdict.verdict c.args.waiting.now.items c.loop-left_out.waiting.items c.verdict_or_open.new.waiting.items (omega (arith, lt, many)) less
    c.in_ok-verdict.ensures.verdict (sym c.is_failure.ensures ∙ c.if-is_failure.false) c.loop-left_out.invariant c.in_ok-verdict.ensures.waiting

pub returns-clause-fails : goal.returns-clause-fails
returns-clause-fails c =
    let rigs = c.args.rigs.now in
    let many = lesser_length rigs in
    sym (all_looked c.args.known.now.answered c.args.known.now.depth c.args.code c.loop-left_out.left_out (lesser rigs) c.args.waiting.now.items c.loop-left_out.waiting.items (omega (arith, c.loop-left_out-test.false, many)) c.loop-left_out.invariant).none

pub returns-clause-waiting : goal.returns-clause-waiting
returns-clause-waiting c =
    let a = c.args.known.now.answered in
    let rigs = c.args.rigs.now in
    let many = lesser_length rigs in
    none_failed a c.args.known.now.depth c.args.code (lesser rigs) c.args.waiting.now.items c.loop-left_out.waiting.items
    (all_looked a c.args.known.now.depth c.args.code c.loop-left_out.left_out (lesser rigs) c.args.waiting.now.items c.loop-left_out.waiting.items (omega (arith, c.loop-left_out-test.false, many)) c.loop-left_out.invariant)

pub returns-then-is_failure-clause-fails : goal.returns-then-is_failure-clause-fails
returns-then-is_failure-clause-fails c =
    let rigs = c.args.rigs.now in
    let i = c.loop-left_out.left_out in
    let many = lesser_length rigs in
    let lt : i < length rigs = omega (arith, c.loop-left_out-test.true) in
    let less : c.as_slice.result.now ≡ get_or (lesser rigs) i [] = c.as_slice.ensures.value ∙ left_is rigs i c.leave_out.new.less.items lt c.in_ok-leave_out.ensures in
    sym (fails_here c.args.known.now.answered c.args.known.now.depth c.args.code i (lesser rigs) c.as_slice.result.now c.in_ok-verdict.verdict (omega (arith, lt, many)) less c.in_ok-verdict.ensures.verdict (sym c.is_failure.ensures ∙ c.if-is_failure.true))

pub returns-then-is_failure-clause-waiting : goal.returns-then-is_failure-clause-waiting
returns-then-is_failure-clause-waiting c =
    let rigs = c.args.rigs.now in
    let i = c.loop-left_out.left_out in
    let many = lesser_length rigs in
    let lt : i < length rigs = omega (arith, c.loop-left_out-test.true) in
    let less : c.as_slice.result.now ≡ get_or (lesser rigs) i [] = c.as_slice.ensures.value ∙ left_is rigs i c.leave_out.new.less.items lt c.in_ok-leave_out.ensures in
    let fails = fails_here c.args.known.now.answered c.args.known.now.depth c.args.code i (lesser rigs) c.as_slice.result.now c.in_ok-verdict.verdict (omega (arith, lt, many)) less c.in_ok-verdict.ensures.verdict (sym c.is_failure.ensures ∙ c.if-is_failure.true) in
    let many_before : c.len-before.result ≡ length c.args.waiting.now.items = omega (arith, c.len-before.ensures, c.args.waiting.now.ok.0) in
    taken_back c.args.known.now.answered c.args.known.now.depth c.args.code c.len-before.result i (lesser rigs) c.as_slice.result.now c.args.waiting.now.items c.loop-left_out.waiting.items c.verdict_or_open.new.waiting.items _ fails many_before c.loop-left_out.invariant
    c.in_ok-verdict.ensures.waiting c.truncate.ensures.items
