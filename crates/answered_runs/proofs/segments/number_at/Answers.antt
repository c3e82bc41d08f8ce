use Rattle.std.proofs.Common.{arith, ◌+◌, ◌-◌, ◌/◌}
use Rattle.answered_runs.proofs.Laid.{between_down, between_first, between_number, between_up}
use Rattle.answered_runs.proofs.segments.number_at.Goals as goal

pub loop-high-init : goal.loop-high-init
loop-high-init c = between_first c.args.segments.now c.args.place c.requires.0 c.requires.1 c.requires.2

pub loop-high-preserved-then-segments-middle : goal.loop-high-preserved-then-segments-middle
loop-high-preserved-then-segments-middle c =
    let b = c.loop-high.invariant in
    let low = c.loop-high.low in
    let high = c.loop-high.high in
    let wide = c.loop-high-test.true in
    between_up c.args.segments.now c.args.place low high (low + (high - low) / 2) _ b (omega (arith, wide)) (omega (arith, wide)) c.if-segments-middle.true

pub loop-high-preserved : goal.loop-high-preserved
loop-high-preserved c =
    let b = c.loop-high.invariant in
    let low = c.loop-high.low in
    let high = c.loop-high.high in
    let wide = c.loop-high-test.true in
    between_down c.args.segments.now c.args.place low high (low + (high - low) / 2) _ b (omega (arith, wide)) (omega (arith, wide)) c.if-segments-middle.false

pub returns : goal.returns
returns c =
    let narrow = c.loop-high-test.false in
    between_number c.args.segments.now c.args.place c.loop-high.low c.loop-high.high c.requires.0 c.requires.1 c.requires.2 c.loop-high.invariant (omega (arith, narrow))
