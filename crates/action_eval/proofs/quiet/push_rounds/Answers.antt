use Rattle.std.proofs.Common.{◌≡◌, ◌+◌, ◌-◌, ◌*◌, ◌≤◌, ◌++◌, length, vec_len, vec_capacity, ap, sym, ◌∙◌, arith, append_assoc}
use Rattle.action_eval.specs.Answers.{rounds}
use Rattle.action_eval.proofs.PassedHits.{rounds_more}
use Rattle.action_eval.proofs.quiet.push_rounds.Goals as goal

pub push_round-requires : goal.push_round-requires
push_round-requires c =
    let k = length c.args.points.now in
    let m = c.args.times - (c.loop.counter + 1) in
    let one : c.args.times - c.loop.counter ≡ m + 1 = omega arith in
    let more : (m + 1) * k ≡ k + m * k = grind arith in
    omega (arith, c.loop.invariant.room, ap (λ n. n * k) one, more)

pub loop-preserved : goal.loop-preserved
loop-preserved c =
    let k = length c.args.points.now in
    let m = c.args.times - (c.loop.counter + 1) in
    let one : c.args.times - c.loop.counter ≡ m + 1 = omega arith in
    let more : (m + 1) * k ≡ k + m * k = grind arith in
    let before : vec_len c.loop.longer + (k + m * k) ≤ vec_capacity c.loop.longer = omega (arith, c.loop.invariant.room, ap (λ n. n * k) one, more) in
    let len : vec_len c.push_round.new.hits ≡ vec_len c.loop.longer + k = c.push_round.ensures.len in
    record {
      items = c.push_round.ensures.items ∙ ap (λ l. l ++ c.args.points.now) c.loop.invariant.items ∙ append_assoc c.args.hits.now.items (rounds c.loop.counter c.args.points.now) c.args.points.now ∙ ap (λ l. c.args.hits.now.items ++ l) (sym (rounds_more c.loop.counter c.args.points.now));
      room = omega (arith, before, len, c.push_round.ensures.room);
    }
