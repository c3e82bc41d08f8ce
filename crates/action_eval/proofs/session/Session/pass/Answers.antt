use Rattle.std.proofs.Common.{◌≡◌, ◌+◌, ◌-◌, ◌≤◌, length, replicate, ap, refl, ◌∙◌, arith, length-append}
use Rattle.std.proofs.lemmas.List.{length-replicate}
use Rattle.action_eval.proofs.Steps.{known_by, open_of}
use Rattle.action_eval.proofs.Heads.{known_head}
use Rattle.action_eval.proofs.PassedHits.{many_after, within_by}
use Rattle.action_eval.proofs.MayAct.{may_act, none_more}
use Rattle.action_eval.specs.inside.Quiet.{head_at, quiet_of}
use Rattle.action_eval.proofs.session.Session.pass.Goals as goal

pub pass_hits-requires-clause-known : goal.pass_hits-requires-clause-known
pass_hits-requires-clause-known c =
    omega (arith, known_head _ _ _ _ _ _ _ _ c.self.invariant.0 c.self.view_is c.args.point c.requires.known _ c.self.invariant.1, ap length c.deref.ensures.value)

pub pass_hits-requires-clause-within : goal.pass_hits-requires-clause-within
pass_hits-requires-clause-within c =
    within_by _ _ _ _ _ _ _ _ c.self.invariant.0 _ c.self.invariant.1 c.self.view_is c.args.point c.requires.known _ c.deref.ensures.value

pub invariant_of-self-2 : goal.invariant_of-self-2
invariant_of-self-2 c =
    let room : c.in_ok-count.count ≤ c.self.inside.max_hits - length c.self.inside.hits.items = omega (arith, c.in_ok-count.ensures.count, open_of _ _ _ _ _ _ _ _ c.self.invariant.0 _ _ _ c.self.invariant.3 c.self.view_is c.requires.running) in
    let a = many_after _ _ _ _ _ _ _ _ c.self.invariant.0 c.self.view_is c.requires.running _ c.self.invariant.1 _ _ c.requires.known _ c.deref.ensures.value _ c.in_ok-count.ensures.left room _ c.in_ok-count.ensures.hits in
    (a.keeps, c.self.invariant.1, c.self.invariant.2, c.self.invariant.3)

pub returns-clause-told : goal.returns-clause-told
returns-clause-told c =
    let room : c.in_ok-count.count ≤ c.self.inside.max_hits - length c.self.inside.hits.items = omega (arith, c.in_ok-count.ensures.count, open_of _ _ _ _ _ _ _ _ c.self.invariant.0 _ _ _ c.self.invariant.3 c.self.view_is c.requires.running) in
    let a = many_after _ _ _ _ _ _ _ _ c.self.invariant.0 c.self.view_is c.requires.running _ c.self.invariant.1 _ _ c.requires.known _ c.deref.ensures.value _ c.in_ok-count.ensures.left room _ c.in_ok-count.ensures.hits in
    a.go

pub returns-clause-goes_on : goal.returns-clause-goes_on
returns-clause-goes_on c =
    let room : c.in_ok-count.count ≤ c.self.inside.max_hits - length c.self.inside.hits.items = omega (arith, c.in_ok-count.ensures.count, open_of _ _ _ _ _ _ _ _ c.self.invariant.0 _ _ _ c.self.invariant.3 c.self.view_is c.requires.running) in
    let a = many_after _ _ _ _ _ _ _ _ c.self.invariant.0 c.self.view_is c.requires.running _ c.self.invariant.1 _ _ c.requires.known _ c.deref.ensures.value _ c.in_ok-count.ensures.left room _ c.in_ok-count.ensures.hits in
    a.running

pub returns-clause-fewer : goal.returns-clause-fewer
returns-clause-fewer c = λ less below.
    let n = c.in_ok-count.count in
    let limit = open_of _ _ _ _ _ _ _ _ c.self.invariant.0 _ _ _ c.self.invariant.3 c.self.view_is c.requires.running in
    let room : n ≤ c.self.inside.max_hits - length c.self.inside.hits.items = omega (arith, c.in_ok-count.ensures.count, limit) in
    let a = many_after _ _ _ _ _ _ _ _ c.self.invariant.0 c.self.view_is c.requires.running _ c.self.invariant.1 _ _ c.requires.known _ c.deref.ensures.value _ c.in_ok-count.ensures.left room _ c.in_ok-count.ensures.hits in
    let len : length c.pass_hits.new.hits.items ≡ length c.self.inside.hits.items + n =
    ap length c.in_ok-count.ensures.hits ∙ length-append c.self.inside.hits.items (replicate n c.args.point) ∙ ap (λ m. length c.self.inside.hits.items + m) (length-replicate n c.args.point)
    in
    let all : n ≡ quiet_of c.self.inside.left.items (head_at c.deref.result.now c.args.point) = omega (arith, c.in_ok-count.ensures.count, c.min-most.ensures, c.saturating_sub-room.ensures, limit) in
    may_act _ _ _ _ _ _ _ _ a.keeps refl c.args.point (known_by _ _ _ c.self.view_is c.requires.known) (omega arith) _ c.self.invariant.1 _ c.deref.ensures.value
    (none_more c.deref.result.now c.args.point n c.self.inside.left.items c.pass_hits.new.left.items c.in_ok-count.ensures.left all (omega arith))
