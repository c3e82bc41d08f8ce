use Rattle.std.proofs.Common.{ap, ◌∙◌, arith, subst, Option, Some, IfSome}
use Rattle.std.proofs.lemmas.List.{length-map}
use Rattle.action_eval.specs.Answers.{reply_to}
use Rattle.action_eval.specs.declared.found.Span.{Span}
use Rattle.action_eval.specs.inside.Layout.{faults_of}
use Rattle.action_eval.specs.inside.Session.{seen_in, IsSpan}
use Rattle.action_eval.proofs.Spans.{seen_at, spans_at}
use Rattle.action_eval.proofs.Steps.{point_none, point_some, known_found, rest_by_point, span_by, finds_none, keeps_idle, reply_found, room_of}
use Rattle.action_eval.proofs.CallerLemmas.{told_within, goes_by}
use Rattle.action_eval.proofs.session.Session.hit_terms.Goals as goal

pub index-requires : goal.index-requires
index-requires c = omega (arith, known_found _ _ _ _ _ _ _ _ c.self.invariant.0 c.self.view_is c.args.point c.requires.known, length-map c.self.inside.spans.items (seen_in (faults_of c.self.inside.faults)))

-- ---- a point without a chain

pub invariant_of-self-in_default : goal.invariant_of-self-in_default
invariant_of-self-in_default c =
    let k = c.self.invariant.0 in
    let s = faults_of c.self.inside.faults in
    let at = point_none _ _ _ _ _ _ _ _ k c.self.view_is c.args.point c.requires.known (seen_in s c.index.result.now) (seen_in s c.index.result.now) (seen_at s c.self.inside.spans.items c.args.point c.index.result.now c.index.result.now c.index.ensures) (ap (seen_in s) c.in_default.is) in
    (keeps_idle _ c.args.point _ _ _ _ _ _ k (room_of _ _ c.self.view_is c.requires.room) at _ c.in_ok-push.ensures.items, c.self.invariant.1, c.self.invariant.2, c.self.invariant.3)

pub returns-in_default-clause-answer : goal.returns-in_default-clause-answer
returns-in_default-clause-answer c =
    let k = c.self.invariant.0 in
    let s = faults_of c.self.inside.faults in
    let at = point_none _ _ _ _ _ _ _ _ k c.self.view_is c.args.point c.requires.known (seen_in s c.index.result.now) (seen_in s c.index.result.now) (seen_at s c.self.inside.spans.items c.args.point c.index.result.now c.index.result.now c.index.ensures) (ap (seen_in s) c.in_default.is) in
    reply_found _ c.args.point _ _ _ (finds_none _ c.args.point _ _ _ _ _ _ k at) (room_of _ _ c.self.view_is c.requires.room) ∙ ap (λ r. reply_to r c.args.point) c.self.view_is

pub returns-in_default-clause-told : goal.returns-in_default-clause-told
returns-in_default-clause-told c = told_within _ _ c.args.point _ _ c.self.view_is c.requires.room c.in_ok-push.ensures.items (returns-in_default-clause-answer c)

pub returns-in_default-clause-goes_on : goal.returns-in_default-clause-goes_on
returns-in_default-clause-goes_on c = λ running. goes_by _ _ c.args.point _ _ c.self.view_is running c.in_ok-push.ensures.items (returns-in_default-clause-answer c)

-- ---- a point with one

pub hit_chain-requires-clause-chain : goal.hit_chain-requires-clause-chain
hit_chain-requires-clause-chain c =
    let k = c.self.invariant.0 in
    let s = faults_of c.self.inside.faults in
    let had = point_some _ _ _ _ _ _ _ _ k c.self.view_is c.args.point c.requires.known (seen_in s c.index.result.now) (seen_in s c.index.result.now) (seen_at s c.self.inside.spans.items c.args.point c.index.result.now c.index.result.now c.index.ensures) _ (ap (seen_in s) c.in-Some.is) in
    rest_by_point _ _ _ _ _ _ _ _ k c.self.view_is c.args.point (Some c.in-Some.span) had

pub hit_chain-requires-clause-span : goal.hit_chain-requires-clause-span
hit_chain-requires-clause-span c =
    let k = c.self.invariant.0 in
    let s = faults_of c.self.inside.faults in
    let within = known_found _ _ _ _ _ _ _ _ k c.self.view_is c.args.point c.requires.known in
    let is = spans_at s c.self.inside.spans.items c.args.point _ _ (omega (arith, within, length-map c.self.inside.spans.items (seen_in s))) c.self.invariant.2 c.index.ensures in
    span_by _ _ c.in-Some.span c.self.view_is (subst (λ (o : Option Span). IfSome o (λ q. IsSpan s q)) c.in-Some.is is)
