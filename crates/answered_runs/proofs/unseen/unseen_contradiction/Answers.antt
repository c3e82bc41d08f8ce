use Rattle.std.proofs.Common.{List, ℕ, rules, refl, ◌≡◌, ◌<◌, ◌≤◌, ◌-◌, ◌∙◌, Some, length, ap, sym, subst, arith}
use Rattle.scenario_values.specs.Scenario.{Entries}
use Rattle.action_eval.specs.Answers.{Go, Run, given_of, reply_of_answer, start}
use Rattle.answered_runs.specs.Answered.{Answered}
use Rattle.answered_runs.specs.inside.Trees.{way}
use Rattle.answered_runs.proofs.Places.{below}
use Rattle.answered_runs.proofs.WithoutHits.{Following, ended, follows, follows_on, nobody, paused, point_known, still_runs}
use Rattle.answered_runs.proofs.unseen.unseen_contradiction.Goals as goal

pub loop-session-init : goal.loop-session-init
loop-session-init c =
    let a : Answered = c.args.runs.now in
    let s : Entries = c.args.run.now.scenario in
    let now : c.in_ok-session.session ≡ start (given_of s a.points 0 0 4294967295) =
    c.in_ok-session.ensures ∙ ap (λ (points : List (List ℕ)). start (given_of s points 0 0 4294967295)) c.points-points.ensures.names
    in
    subst (Following a c.args.tree.now s 0 Go) (sym now) (follows a c.args.tree.now s c.requires.sound c.requires.kept)

pub said-said-requires : goal.said-said-requires
said-said-requires c =
    let found : way c.args.tree.now c.loop-session.place (reply_of_answer c.loop-session.answer) ≡ Some c.in-Some.next = sym c.in_ok-next.ensures ∙ c.in-Some.is in
    ((c.requires.sound.ways c.loop-session.place (reply_of_answer c.loop-session.answer) c.in-Some.next found).within)

pub ask_on-requires-clause-known : goal.ask_on-requires-clause-known
ask_on-requires-clause-known c =
    let a : Answered = c.args.runs.now in
    let found : way c.args.tree.now c.loop-session.place (reply_of_answer c.loop-session.answer) ≡ Some c.in-Some.next = sym c.in_ok-next.ensures ∙ c.in-Some.is in
    let given : length c.loop-session.session.given.catalogue ≡ length a.points = ap (λ (r : Run). length r.given.catalogue) c.loop-session.invariant.now_is in
    let less = point_known a c.args.tree.now c.args.run.now.scenario c.requires.sound c.requires.kept c.loop-session.place (reply_of_answer c.loop-session.answer) c.loop-session.session c.loop-session.invariant c.in-Some.next
    c.said-said.result found c.said-said.ensures c.requires.known c.in-Hit.point c.in-Hit.is
    in
    omega (arith, given, less)

pub ask_on-requires-clause-running : goal.ask_on-requires-clause-running
ask_on-requires-clause-running c =
    still_runs c.args.runs.now c.args.tree.now c.args.run.now.scenario c.requires.sound c.requires.kept c.loop-session.place (reply_of_answer c.loop-session.answer) c.loop-session.session c.loop-session.invariant

pub returns-in-End : goal.returns-in-End
returns-in-End c =
    let found : way c.args.tree.now c.loop-session.place (reply_of_answer c.loop-session.answer) ≡ Some c.in-Some.next = sym c.in_ok-next.ensures ∙ c.in-Some.is in
    ended c.args.runs.now c.args.tree.now c.args.run.now.scenario c.requires.sound c.requires.kept c.loop-session.place (reply_of_answer c.loop-session.answer) c.loop-session.session c.loop-session.invariant c.in-Some.next
    c.said-said.result found c.said-said.ensures c.args.run.now refl c.requires.unseen c.in-End.verdict c.in-End.is c.resolved_at.result c.resolved_at.ensures

pub returns-then-is_cut_short : goal.returns-then-is_cut_short
returns-then-is_cut_short c =
    let found : way c.args.tree.now c.loop-session.place (reply_of_answer c.loop-session.answer) ≡ Some c.in-Some.next = sym c.in_ok-next.ensures ∙ c.in-Some.is in
    let low : c.in-Some.next ≤ 4294967295 = search (rules, arith) in
    paused c.args.runs.now c.args.tree.now c.args.run.now.scenario c.requires.sound c.requires.kept c.loop-session.place (reply_of_answer c.loop-session.answer) c.loop-session.session c.loop-session.invariant c.in-Some.next
    c.said-said.result found c.said-said.ensures c.in-Hit.point c.in-Hit.is c.ask_on.new.self (reply_of_answer c.in_ok-answer.answer) c.in_ok-answer.ensures.ok c.in_ok-answer.ensures.told low
    (sym c.is_cut_short.ensures ∙ c.if-is_cut_short.true) c.args.run.now.verdict

pub loop-session-smaller : goal.loop-session-smaller
loop-session-smaller c =
    let found : way c.args.tree.now c.loop-session.place (reply_of_answer c.loop-session.answer) ≡ Some c.in-Some.next = sym c.in_ok-next.ensures ∙ c.in-Some.is in
    let step = c.requires.sound.ways c.loop-session.place (reply_of_answer c.loop-session.answer) c.in-Some.next found in
    let later = step.later in
    let within = step.within in
    let less : length c.args.tree.now.said - c.in-Some.next < length c.args.tree.now.said - c.loop-session.place = omega (arith, later, within) in
    less

pub loop-session-preserved : goal.loop-session-preserved
loop-session-preserved c =
    let found : way c.args.tree.now c.loop-session.place (reply_of_answer c.loop-session.answer) ≡ Some c.in-Some.next = sym c.in_ok-next.ensures ∙ c.in-Some.is in
    let low : c.in-Some.next ≤ 4294967295 = search (rules, arith) in
    follows_on c.args.runs.now c.args.tree.now c.args.run.now.scenario c.requires.sound c.requires.kept c.loop-session.place (reply_of_answer c.loop-session.answer) c.loop-session.session c.loop-session.invariant c.in-Some.next
    c.said-said.result found c.said-said.ensures c.in-Hit.point c.in-Hit.is c.ask_on.new.self (reply_of_answer c.in_ok-answer.answer) c.in_ok-answer.ensures.ok c.in_ok-answer.ensures.told low
    (sym c.is_cut_short.ensures ∙ c.if-is_cut_short.false)

pub returns : goal.returns
returns c =
    nobody c.args.runs.now c.args.tree.now c.args.run.now.scenario c.requires.sound c.requires.kept c.loop-session.place (reply_of_answer c.loop-session.answer) c.loop-session.session c.loop-session.invariant
    (sym c.in_ok-next.ensures ∙ c.in_default.is) c.args.run.now.verdict

pub find-requires : goal.find-requires
find-requires c =
    let s = c.requires.sound in
    let p = c.loop-session.invariant in
    below c.args.runs.now c.args.tree.now s 0 p.before c.loop-session.place s.some p.reached
