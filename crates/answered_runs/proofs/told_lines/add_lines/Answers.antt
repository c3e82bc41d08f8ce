use Rattle.std.proofs.Common.{rules, ◌<◌, ◌^◌, List, ℕ, length, subst, sym, arith}
use Rattle.answer_text.proofs.Lines.{shorter}
use Rattle.answered_runs.specs.Answered.{Answered}
use Rattle.answered_runs.specs.inside.Played.{IsLineAdded}
use Rattle.answered_runs.proofs.LineReading.{low_number}
use Rattle.answered_runs.proofs.PlayedRuns.{Lines, all_lines, first_line, line_more}
use Rattle.answered_runs.proofs.told_lines.add_lines.Goals as goal

pub loop-text-init : goal.loop-text-init
loop-text-init c =
    let a : Answered = c.args.runs.now in
    let lines = c.lines-lines.result in
    let short : length lines.text.now < 2 ^ 63 = search rules in
    subst (λ (points : List (List ℕ)). Lines lines.codes.now points a c.args.played.now lines.text.now 1) (sym c.in_ok-points.ensures)
    (first_line lines.codes.now lines.points.now lines.text.now a c.args.played.now c.lines-lines.ensures.of short c.requires.state c.requires.marked)

pub loop-text-smaller : goal.loop-text-smaller
loop-text-smaller c = shorter c.loop-text.rest.now c.in-Some.text.now c.in-Some.after.now (sym c.in-Some.ensures)

pub overflow_add-number : goal.overflow_add-number
overflow_add-number c =
    let l = c.loop-text.invariant in
    let low = low_number _ _ l.text l.short c.loop-text.rest.now c.in-Some.text.now c.in-Some.after.now c.loop-text.number (sym c.in-Some.ensures) l.at in
    omega (arith, low)

pub add_line-requires-clause-state : goal.add_line-requires-clause-state
add_line-requires-clause-state c = c.loop-text.invariant.state

pub add_line-requires-clause-marked : goal.add_line-requires-clause-marked
add_line-requires-clause-marked c = c.loop-text.invariant.marked

pub loop-text-preserved : goal.loop-text-preserved
loop-text-preserved c =
    let l = c.loop-text.invariant in
    line_more _ _ c.args.runs.now c.loop-text.played c.add_line.new.played c.loop-text.rest.now c.in-Some.text.now c.in-Some.after.now c.loop-text.number (sym c.in-Some.ensures) l
    (subst (IsLineAdded _ _ c.args.runs.now c.loop-text.played c.add_line.new.played c.in-Some.text.now c.loop-text.number) c.in_default-2.is c.in_ok-broken.ensures)

pub returns : goal.returns
returns c = all_lines _ _ c.args.runs.now c.loop-text.played c.loop-text.rest.now c.loop-text.number (sym c.in_default.ensures) c.loop-text.invariant
