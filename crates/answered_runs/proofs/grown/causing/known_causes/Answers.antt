use Rattle.std.proofs.Common.{◌≡◌, ◌∙◌, [], length, sym, arith}
use Rattle.answered_runs.specs.grown.Causes.{open_scenarios, verdicts_in}
use Rattle.answered_runs.proofs.GrownLemmas.Caused.{causes_listed, causes_true, none_open}
use Rattle.answered_runs.proofs.grown.causing.known_causes.Goals as goal

pub returns-then-is_empty-clause-among : goal.returns-then-is_empty-clause-among
returns-then-is_empty-clause-among c =
    let known = c.args.known.now in
    causes_listed (verdicts_in known.answered known.depth) known.list.plans c.in_ok-causes.field-0.causes.items c.in_ok-causes.ensures.causes

pub returns-then-is_empty-clause-whole : goal.returns-then-is_empty-clause-whole
returns-then-is_empty-clause-whole c = λ t is agrees.
    let a = c.args.known.now.answered in
    let depth = c.args.known.now.depth in
    let plans = c.args.known.now.list.plans in
    let found = c.in_ok-causes.field-0 in
    let many : found.waiting.len ≡ length found.waiting.items = omega (arith, found.waiting.ok.0) in
    let none : open_scenarios a depth plans ≡ [] = none_open a depth plans found.waiting.items found.waiting.len (sym c.is_empty.ensures ∙ c.if-is_empty.true) many c.in_ok-causes.ensures.waiting in
    causes_true t a depth plans found.causes.items is c.list.ensures.low agrees c.list.ensures.known.rigs none c.in_ok-causes.ensures.causes
