use Rattle.std.proofs.Common.{rules, List, ap, ◌∙◌}
use Rattle.scenario_values.specs.Scenario.{Entries}
use Rattle.action_eval.specs.declared.rig.Rig.{Rig}
use Rattle.answered_runs.specs.Answered.{known_plans}
use Rattle.answered_runs.specs.asked.Lines.{lines_behind}
use Rattle.answered_runs.specs.grown.Asked.{undecided, unrun}
use Rattle.answered_runs.specs.grown.Further.{further_told}
use Rattle.answered_runs.proofs.GrownLemmas.Lines.{asked_of, asked_once, both_added}
use Rattle.answered_runs.proofs.grown.asking.asks.Goals as goal

pub returns-clause-lines : goal.returns-clause-lines
returns-clause-lines c =
    let a = c.args.known.now.answered in
    let depth = c.args.known.now.depth in
    both_added (unrun a (known_plans a depth)) (undecided a depth (further_told a c.args.settings.now)) _ _ _ c.new-lines.ensures
    (c.in_ok-add_all_grown.ensures ∙ ap (λ (plans : List (List Rig)). lines_behind c.new-lines.result (unrun a plans)) c.list.ensures.known.plans)
    (c.in_ok-add_all_further.ensures ∙ ap (λ (plans : List Entries). lines_behind c.add_all_grown.new.lines (undecided a depth plans)) c.in_ok-further.ensures.further)

pub returns-clause-once : goal.returns-clause-once
returns-clause-once c =
    let a = c.args.known.now.answered in
    let depth = c.args.known.now.depth in
    asked_once _ _ _ (unrun a c.args.known.now.list.plans) (undecided a depth (further_told a c.args.settings.now)) c.new-lines.ensures c.in_ok-add_all_grown.ensures
    (c.in_ok-add_all_further.ensures ∙ ap (λ (plans : List Entries). lines_behind c.add_all_grown.new.lines (undecided a depth plans)) c.in_ok-further.ensures.further)

pub returns-clause-asked : goal.returns-clause-asked
returns-clause-asked c = λ t is agrees.
    let a = c.args.known.now.answered in
    let known = c.list.ensures.known.known t is agrees in
    asked_of t a c.args.known.now.depth c.args.settings.now c.args.known.now.list.plans _ _ _ _ is c.list.ensures.low known.plans (c.in_ok-further.ensures.known t is agrees) c.new-lines.ensures c.in_ok-add_all_grown.ensures
    c.in_ok-add_all_further.ensures

pub returns-in_err-further-clause-many : goal.returns-in_err-further-clause-many
returns-in_err-further-clause-many c = λ is. c.in_err-further.ensures.many (search (is, rules))
