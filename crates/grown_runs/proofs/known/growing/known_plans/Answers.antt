use Rattle.std.proofs.Common.{rules, ◌∙◌, ap, map}
use Rattle.std.specs.Prelude.{option_map}
use Rattle.grown_plans.specs.GrownPlans.{kinds_at}
use Rattle.grown_plans.specs.Kept.{plan_of}
use Rattle.grown_runs.specs.known.ToldPart.{level_known}
use Rattle.grown_runs.proofs.KnownLemmas.Found.{found_before}
use Rattle.grown_runs.proofs.KnownLemmas.Kept.{grew_by, known_is, known_short, levels_many, whole_many}
use Rattle.grown_runs.proofs.known.growing.known_plans.Goals as goal

pub returns-clause-known : goal.returns-clause-known
returns-clause-known g c =
    let kinds = kinds_at c.args.kinds.now in
    let known = g.T.RunTable.known c.args.table.now in
    let d = c.args.depth in
    let l = c.in_ok-levels.levels in
    let are = c.in_ok-levels.ensures.levels in
    let goes = ap (map (plan_of l.plans)) c.as_slice-2.ensures.value ∙ c.in_ok-ends.ensures.plans in
    known_is kinds known d c.in_ok-list.list
    (grew_by kinds known d c.in_ok-ends.ends.beyond l c.as_slice-2.result.now c.in_ok-list.list are goes c.in_ok-ends.ensures.beyond (c.in_ok-list.ensures.list (level_known kinds known) d are))

pub returns-clause-grown : goal.returns-clause-grown
returns-clause-grown g c =
    let kinds = kinds_at c.args.kinds.now in
    let known = g.T.RunTable.known c.args.table.now in
    let d = c.args.depth in
    let l = c.in_ok-levels.levels in
    let are = c.in_ok-levels.ensures.levels in
    let goes = ap (map (plan_of l.plans)) c.as_slice-2.ensures.value ∙ c.in_ok-ends.ensures.plans in
    (grew_by kinds known d c.in_ok-ends.ends.beyond l c.as_slice-2.result.now c.in_ok-list.list are goes c.in_ok-ends.ensures.beyond (c.in_ok-list.ensures.list (level_known kinds known) d are)).plans

pub returns-clause-short : goal.returns-clause-short
returns-clause-short g c =
    let kinds = kinds_at c.args.kinds.now in
    let known = g.T.RunTable.known c.args.table.now in
    let d = c.args.depth in
    let l = c.in_ok-levels.levels in
    let are = c.in_ok-levels.ensures.levels in
    let goes = ap (map (plan_of l.plans)) c.as_slice-2.ensures.value ∙ c.in_ok-ends.ensures.plans in
    known_short kinds known d c.in_ok-list.list
    (grew_by kinds known d c.in_ok-ends.ends.beyond l c.as_slice-2.result.now c.in_ok-list.list are goes c.in_ok-ends.ensures.beyond (c.in_ok-list.ensures.list (level_known kinds known) d are))

pub returns-in_err-levels-clause-many : goal.returns-in_err-levels-clause-many
returns-in_err-levels-clause-many g c = λ is.
    levels_many (kinds_at c.args.kinds.now) (g.T.RunTable.known c.args.table.now) c.args.depth c.args.most (c.in_err-levels.ensures.many (search (is, rules)))

pub returns-in_err-list-clause-many : goal.returns-in_err-list-clause-many
returns-in_err-list-clause-many g c = λ is.
    let l = c.in_ok-levels.levels in
    whole_many (kinds_at c.args.kinds.now) (g.T.RunTable.known c.args.table.now) c.args.depth c.args.most l c.as_slice-2.result.now c.in_ok-levels.ensures.levels
    (ap (map (plan_of l.plans)) c.as_slice-2.ensures.value ∙ c.in_ok-ends.ensures.plans) (c.in_err-list.ensures.many (search (is, rules)))

pub find_rest-requires-clause-found : goal.find_rest-requires-clause-found
find_rest-requires-clause-found g c =
    found_before (option_map (λ r. g.T.RunTable.tells r.now)) (g.T.RunTable.known c.args.table.now) c.in_ok-levels.runs.items c.in_ok-levels.levels.plans _ c.in_ok-list.list.plans
    c.in_ok-levels.ensures.found c.in_ok-list.ensures.plans

pub find_rest-requires-clause-kept : goal.find_rest-requires-clause-kept
find_rest-requires-clause-kept g c =
    found_before (option_map (λ r. r.now)) (g.T.RunTable.keeps c.args.table.now) c.in_ok-levels.runs.items c.in_ok-levels.levels.plans _ c.in_ok-list.list.plans
    c.in_ok-levels.ensures.kept c.in_ok-list.ensures.plans
