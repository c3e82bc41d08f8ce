use Rattle.std.proofs.Common.{◌∙◌, [], ap, arith, get_or, length, max}
use Rattle.answered_runs.proofs.GrownLemmas.Counts.{each_count}
use Rattle.answered_runs.proofs.GrownLemmas.Most.{counted}
use Rattle.answered_runs.specs.Answered.{runs_in}
use Rattle.answered_runs.proofs.grown.reaching.raise_by.Goals as goal

pub raise-requires : goal.raise-requires
raise-requires c =
    let same = ap length (c.as_slice-2.ensures.value ∙ c.in_ok-counts.ensures) in
    let many = each_count c.len.result c.as_slice.result.now in
    omega (arith, same, many, c.len.ensures)

pub returns-clause-most : goal.returns-clause-most
returns-clause-most c = λ p lt.
    let seen = rw c.in-Seen.is at c.in_ok-look.ensures.told in
    c.raise.ensures.most p lt
    ∙ ap (max (get_or c.args.most.now.items p 0))
    (counted (runs_in c.args.known.now.answered) (get_or c.args.known.now.list.plans c.args.number []) _ c.look.new.hits.items c.as_slice.result.now _ c.as_slice-2.result.now c.len.result p seen c.as_slice.ensures.value c.in_ok-counts.ensures c.as_slice-2.ensures.value
    (omega (arith, lt, c.len.ensures)))
