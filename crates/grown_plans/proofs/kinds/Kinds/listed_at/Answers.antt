use Rattle.std.proofs.Common.{◌<◌, ◌≤◌, length, ap, sym, ◌∙◌, arith}
use Rattle.std.proofs.lemmas.Bool.Decides.{nat_tests}
use Rattle.grown_plans.specs.GrownPlans.{Tried, listed_at}
use Rattle.grown_plans.proofs.ListedKinds.{listed_there, listed_past}
use Rattle.grown_plans.proofs.kinds.Kinds.listed_at.Goals as goal

pub returns-in-Some-clause-kinds : goal.returns-in-Some-clause-kinds
returns-in-Some-clause-kinds c =
    let lists = c.self.inside.listed.now in
    let test = c.in-Some.ensures.lookup.0 in
    let within : c.args.point < length lists = grind (arith, nat_tests, test) in
    c.as_slice.ensures.value ∙ ap (λ kinds. kinds.items) c.in-Some.ensures.lookup.1
    ∙ sym (listed_there (λ kinds. kinds.items) lists c.args.point c.in-Some.kinds.now within)
    ∙ ap (λ (t : Tried). listed_at t.listed c.args.point) c.self.view_is

pub returns-in-None-clause-kinds : goal.returns-in-None-clause-kinds
returns-in-None-clause-kinds c =
    let lists = c.self.inside.listed.now in
    let test = c.in-None.ensures.lookup.0 in
    let past : length lists ≤ c.args.point = grind (arith, nat_tests, test) in
    sym (listed_past (λ kinds. kinds.items) lists c.args.point past) ∙ ap (λ (t : Tried). listed_at t.listed c.args.point) c.self.view_is
